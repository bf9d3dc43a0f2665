-- Whatever tree has the tokens of a derivation's text is read as that derivation.
use Rattle.std.proofs.Common.{◌≡◌, ℕ, Bool, true, false, List, [], ◌∷◌, ◌++◌, map, take, drop, Ok, refl, sym, ap, subst, ◌∙◌, append_assoc}
use Rattle.std.specs.List.{AllByRecursion}
use Rattle.sc_text.specs.declared.token.Kind.{Kind}
use Rattle.sc_text.specs.declared.token.Kind.TheVariants as kind
use Rattle.sc_text.specs.declared.front.Front.{Front}
use Rattle.sc_text.specs.declared.front.Front.TheVariants.{Nothing, Token as Found}
use Rattle.sc_text.specs.Place.{Place}
use Rattle.sc_text.specs.Fronts.{front, after_gap}
use Rattle.sc_text.specs.Answers.{token_start, token_line}
use Rattle.sc_text.specs.Readings.{Lexeme, Left, Right, named, Token, first_of, first, taken, rest_of, Reads, Whole}
use Rattle.sc_text.proofs.Readings.{one}
use Rattle.sc_sexpr.specs.Shapes.{Shape, Single, Listed, Shapes, Empty, More, shape}
use Rattle.sc_sexpr.specs.Trees.{Mark, Opens, Closes, Word, mark, marks_of, marks_within, behind_token, Tokens, place_of}
use Rattle.sc_facts.specs.declared.name.FactName.{FactName}
use Rattle.sc_facts.specs.declared.name.FactName.TheVariants as names
use Rattle.sc_deriv.specs.declared.derivation.Node.{Node}
use Rattle.sc_deriv.specs.declared.derivation.Derivation.{Derivation}
use Rattle.sc_deriv.specs.Spelling.{IsSpelt}
use Rattle.sc_deriv_text.specs.Sexpr.{Sexpr, Atom, Nil, Cons, list_of, plain, plains, tokens, tokens_of}
use Rattle.sc_deriv_text.specs.Spelling.{name_expr, Part, part_expr, node_part, node_exprs, derivation_expr, Fits}
use Rattle.sc_deriv_text.specs.Reading.{derivation_in, reading}
use Rattle.sc_deriv_text.specs.Laws.{TextsReadBack, TokensReadBack}
use Rattle.sc_deriv_text.specs.Text.{text_of}
use Rattle.sc_deriv_text.proofs.Again.{reads_again}
use Rattle.sc_deriv_text.proofs.TextTokens.{texts_have_tokens}

-- ---- the tokens of a text as those of a tree

abbrev lexeme_of : Mark → Lexeme
lexeme_of (Opens line) = Left
lexeme_of Closes = Right
lexeme_of (Word k text start line) = named k text

-- no parenthesis is a word
abbrev IsPlain : Mark → Type 0
IsPlain (Word kind.Left text start line) = ⊥
IsPlain (Word kind.Right text start line) = ⊥
IsPlain m = Unit {0}

mark_lexeme : (k : Kind) (text : List ℕ) (start line : ℕ) → lexeme_of (mark k text start line) ≡ named k text
mark_lexeme kind.Left text start line = refl
mark_lexeme kind.Right text start line = refl
mark_lexeme kind.Numeral text start line = refl
mark_lexeme kind.Foreign text start line = refl
mark_lexeme kind.Literal text start line = refl
mark_lexeme kind.Word text start line = refl
mark_lexeme kind.Quoted text start line = refl
mark_lexeme kind.Keyword text start line = refl

mark_plain : (k : Kind) (text : List ℕ) (start line : ℕ) → IsPlain (mark k text start line)
mark_plain kind.Left text start line = tt
mark_plain kind.Right text start line = tt
mark_plain kind.Numeral text start line = tt
mark_plain kind.Foreign text start line = tt
mark_plain kind.Literal text start line = tt
mark_plain kind.Word text start line = tt
mark_plain kind.Quoted text start line = tt
mark_plain kind.Keyword text start line = tt

first_by : (left : List ℕ) (f : Front) → front true left ≡ f → first true left ≡ first_of f (after_gap left)
unfolding first
first_by left f e = ap (λ (g : Front). first_of g (after_gap left)) e

rest_by : (left : List ℕ) (k : Kind) (n : ℕ) → front true left ≡ Found k n → rest_of true left ≡ drop n (after_gap left)
unfolding rest_of
rest_by left k n e = ap (λ (g : Front). drop (taken g) (after_gap left)) e

tokens_read : (left : List ℕ) (start line : ℕ) (ms : List Mark) → Tokens (record { left = left; start = start; line = line; last = true }) ms → Reads true left (map lexeme_of ms) Whole × AllByRecursion IsPlain ms
tokens_read left start line [] e = (first_by left Nothing e, tt)
tokens_read left start line (m ∷ ms) (k, n, f, is, others) =
    let place : Place = record { left = left; start = start; line = line; last = true } in
    let behind = behind_token place n in
    let inner = tokens_read behind.left behind.start behind.line ms others in
    let same : Token (named k (take n (after_gap left))) ≡ Token (lexeme_of m) = ap (λ l. Token l) (sym (ap lexeme_of is ∙ mark_lexeme k (take n (after_gap left)) (token_start place) (token_line place))) in (
      (first_by left (Found k n) f ∙ same, subst (λ (x : List ℕ). Reads true x (map lexeme_of ms) Whole) (sym (rest_by left k n f)) inner.0),
      (subst IsPlain (sym is) (mark_plain k (take n (after_gap left)) (token_start place) (token_line place)), inner.1),
    )

map_both : (ms ns : List Mark) → map lexeme_of (ms ++ ns) ≡ map lexeme_of ms ++ map lexeme_of ns
map_both [] ns = refl
map_both (m ∷ ms) ns = ap (λ (t : List Lexeme). lexeme_of m ∷ t) (map_both ms ns)

opened : (rest : Shapes) → Left ∷ tokens true (plains rest) ≡ tokens false (plains rest)
opened Empty = refl
opened (More s rest) = refl

mutual
  shape_tokens : (s : Shape) → map lexeme_of (marks_of s) ≡ tokens false (plain s)
  shape_tokens (Single k text start line) = refl
  shape_tokens (Listed line rest) = ap (λ (t : List Lexeme). Left ∷ t) (map_both (marks_within rest) (Closes ∷ []) ∙ within_tokens rest) ∙ opened rest

  within_tokens : (rest : Shapes) → map lexeme_of (marks_within rest) ++ Right ∷ [] ≡ tokens true (plains rest)
  within_tokens Empty = refl
  within_tokens (More s rest) =
      ap (λ (t : List Lexeme). t ++ Right ∷ []) (map_both (marks_of s) (marks_within rest))
      ∙ append_assoc (map lexeme_of (marks_of s)) (map lexeme_of (marks_within rest)) (Right ∷ [])
      ∙ ap (λ (t : List Lexeme). t ++ (map lexeme_of (marks_within rest) ++ Right ∷ [])) (shape_tokens s)
      ∙ ap (λ (t : List Lexeme). tokens false (plain s) ++ t) (within_tokens rest)

-- ---- tokens that are no parentheses

abbrev pub IsProper : Bool → Sexpr → Type 0
IsProper false (Atom Left) = ⊥
IsProper false (Atom Right) = ⊥
IsProper false (Atom l) = Unit {0}
IsProper true (Atom l) = ⊥
IsProper inside Nil = Unit {0}
IsProper inside (Cons t ts) = IsProper false t × IsProper true ts

abbrev Plain : List Mark → Type 0
Plain ms = AllByRecursion IsPlain ms

split : (ms ns : List Mark) → Plain (ms ++ ns) → Plain ms × Plain ns
split [] ns p = (tt, p)
split (m ∷ ms) ns p = let s = split ms ns p.1 in ((p.0, s.0), s.1)

outside : (rest : Shapes) → IsProper true (plains rest) → IsProper false (plains rest)
outside Empty p = tt
outside (More s rest) p = p

mutual
  shape_proper : (s : Shape) → Plain (marks_of s) → IsProper false (plain s)
  shape_proper (Single kind.Left text start line) p = p.0
  shape_proper (Single kind.Right text start line) p = p.0
  shape_proper (Single kind.Numeral text start line) p = tt
  shape_proper (Single kind.Foreign text start line) p = tt
  shape_proper (Single kind.Literal text start line) p = tt
  shape_proper (Single kind.Word text start line) p = tt
  shape_proper (Single kind.Quoted text start line) p = tt
  shape_proper (Single kind.Keyword text start line) p = tt
  shape_proper (Listed line rest) p = outside rest (within_proper rest (split (marks_within rest) (Closes ∷ []) p.1).0)

  within_proper : (rest : Shapes) → Plain (marks_within rest) → IsProper true (plains rest)
  within_proper Empty p = tt
  within_proper (More s rest) p = let both = split (marks_of s) (marks_within rest) p in (shape_proper s both.0, within_proper rest both.1)

name_proper : (n : FactName) → IsProper false (name_expr n)
name_proper (names.Sign f) = (tt, (tt, tt))
name_proper (names.Member e s) = (tt, (tt, (tt, tt)))
name_proper (names.Eq e f) = (tt, (tt, (tt, tt)))
name_proper (names.EqSet s t) = (tt, (tt, (tt, tt)))
name_proper (names.Empty cube) = (tt, (tt, (tt, tt)))

part_proper : (p : Part) → IsProper false (part_expr p)
part_proper (Part.One h a) = (tt, (tt, tt))
part_proper (Part.Two h a b) = (tt, (tt, (tt, tt)))
part_proper (Part.Three h a b c) = (tt, (tt, (tt, (tt, tt))))
part_proper (Part.Cut n) = (tt, (name_proper n, tt))
part_proper (Part.Clash n) = (tt, (name_proper n, tt))

nodes_proper : (ns : List Node) → IsProper true (list_of (node_exprs ns))
nodes_proper [] = tt
nodes_proper (n ∷ ns) = (part_proper (node_part n), nodes_proper ns)

pub derivation_proper : (d : Derivation) → IsProper false (derivation_expr d)
derivation_proper d = (tt, ((tt, nodes_proper d.nodes), tt))

-- ---- the tokens tell the expression

tail : {l k : Lexeme} {xs ys : List Lexeme} → l ∷ xs ≡ k ∷ ys → xs ≡ ys
tail e = cc

head : {l k : Lexeme} {xs ys : List Lexeme} → l ∷ xs ≡ k ∷ ys → l ≡ k
head e = cc

not_left : (l : Lexeme) → IsProper false (Atom l) → l ≡ Left → ⊥
not_left l p e = subst (λ (k : Lexeme). IsProper false (Atom k)) e p

not_right : (l : Lexeme) → IsProper false (Atom l) → l ≡ Right → ⊥
not_right l p e = subst (λ (k : Lexeme). IsProper false (Atom k)) e p

apart : Left ≡ Right → ⊥
apart e = cc

-- an expression does not begin by closing a list
no_close : (t : Sexpr) (xs ys : List Lexeme) → IsProper false t → tokens false t ++ xs ≡ Right ∷ ys → ⊥
no_close (Atom l) xs ys p e = not_right l p (head e)
no_close Nil xs ys p e = apart (head e)
no_close (Cons t ts) xs ys p e = apart (head e)

-- the tokens at the front are those of one expression
pub same : (m : Bool) (a b : Sexpr) (xs ys : List Lexeme) → IsProper m a → IsProper m b → tokens m a ++ xs ≡ tokens m b ++ ys → (a ≡ b) × (xs ≡ ys)
same false (Atom l) (Atom k) xs ys p q e = (ap (λ (x : Lexeme). Atom x) (head e), tail e)
same false (Atom l) Nil xs ys p q e = absurd (not_left l p (head e))
same false (Atom l) (Cons t ts) xs ys p q e = absurd (not_left l p (head e))
same false Nil (Atom k) xs ys p q e = absurd (not_left k q (sym (head e)))
same false Nil Nil xs ys p q e = (refl, tail (tail e))
same false Nil (Cons t ts) xs ys p q e = absurd (no_close t (tokens true ts ++ ys) xs q.0 (sym (append_assoc (tokens false t) (tokens true ts) ys) ∙ sym (tail e)))
same false (Cons t ts) (Atom k) xs ys p q e = absurd (not_left k q (sym (head e)))
same false (Cons t ts) Nil xs ys p q e = absurd (no_close t (tokens true ts ++ xs) ys p.0 (sym (append_assoc (tokens false t) (tokens true ts) xs) ∙ tail e))
same false (Cons t ts) (Cons u us) xs ys p q e =
    let flat : tokens false t ++ (tokens true ts ++ xs) ≡ tokens false u ++ (tokens true us ++ ys) = sym (append_assoc (tokens false t) (tokens true ts) xs) ∙ tail e ∙ append_assoc (tokens false u) (tokens true us) ys in
    let r = same false t u (tokens true ts ++ xs) (tokens true us ++ ys) p.0 q.0 flat in
    let s = same true ts us xs ys p.1 q.1 r.1 in
    (ap (λ (v : Sexpr). Cons v ts) r.0 ∙ ap (λ (v : Sexpr). Cons u v) s.0, s.1)
same true (Atom l) b xs ys p q e = absurd p
same true Nil (Atom k) xs ys p q e = absurd q
same true Nil Nil xs ys p q e = (refl, tail e)
same true Nil (Cons t ts) xs ys p q e = absurd (no_close t (tokens true ts ++ ys) xs q.0 (sym (append_assoc (tokens false t) (tokens true ts) ys) ∙ sym e))
same true (Cons t ts) (Atom k) xs ys p q e = absurd q
same true (Cons t ts) Nil xs ys p q e = absurd (no_close t (tokens true ts ++ xs) ys p.0 (sym (append_assoc (tokens false t) (tokens true ts) xs) ∙ e))
same true (Cons t ts) (Cons u us) xs ys p q e =
    let flat : tokens false t ++ (tokens true ts ++ xs) ≡ tokens false u ++ (tokens true us ++ ys) = sym (append_assoc (tokens false t) (tokens true ts) xs) ∙ e ∙ append_assoc (tokens false u) (tokens true us) ys in
    let r = same false t u (tokens true ts ++ xs) (tokens true us ++ ys) p.0 q.0 flat in
    let s = same true ts us xs ys p.1 q.1 r.1 in
    (ap (λ (v : Sexpr). Cons v ts) r.0 ∙ ap (λ (v : Sexpr). Cons u v) s.0, s.1)

same_expr : (a b : Sexpr) → IsProper false a → IsProper false b → tokens_of a ≡ tokens_of b → a ≡ b
same_expr a b p q e = (same false a b [] [] p q (ap (λ (t : List Lexeme). t ++ []) e)).0

-- the tokens of some bytes that are those of a tree
pub told_reads : (text : List ℕ) (line : ℕ) (t : Shape) → Tokens (place_of text line) (marks_of t) → Reads true text (tokens_of (plain t)) Whole × IsProper false (plain t)
told_reads text line t ts =
    let found = tokens_read text 0 line (marks_of t) ts in
    (subst (λ ls. Reads true text ls Whole) (shape_tokens t) found.0, shape_proper t found.1)

pub shapes_read_back : (d : Derivation) → IsSpelt d → Fits d → (text : List ℕ) (line : ℕ) (t : Shape) → Reads true text (tokens_of (derivation_expr d)) Whole → Tokens (place_of text line) (marks_of t) → reading t ≡ Ok d
shapes_read_back d s p text line t reads ts =
    let found = told_reads text line t ts in
    let told = (one true text (tokens_of (plain t)) (tokens_of (derivation_expr d)) Whole Whole found.0 reads).0 in
    let is : plain t ≡ derivation_expr d = same_expr (plain t) (derivation_expr d) found.1 (derivation_proper d) told in
    ap derivation_in is ∙ reads_again d s p

pub tokens_read_back : TokensReadBack
tokens_read_back d s p text line tree = shapes_read_back d s p text line (shape tree)

pub texts_read_back : TextsReadBack
texts_read_back d s p line tree ts = tokens_read_back d s p (text_of d) line tree (texts_have_tokens d s p) ts
