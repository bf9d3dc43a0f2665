-- The text of a derivation has the tokens of its expression.
use Rattle.std.proofs.Common.{◌≡◌, ℕ, ◌<◌, ◌^◌, Bool, true, false, List, [], ◌∷◌, ◌++◌, refl, sym, ap, subst, ◌∙◌, arith, append_assoc, append-nil}
use Rattle.std.specs.Prelude.{codes, decimal}
use Rattle.std.specs.List.{AllByRecursion, list_all}
use Rattle.std.proofs.lemmas.Bool.{and_parts}
use Rattle.sc_text.specs.Bytes.{is_white, is_symbol_byte}
use Rattle.sc_text.specs.Readings.{Lexeme, Left, Right, Numeral, Word, text_of as bytes_in, Begins, Reads, Whole}
use Rattle.sc_text.proofs.Readings.{Begins-then, Reads-then}
use Rattle.sc_text.proofs.Gaps.{are_passed_over}
use Rattle.sc_print.specs.Spelling.{is_simple}
use Rattle.sc_print.specs.Readback.{is_apart}
use Rattle.sc_print.proofs.Bytes.{space_after, right_after}
use Rattle.sc_print.proofs.Tokens.{left, right, and_then}
use Rattle.sc_print.proofs.SymbolsBack.{bare}
use Rattle.sc_print.proofs.NumbersBack.{decimal_at}
use Rattle.sc_terms.specs.declared.atoms.Sign.{Sign}
use Rattle.sc_terms.specs.declared.atoms.Sign.TheVariants as signs
use Rattle.sc_facts.specs.declared.name.FactName.{FactName}
use Rattle.sc_facts.specs.declared.name.FactName.TheVariants as names
use Rattle.sc_rules.specs.declared.step.PlainStep.{PlainStep}
use Rattle.sc_rules.specs.declared.step.PlainStep.TheVariants as plain
use Rattle.sc_deriv.specs.declared.derivation.Step.TheVariants.{Plain}
use Rattle.sc_deriv.specs.declared.derivation.Closing.TheVariants as closings
use Rattle.sc_deriv.specs.declared.derivation.Node.{Node}
use Rattle.sc_deriv.specs.declared.derivation.Node.TheVariants as nodes
use Rattle.sc_deriv.specs.Spelling.{is_node, are_nodes, is_name, has_plus, IsSpelt}
use Rattle.sc_deriv.specs.declared.derivation.Derivation.{Derivation}
use Rattle.sc_deriv_text.specs.declared.head.OneHead.TheVariants as Ones
use Rattle.sc_deriv_text.specs.declared.head.TwoHead.TheVariants as Twos
use Rattle.sc_deriv_text.specs.declared.head.ThreeHead.TheVariants as Threes
use Rattle.sc_deriv_text.specs.declared.head.Head.{Head}
use Rattle.sc_deriv_text.specs.declared.head.Head.TheVariants as heads
use Rattle.sc_deriv_text.specs.declared.head.NameHead.{NameHead}
use Rattle.sc_deriv_text.specs.declared.head.NameHead.TheVariants as kinds
use Rattle.sc_deriv_text.specs.Words.{head_word, name_word}
use Rattle.sc_deriv_text.specs.Sexpr.{Sexpr, Atom, Nil, Cons, list_of, printed, tokens, tokens_of, bytes_of}
use Rattle.sc_deriv_text.specs.Spelling.{cube_bytes, name_expr, Part, part_expr, step_part, node_part, node_expr, node_exprs, tree_expr, derivation_expr, NameFits, PartFits, NodeFits, Fits}
use Rattle.sc_deriv_text.specs.Reading.{step}
use Rattle.sc_deriv_text.specs.Text.{item_of, node_lines, text_of, tree_item, tree_text}
use Rattle.sc_deriv_text.specs.Laws.{ItemsHaveTokens, TextsHaveTokens}

-- each token of the expression stands at the front of its bytes, wherever no byte of a symbol follows
abbrev pub IsToken : Lexeme → Type 0
IsToken l = (rest : List ℕ) → is_apart rest ≡ true → Begins true (bytes_in l ++ rest) (l ∷ []) rest

abbrev pub AreTokens : Sexpr → Type 0
AreTokens (Atom l) = IsToken l
AreTokens Nil = Unit {0}
AreTokens (Cons t ts) = AreTokens t × AreTokens ts

-- some white space, and then at least one token
abbrev IsSome : List Lexeme → Type 0
IsSome [] = ⊥
IsSome (l ∷ ls) = Unit {0}

white : (b : ℕ) (text rest : List ℕ) (ts : List Lexeme) → is_white b ≡ true → IsSome ts → Begins true text ts rest → Begins true (b ∷ text) ts rest
white b text rest [] w s p = absurd s
white b text rest (l ∷ ls) w s p =
    let is = are_passed_over.white true b text w in
    (is.0 ∙ p.0, subst (λ (x : List ℕ). Begins true x ls rest) (sym is.1) p.1)

some_tokens : (t : Sexpr) (us : List Lexeme) → IsSome (tokens false t ++ us)
some_tokens (Atom l) us = tt
some_tokens Nil us = tt
some_tokens (Cons t ts) us = tt

after : (ts : Sexpr) (rest : List ℕ) → is_apart (printed true ts ++ rest) ≡ true
after (Cons t ts) rest = space_after ((printed false t ++ printed true ts) ++ rest)
after Nil rest = right_after rest
after (Atom l) rest = right_after rest

begins : (inside : Bool) (t : Sexpr) → AreTokens t → (rest : List ℕ) → is_apart rest ≡ true → Begins true (printed inside t ++ rest) (tokens inside t) rest
begins false (Atom l) p rest a = p rest a
begins false Nil p rest a = and_then (40 ∷ 41 ∷ rest) (41 ∷ rest) rest Left (Right ∷ []) (left (41 ∷ rest)) (right rest)
begins false (Cons t ts) p rest a =
    let both = Begins-then true (tokens false t) (tokens true ts) (printed false t ++ (printed true ts ++ rest)) (printed true ts ++ rest) rest (begins false t p.0 (printed true ts ++ rest) (after ts rest)) (begins true ts p.1 rest a) in
    let flat : (printed false t ++ printed true ts) ++ rest ≡ printed false t ++ (printed true ts ++ rest) = append_assoc (printed false t) (printed true ts) rest in
    and_then (40 ∷ ((printed false t ++ printed true ts) ++ rest)) ((printed false t ++ printed true ts) ++ rest) rest Left (tokens false t ++ tokens true ts) (left ((printed false t ++ printed true ts) ++ rest))
    (subst (λ (x : List ℕ). Begins true x (tokens false t ++ tokens true ts) rest) (sym flat) both)
begins true (Atom l) p rest a = right rest
begins true Nil p rest a = right rest
begins true (Cons t ts) p rest a =
    let both = Begins-then true (tokens false t) (tokens true ts) (printed false t ++ (printed true ts ++ rest)) (printed true ts ++ rest) rest (begins false t p.0 (printed true ts ++ rest) (after ts rest)) (begins true ts p.1 rest a) in
    let flat : (printed false t ++ printed true ts) ++ rest ≡ printed false t ++ (printed true ts ++ rest) = append_assoc (printed false t) (printed true ts) rest in
    white 32 ((printed false t ++ printed true ts) ++ rest) rest (tokens false t ++ tokens true ts) refl (some_tokens t (tokens true ts))
    (subst (λ (x : List ℕ). Begins true x (tokens false t ++ tokens true ts) rest) (sym flat) both)

-- ---- the tokens of a derivation's expression

word_token : (w : List ℕ) → is_simple w ≡ true → IsToken (Word w)
word_token w e = λ rest a. bare w rest e a

numeral_token : (n : ℕ) → n < 2 ^ 32 → IsToken (Numeral (decimal n))
numeral_token n lt = λ rest a. decimal_at n rest (omega (arith, lt)) a

head_simple : (h : Head) → is_simple (head_word h) ≡ true
unfolding is_symbol_byte
head_simple (heads.One Ones.Atom) = refl
head_simple (heads.One Ones.EqRefl) = refl
head_simple (heads.One Ones.SeqRefl) = refl
head_simple (heads.Two Twos.All) = refl
head_simple (heads.Two Twos.Unit) = refl
head_simple (heads.Two Twos.Single) = refl
head_simple (heads.Two Twos.Unsingle) = refl
head_simple (heads.Two Twos.Differ) = refl
head_simple (heads.Three Threes.Op) = refl
head_simple (heads.Three Threes.Carry) = refl
head_simple (heads.Three Threes.Apart) = refl
head_simple (heads.Three Threes.Move) = refl
head_simple (heads.Three Threes.SetApart) = refl
head_simple (heads.Three Threes.EqStep) = refl
head_simple (heads.Three Threes.SeqStep) = refl
head_simple heads.Cut = refl
head_simple heads.Clash = refl

kind_simple : (h : NameHead) → is_simple (name_word h) ≡ true
unfolding is_symbol_byte
kind_simple kinds.Sign = refl
kind_simple kinds.In = refl
kind_simple kinds.Eq = refl
kind_simple kinds.Seq = refl
kind_simple kinds.Empty = refl

tree_simple : is_simple (codes "tree") ≡ true
unfolding is_symbol_byte
tree_simple = refl

derivation_simple : is_simple (codes "derivation") ≡ true
unfolding is_symbol_byte
derivation_simple = refl

line_after : (rest : List ℕ) → is_apart (10 ∷ rest) ≡ true
unfolding is_symbol_byte
line_after rest = refl

signs_symbols : (word : List Sign) → list_all is_symbol_byte (cube_bytes word) ≡ true
unfolding is_symbol_byte
signs_symbols [] = refl
signs_symbols (signs.Plus ∷ word) = signs_symbols word
signs_symbols (signs.Minus ∷ word) = signs_symbols word

cube_simple : (word : List Sign) → has_plus word ≡ true → is_simple (cube_bytes word) ≡ true
cube_simple [] e = absurd cc
cube_simple (signs.Plus ∷ word) e = signs_symbols (signs.Plus ∷ word)
cube_simple (signs.Minus ∷ word) e = signs_symbols (signs.Minus ∷ word)

name_tokens : (n : FactName) → NameFits n → is_name n ≡ true → AreTokens (name_expr n)
name_tokens (names.Sign f) p e = (word_token (name_word kinds.Sign) (kind_simple kinds.Sign), (numeral_token f p, tt))
name_tokens (names.Member t s) p e = (word_token (name_word kinds.In) (kind_simple kinds.In), (numeral_token t p.0, (numeral_token s p.1, tt)))
name_tokens (names.Eq a b) p e = (word_token (name_word kinds.Eq) (kind_simple kinds.Eq), (numeral_token a p.0, (numeral_token b p.1, tt)))
name_tokens (names.EqSet a b) p e = (word_token (name_word kinds.Seq) (kind_simple kinds.Seq), (numeral_token a p.0, (numeral_token b p.1, tt)))
name_tokens (names.Empty cube) p e = (word_token (name_word kinds.Empty) (kind_simple kinds.Empty), (numeral_token cube.component p, (word_token (cube_bytes cube.signs) (cube_simple cube.signs e), tt)))

abbrev PartSpelt : Part → Type 0
PartSpelt (Part.Cut n) = is_name n ≡ true
PartSpelt (Part.Clash n) = is_name n ≡ true
PartSpelt p = Unit {0}

step_spelt : (s : PlainStep) → is_node (step s) ≡ true → PartSpelt (step_part s)
step_spelt (plain.Cut n) e = e
step_spelt s e = tt

node_spelt : (n : Node) → is_node n ≡ true → PartSpelt (node_part n)
node_spelt (nodes.Step (Plain s)) e = step_spelt s e
node_spelt (nodes.Closing (closings.Clash n)) e = e

part_tokens : (p : Part) → PartFits p → PartSpelt p → AreTokens (part_expr p)
part_tokens (Part.One h a) p e = (word_token (head_word (heads.One h)) (head_simple (heads.One h)), (numeral_token a p, tt))
part_tokens (Part.Two h a b) p e = (word_token (head_word (heads.Two h)) (head_simple (heads.Two h)), (numeral_token a p.0, (numeral_token b p.1, tt)))
part_tokens (Part.Three h a b c) p e = (word_token (head_word (heads.Three h)) (head_simple (heads.Three h)), (numeral_token a p.0, (numeral_token b p.1, (numeral_token c p.2, tt))))
part_tokens (Part.Cut n) p e = (word_token (head_word heads.Cut) (head_simple heads.Cut), (name_tokens n p e, tt))
part_tokens (Part.Clash n) p e = (word_token (head_word heads.Clash) (head_simple heads.Clash), (name_tokens n p e, tt))

-- ---- the text

lines_begin : (ns : List Node) → AllByRecursion NodeFits ns → are_nodes ns ≡ true → (rest : List ℕ) → Begins true (10 ∷ (node_lines ns ++ (41 ∷ rest))) (tokens true (list_of (node_exprs ns))) rest
lines_begin [] p e rest = white 10 (41 ∷ rest) rest (Right ∷ []) refl tt (right rest)
lines_begin (n ∷ ns) p e rest =
    let both = and_parts (is_node n) (are_nodes ns) e in
    let behind : List ℕ = 10 ∷ (node_lines ns ++ (41 ∷ rest)) in
    let first : Begins true (bytes_of (node_expr n) ++ behind) (tokens false (node_expr n)) behind = begins false (node_expr n) (part_tokens (node_part n) p.0 (node_spelt n both.0)) behind (line_after (node_lines ns ++ (41 ∷ rest))) in
    let all : Begins true (bytes_of (node_expr n) ++ behind) (tokens false (node_expr n) ++ tokens true (list_of (node_exprs ns))) rest = Begins-then true (tokens false (node_expr n)) (tokens true (list_of (node_exprs ns))) (bytes_of (node_expr n) ++ behind) behind rest first (lines_begin ns p.1 both.1 rest) in
    let flat : ((bytes_of (node_expr n) ++ (10 ∷ [])) ++ node_lines ns) ++ (41 ∷ rest) ≡ bytes_of (node_expr n) ++ behind =
    append_assoc (bytes_of (node_expr n) ++ (10 ∷ [])) (node_lines ns) (41 ∷ rest) ∙ append_assoc (bytes_of (node_expr n)) (10 ∷ []) (node_lines ns ++ (41 ∷ rest)) in
    subst (λ (x : List ℕ). Begins true (10 ∷ x) (tokens false (node_expr n) ++ tokens true (list_of (node_exprs ns))) rest) (sym flat)
    (white 10 (bytes_of (node_expr n) ++ behind) rest (tokens false (node_expr n) ++ tokens true (list_of (node_exprs ns))) refl (some_tokens (node_expr n) (tokens true (list_of (node_exprs ns)))) all)

ended : Reads true (10 ∷ []) [] Whole
ended = (are_passed_over.white true 10 [] refl).0 ∙ are_passed_over.nothing true

-- what follows the item stands behind its last parenthesis
behind_item : (ns : List Node) (rest : List ℕ) → tree_item ns ++ rest ≡ codes "(derivation\n(tree\n" ++ (node_lines ns ++ (41 ∷ 10 ∷ 41 ∷ rest))
behind_item ns rest = ap (λ (t : List ℕ). codes "(derivation\n(tree\n" ++ t) (append_assoc (node_lines ns) (41 ∷ 10 ∷ 41 ∷ []) rest)

tree_begins : (ns : List Node) → AllByRecursion NodeFits ns → are_nodes ns ≡ true → (rest : List ℕ) → Begins true (codes "(derivation\n(tree\n" ++ (node_lines ns ++ (41 ∷ 10 ∷ 41 ∷ rest))) (tokens_of (tree_expr ns)) rest
tree_begins ns p e rest =
    let close : List ℕ = 10 ∷ 41 ∷ rest in
    let inner : List ℕ = 10 ∷ (node_lines ns ++ (41 ∷ close)) in
    let inside : List Lexeme = tokens true (list_of (node_exprs ns)) in
    let lines : Begins true inner inside close = lines_begin ns p e close in
    let word : Begins true (codes "tree" ++ inner) (Word (codes "tree") ∷ inside) close = and_then (codes "tree" ++ inner) inner close (Word (codes "tree")) inside (bare (codes "tree") inner tree_simple (line_after (node_lines ns ++ (41 ∷ close)))) lines in
    let tree : Begins true (40 ∷ (codes "tree" ++ inner)) (Left ∷ Word (codes "tree") ∷ inside) close = and_then (40 ∷ (codes "tree" ++ inner)) (codes "tree" ++ inner) close Left (Word (codes "tree") ∷ inside) (left (codes "tree" ++ inner)) word in
    let last : Begins true close (Right ∷ []) rest = white 10 (41 ∷ rest) rest (Right ∷ []) refl tt (right rest) in
    let both : Begins true (40 ∷ (codes "tree" ++ inner)) ((Left ∷ Word (codes "tree") ∷ inside) ++ (Right ∷ [])) rest = Begins-then true (Left ∷ Word (codes "tree") ∷ inside) (Right ∷ []) (40 ∷ (codes "tree" ++ inner)) close rest tree last in
    let body : List ℕ = 10 ∷ 40 ∷ (codes "tree" ++ inner) in
    let below : Begins true body ((Left ∷ Word (codes "tree") ∷ inside) ++ (Right ∷ [])) rest = white 10 (40 ∷ (codes "tree" ++ inner)) rest ((Left ∷ Word (codes "tree") ∷ inside) ++ (Right ∷ [])) refl tt both in
    let head : Begins true (codes "derivation" ++ body) (Word (codes "derivation") ∷ ((Left ∷ Word (codes "tree") ∷ inside) ++ (Right ∷ []))) rest =
    and_then (codes "derivation" ++ body) body rest (Word (codes "derivation")) ((Left ∷ Word (codes "tree") ∷ inside) ++ (Right ∷ [])) (bare (codes "derivation") body derivation_simple (line_after (40 ∷ (codes "tree" ++ inner)))) below in
    and_then (40 ∷ (codes "derivation" ++ body)) (codes "derivation" ++ body) rest Left (Word (codes "derivation") ∷ ((Left ∷ Word (codes "tree") ∷ inside) ++ (Right ∷ []))) (left (codes "derivation" ++ body)) head

pub texts_have_tokens : TextsHaveTokens
unfolding text_of
texts_have_tokens d s p =
    subst (λ (ts : List Lexeme). Reads true (tree_text d.nodes) ts Whole) (append-nil (tokens_of (derivation_expr d)))
    (Reads-then true (tokens_of (derivation_expr d)) [] Whole (tree_text d.nodes) (10 ∷ []) (tree_begins d.nodes p s.names (10 ∷ [])) ended)

item_ends : (d : Derivation) → text_of d ≡ item_of d ++ 10 ∷ []
unfolding text_of item_of
item_ends d = sym (behind_item d.nodes (10 ∷ []))

item_begins : (d : Derivation) → IsSpelt d → Fits d → (rest : List ℕ) → Begins true (item_of d ++ rest) (tokens_of (derivation_expr d)) rest
unfolding item_of
item_begins d s p rest = subst (λ (t : List ℕ). Begins true t (tokens_of (derivation_expr d)) rest) (sym (behind_item d.nodes rest)) (tree_begins d.nodes p s.names rest)

pub items_have_tokens : ItemsHaveTokens
items_have_tokens d = (item_ends d, item_begins d)
