-- Each text has exactly one reading.
use Rattle.std.proofs.Common.{◌≡◌, ℕ, zero, suc, ◌+◌, ◌<◌, Bool, false, List, [], ◌∷◌, ◌++◌, length, take, drop, refl, sym, ap, ◌∙◌, arith, append_assoc}
use Rattle.std.proofs.lemmas.List.{take-append-drop, length-drop}
use Rattle.sc_text.specs.declared.token.Kind.{Kind}
use Rattle.sc_text.specs.declared.lexer.Next.{Next}
use Rattle.sc_text.specs.declared.lexer.Next.TheVariants as next
use Rattle.sc_text.specs.declared.front.Front.{Front}
use Rattle.sc_text.specs.declared.front.Front.TheVariants.{Nothing, Token as Found, Open, Broken}
use Rattle.sc_text.specs.Place.{Place}
use Rattle.sc_text.specs.Fronts.{gap, gap_len, after_gap, front_at, front}
use Rattle.sc_text.specs.Bytes.{line_feeds}
use Rattle.sc_text.specs.Answers.{token_start, token_line, Passes, Answers}
use Rattle.sc_text.specs.Readings.{Lexeme, named, text_of, Ending, First, Token, End, first_of, first, taken, rest_of, Reads, Begins, Located, past_first, ReadsFrom, tokens_of}
use Rattle.sc_text.specs.Runs.{GivesFirst, ReadsOnce}
use Rattle.sc_text.proofs.Found.{token_some, comment_no_token}
use Rattle.sc_text.proofs.Plain.{text_taken}

-- ---- what next answers

first_is : (last : Bool) (text : List ℕ) (f : Front) → front last text ≡ f → first last text ≡ first_of f (after_gap text)
unfolding first
first_is last text f e = ap (λ (g : Front). first_of g (after_gap text)) e

pub rest_is : (last : Bool) (text : List ℕ) (f : Front) → front last text ≡ f → rest_of last text ≡ drop (taken f) (after_gap text)
unfolding rest_of
rest_is last text f e = ap (λ (g : Front). drop (taken g) (after_gap text)) e

place_is : (p q : Place) → p.left ≡ q.left → p.start ≡ q.start → p.line ≡ q.line → p.last ≡ q.last → p ≡ q
place_is p q left start line last = λ i. record { left = left i; start = start i; line = line i; last = last i }

-- what stands behind a token that takes so many bytes
behind : (p : Place) (n : ℕ) (f : Front) → front p.last p.left ≡ f → n ≡ taken f → (m : Place) → Passes p n m → m ≡ past_first p
behind p n f e len m passes =
    let is : n ≡ taken (front p.last p.left) = len ∙ sym (ap taken e) in
    place_is m (past_first p)
    (passes.left ∙ ap (λ (i : ℕ). drop i (after_gap p.left)) is ∙ sym (rest_is p.last p.left (front p.last p.left) refl))
    (passes.start ∙ ap (λ (i : ℕ). token_start p + i) is)
    (passes.line ∙ ap (λ (i : ℕ). token_line p + line_feeds (take i (after_gap p.left))) is)
    passes.same

pub gives_first : (old : Place) (answer : Next) (new : Place) → Answers old answer new → GivesFirst old answer new
gives_first old (next.Token t) new (n, found, slice, passes) =
    (first_is old.last old.left (Found t.kind n) found ∙ ap (λ (bytes : List ℕ). Token (named t.kind bytes)) (sym slice.text), slice.start, slice.line, behind old n (Found t.kind n) found refl new passes)
gives_first old next.End new (found, same) = (first_is old.last old.left Nothing found, same)
gives_first old next.Partial new (found, same) = (first_is old.last old.left Open found, same)
gives_first old (next.Bad start line) new (found, same, at_start, at_line) = (first_is old.last old.left Broken found, same, at_start, at_line)

-- ---- the first token takes bytes

pub record IsFound (last : Bool) (text : List ℕ) (t : Lexeme) : Type 0 where
  pub kind : Kind
  pub len : ℕ
  pub found : front last text ≡ Found kind len
  pub same : t ≡ named kind (take len (after_gap text))

token_is : (t u : Lexeme) → Token t ≡ Token u → t ≡ u
token_is t u e = cc

found_by : (last : Bool) (text : List ℕ) (f : Front) (t : Lexeme) → front last text ≡ f → first_of f (after_gap text) ≡ Token t → IsFound last text t
found_by last text Nothing t e h = absurd cc
found_by last text (Found k n) t e h = record { kind = k; len = n; found = e; same = token_is t (named k (take n (after_gap text))) (sym h) }
found_by last text Open t e h = absurd cc
found_by last text Broken t e h = absurd cc

pub is_found : (last : Bool) (text : List ℕ) (t : Lexeme) → first last text ≡ Token t → IsFound last text t
unfolding first
is_found last text t e = found_by last text (front last text) t refl e

taken_by : (last c : Bool) (bytes : List ℕ) (k : Kind) (n : ℕ) → front_at last c bytes ≡ Found k n → (0 < length bytes) × (text_of (named k (take n bytes)) ≡ take n bytes)
taken_by last c [] k n e = absurd (comment_no_token c last k n e)
taken_by last c (b ∷ bs) k n e = (omega arith, text_taken last b bs k n e)

pub taken_from : (last : Bool) (text : List ℕ) (k : Kind) (n : ℕ) → front last text ≡ Found k n → (0 < length (after_gap text)) × (text_of (named k (take n (after_gap text))) ≡ take n (after_gap text))
unfolding front
taken_from last text k n e = taken_by last (gap false text).comment (after_gap text) k n e

pub first_splits : (last : Bool) (text : List ℕ) (t : Lexeme) → first last text ≡ Token t → text ≡ take (gap_len text) text ++ text_of t ++ rest_of last text
first_splits last text t e =
    let f = is_found last text t e in
    let of_token : text_of t ≡ take f.len (after_gap text) = ap text_of f.same ∙ (taken_from last text f.kind f.len f.found).1 in
    rw (of_token, rest_is last text (Found f.kind f.len) f.found, append_assoc, take-append-drop f.len (after_gap text)) (sym (take-append-drop (gap_len text) text))

pub shorter : (last : Bool) (text : List ℕ) (t : Lexeme) → first last text ≡ Token t → length (rest_of last text) < length text
shorter last text t e =
    let f = is_found last text t e in
    let some : 0 < f.len = token_some last text f.kind f.len f.found in
    let left : 0 < length (after_gap text) = (taken_from last text f.kind f.len f.found).0 in
    omega (arith, left, some, ap length (rest_is last text (Found f.kind f.len) f.found), length-drop f.len (after_gap text), length-drop (gap_len text) text)

-- ---- at most one reading

end_is : (e f : Ending) → End e ≡ End f → e ≡ f
end_is e f h = cc

no_end : (t : Lexeme) (e : Ending) → Token t ≡ End e → ⊥
no_end t e h = cc

pub one : (last : Bool) (text : List ℕ) (ts us : List Lexeme) (e f : Ending) → Reads last text ts e → Reads last text us f → (ts ≡ us) × (e ≡ f)
one last text [] [] e f p q = (refl, end_is e f (sym p ∙ q))
one last text [] (u ∷ us) e f p q = absurd (no_end u e (sym q.0 ∙ p))
one last text (t ∷ ts) [] e f p q = absurd (no_end t f (sym p.0 ∙ q))
one last text (t ∷ ts) (u ∷ us) e f p q =
    let same : t ≡ u = token_is t u (sym p.0 ∙ q.0) in
    let others = one last (rest_of last text) ts us e f p.1 q.1 in
    (ap (λ (x : Lexeme). x ∷ ts) same ∙ ap (λ (xs : List Lexeme). u ∷ xs) others.0, others.1)

-- ---- at least one

abbrev HasReading : Bool → List ℕ → Type 0
HasReading last text = (ts : List Lexeme) × (e : Ending) × Reads last text ts e

by_first : (last : Bool) (text : List ℕ) (f : First) → first last text ≡ f → ((t : Lexeme) → first last text ≡ Token t → HasReading last (rest_of last text)) → HasReading last text
by_first last text (End e) is more = ([], e, is)
by_first last text (Token t) is more = let others = more t is in (t ∷ others.0, others.1, (is, others.2))

within : (n : ℕ) (last : Bool) (text : List ℕ) → length text < n → HasReading last text
within zero last text lt = absurd (omega arith)
within (suc n) last text lt = by_first last text (first last text) refl (λ t e. within n last (rest_of last text) (omega (arith, shorter last text t e)))

pub some : (last : Bool) (text : List ℕ) → (ts : List Lexeme) × (e : Ending) × Reads last text ts e
some last text = within (length text + 1) last text (omega arith)

-- ---- with places

located_is : (t u : Located) → t.token ≡ u.token → t.start ≡ u.start → t.line ≡ u.line → t ≡ u
located_is t u token start line = λ i. record { token = token i; start = start i; line = line i }

pub one_from : (p : Place) (ts us : List Located) (e f : Ending) → ReadsFrom p ts e → ReadsFrom p us f → (ts ≡ us) × (e ≡ f)
one_from p [] [] e f a b = (refl, end_is e f (sym a ∙ b))
one_from p [] (u ∷ us) e f a (is, start, line, others) = absurd (no_end u.token e (sym is ∙ a))
one_from p (t ∷ ts) [] e f (is, start, line, others) b = absurd (no_end t.token f (sym is ∙ b))
one_from p (t ∷ ts) (u ∷ us) e f (a, start, line, others) (b, start', line', others') =
    let same : t ≡ u = located_is t u (token_is t.token u.token (sym a ∙ b)) (start ∙ sym start') (line ∙ sym line') in
    let rest = one_from (past_first p) ts us e f others others' in
    (ap (λ (x : Located). x ∷ ts) same ∙ ap (λ (xs : List Located). u ∷ xs) rest.0, rest.1)

located_from : (p : Place) (tokens : List Lexeme) (e : Ending) → Reads p.last p.left tokens e → (ts : List Located) × ReadsFrom p ts e
located_from p [] e is = ([], is)
located_from p (t ∷ ts) e (is, others) =
    let rest = located_from (past_first p) ts e others in
    (record { token = t; start = token_start p; line = token_line p } ∷ rest.0, (is, refl, refl, rest.1))

pub some_from : (p : Place) → (ts : List Located) × (ending : Ending) × ReadsFrom p ts ending
some_from p =
    let reading = some p.last p.left in
    let placed = located_from p reading.0 reading.1 reading.2 in
    (placed.0, reading.1, placed.1)

pub same : (p : Place) (ts : List Located) (ending : Ending) → ReadsFrom p ts ending → Reads p.last p.left (tokens_of ts) ending
same p [] ending is = is
same p (t ∷ ts) ending (is, start, line, others) = (is, same (past_first p) ts ending others)

pub reads_once : ReadsOnce
reads_once = record { some = some; one = one; some_from = some_from; one_from = one_from; same = same }

-- ---- reading in parts

pub Begins-then : (last : Bool) (xs ys : List Lexeme) (a b c : List ℕ) → Begins last a xs b → Begins last b ys c → Begins last a (xs ++ ys) c
Begins-then last [] ys a b c p q = rw p q
Begins-then last (x ∷ xs) ys a b c p q = (p.0, Begins-then last xs ys (rest_of last a) b c p.1 q)

pub Begins-split : (last : Bool) (xs ys : List Lexeme) (a c : List ℕ) → Begins last a (xs ++ ys) c → (b : List ℕ) × Begins last a xs b × Begins last b ys c
Begins-split last [] ys a c p = (a, refl, p)
Begins-split last (x ∷ xs) ys a c p = let s = Begins-split last xs ys (rest_of last a) c p.1 in (s.0, (p.0, s.1), s.2)

pub Reads-then : (last : Bool) (xs ys : List Lexeme) (e : Ending) (a b : List ℕ) → Begins last a xs b → Reads last b ys e → Reads last a (xs ++ ys) e
Reads-then last [] ys e a b p q = rw p q
Reads-then last (x ∷ xs) ys e a b p q = (p.0, Reads-then last xs ys e (rest_of last a) b p.1 q)

pub Reads-split : (last : Bool) (xs ys : List Lexeme) (e : Ending) (a : List ℕ) → Reads last a (xs ++ ys) e → (b : List ℕ) × Begins last a xs b × Reads last b ys e
Reads-split last [] ys e a p = (a, refl, p)
Reads-split last (x ∷ xs) ys e a p = let s = Reads-split last xs ys e (rest_of last a) p.1 in (s.0, (p.0, s.1), s.2)
