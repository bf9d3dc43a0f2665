-- The tokens of a text that is cut off behind one of them.
use Rattle.std.proofs.Common.{◌≡◌, ℕ, zero, suc, ◌+◌, ◌-◌, ◌<◌, ◌≤◌, Bool, true, false, List, [], ◌∷◌, length, take, drop, refl, sym, ap, ◌∙◌, arith, append-nil, subst}
use Rattle.std.proofs.lemmas.List.{length-drop, take-take, drop-take}
use Rattle.sc_text.specs.declared.token.Kind.{Kind}
use Rattle.sc_text.specs.declared.mode.Mode.{Mode}
use Rattle.sc_text.specs.declared.mode.Mode.TheVariants as mode
use Rattle.sc_text.specs.declared.mode.Step.{Step}
use Rattle.sc_text.specs.declared.mode.Step.TheVariants as step
use Rattle.sc_text.specs.declared.front.Front.{Front}
use Rattle.sc_text.specs.declared.front.Front.TheVariants.{Nothing, Token as Found}
use Rattle.sc_text.specs.Modes.{step_of, after_step, run}
use Rattle.sc_text.specs.Fronts.{gap_len, after_gap, ended, front_of, front}
use Rattle.sc_text.specs.Readings.{Lexeme, named, Whole, Token, first_of, first, rest_of, Reads, Begins}
use Rattle.sc_text.proofs.Found.{token_some}
use Rattle.sc_text.proofs.Gaps.{are_passed_over}
use Rattle.sc_text.proofs.Readings.{rest_is, is_found, Reads-then}
use Rattle.sc_sexpr.proofs.AtHand.{step_stops}
use Rattle.sc_sexpr.proofs.Stretches.{take_nil, gap_before}
use Rattle.sc_sexpr.proofs.Running.{run_cons, run_empty, longer_token, longer_found}
use Rattle.sc_sexpr.proofs.Walking.{gap_fits, front_some, front_none}
use Rattle.sc_sexpr.proofs.Walked.{token_fits}

-- ---- one token

cut_none : (s : Step) (m : Mode) (b : ℕ) (bs : List ℕ) (k : Kind) (n : ℕ) → step_of m b ≡ s → front_of true (after_step s (λ x. run x bs)) ≡ Found k n → n ≤ 0 → front_of true (run m []) ≡ Found k n
cut_none (step.Go m') m b bs k n e f le = let one : (j : ℕ) × (n ≡ j + 1) × (front_of true (run m' bs) ≡ Found k j) = longer_token (run m' bs) k n f in absurd (omega (arith, one.1, le))
cut_none (step.Close k') m b bs k n e f le = let len : 1 ≡ n = cc in absurd (omega arith)
cut_none (step.Stop k') m b bs k n e f le = ap (front_of true) (run_empty m) ∙ ap (ended 0) (step_stops m b k' e) ∙ f
cut_none step.Fault m b bs k n e f le = absurd cc

cut_some : (s : Step) (bs : List ℕ) (k : Kind) (n j : ℕ) → front_of true (after_step s (λ x. run x bs)) ≡ Found k n → n ≤ suc j →
    ((m : Mode) (i : ℕ) → front_of true (run m bs) ≡ Found k i → i ≤ j → front_of true (run m (take j bs)) ≡ Found k i) → front_of true (after_step s (λ x. run x (take j bs))) ≡ Found k n
cut_some (step.Go m) bs k n j f le ih =
    let one : (i : ℕ) × (n ≡ i + 1) × (front_of true (run m bs) ≡ Found k i) = longer_token (run m bs) k n f in
    longer_found (run m (take j bs)) k one.0 (ih m one.0 one.2 (omega (arith, one.1, le))) ∙ ap (λ x. Found k x) (sym one.1)
cut_some (step.Close k') bs k n j f le ih = f
cut_some (step.Stop k') bs k n j f le ih = f
cut_some step.Fault bs k n j f le ih = f

run_cut : (xs : List ℕ) (m : Mode) (k : Kind) (n j : ℕ) → front_of true (run m xs) ≡ Found k n → n ≤ j → front_of true (run m (take j xs)) ≡ Found k n
run_cut [] m k n j f le = ap (λ ys. front_of true (run m ys)) (take_nil j) ∙ f
run_cut (b ∷ bs) m k n zero f le = cut_none (step_of m b) m b bs k n refl (ap (front_of true) (sym (run_cons m b bs (step_of m b) refl)) ∙ f) le
run_cut (b ∷ bs) m k n (suc j) f le =
    ap (front_of true) (run_cons m b (take j bs) (step_of m b) refl)
    ∙ cut_some (step_of m b) bs k n j (ap (front_of true) (sym (run_cons m b bs (step_of m b) refl)) ∙ f) le (λ m' i f' le'. run_cut bs m' k i j f' le')

front_cut : (ys xs : List ℕ) (k : Kind) (n j : ℕ) → after_gap xs ≡ ys → front true xs ≡ Found k n → 0 < n → n ≤ j → front true (take (j + gap_len xs) xs) ≡ Found k n
front_cut [] xs k n j is f some le = let none : Nothing ≡ Found k n = sym (front_none xs is) ∙ f in absurd cc
front_cut (b ∷ bs) xs k n zero is f some le = absurd (omega arith)
front_cut (b ∷ bs) xs k n (suc j) is f some le =
    front_some true (take (suc j + gap_len xs) xs) b (take j bs) (gap_before xs false (suc j) ∙ ap (take (suc j)) is)
    ∙ run_cut (b ∷ bs) mode.Start k n (suc j) (sym (front_some true xs b bs is) ∙ f) le

pub first_is : (last : Bool) (text : List ℕ) (f : Front) → front last text ≡ f → first last text ≡ first_of f (after_gap text)
unfolding first
first_is last text f e = ap (λ (g : Front). first_of g (after_gap text)) e

-- A text that is cut off so many bytes behind its first token.
record IsCut (xs : List ℕ) (k : Kind) (n j : ℕ) : Type 0 where
  has : first true (take (n + j + gap_len xs) xs) ≡ Token (named k (take n (after_gap xs)))
  others : rest_of true (take (n + j + gap_len xs) xs) ≡ take j (rest_of true xs)

token_cut : (xs : List ℕ) (k : Kind) (n j : ℕ) → front true xs ≡ Found k n → IsCut xs k n j
token_cut xs k n j f =
    let found : front true (take (n + j + gap_len xs) xs) ≡ Found k n = front_cut (after_gap xs) xs k n (n + j) refl f (token_some true xs k n f) (omega arith) in
    let here : after_gap (take (n + j + gap_len xs) xs) ≡ take (n + j) (after_gap xs) = gap_before xs false (n + j) in
    record {
      has = first_is true (take (n + j + gap_len xs) xs) (Found k n) found ∙ ap (λ ys. Token (named k (take n ys))) here ∙ ap (λ ys. Token (named k ys)) (take-take n (n + j) (after_gap xs) (omega arith));
      others = rest_is true (take (n + j + gap_len xs) xs) (Found k n) found ∙ ap (drop n) here ∙ drop-take n j (after_gap xs) ∙ ap (take j) (sym (rest_is true xs (Found k n) f));
    }

-- ---- all tokens up to a place

-- The text has these tokens, where it is cut off behind so many bytes.
record EndsBehind (xs : List ℕ) (us : List Lexeme) (ys : List ℕ) : Type 0 where
  count : ℕ
  size : count + length ys ≡ length xs
  begins : Begins true (take count xs) us []

ends_behind : (us : List Lexeme) (xs ys : List ℕ) → Begins true xs us ys → EndsBehind xs us ys
ends_behind [] xs ys e = record { count = 0; size = omega (arith, ap (length {A = ℕ}) e); begins = refl }
ends_behind (u ∷ us) xs ys (has, more) =
    let f = is_found true xs u has in
    let rest = ends_behind us (rest_of true xs) ys more in
    let cut = token_cut xs f.kind f.len rest.count f.found in
    let fits : f.len ≤ length (after_gap xs) = token_fits xs f.kind f.len f.found in
    let left : length (rest_of true xs) ≡ length (after_gap xs) - f.len = ap (length {A = ℕ}) (rest_is true xs (Found f.kind f.len) f.found) ∙ length-drop f.len (after_gap xs) in
    record {
      count = f.len + rest.count + gap_len xs;
      size = omega (arith, rest.size, left, fits, length-drop (gap_len xs) xs, gap_fits xs false);
      begins = (cut.has ∙ ap Token (sym f.same), subst (λ zs. Begins true zs us []) (sym cut.others) rest.begins);
    }

-- A text that begins with these tokens has no others where it is cut off behind them.
pub reads_cut : (us : List Lexeme) (xs ys : List ℕ) (count : ℕ) → Begins true xs us ys → count + length ys ≡ length xs → Reads true (take count xs) us Whole
reads_cut us xs ys count begins size =
    let e = ends_behind us xs ys begins in
    let same : e.count ≡ count = omega (arith, e.size, size) in
    subst (λ n. Reads true (take n xs) us Whole) same (subst (λ ts. Reads true (take e.count xs) ts Whole) (append-nil us) (Reads-then true us [] Whole (take e.count xs) [] e.begins (are_passed_over.nothing true)))
