-- The pass finds the values that the interpretation gives, and meets exactly the numbers under the tops.
use Rattle.std.proofs.Common.{◌≡◌, ℕ, zero, suc, ◌+◌, ◌-◌, ◌<◌, ◌≤◌, Bool, true, false, ℤ, pos, ◌+ℤ◌, List, [], ◌∷◌, ◌++◌, length, Option, Some, None, refl, sym, ap, ◌∙◌, subst, arith}
use Rattle.std.specs.Prelude.{slice_get, nat_lt, FitsSigned, if◌then◌else◌, Result, Ok, Err}
use Rattle.std.specs.List.{AllByRecursion}
use Rattle.std.proofs.lemmas.List.{length-append}
use Rattle.sc_base.specs.Integers.{in_order}
use Rattle.sc_base.specs.Numbered.{item_at}
use Rattle.sc_terms.specs.declared.nodes.Node.{Node}
use Rattle.sc_terms.specs.declared.nodes.Node.TheVariants as nodes
use Rattle.sc_terms.specs.declared.atoms.Atom.{Atom}
use Rattle.sc_terms.specs.Values.{TermFits}
use Rattle.std.specs.Int.{w128}
use Rattle.sc_base.proofs.Integers.{all_weaker}
use Rattle.sc_meaning.specs.Answers.{failing_from}
use Rattle.sc_terms.specs.BankValues.{no_parts, bank_values, bank_meaning, truth_at, members_at, element_at, BankFits}
use Rattle.sc_terms.specs.Bank.{IsFormulaOf, IsBank}
use Rattle.sc_terms.specs.Conditions.{IsIn}
use Rattle.sc_terms.specs.Lookup.{is_listed}
use Rattle.sc_terms.specs.Meaning.{Interpretation, IsInterpretation, Valuation, form_value}
use Rattle.sc_terms.proofs.BankMeanings.{bank_meanings_fit}
use Rattle.sc_terms.proofs.Ranges.{item_in, there}
use Rattle.sc_meaning.specs.declared.error.EvalError.{EvalError}
use Rattle.sc_meaning.specs.declared.error.EvalError.TheVariants.{Wide, Memory}
use Rattle.sc_meaning.specs.declared.values.Worth.{Worth}
use Rattle.sc_meaning.specs.Marks.{marked, reached}
use Rattle.sc_meaning.specs.Pass.{worth_if, FitsIf, worths_up, FitsUp}
use Rattle.sc_meaning.specs.Results.{EvaluatesTo, Evaluates}
use Rattle.sc_terms.specs.Under.{form_parts, node_parts, FitUnder, NodeFits}
use Rattle.sc_meaning.specs.Worths.{flag_in, number_in, members_in, found, worth_by, Matches}
use Rattle.sc_meaning.proofs.Match.{form_same, terms_fit, truth_same, members_same, element_same, node_fits}
use Rattle.sc_meaning.proofs.Parts.{part_below, all_listed, listed_all, formula_in_range}
use Rattle.sc_meaning.proofs.Passing.{fits_before}
use Rattle.sc_meaning.proofs.Plain.{is_plain}
use Rattle.sc_meaning.proofs.Reach.{reached_under, top_reached, part_reached, under_reached}

-- ---- the values of a node of another kind
module _ (bank : List Node) (i : Interpretation) (n : ℕ) where
  no_truth : (k : ℕ) (x : Node) → item_at bank n ≡ Some x → ((v : Valuation) → truth_at i v (Some x) ≡ false) → (bank_values bank i k).truth n ≡ false
  no_truth zero x at h = refl
  no_truth (suc k) x at h = ap (truth_at i (bank_values bank i k)) at ∙ h (bank_values bank i k)

  no_members : (k : ℕ) (x : Node) → item_at bank n ≡ Some x → ((v : Valuation) → members_at i v (Some x) ≡ []) → (bank_values bank i k).members n ≡ []
  no_members zero x at h = refl
  no_members (suc k) x at h = ap (members_at i (bank_values bank i k)) at ∙ h (bank_values bank i k)

  no_element : (k : ℕ) (x : Node) → item_at bank n ≡ Some x → ((v : Valuation) → element_at i v (Some x) ≡ pos 0) → (bank_values bank i k).element n ≡ pos 0
  no_element zero x at h = refl
  no_element (suc k) x at h = ap (element_at i (bank_values bank i k)) at ∙ h (bank_values bank i k)

-- ---- items of what has been found
last_item : (xs : List Worth) (w : Worth) (n : ℕ) → n ≡ length xs → item_at (xs ++ w ∷ []) (suc n) ≡ Some w
last_item [] w zero e = refl
last_item [] w (suc n) e = absurd (omega arith)
last_item (x ∷ xs) w zero e = absurd (omega arith)
last_item (x ∷ xs) w (suc n) e = last_item xs w n (omega arith)

get_kept : (xs : List Worth) (w : Worth) (n : ℕ) → n < length xs → slice_get (xs ++ w ∷ []) n ≡ slice_get xs n
get_kept [] w n lt = absurd (omega arith)
get_kept (x ∷ xs) w zero lt = refl
get_kept (x ∷ xs) w (suc n) lt = get_kept xs w n (omega arith)

item_kept : (xs : List Worth) (w : Worth) (n : ℕ) → n ≤ length xs → item_at (xs ++ w ∷ []) n ≡ item_at xs n
item_kept xs w zero le = refl
item_kept xs w (suc n) le = get_kept xs w n (omega arith)

module _ (bank : List Node) (is : IsBank bank) (i : Interpretation) (proper : IsInterpretation i) (marks : List Bool) (closed : (k m : ℕ) (x : Node) → 0 < k → marked marks k ≡ true → item_at bank k ≡ Some x → is_listed m (node_parts x) ≡ true → marked marks m ≡ true) where
  abbrev v : Valuation
  v = bank_meaning bank i

  fit : BankFits bank i (bank_meaning bank i)
  fit = bank_meanings_fit bank is i proper

  abbrev up : ℕ → List Worth
  up n = worths_up i bank marks n

  length-up : (n : ℕ) → length (up n) ≡ n
  length-up zero = refl
  length-up (suc n) =
      let w : Worth = worth_if (marked marks (suc n)) i (found i (up n)) (item_at bank (suc n)) in
      let long : length (up n ++ w ∷ []) ≡ length (up n) + 1 = length-append (up n) (w ∷ []) in
      let rest : length (up n) ≡ n = length-up n in
      omega arith

  ints : (ws : List Worth) (c : ℕ) → (found i ws).int c ≡ v.int c
  ints ws c = sym (fit.ints c)

  -- a node whose parts match
  matches_at : (n : ℕ) (ws more : List Worth) (x : Node) → item_at bank n ≡ Some x → item_at more n ≡ Some (worth_by i (found i ws) x) → AllByRecursion (Matches v (found i ws)) (node_parts x) → Matches v (found i more) n
  matches_at n ws more (nodes.Formula f) at here h = record {
    truth = ap flag_in here ∙ truth_same i v (found i ws) fit.no_repeats (ints ws) f h ∙ sym (fit.truths n f at);
    members = ap members_in here ∙ ap in_order (sym (no_members bank i n (length bank) (nodes.Formula f) at (λ v. refl)));
    element = ap number_in here ∙ sym (no_element bank i n (length bank) (nodes.Formula f) at (λ v. refl));
  }
  matches_at n ws more (nodes.Set s) at here h = record {
    truth = ap flag_in here ∙ sym (no_truth bank i n (length bank) (nodes.Set s) at (λ v. refl));
    members = ap members_in here ∙ members_same i v (found i ws) fit.no_repeats (ints ws) s h ∙ ap in_order (sym (fit.sets n s at));
    element = ap number_in here ∙ sym (no_element bank i n (length bank) (nodes.Set s) at (λ v. refl));
  }
  matches_at n ws more (nodes.Element e) at here h = record {
    truth = ap flag_in here ∙ sym (no_truth bank i n (length bank) (nodes.Element e) at (λ v. refl));
    members = ap members_in here ∙ ap in_order (sym (no_members bank i n (length bank) (nodes.Element e) at (λ v. refl)));
    element = ap number_in here ∙ element_same i v (found i ws) fit.no_repeats (ints ws) e (is_plain bank is n (nodes.Element e) at) h ∙ sym (fit.elements n e at);
  }

  same_item : (ws more : List Worth) (n : ℕ) → item_at more n ≡ item_at ws n → Matches v (found i ws) n → Matches v (found i more) n
  same_item ws more n e h = record { truth = ap flag_in e ∙ h.truth; members = ap members_in e ∙ h.members; element = ap number_in e ∙ h.element }

  -- the parts of a marked node match, where all marked nodes before it do
  abbrev MatchUp : ℕ → Type 0
  MatchUp n = (m : ℕ) → m ≤ n → 0 < m → m ≤ length bank → marked marks m ≡ true → Matches v (found i (up n)) m

  parts_match : (n : ℕ) (x : Node) → MatchUp n → marked marks (suc n) ≡ true → item_at bank (suc n) ≡ Some x → AllByRecursion (Matches v (found i (up n))) (node_parts x)
  parts_match n x before mark at = all_listed (Matches v (found i (up n))) (node_parts x) one
    where
      one : (m : ℕ) → is_listed m (node_parts x) ≡ true → Matches v (found i (up n)) m
      one m e =
          let b = part_below bank is (suc n) m x at e in
          let p = item_in bank (suc n) x at in
          let some : 0 < m = b.0 in
          let lt : m < suc n = b.1 in
          let most : suc n ≤ length bank = p.1 in
          before m (omega arith) some (omega arith) (closed (suc n) m x (omega arith) mark at e)

  last_matches : (n : ℕ) → MatchUp n → suc n ≤ length bank → marked marks (suc n) ≡ true → Matches v (found i (up (suc n))) (suc n)
  last_matches n before within mark = by (item_at bank (suc n)) refl
    where
      by : (o : Option Node) → item_at bank (suc n) ≡ o → Matches v (found i (up (suc n))) (suc n)
      by None at = absurd (there bank (suc n) (omega arith) within at)
      by (Some x) at =
          matches_at (suc n) (up n) (up (suc n)) x at
          (last_item (up n) (worth_if (marked marks (suc n)) i (found i (up n)) (item_at bank (suc n))) n (sym (length-up n)) ∙ (λ j. Some (worth_if (mark j) i (found i (up n)) (at j))))
          (parts_match n x before mark at)

  matches_up : (n : ℕ) → MatchUp n
  matches_up zero k le some within mark = absurd (omega arith)
  matches_up (suc n) k le some within mark = by (nat_lt n k) refl (matches_up n)
    where
      by : (b : Bool) → nat_lt n k ≡ b → MatchUp n → Matches v (found i (up (suc n))) k
      by true e before =
          let same : suc n ≡ k = grind arith in
          subst (Matches v (found i (up (suc n)))) same (last_matches n before (subst (λ j. j ≤ length bank) (sym same) within) (subst (λ j. marked marks j ≡ true) (sym same) mark))
      by false e before =
          let le : k ≤ n = grind arith in
          let long : length (up n) ≡ n = length-up n in
          same_item (up n) (up (suc n)) k (item_kept (up n) (worth_if (marked marks (suc n)) i (found i (up n)) (item_at bank (suc n))) k (omega arith)) (before k le some within mark)

  fits_path : (n : ℕ) (x : Node) → marked marks (suc n) ≡ true → item_at bank (suc n) ≡ Some x → NodeFits (found i (up n)) x ≡ NodeFits v x
  fits_path n x mark at = node_fits i v (found i (up n)) fit.no_repeats (ints (up n)) x (parts_match n x (matches_up n) mark at)

  pub fits_at : (n k : ℕ) (x : Node) → 0 < k → k ≤ n → marked marks k ≡ true → item_at bank k ≡ Some x → FitsUp i bank marks n → NodeFits v x
  fits_at n zero x some le mark at h = absurd (omega arith)
  fits_at n (suc k) x some le mark at h =
      let here : FitsUp i bank marks (suc k) = fits_before i bank marks (n - suc k) (suc k) n (omega arith) h in
      let that : FitsIf true (found i (up k)) (Some x) = subst (λ o. FitsIf true (found i (up k)) o) at (subst (λ b. FitsIf b (found i (up k)) (item_at bank (suc k))) mark here.1) in
      subst (λ T. T) (fits_path k x mark at) that

  pub fits_all : (n : ℕ) → ((k : ℕ) (x : Node) → 0 < k → k ≤ n → marked marks k ≡ true → item_at bank k ≡ Some x → NodeFits v x) → FitsUp i bank marks n
  fits_all zero h = tt
  fits_all (suc n) h = (fits_all n (λ k x some le mark at. h k x some (omega arith) mark at), by (marked marks (suc n)) refl (item_at bank (suc n)) refl)
    where
      by : (b : Bool) → marked marks (suc n) ≡ b → (o : Option Node) → item_at bank (suc n) ≡ o → FitsIf b (found i (up n)) o
      by true mark None at = tt
      by true mark (Some x) at = subst (λ T. T) (sym (fits_path n x mark at)) (h (suc n) x (omega arith) (omega arith) mark at)
      by false mark o at = tt

  pub found_matches : (n : ℕ) → MatchUp n
  found_matches = matches_up

pub evaluated : (bank : List Node) → IsBank bank → (i : Interpretation) → IsInterpretation i → (tops : List ℕ) (last : ℕ) → AllByRecursion (IsIn last) tops → last ≤ length bank → (r : Result (List Worth) EvalError)
    → Evaluates (FitsUp i bank (reached bank tops last) last) (worths_up i bank (reached bank tops last) last) r
    → EvaluatesTo (FitUnder bank tops (bank_meaning bank i)) (λ ws. AllByRecursion (Matches (bank_meaning bank i) (found i ws)) tops) r
evaluated bank is i proper tops last within most (Ok ws) h = (
  (λ n x under at. (let p = under_reached bank is tops last within n under in fits_at bank is i proper (reached bank tops last) (part_reached bank is tops last within) last n x p.1.0 p.1.1 p.0 at h.0)),
  subst (λ zs. AllByRecursion (Matches (bank_meaning bank i) (found i zs)) tops) (sym h.1)
      (all_listed (Matches (bank_meaning bank i) (found i (worths_up i bank (reached bank tops last) last))) tops
      (λ m e. (let q = listed_all (IsIn last) tops within m e in let b : m ≤ last = q.1 in found_matches bank is i proper (reached bank tops last) (part_reached bank is tops last within) last m q.1 q.0 (omega arith) (top_reached bank is tops last within m e)))),
)
evaluated bank is i proper tops last within most (Err Wide) h =
    λ all. h (fits_all bank is i proper (reached bank tops last) (part_reached bank is tops last within) last (λ k x some le mark at. all k x (reached_under bank is tops last within k mark) at))
evaluated bank is i proper tops last within most (Err Memory) h = tt

pub evaluated_by : (bank : List Node) → IsBank bank → (i : Interpretation) → IsInterpretation i → (tops : List ℕ) (last : ℕ) → AllByRecursion (IsIn last) tops → last ≤ length bank → (marks : List Bool) → marks ≡ reached bank tops last → (r : Result (List Worth) EvalError)
    → Evaluates (FitsUp i bank marks last) (worths_up i bank marks last) r
    → EvaluatesTo (FitUnder bank tops (bank_meaning bank i)) (λ ws. AllByRecursion (Matches (bank_meaning bank i) (found i ws)) tops) r
evaluated_by bank is i proper tops last within most marks e r h =
    evaluated bank is i proper tops last within most r (subst (λ bs. Evaluates (FitsUp i bank bs last) (worths_up i bank bs last) r) e h)

-- ---- what the calls answer
pub same_place : (v : Valuation) (i : Interpretation) (ws : List Worth) (k : ℕ) (fs : List ℕ) → AllByRecursion (Matches v (found i ws)) fs → failing_from k (λ n. flag_in (item_at ws n)) fs ≡ failing_from k v.truth fs
same_place v i ws k [] h = refl
same_place v i ws k (f ∷ fs) h = λ j. if h.0.truth j then same_place v i ws (k + 1) fs h.1 j else Some k

pub formulas_in : (bank : List Node) (fs : List ℕ) → AllByRecursion (IsFormulaOf bank) fs → AllByRecursion (IsIn (length bank)) fs
formulas_in bank fs h = all_weaker (IsFormulaOf bank) (IsIn (length bank)) (formula_in_range bank) fs h

pub int_by : (bank : List Node) → IsBank bank → (i : Interpretation) → IsInterpretation i → (form : List (ℤ × Atom)) (constant : ℤ) (ns : List ℕ) (ws : List Worth) (r : Result ℤ EvalError) → ns ≡ form_parts form
    → FitUnder bank ns (bank_meaning bank i) × AllByRecursion (Matches (bank_meaning bank i) (found i ws)) ns
    → Evaluates (AllByRecursion (TermFits no_parts (found i ws)) form × FitsSigned w128 (form_value no_parts (found i ws) form +ℤ constant)) (form_value no_parts (found i ws) form +ℤ constant) r
    → Evaluates (FitUnder bank (form_parts form) (bank_meaning bank i) × (AllByRecursion (TermFits no_parts (bank_meaning bank i)) form × FitsSigned w128 (form_value no_parts (bank_meaning bank i) form +ℤ constant))) (form_value no_parts (bank_meaning bank i) form +ℤ constant) r
int_by bank is i proper form constant ns ws r named h answer =
    by r (subst (λ T. T) (λ j. Evaluates (terms j × FitsSigned w128 (sum j +ℤ constant)) (sum j +ℤ constant) r) answer)
  where
    matched : AllByRecursion (Matches (bank_meaning bank i) (found i ws)) (form_parts form)
    matched = subst (λ ms. AllByRecursion (Matches (bank_meaning bank i) (found i ws)) ms) named h.1

    under : FitUnder bank (form_parts form) (bank_meaning bank i)
    under = subst (λ ms. FitUnder bank ms (bank_meaning bank i)) named h.0

    fit : BankFits bank i (bank_meaning bank i)
    fit = bank_meanings_fit bank is i proper

    terms : AllByRecursion (TermFits no_parts (found i ws)) form ≡ AllByRecursion (TermFits no_parts (bank_meaning bank i)) form
    terms = terms_fit i (bank_meaning bank i) (found i ws) fit.no_repeats (λ c. sym (fit.ints c)) form matched

    sum : form_value no_parts (found i ws) form ≡ form_value no_parts (bank_meaning bank i) form
    sum = form_same i (bank_meaning bank i) (found i ws) fit.no_repeats (λ c. sym (fit.ints c)) form matched

    by : (r : Result ℤ EvalError)
        → Evaluates (AllByRecursion (TermFits no_parts (bank_meaning bank i)) form × FitsSigned w128 (form_value no_parts (bank_meaning bank i) form +ℤ constant)) (form_value no_parts (bank_meaning bank i) form +ℤ constant) r
        → Evaluates (FitUnder bank (form_parts form) (bank_meaning bank i) × (AllByRecursion (TermFits no_parts (bank_meaning bank i)) form × FitsSigned w128 (form_value no_parts (bank_meaning bank i) form +ℤ constant))) (form_value no_parts (bank_meaning bank i) form +ℤ constant) r
    by (Ok z) a = ((under, a.0), a.1)
    by (Err Wide) a = λ p. a p.1
    by (Err Memory) a = tt
