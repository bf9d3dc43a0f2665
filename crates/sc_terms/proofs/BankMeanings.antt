-- Each interpretation gives the nodes of a bank values that fit it, and they stay as the bank grows.
use Rattle.std.proofs.Common.{◌≡◌, ℕ, zero, suc, ◌+◌, ◌<◌, ◌≤◌, Bool, true, false, ℤ, pos, List, [], ◌∷◌, ◌++◌, take, length, Option, Some, None, refl, sym, ap, ◌∙◌, arith}
use Rattle.std.specs.Prelude.{slice_get}
use Rattle.std.specs.List.{list_any, list_all, AllByRecursion, IsDistinct}
use Rattle.std.specs.Ordering.{int_eq}
use Rattle.std.proofs.lemmas.Bool.{false≢true}
use Rattle.std.proofs.lemmas.List.{length-append, length-take-le}
use Rattle.std.proofs.lemmas.Option.{slice_get_within}
use Rattle.sc_base.specs.Numbered.{item_at}
use Rattle.sc_terms.specs.declared.atoms.Atom.{Atom}
use Rattle.sc_terms.specs.declared.atoms.Atom.TheVariants as atoms
use Rattle.sc_terms.specs.declared.nodes.Element.{Element}
use Rattle.sc_terms.specs.declared.nodes.Element.TheVariants as elements
use Rattle.sc_terms.specs.declared.nodes.Formula.{Formula}
use Rattle.sc_terms.specs.declared.nodes.Formula.TheVariants as formulas
use Rattle.sc_terms.specs.declared.nodes.Node.{Node}
use Rattle.sc_terms.specs.declared.nodes.Node.TheVariants as nodes
use Rattle.sc_terms.specs.declared.nodes.SetTerm.{SetTerm}
use Rattle.sc_terms.specs.declared.nodes.SetTerm.TheVariants as sets
use Rattle.sc_terms.specs.Meaning.{Interpretation, IsInterpretation, Valuation, atom_value, form_value, truth_of, members_of, element_of}
use Rattle.sc_terms.specs.Bank.{is_formula, is_set, is_element, IsFormulaOf, IsSetOf, IsElementOf, AtomStands, TermStands, FormulaStands, SetStands, ElementStands, NodeStands, IsBank}
use Rattle.sc_terms.specs.BankValues.{no_parts, truth_at, members_at, element_at, bank_values, bank_meaning, BankFits, BankMeaningsFit, AgreeAt, MeaningsStay}
use Rattle.sc_terms.proofs.Distinct.{members_of-distinct}
use Rattle.sc_terms.proofs.Ranges.{item_in}
use Rattle.sc_terms.proofs.Puts.{get_front}

-- ---- the numbers of a node's parts
has_item : (t : Option Node → Bool) (xs : List Node) (m : ℕ) → t None ≡ false → t (item_at xs m) ≡ true → m ≤ length xs
has_item t xs m none e = by (item_at xs m) refl e
  where
    by : (o : Option Node) → item_at xs m ≡ o → t o ≡ true → m ≤ length xs
    by None at e = absurd (false≢true (sym none ∙ e))
    by (Some x) at e = (item_in xs m x at).1

pub formula_within : (bank : List Node) (m : ℕ) → IsFormulaOf bank m → m ≤ length bank
formula_within bank m e = has_item is_formula bank m refl e

pub set_within : (bank : List Node) (m : ℕ) → IsSetOf bank m → m ≤ length bank
set_within bank m e = has_item is_set bank m refl e

pub element_within : (bank : List Node) (m : ℕ) → IsElementOf bank m → m ≤ length bank
element_within bank m e = has_item is_element bank m refl e

-- ---- a node's value turns on the values of its parts alone
module _ (i : Interpretation) (v w : Valuation) (ints : (c : ℕ) → v.int c ≡ w.int c) (front : List Node) (same : (m : ℕ) → m ≤ length front → AgreeAt v w m) where
  truth_same : (m : ℕ) → IsFormulaOf front m → v.truth m ≡ w.truth m
  truth_same m h = (same m (formula_within front m h)).truth

  set_same : (m : ℕ) → IsSetOf front m → v.members m ≡ w.members m
  set_same m h = (same m (set_within front m h)).members

  value_same : (m : ℕ) → IsElementOf front m → v.element m ≡ w.element m
  value_same m h = (same m (element_within front m h)).element

  atom_same : (a : Atom) → AtomStands front a → atom_value no_parts v a ≡ atom_value no_parts w a
  atom_same (atoms.Int c) h = ints c
  atom_same (atoms.Card s) h = ap (λ xs. pos (length xs)) (set_same s h)
  atom_same (atoms.Diff e) h = absurd h
  atom_same (atoms.Size cube) h = absurd h

  form_same : (form : List (ℤ × Atom)) → AllByRecursion (TermStands front) form → form_value no_parts v form ≡ form_value no_parts w form
  form_same [] h = refl
  form_same (p ∷ ps) h = rw (atom_same p.1 h.0.1, form_same ps h.1)

  all_same : (fs : List ℕ) → AllByRecursion (IsFormulaOf front) fs → list_all v.truth fs ≡ list_all w.truth fs
  all_same [] h = refl
  all_same (f ∷ fs) h = rw (truth_same f h.0, all_same fs h.1)

  any_same : (fs : List ℕ) → AllByRecursion (IsFormulaOf front) fs → list_any v.truth fs ≡ list_any w.truth fs
  any_same [] h = refl
  any_same (f ∷ fs) h = rw (truth_same f h.0, any_same fs h.1)

  formula_same : (f : Formula) → FormulaStands front f → truth_of no_parts i v f ≡ truth_of no_parts i w f
  formula_same formulas.True h = refl
  formula_same formulas.False h = refl
  formula_same (formulas.Flag c) h = refl
  formula_same (formulas.Not f) h = rw (truth_same f h)
  formula_same (formulas.And fs) h = all_same fs h
  formula_same (formulas.Or fs) h = any_same fs h
  formula_same (formulas.Iff f g) h = rw (truth_same f h.0, truth_same g h.1)
  formula_same (formulas.Eq e f) h = rw (value_same e h.0, value_same f h.1)
  formula_same (formulas.EqSet s t) h = rw (set_same s h.0, set_same t h.1)
  formula_same (formulas.Member e s) h = rw (value_same e h.0, set_same s h.1)
  formula_same (formulas.Le row) h = rw (form_same row.form h.1)

  members_same : (s : SetTerm) → SetStands front s → members_of i v s ≡ members_of i w s
  members_same (sets.Const c sort) h = refl
  members_same (sets.Empty sort) h = refl
  members_same (sets.Single e) h = rw (value_same e h)
  members_same (sets.Union s t) h = rw (set_same s h.0, set_same t h.1)
  members_same (sets.Inter s t) h = rw (set_same s h.0, set_same t h.1)
  members_same (sets.Minus s t) h = rw (set_same s h.0, set_same t h.1)

  element_same : (e : Element) → ElementStands front e → element_of no_parts i v e ≡ element_of no_parts i w e
  element_same (elements.Const c sort) h = refl
  element_same (elements.Number affine) h = rw (form_same affine.form h.0.1)
  element_same (elements.Diff s t) h = absurd h

  truth_at_same : (x : Node) → NodeStands front x → truth_at i v (Some x) ≡ truth_at i w (Some x)
  truth_at_same (nodes.Formula f) h = formula_same f h
  truth_at_same (nodes.Set s) h = refl
  truth_at_same (nodes.Element e) h = refl

  members_at_same : (x : Node) → NodeStands front x → members_at i v (Some x) ≡ members_at i w (Some x)
  members_at_same (nodes.Formula f) h = refl
  members_at_same (nodes.Set s) h = members_same s h
  members_at_same (nodes.Element e) h = refl

  element_at_same : (x : Node) → NodeStands front x → element_at i v (Some x) ≡ element_at i w (Some x)
  element_at_same (nodes.Formula f) h = refl
  element_at_same (nodes.Set s) h = refl
  element_at_same (nodes.Element e) h = element_same e h

-- ---- two banks with the same nodes up to a number, and two depths
ints_are : (bank : List Node) (i : Interpretation) (k c : ℕ) → (bank_values bank i k).int c ≡ i.numbers c
ints_are bank i zero c = refl
ints_are bank i (suc k) c = refl

at_zero : (bank : List Node) (i : Interpretation) (k : ℕ) → ((bank_values bank i k).truth 0 ≡ false) × ((bank_values bank i k).members 0 ≡ []) × ((bank_values bank i k).element 0 ≡ pos 0)
at_zero bank i zero = (refl, refl, refl)
at_zero bank i (suc k) = (refl, refl, refl)

module _ (i : Interpretation) (bank other : List Node) (is : IsBank bank) (last : ℕ) (alike : (n : ℕ) → n < last → slice_get bank n ≡ slice_get other n) where
  step : (v w : Valuation) (ints : (c : ℕ) → v.int c ≡ w.int c) (p : ℕ) → ((m : ℕ) → m ≤ p → AgreeAt v w m) → (o : Option Node) → slice_get bank p ≡ o → (truth_at i v o ≡ truth_at i w o) × (members_at i v o ≡ members_at i w o) × (element_at i v o ≡ element_at i w o)
  step v w ints p same None at = (refl, refl, refl)
  step v w ints p same (Some x) at =
      let lt : p < length bank = slice_get_within bank p x at in
      let long : length (take p bank) ≡ p = length-take-le p bank (omega arith) in
      let front : (m : ℕ) → m ≤ length (take p bank) → AgreeAt v w m = λ m le. same m (omega arith) in
      (truth_at_same i v w ints (take p bank) front x (is.stands p x at), members_at_same i v w ints (take p bank) front x (is.stands p x at), element_at_same i v w ints (take p bank) front x (is.stands p x at))

  pub agree : (j k n : ℕ) → n ≤ j → n ≤ k → n ≤ last → AgreeAt (bank_values bank i j) (bank_values other i k) n
  agree j k zero a b c =
      let p = at_zero bank i j in let q = at_zero other i k in record { truth = p.0 ∙ sym q.0; members = p.1 ∙ sym q.1; element = p.2 ∙ sym q.2 }
  agree zero k (suc n) a b c = absurd (omega arith)
  agree (suc j) zero (suc n) a b c = absurd (omega arith)
  agree (suc j) (suc k) (suc n) a b c =
      let v : Valuation = bank_values bank i j in
      let w : Valuation = bank_values other i k in
      let h = step v w (λ c. ints_are bank i j c ∙ sym (ints_are other i k c)) n (λ m le. agree j k m (omega arith) (omega arith) (omega arith)) (slice_get bank n) refl in
      let e : slice_get bank n ≡ slice_get other n = alike n (omega arith) in
      record { truth = h.0 ∙ ap (truth_at i w) e; members = h.1 ∙ ap (members_at i w) e; element = h.2 ∙ ap (element_at i w) e }

-- ---- the laws
module _ (bank : List Node) (is : IsBank bank) (i : Interpretation) where
  deeper : (n : ℕ) (x : Node) → item_at bank n ≡ Some x → AgreeAt (bank_meaning bank i) (bank_values bank i (suc (length bank))) n
  deeper n x at =
      let within : n ≤ length bank = (item_in bank n x at).1 in
      agree i bank bank is (length bank) (λ n lt. refl) (length bank) (suc (length bank)) n within (omega arith) within

  members_at-distinct : IsInterpretation i → (v : Valuation) → ((n : ℕ) → IsDistinct int_eq (v.members n)) → (o : Option Node) → IsDistinct int_eq (members_at i v o)
  unfolding IsDistinct
  members_at-distinct proper v h None = tt
  members_at-distinct proper v h (Some (nodes.Formula f)) = tt
  members_at-distinct proper v h (Some (nodes.Set s)) = members_of-distinct i proper v h s
  members_at-distinct proper v h (Some (nodes.Element e)) = tt

  no_repeats : IsInterpretation i → (k n : ℕ) → IsDistinct int_eq ((bank_values bank i k).members n)
  unfolding IsDistinct
  no_repeats proper zero n = tt
  no_repeats proper (suc k) n = members_at-distinct proper (bank_values bank i k) (no_repeats proper k) (item_at bank n)

  fits : IsInterpretation i → BankFits bank i (bank_meaning bank i)
  fits proper = record {
    truths = λ n f at. (deeper n (nodes.Formula f) at).truth ∙ ap (truth_at i (bank_meaning bank i)) at;
    sets = λ n s at. (deeper n (nodes.Set s) at).members ∙ ap (members_at i (bank_meaning bank i)) at;
    elements = λ n e at. (deeper n (nodes.Element e) at).element ∙ ap (element_at i (bank_meaning bank i)) at;
    ints = ints_are bank i (length bank);
    no_repeats = no_repeats proper (length bank);
  }

pub bank_meanings_fit : BankMeaningsFit
bank_meanings_fit bank is i proper = fits bank is i proper

pub meanings_stay : MeaningsStay
meanings_stay bank more is i n le =
    let long : length (bank ++ more) ≡ length bank + length more = length-append bank more in
    agree i (bank ++ more) bank is (length bank) (λ p lt. get_front bank more p lt) (length (bank ++ more)) (length bank) n (omega arith) le le
