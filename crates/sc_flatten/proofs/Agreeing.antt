-- The nodes of a stock mean what the bank's nodes mean of which they are made.
use Rattle.std.proofs.Common.{◌≡◌, ℕ, zero, suc, ◌<◌, Bool, true, false, not, cond, ℤ, pos, ◌+ℤ◌, ◌*ℤ◌, List, [], ◌∷◌, length, map, Option, Some, refl, sym, ap, ◌∙◌, arith}
use Rattle.std.specs.Prelude.{int_lt}
use Rattle.std.specs.List.{list_any, list_all, AllByRecursion}
use Rattle.std.specs.Ordering.{is_lt}
use Rattle.std.proofs.lemmas.Int.{ints}
use Rattle.sc_base.specs.Numbered.{item_at}
use Rattle.sc_terms.specs.declared.atoms.Atom.{Atom}
use Rattle.sc_terms.specs.declared.atoms.Atom.TheVariants as atoms
use Rattle.sc_terms.specs.declared.nodes.Element.{Element}
use Rattle.sc_terms.specs.declared.nodes.Element.TheVariants as elements
use Rattle.sc_terms.specs.declared.nodes.Formula.{Formula}
use Rattle.sc_terms.specs.declared.nodes.Formula.TheVariants as formulas
use Rattle.sc_terms.specs.declared.nodes.Node.{Node}
use Rattle.sc_terms.specs.declared.nodes.Node.TheVariants as nodes
use Rattle.sc_terms.specs.declared.nodes.SetTerm.{SetTerm}
use Rattle.sc_terms.specs.declared.nodes.SetTerm.TheVariants as sets
use Rattle.sc_terms.specs.declared.problem.Parts.{Parts}
use Rattle.sc_terms.specs.Bank.{IsBank}
use Rattle.sc_terms.specs.BankValues.{no_parts, BankFits}
use Rattle.sc_terms.specs.Forms.{atom_cmp}
use Rattle.sc_terms.specs.Meaning.{Interpretation, Valuation, Fits, atom_value, form_value, truth_of, members_of, element_of}
use Rattle.sc_flatten.specs.Walk.{form_parts, formula_parts, set_parts, element_parts, parts_at}
use Rattle.sc_flatten.specs.Classes.{pairs_of, diff_of_pair}
use Rattle.sc_flatten.specs.Stock.{Numbering, number_in, placed_term, form_in, formula_in, set_in, element_in, formula_by, set_by, element_by, formulas_by, walked_by, problem_by}
use Rattle.sc_flatten.specs.Numbered.{IsAmong, TermListed, FormulaListed, SetListed, ElementListed, FormulaListedAt, SetListedAt, ElementListedAt, IsWhole}
use Rattle.sc_flatten.proofs.Lists.{all_to, all_from, item_map, item_first}
use Rattle.sc_flatten.proofs.Firsts.{number_there}
use Rattle.sc_flatten.proofs.Below.{parts_below}

-- ---- sums don't depend on the order of the terms
module _ (problem : Parts) (v : Valuation) where
  add_swap : (a b c : ℤ) → (a +ℤ (b +ℤ c)) ≡ (b +ℤ (a +ℤ c))
  add_swap a b c = omega (arith, ints)

  pub placed_value : (p : ℤ × Atom) (qs : List (ℤ × Atom)) → form_value problem v (placed_term p qs) ≡ ((p.0 *ℤ atom_value problem v p.1) +ℤ form_value problem v qs)
  placed_value p [] = refl
  placed_value p (q ∷ qs) = go (is_lt (atom_cmp p.1 q.1)) (placed_value p qs) where
    go : (b : Bool) → form_value problem v (placed_term p qs) ≡ ((p.0 *ℤ atom_value problem v p.1) +ℤ form_value problem v qs) → form_value problem v (cond b (p ∷ q ∷ qs) (q ∷ placed_term p qs)) ≡ ((p.0 *ℤ atom_value problem v p.1) +ℤ ((q.0 *ℤ atom_value problem v q.1) +ℤ form_value problem v qs))
    go true e = refl
    go false e = ap (λ z. (q.0 *ℤ atom_value problem v q.1) +ℤ z) e ∙ add_swap (q.0 *ℤ atom_value problem v q.1) (p.0 *ℤ atom_value problem v p.1) (form_value problem v qs)

-- a node of the bank and the node of the stock that it has become have one value
pub record AgreesAt (by : Numbering) (v w : Valuation) (n : ℕ) : Type 0 where
  pub truth : IsAmong by.formulas n → v.truth (number_in by.formulas n) ≡ w.truth n
  pub members : IsAmong by.sets n → v.members (number_in by.sets n) ≡ w.members n
  pub element : IsAmong by.elements n → v.element (number_in by.elements n) ≡ w.element n

module _ (bank : List Node) (is : IsBank bank) (assertions : List ℕ) (by : Numbering) (whole : IsWhole bank assertions by) (i : Interpretation) (v w : Valuation) (fits : Fits (problem_by bank assertions by) i v) (bank_fits : BankFits bank i w) where
  abbrev problem : Parts
  problem = problem_by bank assertions by

  pub int_agrees : (c : ℕ) → IsAmong by.ints c → v.int (number_in by.ints c) ≡ w.int c
  int_agrees c h = fits.ints (number_in by.ints c) c (number_there by.ints c h) ∙ sym (bank_fits.ints c)

  -- what is made of parts that agree agrees
  module _ (below : ℕ → Type 0) (agree : (n : ℕ) → below n → AgreesAt by v w n) where
    pub form_agrees : (form : List (ℤ × Atom)) → AllByRecursion (TermListed by) form → AllByRecursion below (form_parts form) → form_value problem v (form_in by form) ≡ form_value no_parts w form
    form_agrees [] h p = refl
    form_agrees ((z, atoms.Int n) ∷ ps) h p =
        placed_value problem v (z, atoms.Int (number_in by.ints n)) (form_in by ps)
        ∙ (λ j. (z *ℤ int_agrees n h.0.1 j) +ℤ form_agrees ps h.1 p j)
    form_agrees ((z, atoms.Card s) ∷ ps) h p =
        placed_value problem v (z, atoms.Card (number_in by.sets s)) (form_in by ps)
        ∙ (λ j. (z *ℤ pos (length ((agree s p.0).members h.0.1 j))) +ℤ form_agrees ps h.1 p.1 j)
    form_agrees ((z, atoms.Diff e) ∷ ps) h p = absurd h.0.1
    form_agrees ((z, atoms.Size cube) ∷ ps) h p = absurd h.0.1

    all_agree : (fs : List ℕ) → AllByRecursion (IsAmong by.formulas) fs → AllByRecursion below fs → list_all v.truth (map (number_in by.formulas) fs) ≡ list_all w.truth fs
    all_agree [] h p = refl
    all_agree (f ∷ fs) h p = rw ((agree f p.0).truth h.0, all_agree fs h.1 p.1) refl

    any_agree : (fs : List ℕ) → AllByRecursion (IsAmong by.formulas) fs → AllByRecursion below fs → list_any v.truth (map (number_in by.formulas) fs) ≡ list_any w.truth fs
    any_agree [] h p = refl
    any_agree (f ∷ fs) h p = rw ((agree f p.0).truth h.0, any_agree fs h.1 p.1) refl

    truth_agrees : (f : Formula) → FormulaListed by f → AllByRecursion below (formula_parts f) → truth_of problem i v (formula_in by f) ≡ truth_of no_parts i w f
    truth_agrees formulas.True h p = refl
    truth_agrees formulas.False h p = refl
    truth_agrees (formulas.Flag c) h p = refl
    truth_agrees (formulas.Not f) h p = rw ((agree f p.0).truth h) refl
    truth_agrees (formulas.And fs) h p = all_agree fs h p
    truth_agrees (formulas.Or fs) h p = any_agree fs h p
    truth_agrees (formulas.Iff f g) h p = rw ((agree f p.0).truth h.0, (agree g p.1.0).truth h.1) refl
    truth_agrees (formulas.Eq e f) h p = rw ((agree e p.0).element h.0, (agree f p.1.0).element h.1) refl
    truth_agrees (formulas.EqSet s t) h p = rw ((agree s p.0).members h.0, (agree t p.1.0).members h.1) refl
    truth_agrees (formulas.Member e s) h p = rw ((agree e p.0).element h.0, (agree s p.1.0).members h.1) refl
    truth_agrees (formulas.Le row) h p = ap (λ z. not (int_lt row.bound z)) (form_agrees row.form h.1 p)

    members_agree : (s : SetTerm) → SetListed by s → AllByRecursion below (set_parts s) → members_of i v (set_in by s) ≡ members_of i w s
    members_agree (sets.Const c sort) h p = refl
    members_agree (sets.Empty sort) h p = refl
    members_agree (sets.Single e) h p = ap (λ z. z ∷ []) ((agree e p.0).element h)
    members_agree (sets.Union s t) h p = rw ((agree s p.0).members h.0, (agree t p.1.0).members h.1) refl
    members_agree (sets.Inter s t) h p = rw ((agree s p.0).members h.0, (agree t p.1.0).members h.1) refl
    members_agree (sets.Minus s t) h p = rw ((agree s p.0).members h.0, (agree t p.1.0).members h.1) refl

    element_agrees : (e : Element) → ElementListed by e → AllByRecursion below (element_parts e) → element_of problem i v (element_in by e) ≡ element_of no_parts i w e
    element_agrees (elements.Const c sort) h p = refl
    element_agrees (elements.Number affine) h p = ap (λ z. z +ℤ affine.constant) (form_agrees affine.form h.0.1 p)
    element_agrees (elements.Diff s t) h p = absurd h

  -- ---- a node agrees where those with smaller numbers do
  module _ (n : ℕ) (agree : (m : ℕ) → m < n → AgreesAt by v w m) where
    parts_agree : AllByRecursion (λ m. m < n) (parts_at (item_at bank n))
    parts_agree = all_from (λ m. m < n) (parts_at (item_at bank n)) (λ p e. (parts_below bank is n p e).1)

    truth_by : (o : Option Node) → item_at bank n ≡ o → FormulaListedAt by o → AllByRecursion (λ m. m < n) (parts_at o) → formula_by by o ≡ formula_by by (item_at bank n) → truth_of problem i v (formula_by by o) ≡ w.truth n
    truth_by (Some (nodes.Formula f)) e h p g = truth_agrees (λ m. m < n) agree f h p ∙ sym (bank_fits.truths n f e)
    truth_by _ e h p g = absurd h

    members_by : (o : Option Node) → item_at bank n ≡ o → SetListedAt by o → AllByRecursion (λ m. m < n) (parts_at o) → members_of i v (set_by by o) ≡ w.members n
    members_by (Some (nodes.Set s)) e h p = members_agree (λ m. m < n) agree s h p ∙ sym (bank_fits.sets n s e)
    members_by _ e h p = absurd h

    element_value_by : (o : Option Node) → item_at bank n ≡ o → ElementListedAt by o → AllByRecursion (λ m. m < n) (parts_at o) → element_of problem i v (element_by by o) ≡ w.element n
    element_value_by (Some (nodes.Element x)) e h p = element_agrees (λ m. m < n) agree x h p ∙ sym (bank_fits.elements n x e)
    element_value_by _ e h p = absurd h

    agrees : AgreesAt by v w n
    agrees = record {
      truth = λ h.
          fits.truths (number_in by.formulas n) (formula_by by (item_at bank n)) (item_map (λ m. formula_by by (item_at bank m)) by.formulas (number_in by.formulas n) n (number_there by.formulas n h))
          ∙ truth_by (item_at bank n) refl (all_to (λ m. FormulaListedAt by (item_at bank m)) by.formulas whole.formulas n h) parts_agree refl;
      members = λ h.
          fits.sets (number_in by.sets n) (set_by by (item_at bank n)) (item_map (λ m. set_by by (item_at bank m)) by.sets (number_in by.sets n) n (number_there by.sets n h))
          ∙ members_by (item_at bank n) refl (all_to (λ m. SetListedAt by (item_at bank m)) by.sets whole.sets n h) parts_agree;
      element = λ h.
          fits.elements (number_in by.elements n) (element_by by (item_at bank n))
          (item_first (walked_by bank by) (map diff_of_pair (pairs_of (formulas_by bank by))) (number_in by.elements n) (element_by by (item_at bank n)) (item_map (λ m. element_by by (item_at bank m)) by.elements (number_in by.elements n) n (number_there by.elements n h)))
          ∙ element_value_by (item_at bank n) refl (all_to (λ m. ElementListedAt by (item_at bank m)) by.elements whole.elements n h) parts_agree;
    }

  pub all_below_agree : (k m : ℕ) → m < k → AgreesAt by v w m
  all_below_agree zero m h = absurd (omega arith)
  all_below_agree (suc k) m h = agrees m (λ j g. all_below_agree k j (omega arith))

  pub roots_agree : (named : List ℕ) → AllByRecursion (IsAmong by.formulas) named → map v.truth (map (number_in by.formulas) named) ≡ map w.truth named
  roots_agree [] h = refl
  roots_agree (a ∷ named) h = λ j. (all_below_agree (suc a) a (omega arith)).truth h.0 j ∷ roots_agree named h.1 j
