-- The values that are read off a settled path make the problem true.
use Rattle.std.proofs.Common.{◌≡◌, ℕ, zero, suc, Bool, true, false, ◌||◌, pos, List, [], ◌∷◌, length, Option, Some, None, ◌⊎◌, inl, inr, refl, sym, ap, subst, ◌∙◌}
use Rattle.std.specs.Prelude.{is_some, slice_get}
use Rattle.std.specs.FinMap as map
use Rattle.std.specs.List.{list_any, AllByRecursion}
use Rattle.std.specs.Cmp.{unsigned_Decides}
use Rattle.std.proofs.lemmas.Bool.{false≢true}
use Rattle.sc_base.specs.declared.span.Span.{Span}
use Rattle.sc_base.specs.Numbered.{item_at}
use Rattle.sc_base.specs.Spans.{members}
use Rattle.sc_base.proofs.Bools.{or_right}
use Rattle.sc_terms.specs.declared.interp.Value.{Value}
use Rattle.sc_terms.specs.declared.interp.Value.TheVariants.{Flag, Number, Set}
use Rattle.sc_terms.specs.declared.nodes.Formula.{Formula}
use Rattle.sc_terms.specs.declared.nodes.Formula.TheVariants as formulas
use Rattle.sc_terms.specs.declared.nodes.SetTerm.{SetTerm}
use Rattle.sc_terms.specs.declared.nodes.SetTerm.TheVariants as sets
use Rattle.sc_terms.specs.declared.nodes.Element.{Element}
use Rattle.sc_terms.specs.declared.nodes.Element.TheVariants as elements
use Rattle.sc_terms.specs.declared.problem.Parts.{Parts}
use Rattle.sc_terms.specs.Lookup.{element_at, is_flag, is_set_constant, is_element_constant, is_named}
use Rattle.sc_terms.specs.Meaning.{IsInterpretation, Valuation, Fits, AllTrue}
use Rattle.sc_terms.specs.Values.{ValueMap, Holds, interpretation_of, flag_of, number_of, elements_of, meaning, Shows, FormulaFits, ElementFits}
use Rattle.sc_terms.specs.Conditions.{IsIn, IsProblem, MeaningsFit}
use Rattle.sc_terms.proofs.Ranges.{item_all}
use Rattle.sc_facts.specs.declared.fact.Fact.{Fact}
use Rattle.sc_rules.specs.Boolean.{sign}
use Rattle.sc_sorts.specs.Sorted.{SortsMatch}
use Rattle.sc_sorts.specs.Posed.{NamesFlag, NamesSet, NamesElement, IsOfScript, IsIntless, IsIntlessFormula, IsIntlessElement, NodesFit, IsNoDiff, NamesNoDiff}
use Rattle.sc_model.specs.Settled.{IsSettledBy}
use Rattle.sc_model.specs.Modelling.{AreLabelsIn, IsReadOff, IsModelOf, ReadOffValuesShow, SettledPathsHaveModels}
use Rattle.sc_model.proofs.Paths.{item_there}
use Rattle.sc_model.proofs.Held.{held}
use Rattle.sc_model.proofs.Signed.{signs_true}

some_value : {X : Type 0} (o : Option X) → is_some o ≡ true → (x : X) × (o ≡ Some x)
some_value None e = absurd (false≢true e)
some_value (Some x) e = (x, refl)

any_at : {X : Type 0} (t : X → Bool) (xs : List X) (n : ℕ) (x : X) → item_at xs n ≡ Some x → t x ≡ true → list_any t xs ≡ true
any_at t xs zero x e h = absurd cc
any_at {X} t xs (suc n) x e h = at xs n e
  where
    at : (ys : List X) (k : ℕ) → slice_get ys k ≡ Some x → list_any t ys ≡ true
    at [] k g = absurd cc
    at (y ∷ ys) zero g = let same : y ≡ x = cc in rw (same, h) refl
    at (y ∷ ys) (suc k) g = or_right (t y) (list_any t ys) (at ys k g)

module _ (problem : Parts) (path : List Fact) (label : ℕ → ℕ) (m : ValueMap) (is : IsModelOf problem path label m) where
  some_of : (a b c d : Bool) → (a ≡ true) ⊎ ((b ≡ true) ⊎ (c ≡ true)) → (a || b || c || d) ≡ true
  some_of true b c d h = refl
  some_of false true c d h = refl
  some_of false false true d h = refl
  some_of false false false d (inl e) = absurd (false≢true e)
  some_of false false false d (inr (inl e)) = absurd (false≢true e)
  some_of false false false d (inr (inr e)) = absurd (false≢true e)

  named_by : (c : ℕ) (value : Value) → IsReadOff problem path label c value → is_named problem c ≡ true
  named_by c (Flag b) r = some_of _ (list_any (is_set_constant c) problem.sets) (list_any (is_element_constant c) problem.elements) _ (inl (any_at (is_flag c) problem.formulas r.0 _ r.1 ((unsigned_Decides c c).1 refl)))
  named_by c (Set spans) r = some_of (list_any (is_flag c) problem.formulas) _ (list_any (is_element_constant c) problem.elements) _ (inr (inl (any_at (is_set_constant c) problem.sets r.0 _ r.1.1 ((unsigned_Decides c c).1 refl))))
  named_by c (Number z) r = some_of (list_any (is_flag c) problem.formulas) (list_any (is_set_constant c) problem.sets) _ _ (inr (inr (any_at (is_element_constant c) problem.elements r.0 _ r.1.1 ((unsigned_Decides c c).1 refl))))

  formulas_fit : (v : Valuation) (fs : List Formula) → AllByRecursion IsIntlessFormula fs → AllByRecursion (FormulaFits problem v) fs
  formulas_fit v [] h = tt
  formulas_fit v (f ∷ fs) h = (one f h.0, formulas_fit v fs h.1)
    where
      one : (g : Formula) → IsIntlessFormula g → FormulaFits problem v g
      one (formulas.Le row) b = absurd b
      one _ b = tt

  elements_fit : (v : Valuation) (es : List Element) → AllByRecursion IsIntlessElement es → AllByRecursion (ElementFits problem v) es
  elements_fit v [] h = tt
  elements_fit v (e ∷ es) h = (one e h.0, elements_fit v es h.1)
    where
      one : (x : Element) → IsIntlessElement x → ElementFits problem v x
      one (elements.Number affine) b = absurd b
      one _ b = tt

  nodes_fit : IsIntless problem → (v : Valuation) → NodesFit problem v
  nodes_fit intless v = record { formulas = formulas_fit v problem.formulas intless.formulas; elements = elements_fit v problem.elements intless.elements }

  pub shows_held : IsInterpretation (interpretation_of m) → Holds problem (interpretation_of m) → NodesFit problem (meaning problem (interpretation_of m)) → Shows problem m
  shows_held proper held fit = record {
    proper = proper;
    holds = held;
    names = λ c has. let value = some_value (map.get m c) has in named_by c value.0 (is.read_off c value.0 value.1);
    formulas_fit = fit.formulas;
    elements_fit = fit.elements;
  }

module _ (problem : Parts) (script : IsOfScript problem) (intless : IsIntless problem) (path : List Fact) (label : ℕ → ℕ) (m : ValueMap) (is : IsModelOf problem path label m) where
  flag_by : (n c : ℕ) → NamesFlag problem n c → (value : Value) → IsReadOff problem path label c value → value ≡ Flag (sign path n true)
  flag_by n c at (Flag b) r = ap Flag (r.2 ∙ ap (λ k. sign path k true) (script.constants.one_flag c r.0 n r.1 at))
  flag_by n c at (Number z) r = absurd (script.constants.no_element_flag c n r.0 at r.1)
  flag_by n c at (Set spans) r = absurd (script.constants.no_set_flag c n r.0 at r.1)

  number_by : (n c : ℕ) → NamesElement problem n c → (value : Value) → IsReadOff problem path label c value → value ≡ Number (pos (label n))
  number_by n c at (Number z) r = ap Number (r.2 ∙ ap (λ k. pos (label k)) (script.constants.one_element c r.0 n r.1 at))
  number_by n c at (Flag b) r = absurd (script.constants.no_element_flag c r.0 n r.1 at)
  number_by n c at (Set spans) r = absurd (script.constants.no_element_set c r.0 n r.1 at)

  set_by : (n c : ℕ) → NamesSet problem n c → (value : Value) → IsReadOff problem path label c value → (spans : List Span) × (value ≡ Set spans) × AreLabelsIn problem path label n (members spans)
  set_by n c at (Set spans) r = (spans, refl, subst (λ k. AreLabelsIn problem path label k (members spans)) (script.constants.one_set c r.0 n r.1 at) r.2)
  set_by n c at (Flag b) r = absurd (script.constants.no_set_flag c r.0 n r.1 at)
  set_by n c at (Number z) r = absurd (script.constants.no_element_set c n r.0 at r.1)

  flag_is : (n c : ℕ) → NamesFlag problem n c → (interpretation_of m).flags c ≡ sign path n true
  flag_is n c at =
      let value = some_value (map.get m c) (is.flags n c at) in
      ap flag_of (value.1 ∙ ap Some (flag_by n c at value.0 (is.read_off c value.0 value.1)))

  number_is : (n c : ℕ) → NamesElement problem n c → (interpretation_of m).numbers c ≡ pos (label n)
  number_is n c at =
      let value = some_value (map.get m c) (is.elements n c at) in
      ap number_of (value.1 ∙ ap Some (number_by n c at value.0 (is.read_off c value.0 value.1)))

  members_are : (n c : ℕ) → NamesSet problem n c → AreLabelsIn problem path label n ((interpretation_of m).sets c)
  members_are n c at =
      let value = some_value (map.get m c) (is.sets n c at) in
      let spans = set_by n c at value.0 (is.read_off c value.0 value.1) in
      subst (λ o. AreLabelsIn problem path label n (elements_of o)) (sym (value.1 ∙ ap Some spans.1)) spans.2

  module _ (v : Valuation) (fits : Fits problem (interpretation_of m) v) where
    -- an element that is no differing element is its label
    constant_is : (e : ℕ) → IsIn (length problem.elements) e → IsNoDiff problem e → v.element e ≡ pos (label e)
    constant_is e there no_diff =
        let x = item_there problem.elements e there in
        by x.0 x.1 (item_all IsIntlessElement problem.elements e x.0 intless.elements x.1)
      where
        by : (x : Element) → element_at problem e ≡ Some x → IsIntlessElement x → v.element e ≡ pos (label e)
        by (elements.Const c sort) at clean = fits.elements e (elements.Const c sort) at ∙ number_is e c (sort, at)
        by (elements.Number affine) at clean = absurd clean
        by (elements.Diff s t) at clean = absurd (no_diff s t at)

    roots_true : SortsMatch → IsProblem problem → NamesNoDiff problem → IsSettledBy problem path label → AllTrue v problem.roots
    roots_true match made plain settled = all problem.roots made.roots settled.roots
      where
        holds : (s : ℕ) → IsIn (length problem.sets) s → AreLabelsIn problem path label s (v.members s)
        holds s there = held problem made script.sorted.0 script.sorted.1 match path label settled (interpretation_of m) v fits plain constant_is members_are made.acyclic.0 made.acyclic.1 s there

        all : (rs : List ℕ) → AllByRecursion (IsIn (length problem.formulas)) rs → AllByRecursion (λ r. sign path r true ≡ true) rs → AllTrue v rs
        all [] h e = tt
        all (r ∷ rs) h e = (signs_true problem made script.sorted.0 script.sorted.1 match path label settled plain intless.formulas (interpretation_of m) v fits flag_is constant_is holds made.acyclic.0 made.acyclic.1 r h.0 true e.0, all rs h.1 e.1)

  pub shows : MeaningsFit → SortsMatch → IsProblem problem → IsSettledBy problem path label → IsInterpretation (interpretation_of m) → Shows problem m
  shows meanings match made settled proper =
      let i = interpretation_of m in
      let v = meaning problem i in
      shows_held problem path label m is proper (roots_true v (meanings problem made i proper) match made script.unnamed settled) (nodes_fit problem path label m is intless v)

pub settled_have_models : MeaningsFit → SortsMatch → SettledPathsHaveModels
settled_have_models meanings match problem made script intless path label settled m is proper = shows problem script intless path label m is meanings match made settled proper

pub read_off_show : ReadOffValuesShow
read_off_show problem path label m is proper held fit = shows_held problem path label m is proper held fit
