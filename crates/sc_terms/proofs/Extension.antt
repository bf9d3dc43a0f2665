-- Each interpretation of the constants of a problem has values of all nodes that fit it.
use Rattle.std.proofs.Common.{◌≡◌, ℕ, zero, suc, ◌<◌, ◌≤◌, ℤ, pos, List, [], ◌∷◌, length, Option, Some, None, refl, ap, ◌∙◌, arith}
use Rattle.std.specs.Prelude.{filter, zip}
use Rattle.std.specs.List.{list_any, list_all, AllByRecursion, IsDistinct}
use Rattle.std.specs.Ordering.{int_eq}
use Rattle.sc_terms.specs.declared.atoms.Atom.{Atom}
use Rattle.sc_terms.specs.declared.atoms.Atom.TheVariants as atoms
use Rattle.sc_terms.specs.declared.atoms.Cube.{Cube}
use Rattle.sc_terms.specs.declared.atoms.Sign.{Sign}
use Rattle.sc_base.specs.Numbered.{item_at}
use Rattle.sc_base.proofs.Integers.{all_weaker}
use Rattle.sc_terms.specs.declared.nodes.Element.{Element}
use Rattle.sc_terms.specs.declared.nodes.Element.TheVariants as elements
use Rattle.sc_terms.specs.declared.nodes.SetTerm.{SetTerm}
use Rattle.sc_terms.specs.declared.nodes.SetTerm.TheVariants as sets
use Rattle.sc_terms.specs.declared.nodes.Formula.{Formula}
use Rattle.sc_terms.specs.declared.nodes.Formula.TheVariants as formulas
use Rattle.sc_terms.specs.declared.problem.Parts.{Parts}
use Rattle.sc_terms.specs.Lookup.{basis_of, formula_at, set_at, element_at}
use Rattle.sc_terms.specs.Meaning.{Interpretation, Valuation, Fits, IsInterpretation, first_inside, is_inside, signed_basis, cube_members, form_value, atom_value, truth_of, members_of, element_of}
use Rattle.sc_terms.proofs.Distinct.{members_or-distinct}
use Rattle.sc_terms.specs.Conditions.{Ranks, AtomBelow, FormBelow, SetBelow, ElementBelow, FormulaBelow, Descends, MeaningsFit}
use Rattle.sc_terms.specs.Values.{truth_or, members_or, value_or, number_or, values, node_count}

-- two valuations agree at the nodes of a rank below r
record Agree (ranks : Ranks) (r : ℕ) (v w : Valuation) : Type 0 where
  truths : (n : ℕ) → ranks.formula n < r → v.truth n ≡ w.truth n
  sets : (n : ℕ) → ranks.set n < r → v.members n ≡ w.members n
  elements : (n : ℕ) → ranks.element n < r → v.element n ≡ w.element n
  ints : (n : ℕ) → v.int n ≡ w.int n

-- the members of a cube are known by those of its basis sets
module _ (problem : Parts) (v w : Valuation) where
  zip-sets : (P : ℕ → Type 0) (basis : List ℕ) (signs : List Sign) → AllByRecursion P basis → AllByRecursion (λ s. P s.0) (zip basis signs)
  zip-sets P [] signs h = tt
  zip-sets P (s ∷ ss) [] h = tt
  zip-sets P (s ∷ ss) (x ∷ xs) h = (h.0, zip-sets P ss xs h.1)

  first-same : (ss : List (ℕ × Sign)) → AllByRecursion (λ s. v.members s.0 ≡ w.members s.0) ss → first_inside v ss ≡ first_inside w ss
  first-same [] h = refl
  first-same (s ∷ ss) h = rw (h.0, first-same ss h.1)

  inside-same : (ss : List (ℕ × Sign)) → AllByRecursion (λ s. v.members s.0 ≡ w.members s.0) ss → (x : ℤ) → is_inside v ss x ≡ is_inside w ss x
  inside-same [] h x = refl
  inside-same (s ∷ ss) h x = rw (h.0, inside-same ss h.1 x)

  pub cube-same : (c : Cube) → AllByRecursion (λ s. v.members s ≡ w.members s) (basis_of problem c.component) → cube_members problem v c ≡ cube_members problem w c
  cube-same c h =
      let all = zip-sets (λ s. v.members s ≡ w.members s) (basis_of problem c.component) c.signs h in
      let tests : is_inside v (signed_basis problem c) ≡ is_inside w (signed_basis problem c) = λ i x. inside-same (signed_basis problem c) all x i in
      λ i. filter (tests i) (first-same (signed_basis problem c) all i)

module _ (problem : Parts) (i : Interpretation) (ranks : Ranks) (r : ℕ) (v w : Valuation) (same : Agree ranks r v w) where
  atom-same : (a : Atom) → AtomBelow problem ranks r a → atom_value problem v a ≡ atom_value problem w a
  atom-same (atoms.Int n) h = same.ints n
  atom-same (atoms.Card s) h = ap (λ xs. pos (length xs)) (same.sets s h)
  atom-same (atoms.Diff e) h = same.elements e h
  atom-same (atoms.Size c) h = ap (λ xs. pos (length xs)) (cube-same problem v w c (all_weaker (λ s. ranks.set s < r) (λ s. v.members s ≡ w.members s) same.sets (basis_of problem c.component) h))

  form-same : (form : List (ℤ × Atom)) → FormBelow problem ranks r form → form_value problem v form ≡ form_value problem w form
  form-same [] h = refl
  form-same (p ∷ ps) h = rw (atom-same p.1 h.0, form-same ps h.1)

  members-same : (s : SetTerm) → SetBelow ranks r s → members_of i v s ≡ members_of i w s
  members-same (sets.Const c sort) h = refl
  members-same (sets.Empty sort) h = refl
  members-same (sets.Single e) h = rw (same.elements e h)
  members-same (sets.Union s t) h = rw (same.sets s h.0, same.sets t h.1)
  members-same (sets.Inter s t) h = rw (same.sets s h.0, same.sets t h.1)
  members-same (sets.Minus s t) h = rw (same.sets s h.0, same.sets t h.1)

  element-same : (e : Element) → ElementBelow problem ranks r e → element_of problem i v e ≡ element_of problem i w e
  element-same (elements.Const c sort) h = refl
  element-same (elements.Number affine) h = rw (form-same affine.form h)
  element-same (elements.Diff s t) h = rw (same.sets s h.0, same.sets t h.1)

  all-same : (fs : List ℕ) → AllByRecursion (λ f. ranks.formula f < r) fs → list_all v.truth fs ≡ list_all w.truth fs
  all-same [] h = refl
  all-same (f ∷ fs) h = rw (same.truths f h.0, all-same fs h.1)

  any-same : (fs : List ℕ) → AllByRecursion (λ f. ranks.formula f < r) fs → list_any v.truth fs ≡ list_any w.truth fs
  any-same [] h = refl
  any-same (f ∷ fs) h = rw (same.truths f h.0, any-same fs h.1)

  truth-same : (f : Formula) → FormulaBelow problem ranks r f → truth_of problem i v f ≡ truth_of problem i w f
  truth-same formulas.True h = refl
  truth-same formulas.False h = refl
  truth-same (formulas.Flag c) h = refl
  truth-same (formulas.Not f) h = rw (same.truths f h)
  truth-same (formulas.And fs) h = all-same fs h
  truth-same (formulas.Or fs) h = any-same fs h
  truth-same (formulas.Iff f g) h = rw (same.truths f h.0, same.truths g h.1)
  truth-same (formulas.Eq e f) h = rw (same.elements e h.0, same.elements f h.1)
  truth-same (formulas.EqSet s t) h = rw (same.sets s h.0, same.sets t h.1)
  truth-same (formulas.Member e s) h = rw (same.elements e h.0, same.sets s h.1)
  truth-same (formulas.Le row) h = rw (form-same row.form h)

module _ (problem : Parts) (i : Interpretation) (proper : IsInterpretation i) (depth : ℕ) (ranks : Ranks) (falls : Descends problem depth ranks) where
  agree_below : (m n : ℕ) (v w : Valuation) → m ≤ n → Agree ranks n v w → Agree ranks m v w
  agree_below m n v w le a = record {
    truths = λ k h. a.truths k (omega arith);
    sets = λ k h. a.sets k (omega arith);
    elements = λ k h. a.elements k (omega arith);
    ints = a.ints;
  }

  -- one level more changes no value of a rank below
  truth-stays : (k n : ℕ) (o : Option Formula) → formula_at problem n ≡ o → ranks.formula n < suc k → Agree ranks k (values problem i k) (values problem i (suc k)) → truth_or o (truth_of problem i (values problem i k)) ≡ truth_or o (truth_of problem i (values problem i (suc k)))
  truth-stays k n None at h a = refl
  truth-stays k n (Some f) at h a =
      let le : ranks.formula n ≤ k = omega arith in
      truth-same problem i ranks (ranks.formula n) (values problem i k) (values problem i (suc k)) (agree_below (ranks.formula n) k _ _ le a) f ((falls.formulas n f at).1)

  members-stay : (k n : ℕ) (o : Option SetTerm) → set_at problem n ≡ o → ranks.set n < suc k → Agree ranks k (values problem i k) (values problem i (suc k)) → members_or o (members_of i (values problem i k)) ≡ members_or o (members_of i (values problem i (suc k)))
  members-stay k n None at h a = refl
  members-stay k n (Some s) at h a =
      let le : ranks.set n ≤ k = omega arith in
      members-same problem i ranks (ranks.set n) (values problem i k) (values problem i (suc k)) (agree_below (ranks.set n) k _ _ le a) s ((falls.sets n s at).1)

  element-stays : (k n : ℕ) (o : Option Element) → element_at problem n ≡ o → ranks.element n < suc k → Agree ranks k (values problem i k) (values problem i (suc k)) → value_or o (element_of problem i (values problem i k)) ≡ value_or o (element_of problem i (values problem i (suc k)))
  element-stays k n None at h a = refl
  element-stays k n (Some e) at h a =
      let le : ranks.element n ≤ k = omega arith in
      element-same problem i ranks (ranks.element n) (values problem i k) (values problem i (suc k)) (agree_below (ranks.element n) k _ _ le a) e ((falls.elements n e at).1)

  int-stays : (k n : ℕ) → (values problem i k).int n ≡ (values problem i (suc k)).int n
  int-stays zero n = refl
  int-stays (suc k) n = refl

  stays : (k : ℕ) → Agree ranks k (values problem i k) (values problem i (suc k))
  stays zero = record {
    truths = λ n h. absurd (omega arith);
    sets = λ n h. absurd (omega arith);
    elements = λ n h. absurd (omega arith);
    ints = λ n. refl;
  }
  stays (suc k) = record {
    truths = λ n h. truth-stays k n (formula_at problem n) refl h (stays k);
    sets = λ n h. members-stay k n (set_at problem n) refl h (stays k);
    elements = λ n h. element-stays k n (element_at problem n) refl h (stays k);
    ints = λ n. refl;
  }

  ints-fit : (k n c : ℕ) → item_at problem.ints n ≡ Some c → (values problem i k).int n ≡ i.numbers c
  ints-fit zero n c e = ap (λ o. number_or o i.numbers) e
  ints-fit (suc k) n c e = ap (λ o. number_or o i.numbers) e

  no_repeats : (k n : ℕ) → IsDistinct int_eq ((values problem i k).members n)
  unfolding IsDistinct
  no_repeats zero n = tt
  no_repeats (suc k) n = members_or-distinct i proper (values problem i k) (no_repeats k) (set_at problem n)

  pub values_fit : Fits problem i (values problem i depth)
  values_fit = record {
    truths = λ n f e. (stays depth).truths n ((falls.formulas n f e).0) ∙ ap (λ o. truth_or o (truth_of problem i (values problem i depth))) e;
    sets = λ n s e. (stays depth).sets n ((falls.sets n s e).0) ∙ ap (λ o. members_or o (members_of i (values problem i depth))) e;
    elements = λ n x e. (stays depth).elements n ((falls.elements n x e).0) ∙ ap (λ o. value_or o (element_of problem i (values problem i depth))) e;
    ints = ints-fit depth;
    no_repeats = no_repeats depth;
  }

pub meanings_fit : MeaningsFit
meanings_fit problem is i proper = values_fit problem i proper (node_count problem) is.acyclic.0 is.acyclic.1
