-- The constants of a stock have the sorts that they have in the bank.
use Rattle.std.proofs.Common.{◌≡◌, ℕ, zero, suc, ℤ, List, [], ◌∷◌, map, Option, Some, None}
use Rattle.std.specs.Prelude.{nat_eq, slice_get, ⊤}
use Rattle.std.specs.List.{flat_map, AllByRecursion}
use Rattle.sc_base.specs.Numbered.{item_at}
use Rattle.sc_terms.specs.declared.atoms.Atom.{Atom}
use Rattle.sc_terms.specs.declared.atoms.Atom.TheVariants as atoms
use Rattle.sc_terms.specs.declared.nodes.Element.{Element}
use Rattle.sc_terms.specs.declared.nodes.Element.TheVariants as elements
use Rattle.sc_terms.specs.declared.nodes.Formula.{Formula}
use Rattle.sc_terms.specs.declared.nodes.Formula.TheVariants as formulas
use Rattle.sc_terms.specs.declared.nodes.Node.{Node}
use Rattle.sc_terms.specs.declared.nodes.Node.TheVariants as nodes
use Rattle.sc_terms.specs.declared.nodes.SetTerm.{SetTerm}
use Rattle.sc_terms.specs.declared.nodes.SetTerm.TheVariants as sets
use Rattle.sc_terms.specs.declared.nodes.Sort.{Sort}
use Rattle.sc_terms.specs.declared.nodes.Sort.TheVariants as sorts
use Rattle.sc_terms.specs.Bank.{FormHasSorts, FormulaHasSorts, SetHasSorts, ElementHasSorts, NodeHasSorts, HasSorts}
use Rattle.sc_flatten.specs.Walk.{constants_at, form_constants, order_of}
use Rattle.sc_flatten.specs.Classes.{pairs_of, diff_of_pair}
use Rattle.sc_flatten.specs.Stock.{Numbering, numbering_of, formula_in, set_in, element_in, formula_by, set_by, element_by, formulas_by, walked_by}
use Rattle.sc_flatten.specs.Laws.{FlagIsOf, SetIsOf, ElementIsOf, SortsStay}
use Rattle.sc_flatten.proofs.Lists.{all_from, all_map, all_joined, all_flat_map}
use Rattle.sc_flatten.proofs.Problems.{all_inserted}

module _ (known : List Sort) where
  -- a node of a bank whose constants have their sorts
  NodeIsSorted : Option Node → Type 0
  NodeIsSorted (Some x) = NodeHasSorts known x
  NodeIsSorted None = ⊤

  abbrev IsInt : ℕ → Type 0
  IsInt c = item_at known c ≡ Some sorts.Int

  get_sorted : (bank : List Node) (k : ℕ) → HasSorts known bank → NodeIsSorted (slice_get bank k)
  unfolding NodeIsSorted
  get_sorted [] k h = tt
  get_sorted (x ∷ xs) zero h = h.0
  get_sorted (x ∷ xs) (suc k) h = get_sorted xs k h.1

  item_sorted : (bank : List Node) (n : ℕ) → HasSorts known bank → NodeIsSorted (item_at bank n)
  unfolding NodeIsSorted
  item_sorted bank zero h = tt
  item_sorted bank (suc k) h = get_sorted bank k h

  -- ---- each kind of node
  flag_is : (by : Numbering) (f : Formula) → FormulaHasSorts known f → FlagIsOf known (formula_in by f)
  flag_is by (formulas.Flag c) h = h
  flag_is by _ h = tt

  set_is : (by : Numbering) (s : SetTerm) → SetHasSorts known s → SetIsOf known (set_in by s)
  set_is by (sets.Const c sort) h = h
  set_is by _ h = tt

  element_is : (by : Numbering) (e : Element) → ElementHasSorts known e → ElementIsOf known (element_in by e)
  element_is by (elements.Const c sort) h = h
  element_is by _ h = tt

  flag_by : (by : Numbering) (o : Option Node) → NodeIsSorted o → FlagIsOf known (formula_by by o)
  unfolding NodeIsSorted
  flag_by by (Some (nodes.Formula f)) h = flag_is by f h
  flag_by by _ h = tt

  set_sorted_by : (by : Numbering) (o : Option Node) → NodeIsSorted o → SetIsOf known (set_by by o)
  unfolding NodeIsSorted
  set_sorted_by by (Some (nodes.Set s)) h = set_is by s h
  set_sorted_by by _ h = tt

  element_sorted_by : (by : Numbering) (o : Option Node) → NodeIsSorted o → ElementIsOf known (element_by by o)
  unfolding NodeIsSorted
  element_sorted_by by (Some (nodes.Element e)) h = element_is by e h
  element_sorted_by by _ h = tt

  form_ints : (form : List (ℤ × Atom)) → FormHasSorts known form → AllByRecursion IsInt (form_constants form)
  form_ints [] h = tt
  form_ints ((z, atoms.Int n) ∷ ps) h = (h.0, form_ints ps h.1)
  form_ints ((z, atoms.Card s) ∷ ps) h = form_ints ps h.1
  form_ints ((z, atoms.Diff e) ∷ ps) h = form_ints ps h.1
  form_ints ((z, atoms.Size cube) ∷ ps) h = form_ints ps h.1

  node_ints : (o : Option Node) → NodeIsSorted o → AllByRecursion IsInt (constants_at o)
  unfolding NodeIsSorted
  node_ints (Some (nodes.Formula (formulas.Le row))) h = form_ints row.form h
  node_ints (Some (nodes.Element (elements.Number affine))) h = form_ints affine.form h
  node_ints _ h = tt

  diffs_sorted : (pairs : List (ℕ × ℕ)) → AllByRecursion (ElementIsOf known) (map diff_of_pair pairs)
  diffs_sorted [] = tt
  diffs_sorted (p ∷ ps) = (tt, diffs_sorted ps)

  each : (P : ℕ → Type 0) (ns : List ℕ) → ((n : ℕ) → P n) → AllByRecursion P ns
  each P ns f = all_from P ns (λ n h. f n)

pub sorts_stay : SortsStay
sorts_stay known bank assertions is formulas sorted =
    let by : Numbering = numbering_of bank assertions in
    record {
      formulas = all_map (FlagIsOf known) (λ n. formula_by by (item_at bank n)) by.formulas (each known (λ n. FlagIsOf known (formula_by by (item_at bank n))) by.formulas (λ n. flag_by known by (item_at bank n) (item_sorted known bank n sorted)));
      sets = all_map (SetIsOf known) (λ n. set_by by (item_at bank n)) by.sets (each known (λ n. SetIsOf known (set_by by (item_at bank n))) by.sets (λ n. set_sorted_by known by (item_at bank n) (item_sorted known bank n sorted)));
      elements = all_joined (ElementIsOf known) (walked_by bank by) (map diff_of_pair (pairs_of (formulas_by bank by)))
          (all_map (ElementIsOf known) (λ n. element_by by (item_at bank n)) by.elements (each known (λ n. ElementIsOf known (element_by by (item_at bank n))) by.elements (λ n. element_sorted_by known by (item_at bank n) (item_sorted known bank n sorted))))
          (diffs_sorted known (pairs_of (formulas_by bank by)));
      ints = all_inserted nat_eq (λ c. item_at known c ≡ Some sorts.Int) [] (flat_map (λ n. constants_at (item_at bank n)) (order_of bank assertions)) tt (all_flat_map (λ c. item_at known c ≡ Some sorts.Int) (λ n. constants_at (item_at bank n)) (order_of bank assertions) (each known (λ n. AllByRecursion (λ c. item_at known c ≡ Some sorts.Int) (constants_at (item_at bank n))) (order_of bank assertions) (λ n. node_ints known (item_at bank n) (item_sorted known bank n sorted))));
    }
