-- The parts of a node of a bank have lower numbers.
use Rattle.std.proofs.Common.{◌≡◌, ℕ, ◌-◌, ◌<◌, ◌≤◌, Bool, true, false, ◌||◌, ℤ, List, [], ◌∷◌, take, length, Option, Some, None, refl, sym, ap, ◌∙◌, subst, arith}
use Rattle.std.specs.Prelude.{nat_eq}
use Rattle.std.specs.List.{AllByRecursion}
use Rattle.std.proofs.lemmas.Bool.{false≢true}
use Rattle.std.proofs.lemmas.List.{length-take-le}
use Rattle.sc_base.specs.Numbered.{item_at}
use Rattle.sc_base.proofs.Integers.{all_weaker, all-append}
use Rattle.sc_terms.specs.declared.atoms.Atom.{Atom}
use Rattle.sc_terms.specs.declared.atoms.Atom.TheVariants as atoms
use Rattle.sc_terms.specs.declared.nodes.Element.{Element}
use Rattle.sc_terms.specs.declared.nodes.Element.TheVariants as elements
use Rattle.sc_terms.specs.declared.nodes.Formula.{Formula}
use Rattle.sc_terms.specs.declared.nodes.Formula.TheVariants as formulas
use Rattle.sc_terms.specs.declared.nodes.Node.{Node}
use Rattle.sc_terms.specs.declared.nodes.Node.TheVariants as nodes
use Rattle.sc_terms.specs.declared.nodes.SetTerm.{SetTerm}
use Rattle.sc_terms.specs.declared.nodes.SetTerm.TheVariants as sets
use Rattle.sc_terms.specs.Lookup.{is_listed}
use Rattle.sc_terms.specs.Conditions.{IsIn}
use Rattle.sc_terms.specs.Bank.{is_formula, is_set, is_element, IsFormulaOf, IsSetOf, IsElementOf, AtomStands, TermStands, FormulaStands, SetStands, ElementStands, NodeStands, IsBank}
use Rattle.sc_terms.proofs.Ranges.{item_in}
use Rattle.sc_terms.proofs.Grown.{stands_below}
use Rattle.sc_terms.specs.Under.{atom_parts, form_parts, formula_parts, set_parts, element_parts, node_parts}

kind_in : (t : Option Node → Bool) (xs : List Node) (m : ℕ) → t None ≡ false → t (item_at xs m) ≡ true → IsIn (length xs) m
kind_in t xs m none e = by (item_at xs m) refl e
  where
    by : (o : Option Node) → item_at xs m ≡ o → t o ≡ true → IsIn (length xs) m
    by None at h = absurd (false≢true (sym none ∙ h))
    by (Some x) at h = item_in xs m x at

-- a list of numbers that are all in a range
abbrev AreIn : ℕ → List ℕ → Type 0
AreIn last ns = AllByRecursion (IsIn last) ns

module _ (bank : List Node) where
  pub formula_in_range : (m : ℕ) → IsFormulaOf bank m → IsIn (length bank) m
  formula_in_range m h = kind_in is_formula bank m refl h

  pub set_in_range : (m : ℕ) → IsSetOf bank m → IsIn (length bank) m
  set_in_range m h = kind_in is_set bank m refl h

  element_in_range : (m : ℕ) → IsElementOf bank m → IsIn (length bank) m
  element_in_range m h = kind_in is_element bank m refl h

  atom_in : (a : Atom) → AtomStands bank a → AllByRecursion (IsIn (length bank)) (atom_parts a)
  atom_in (atoms.Int c) h = tt
  atom_in (atoms.Card s) h = (set_in_range s h, tt)
  atom_in (atoms.Diff e) h = absurd h
  atom_in (atoms.Size cube) h = tt

  pub atoms_in : (form : List (ℤ × Atom)) → AllByRecursion (λ p. AtomStands bank p.1) form → AllByRecursion (IsIn (length bank)) (form_parts form)
  atoms_in [] h = tt
  atoms_in (p ∷ ps) h = all-append (IsIn (length bank)) (atom_parts p.1) (form_parts ps) (atom_in p.1 h.0) (atoms_in ps h.1)

  form_in : (form : List (ℤ × Atom)) → AllByRecursion (TermStands bank) form → AllByRecursion (IsIn (length bank)) (form_parts form)
  form_in form h = atoms_in form (all_weaker (TermStands bank) (λ p. AtomStands bank p.1) (λ p k. k.1) form h)

  formula_parts_in : (f : Formula) → FormulaStands bank f → AllByRecursion (IsIn (length bank)) (formula_parts f)
  formula_parts_in formulas.True h = tt
  formula_parts_in formulas.False h = tt
  formula_parts_in (formulas.Flag c) h = tt
  formula_parts_in (formulas.Not f) h = (formula_in_range f h, tt)
  formula_parts_in (formulas.And fs) h = all_weaker (IsFormulaOf bank) (IsIn (length bank)) formula_in_range fs h
  formula_parts_in (formulas.Or fs) h = all_weaker (IsFormulaOf bank) (IsIn (length bank)) formula_in_range fs h
  formula_parts_in (formulas.Iff f g) h = (formula_in_range f h.0, (formula_in_range g h.1, tt))
  formula_parts_in (formulas.Eq e f) h = (element_in_range e h.0, (element_in_range f h.1, tt))
  formula_parts_in (formulas.EqSet s t) h = (set_in_range s h.0, (set_in_range t h.1, tt))
  formula_parts_in (formulas.Member e s) h = (element_in_range e h.0, (set_in_range s h.1, tt))
  formula_parts_in (formulas.Le row) h = form_in row.form h.1

  set_parts_in : (s : SetTerm) → SetStands bank s → AllByRecursion (IsIn (length bank)) (set_parts s)
  set_parts_in (sets.Const c sort) h = tt
  set_parts_in (sets.Empty sort) h = tt
  set_parts_in (sets.Single e) h = (element_in_range e h, tt)
  set_parts_in (sets.Union s t) h = (set_in_range s h.0, (set_in_range t h.1, tt))
  set_parts_in (sets.Inter s t) h = (set_in_range s h.0, (set_in_range t h.1, tt))
  set_parts_in (sets.Minus s t) h = (set_in_range s h.0, (set_in_range t h.1, tt))

  element_parts_in : (e : Element) → ElementStands bank e → AllByRecursion (IsIn (length bank)) (element_parts e)
  element_parts_in (elements.Const c sort) h = tt
  element_parts_in (elements.Number affine) h = form_in affine.form h.0.1
  element_parts_in (elements.Diff s t) h = absurd h

  node_parts_in : (x : Node) → NodeStands bank x → AllByRecursion (IsIn (length bank)) (node_parts x)
  node_parts_in (nodes.Formula f) h = formula_parts_in f h
  node_parts_in (nodes.Set s) h = set_parts_in s h
  node_parts_in (nodes.Element e) h = element_parts_in e h

same_number : (m n : ℕ) → nat_eq m n ≡ true → n ≡ m
same_number m n e = grind arith

-- what holds of all numbers of a list holds of each that is listed
pub listed_all : (P : ℕ → Type 0) (ns : List ℕ) → AllByRecursion P ns → (m : ℕ) → is_listed m ns ≡ true → P m
listed_all P [] h m e = absurd (false≢true e)
listed_all P (n ∷ ns) h m e = by (nat_eq m n) refl e (listed_all P ns h.1 m)
  where
    by : (b : Bool) → nat_eq m n ≡ b → (b || is_listed m ns) ≡ true → (is_listed m ns ≡ true → P m) → P m
    by true same k rest = subst P (same_number m n same) h.0
    by false other k rest = rest k

pub all_listed : (P : ℕ → Type 0) (ns : List ℕ) → ((m : ℕ) → is_listed m ns ≡ true → P m) → AllByRecursion P ns
all_listed P [] h = tt
all_listed P (n ∷ ns) h =
    (h n (ap (λ b. b || is_listed n ns) (itself n)), all_listed P ns (λ m e. h m (later (nat_eq m n) (is_listed m ns) e)))
  where
    itself : (n : ℕ) → nat_eq n n ≡ true
    itself n = grind arith

    later : (a b : Bool) → b ≡ true → (a || b) ≡ true
    later true b e = refl
    later false b e = e

-- each part of a node has a lower number
pub part_below : (bank : List Node) → IsBank bank → (n m : ℕ) (x : Node) → item_at bank n ≡ Some x → is_listed m (node_parts x) ≡ true → (0 < m) × (m < n)
part_below bank is n m x at e =
    let place = item_in bank n x at in
    let a : 0 < n = place.0 in
    let b : n ≤ length bank = place.1 in
    let long : length (take (n - 1) bank) ≡ n - 1 = length-take-le (n - 1) bank (omega arith) in
    let h = listed_all (IsIn (length (take (n - 1) bank))) (node_parts x) (node_parts_in (take (n - 1) bank) x (stands_below bank is n x at)) m e in
    let p : 0 < m = h.0 in
    let q : m ≤ length (take (n - 1) bank) = h.1 in
    (p, omega arith)
