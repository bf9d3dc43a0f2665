-- What stays as a bank grows, and what its nodes have.
use Rattle.std.proofs.Common.{◌≡◌, ℕ, zero, suc, ◌+◌, ◌-◌, ◌<◌, ◌≤◌, Bool, true, false, if◌then◌else◌, ℤ, List, [], ◌∷◌, ◌++◌, take, length, Option, Some, None, refl, sym, ap, ◌∙◌, subst, arith, append_assoc}
use Rattle.std.specs.Prelude.{slice_get}
use Rattle.std.specs.List.{AllByRecursion, IsDistinct}
use Rattle.std.proofs.lemmas.Bool.{false≢true}
use Rattle.std.proofs.lemmas.List.{length-append, take-append-le}
use Rattle.std.proofs.lemmas.Option.{slice_get_within}
use Rattle.sc_base.specs.Numbered.{item_at}
use Rattle.sc_base.proofs.Integers.{all_weaker}
use Rattle.sc_terms.specs.declared.atoms.Atom.{Atom}
use Rattle.sc_terms.specs.declared.atoms.Atom.TheVariants as atoms
use Rattle.sc_terms.specs.declared.nodes.Element.{Element}
use Rattle.sc_terms.specs.declared.nodes.Element.TheVariants as elements
use Rattle.sc_terms.specs.declared.nodes.Formula.{Formula}
use Rattle.sc_terms.specs.declared.nodes.Formula.TheVariants as formulas
use Rattle.sc_terms.specs.declared.nodes.Node.{Node}
use Rattle.sc_terms.specs.declared.nodes.Node.TheVariants as nodes
use Rattle.sc_terms.specs.declared.nodes.SetTerm.{SetTerm}
use Rattle.sc_terms.specs.declared.nodes.SetTerm.TheVariants as sets
use Rattle.sc_terms.specs.declared.nodes.Sort.{Sort}
use Rattle.sc_terms.specs.Same.{same_node, same_node-Decides}
use Rattle.sc_terms.specs.Bank.{limit, has_node, with_node, Begins, is_formula, is_set, is_element, IsFormulaOf, IsSetOf, IsElementOf, AtomStands, TermStands, FormulaStands, SetStands, ElementStands, NodeStands, IsBank, NodeHasSorts, HasSorts}
use Rattle.sc_terms.proofs.Puts.{get_front}

-- ---- nodes keep their numbers
item_front : (bank more : List Node) (n : ℕ) (x : Node) → item_at bank n ≡ Some x → item_at (bank ++ more) n ≡ Some x
item_front bank more zero x e = cc
item_front bank more (suc p) x e = get_front bank more p (slice_get_within bank p x e) ∙ e

pub node_stays : (old new : List Node) → Begins old new → (n : ℕ) (x : Node) → item_at old n ≡ Some x → item_at new n ≡ Some x
node_stays old new begins n x e = subst (λ b. item_at b n ≡ Some x) (sym begins.1) (item_front old begins.0 n x e)

kind_stays : (t : Option Node → Bool) → t None ≡ false → (old new : List Node) → Begins old new → (n : ℕ) → t (item_at old n) ≡ true → t (item_at new n) ≡ true
kind_stays t none old new begins n e = by (item_at old n) refl e
  where
    by : (o : Option Node) → item_at old n ≡ o → t o ≡ true → t (item_at new n) ≡ true
    by None at h = absurd (false≢true (sym none ∙ h))
    by (Some x) at h = ap t (node_stays old new begins n x at) ∙ h

pub formula_stays : (old new : List Node) → Begins old new → (n : ℕ) → IsFormulaOf old n → IsFormulaOf new n
formula_stays = kind_stays is_formula refl

pub set_stays : (old new : List Node) → Begins old new → (n : ℕ) → IsSetOf old n → IsSetOf new n
set_stays = kind_stays is_set refl

pub element_stays : (old new : List Node) → Begins old new → (n : ℕ) → IsElementOf old n → IsElementOf new n
element_stays = kind_stays is_element refl

-- ---- parts stay
module _ (old new : List Node) (begins : Begins old new) where
  formula_on : (n : ℕ) → IsFormulaOf old n → IsFormulaOf new n
  formula_on = formula_stays old new begins

  set_on : (n : ℕ) → IsSetOf old n → IsSetOf new n
  set_on = set_stays old new begins

  element_on : (n : ℕ) → IsElementOf old n → IsElementOf new n
  element_on = element_stays old new begins

  atom_on : (a : Atom) → AtomStands old a → AtomStands new a
  atom_on (atoms.Int c) h = tt
  atom_on (atoms.Card s) h = set_on s h
  atom_on (atoms.Diff e) h = absurd h
  atom_on (atoms.Size cube) h = absurd h

  term_on : (p : ℤ × Atom) → TermStands old p → TermStands new p
  term_on p h = (h.0, atom_on p.1 h.1)

  form_on : (form : List (ℤ × Atom)) → AllByRecursion (TermStands old) form → AllByRecursion (TermStands new) form
  form_on form h = all_weaker (TermStands old) (TermStands new) term_on form h

  formula_parts : (f : Formula) → FormulaStands old f → FormulaStands new f
  formula_parts formulas.True h = tt
  formula_parts formulas.False h = tt
  formula_parts (formulas.Flag c) h = tt
  formula_parts (formulas.Not f) h = formula_on f h
  formula_parts (formulas.And fs) h = all_weaker (IsFormulaOf old) (IsFormulaOf new) formula_on fs h
  formula_parts (formulas.Or fs) h = all_weaker (IsFormulaOf old) (IsFormulaOf new) formula_on fs h
  formula_parts (formulas.Iff f g) h = (formula_on f h.0, formula_on g h.1)
  formula_parts (formulas.Eq e f) h = (element_on e h.0, element_on f h.1)
  formula_parts (formulas.EqSet s t) h = (set_on s h.0, set_on t h.1)
  formula_parts (formulas.Member e s) h = (element_on e h.0, set_on s h.1)
  formula_parts (formulas.Le row) h = (h.0, form_on row.form h.1)

  set_parts : (s : SetTerm) → SetStands old s → SetStands new s
  set_parts (sets.Const c sort) h = tt
  set_parts (sets.Empty sort) h = tt
  set_parts (sets.Single e) h = element_on e h
  set_parts (sets.Union s t) h = (set_on s h.0, set_on t h.1)
  set_parts (sets.Inter s t) h = (set_on s h.0, set_on t h.1)
  set_parts (sets.Minus s t) h = (set_on s h.0, set_on t h.1)

  element_parts : (e : Element) → ElementStands old e → ElementStands new e
  element_parts (elements.Const c sort) h = tt
  element_parts (elements.Number affine) h = ((h.0.0, form_on affine.form h.0.1), h.1)
  element_parts (elements.Diff s t) h = absurd h

  pub parts_stay : (x : Node) → NodeStands old x → NodeStands new x
  parts_stay (nodes.Formula f) h = formula_parts f h
  parts_stay (nodes.Set s) h = set_parts s h
  parts_stay (nodes.Element e) h = element_parts e h

pub begins_again : (first second third : List Node) → Begins first second → Begins second third → Begins first third
begins_again first second third p q = (p.0 ++ q.0, q.1 ∙ ap (λ b. b ++ q.0) p.1 ∙ append_assoc first p.0 q.0)

-- ---- each node once, on those before it
same_itself : (x : Node) → same_node x x ≡ true
same_itself x = (same_node-Decides x x).1 refl

some_same : (x y : Node) → Some x ≡ Some y → x ≡ y
some_same x y e = cc

not_later : (y : Node) (ys : List Node) (n : ℕ) → AllByRecursion (λ z. same_node y z ≡ false) ys → slice_get ys n ≡ Some y → ⊥
not_later y [] n h e = absurd cc
not_later y (z ∷ zs) zero h e = false≢true (sym h.0 ∙ subst (λ w. same_node y w ≡ true) (some_same y z (sym e)) (same_itself y))
not_later y (z ∷ zs) (suc n) h e = not_later y zs n h.1 e

one_place : (bank : List Node) (m n : ℕ) (x : Node) → IsDistinct same_node bank → slice_get bank m ≡ Some x → slice_get bank n ≡ Some x → m ≡ n
unfolding IsDistinct
one_place [] m n x h a b = absurd cc
one_place (y ∷ ys) zero zero x h a b = refl
one_place (y ∷ ys) zero (suc n) x h a b = absurd (not_later y ys n h.0 (subst (λ w. slice_get ys n ≡ Some w) (sym (some_same y x a)) b))
one_place (y ∷ ys) (suc m) zero x h a b = absurd (not_later y ys m h.0 (subst (λ w. slice_get ys m ≡ Some w) (sym (some_same y x b)) a))
one_place (y ∷ ys) (suc m) (suc n) x h a b = ap suc (one_place ys m n x h.1 a b)

pub one_number : (bank : List Node) → IsBank bank → (m n : ℕ) (x : Node) → item_at bank m ≡ Some x → item_at bank n ≡ Some x → m ≡ n
one_number bank is zero n x a b = absurd cc
one_number bank is (suc m) zero x a b = absurd cc
one_number bank is (suc m) (suc n) x a b = ap suc (one_place bank m n x is.different a b)

pub stands_below : (bank : List Node) → IsBank bank → (n : ℕ) (x : Node) → item_at bank n ≡ Some x → NodeStands (take (n - 1) bank) x
stands_below bank is zero x e = absurd cc
stands_below bank is (suc p) x e =
    let back : p ≡ suc p - 1 = omega arith in subst (λ k. NodeStands (take k bank) x) back (is.stands p x e)

all_front : (P : Node → Type 0) (xs ys : List Node) → AllByRecursion P (xs ++ ys) → AllByRecursion P xs
all_front P [] ys h = tt
all_front P (x ∷ xs) ys h = (h.0, all_front P xs ys h.1)

distinct_front : (xs ys : List Node) → IsDistinct same_node (xs ++ ys) → IsDistinct same_node xs
unfolding IsDistinct
distinct_front [] ys h = tt
distinct_front (x ∷ xs) ys h = (all_front (λ z. same_node x z ≡ false) xs ys h.0, distinct_front xs ys h.1)

stands_front : (bank more : List Node) → IsBank (bank ++ more) → (n : ℕ) (x : Node) → slice_get bank n ≡ Some x → NodeStands (take n bank) x
stands_front bank more is n x e =
    let lt : n < length bank = slice_get_within bank n x e in
    subst (λ xs. NodeStands xs x) (take-append-le n bank more (omega arith)) (is.stands n x (get_front bank more n lt ∙ e))

few_front : (bank more : List Node) → length (bank ++ more) ≤ limit → length bank ≤ limit
few_front bank more h =
    let long : length (bank ++ more) ≡ length bank + length more = length-append bank more in omega arith

pub front_of_bank : (bank more : List Node) → IsBank (bank ++ more) → IsBank bank
front_of_bank bank more is = record {
  stands = stands_front bank more is;
  different = distinct_front bank more is.different;
  few = few_front bank more is.few;
}

-- ---- sorts
all_last : (P : Node → Type 0) (xs : List Node) (x : Node) → AllByRecursion P xs → P x → AllByRecursion P (xs ++ x ∷ [])
all_last P [] x h p = (p, tt)
all_last P (y ∷ ys) x h p = (h.0, all_last P ys x h.1 p)

pub sorts_with : (known : List Sort) (bank : List Node) (x : Node) → HasSorts known bank → NodeHasSorts known x → HasSorts known (with_node bank x)
sorts_with known bank x h p = by (has_node bank x)
  where
    by : (b : Bool) → HasSorts known (if b then bank else bank ++ x ∷ [])
    by true = h
    by false = all_last (NodeHasSorts known) bank x h p
