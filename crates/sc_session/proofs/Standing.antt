-- What stays as banks and names grow.
use Rattle.std.proofs.Common.{◌≡◌, ℕ, zero, suc, ◌≤◌, Bool, true, false, ℤ, List, [], ◌∷◌, ◌++◌, length, map, Option, Some, None, slice_get, refl, sym, ap, ◌∙◌, subst, append_assoc, append-nil, arith}
use Rattle.std.specs.List.{AllByRecursion, flat_map}
use Rattle.sc_base.specs.Numbered.{item_at}
use Rattle.sc_base.proofs.Integers.{all_weaker, all-append}
use Rattle.sc_terms.specs.declared.atoms.Atom.{Atom}
use Rattle.sc_terms.specs.declared.atoms.Atom.TheVariants as atoms
use Rattle.sc_terms.specs.declared.nodes.Element.{Element}
use Rattle.sc_terms.specs.declared.nodes.Element.TheVariants as elements
use Rattle.sc_terms.specs.declared.nodes.Formula.{Formula}
use Rattle.sc_terms.specs.declared.nodes.Formula.TheVariants as formulas
use Rattle.sc_terms.specs.declared.nodes.Node.{Node}
use Rattle.sc_terms.specs.declared.nodes.Node.TheVariants as nodes
use Rattle.sc_terms.specs.declared.nodes.SetTerm.{SetTerm}
use Rattle.sc_terms.specs.declared.nodes.SetTerm.TheVariants as sets
use Rattle.sc_terms.specs.declared.nodes.Sort.{Sort}
use Rattle.sc_terms.specs.declared.nodes.Sort.TheVariants as sorts
use Rattle.sc_text.specs.declared.code.Code.{Code}
use Rattle.std.specs.Prelude.{Result, Ok, Err}
use Rattle.sc_stack.specs.declared.stack.StackError.{StackError}
use Rattle.sc_stack.specs.declared.stack.StackError.TheVariants as errors
use Rattle.sc_terms.specs.Bank.{Begins, HasSorts, NodeHasSorts, FormulaHasSorts, SetHasSorts, ElementHasSorts, FormHasSorts, AtomHasSorts, IsFormulaOf, is_formula}
use Rattle.sc_sorts.specs.Sorted.{NodeIsSorted, IsWellSortedBank}
use Rattle.sc_sorts.specs.Posed.{IsPosedBank}
use Rattle.sc_stack.specs.declared.stack.Constant.{Constant}
use Rattle.sc_stack.specs.Names.{Names, Level, no_names, Declares, on_last, sorts_of, assertions_in_force, with_sort, with_constant, with_assertion}
use Rattle.sc_session.specs.States.{IsSorted}

-- ---- a number keeps its item
pub kept : {X : Type 0} (xs more : List X) (n : ℕ) (x : X) → slice_get xs n ≡ Some x → slice_get (xs ++ more) n ≡ Some x
kept [] more n x e = absurd cc
kept (y ∷ ys) more zero x e = e
kept (y ∷ ys) more (suc n) x e = kept ys more n x e

pub kept_item : {X : Type 0} (xs more : List X) (n : ℕ) (x : X) → item_at xs n ≡ Some x → item_at (xs ++ more) n ≡ Some x
kept_item xs more zero x e = absurd cc
kept_item xs more (suc n) x e = kept xs more n x e

pub kept_test : (P : Option Node → Bool) (bank more : List Node) (n : ℕ) → P None ≡ false → P (item_at bank n) ≡ true → P (item_at (bank ++ more) n) ≡ true
kept_test P bank more n none e = by (item_at bank n) refl
  where
    by : (o : Option Node) → o ≡ item_at bank n → P (item_at (bank ++ more) n) ≡ true
    by None at = absurd (let u : P None ≡ true = subst (λ o. P o ≡ true) (sym at) e in cc)
    by (Some x) at = subst (λ o. P o ≡ true) (sym at ∙ sym (kept_item bank more n x (sym at)) ∙ refl) e

pub still_formula : (old new : List Node) (n : ℕ) → Begins old new → IsFormulaOf old n → IsFormulaOf new n
still_formula old new n b h = subst (λ bank. IsFormulaOf bank n) (sym b.1) (kept_test is_formula old b.0 n refl h)

pub still_formulas : (old new : List Node) (ns : List ℕ) → Begins old new → AllByRecursion (IsFormulaOf old) ns → AllByRecursion (IsFormulaOf new) ns
still_formulas old new ns b h = all_weaker (IsFormulaOf old) (IsFormulaOf new) (λ n p. still_formula old new n b p) ns h

-- ---- more constants are known
module _ (known more : List Sort) where
  atom_sorts : (a : Atom) → AtomHasSorts known a → AtomHasSorts (known ++ more) a
  atom_sorts (atoms.Int c) h = kept_item known more c _ h
  atom_sorts (atoms.Card s) h = tt
  atom_sorts (atoms.Diff e) h = tt
  atom_sorts (atoms.Size c) h = tt

  form_sorts : (form : List (ℤ × Atom)) → FormHasSorts known form → FormHasSorts (known ++ more) form
  form_sorts form h = all_weaker (λ p. AtomHasSorts known p.1) (λ p. AtomHasSorts (known ++ more) p.1) (λ p q. atom_sorts p.1 q) form h

  formula_sorts : (f : Formula) → FormulaHasSorts known f → FormulaHasSorts (known ++ more) f
  formula_sorts formulas.True h = tt
  formula_sorts formulas.False h = tt
  formula_sorts (formulas.Flag c) h = kept_item known more c _ h
  formula_sorts (formulas.Not f) h = tt
  formula_sorts (formulas.And fs) h = tt
  formula_sorts (formulas.Or fs) h = tt
  formula_sorts (formulas.Iff f g) h = tt
  formula_sorts (formulas.Eq e f) h = tt
  formula_sorts (formulas.EqSet s t) h = tt
  formula_sorts (formulas.Member e s) h = tt
  formula_sorts (formulas.Le row) h = form_sorts row.form h

  set_sorts : (s : SetTerm) → SetHasSorts known s → SetHasSorts (known ++ more) s
  set_sorts (sets.Const c sort) h = (kept_item known more c sort h.0, h.1)
  set_sorts (sets.Empty sort) h = tt
  set_sorts (sets.Single e) h = tt
  set_sorts (sets.Union s t) h = tt
  set_sorts (sets.Inter s t) h = tt
  set_sorts (sets.Minus s t) h = tt

  element_sorts : (e : Element) → ElementHasSorts known e → ElementHasSorts (known ++ more) e
  element_sorts (elements.Const c sort) h = (kept_item known more c sort h.0, h.1)
  element_sorts (elements.Number affine) h = form_sorts affine.form h
  element_sorts (elements.Diff s t) h = tt

  node_sorts : (x : Node) → NodeHasSorts known x → NodeHasSorts (known ++ more) x
  node_sorts (nodes.Formula f) h = formula_sorts f h
  node_sorts (nodes.Set s) h = set_sorts s h
  node_sorts (nodes.Element e) h = element_sorts e h

  pub sorts_grow : (bank : List Node) → HasSorts known bank → HasSorts (known ++ more) bank
  sorts_grow bank h = all_weaker (NodeHasSorts known) (NodeHasSorts (known ++ more)) node_sorts bank h

-- ---- levels with the last one changed
same_levels : (f : Level → Level) → ((l : Level) → (f l).assertions ≡ l.assertions) → (ls : List Level) → flat_map (λ (l : Level). l.assertions) (on_last f ls) ≡ flat_map (λ (l : Level). l.assertions) ls
same_levels f same [] = refl
same_levels f same (l ∷ []) = ap (λ ns. ns ++ []) (same l)
same_levels f same (l ∷ m ∷ ls) = ap (λ ns. l.assertions ++ ns) (same_levels f same (m ∷ ls))

more_assertions : (f : Level → Level) (n : ℕ) → ((l : Level) → (f l).assertions ≡ l.assertions ++ n ∷ []) → (ls : List Level) → 1 ≤ length ls → flat_map (λ (l : Level). l.assertions) (on_last f ls) ≡ flat_map (λ (l : Level). l.assertions) ls ++ n ∷ []
more_assertions f n adds [] some = absurd (omega (arith, some))
more_assertions f n adds (l ∷ []) some = ap (λ ns. ns ++ []) (adds l) ∙ append-nil (l.assertions ++ n ∷ []) ∙ ap (λ ns. ns ++ n ∷ []) (sym (append-nil l.assertions))
more_assertions f n adds (l ∷ m ∷ ls) some = ap (λ ns. l.assertions ++ ns) (more_assertions f n adds (m ∷ ls) (omega arith)) ∙ sym (append_assoc l.assertions (flat_map (λ (k : Level). k.assertions) (m ∷ ls)) (n ∷ []))

-- declarations assert nothing
pub sort_asserts_none : (names : Names) (name : List ℕ) → assertions_in_force (with_sort names name) ≡ assertions_in_force names
sort_asserts_none names name = same_levels _ (λ l. refl) names.levels

pub constant_asserts_none : (names : Names) (c : Constant) → assertions_in_force (with_constant names c) ≡ assertions_in_force names
constant_asserts_none names c = same_levels _ (λ l. refl) names.levels

pub one_more_assertion : (names : Names) (n : ℕ) → 1 ≤ length names.levels → assertions_in_force (with_assertion names n) ≡ assertions_in_force names ++ n ∷ []
one_more_assertion names n some = more_assertions _ n (λ l. refl) names.levels some

pub map-append : {X Y : Type 0} (f : X → Y) (xs ys : List X) → map f (xs ++ ys) ≡ map f xs ++ map f ys
map-append f [] ys = refl
map-append f (x ∷ xs) ys = ap (λ zs. f x ∷ zs) (map-append f xs ys)

pub one_more_sort : (names : Names) (c : Constant) → sorts_of (with_constant names c) ≡ sorts_of names ++ c.sort ∷ []
one_more_sort names c = map-append (λ (d : Constant). d.sort) names.constants (c ∷ [])

-- ---- sessions
with_sorts : (known all : List Sort) (bank : List Node) → HasSorts all bank → IsPosedBank known bank → IsPosedBank all bank
with_sorts known all bank sorts h = record { sorts = sorts; well_sorted = h.well_sorted; intless = h.intless; cardless = h.cardless }

pub sorted_sort : (bank : List Node) (names : Names) (name : List ℕ) → IsSorted bank names → IsSorted bank (with_sort names name)
sorted_sort bank names name h = record { posed = h.posed; assertions = subst (AllByRecursion (IsFormulaOf bank)) (sym (sort_asserts_none names name)) h.assertions }

pub sorted_constant : (bank : List Node) (names : Names) (c : Constant) → IsSorted bank names → IsSorted bank (with_constant names c)
sorted_constant bank names c h = record {
  posed = with_sorts (sorts_of names) (sorts_of (with_constant names c)) bank (subst (λ known. HasSorts known bank) (sym (one_more_sort names c)) (sorts_grow (sorts_of names) (c.sort ∷ []) bank h.posed.sorts)) h.posed;
  assertions = subst (AllByRecursion (IsFormulaOf bank)) (sym (constant_asserts_none names c)) h.assertions;
}

pub sorted_assertion : (bank : List Node) (names : Names) (n : ℕ) → 1 ≤ length names.levels → IsFormulaOf bank n → IsSorted bank names → IsSorted bank (with_assertion names n)
sorted_assertion bank names n some f h = record {
  posed = h.posed;
  assertions = subst (AllByRecursion (IsFormulaOf bank)) (sym (one_more_assertion names n some)) (all-append (IsFormulaOf bank) (assertions_in_force names) (n ∷ []) h.assertions (f, tt));
}

pub sorted_bank : (old new : List Node) (names : Names) → Begins old new → IsPosedBank (sorts_of names) new → IsSorted old names → IsSorted new names
sorted_bank old new names b p h = record { posed = p; assertions = still_formulas old new (assertions_in_force names) b h.assertions }

-- nothing was made yet, and nothing is asserted
none_well_sorted : IsWellSortedBank []
none_well_sorted = (record { members = λ n. sorts.Int; element = λ n. sorts.Int }, nothing) where
  nothing : (n : ℕ) (x : Node) → item_at [] n ≡ Some x → NodeIsSorted (record { members = λ k. sorts.Int; element = λ k. sorts.Int }) n x
  nothing zero x at = absurd cc
  nothing (suc n) x at = absurd cc

pub sorted_none : (bank : List Node) (names : Names) → bank ≡ [] → names ≡ no_names → IsSorted bank names
sorted_none bank names b n =
    subst (λ k. IsSorted k names) (sym b) (subst (IsSorted []) (sym n) (record { posed = record { sorts = tt; well_sorted = none_well_sorted; intless = tt; cardless = tt }; assertions = tt }))

-- a declaration that was tried
pub sorted_declared : (bank : List Node) (old made new : Names) (fault : Option Code) (number : ℕ) (tried : Result ℕ StackError) → Declares old fault made number tried new → IsSorted bank old → IsSorted bank made → IsSorted bank new
sorted_declared bank old made new fault number (Ok n) d h m = subst (IsSorted bank) (sym d.2) m
sorted_declared bank old made new fault number (Err (errors.Fault c)) d h m = subst (IsSorted bank) (sym d.1) h
sorted_declared bank old made new fault number (Err errors.Memory) d h m = subst (IsSorted bank) (sym d) h
