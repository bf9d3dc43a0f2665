-- What is found by a number that counts from 1, and that the numbers in a problem's nodes name what is there.
use Rattle.std.proofs.Common.{◌≡◌, ℕ, zero, suc, ◌<◌, ◌≤◌, List, [], ◌∷◌, length, Some, None, subst, arith}
use Rattle.std.specs.Prelude.{slice_get}
use Rattle.std.specs.List.{AllByRecursion}
use Rattle.sc_base.specs.Numbered.{item_at}
use Rattle.sc_terms.specs.declared.nodes.Element.{Element}
use Rattle.sc_terms.specs.declared.nodes.SetTerm.{SetTerm}
use Rattle.sc_terms.specs.declared.nodes.Formula.{Formula}
use Rattle.sc_terms.specs.declared.problem.Parts.{Parts}
use Rattle.sc_terms.specs.Lookup.{formula_at, set_at, element_at}
use Rattle.sc_terms.specs.Conditions.{IsIn, SetIn, ElementIn, FormulaIn, IsProblem}

get_in : {X : Type 0} (xs : List X) (i : ℕ) (x : X) → slice_get xs i ≡ Some x → i < length xs
get_in [] i x e = absurd cc
get_in (y ∷ ys) zero x e = omega arith
get_in (y ∷ ys) (suc i) x e = let rest : i < length ys = get_in ys i x e in omega arith

pub item_in : {X : Type 0} (xs : List X) (n : ℕ) (x : X) → item_at xs n ≡ Some x → IsIn (length xs) n
item_in xs zero x e = absurd cc
item_in xs (suc i) x e = let place : i < length xs = get_in xs i x e in (omega arith, omega arith)

get_all : {X : Type 0} (P : X → Type 0) (xs : List X) (i : ℕ) (x : X) → AllByRecursion P xs → slice_get xs i ≡ Some x → P x
get_all P [] i x h e = absurd cc
get_all P (y ∷ ys) zero x h e = let same : y ≡ x = cc in subst P same h.0
get_all P (y ∷ ys) (suc i) x h e = get_all P ys i x h.1 e

pub item_all : {X : Type 0} (P : X → Type 0) (xs : List X) (n : ℕ) (x : X) → AllByRecursion P xs → item_at xs n ≡ Some x → P x
item_all P xs zero x h e = absurd cc
item_all P xs (suc i) x h e = get_all P xs i x h e

-- each number from 1 up to the length has an item
pub there : {X : Type 0} (xs : List X) (n : ℕ) → 0 < n → n ≤ length xs → item_at xs n ≡ None → ⊥
there xs zero p q e = absurd (omega arith)
there [] (suc n) p q e = absurd (omega arith)
there (x ∷ xs) (suc zero) p q e = absurd cc
there (x ∷ xs) (suc (suc n)) p q e = there xs (suc n) (omega arith) (omega arith) e

module _ (problem : Parts) (is : IsProblem problem) where
  pub formula_in : (n : ℕ) (f : Formula) → formula_at problem n ≡ Some f → FormulaIn problem f
  formula_in n f e = item_all (FormulaIn problem) problem.formulas n f is.formulas e

  pub set_in : (n : ℕ) (s : SetTerm) → set_at problem n ≡ Some s → SetIn problem s
  set_in n s e = item_all (SetIn problem) problem.sets n s is.sets e

  pub element_in : (n : ℕ) (x : Element) → element_at problem n ≡ Some x → ElementIn problem x
  element_in n x e = item_all (ElementIn problem) problem.elements n x is.elements e
