-- The small problem for tests is a problem.
use Rattle.std.proofs.Common.{◌≡◌, ℕ, zero, suc, ◌+◌, ◌<◌, List, [], ◌∷◌, Some, refl, subst, arith}
use Rattle.std.specs.Prelude.{nat_eq, if◌then◌else◌, slice_get, ⊤}
use Rattle.sc_base.specs.Numbered.{item_at}
use Rattle.sc_terms.specs.Conditions.{Ranks, SetBelow, ElementBelow, FormulaBelow, Descends, home_count, homes_due}
use Rattle.sc_rules.specs.Example.{example, ExampleIsProblem}

-- what holds of each item with its place
AllAt : {X : Type 0} → (ℕ → X → Type 0) → List X → Type 0
AllAt P [] = ⊤
AllAt P (x ∷ xs) = P zero x × AllAt (λ n. P (suc n)) xs

at_place : {X : Type 0} (P : ℕ → X → Type 0) (xs : List X) → AllAt P xs → (i : ℕ) (x : X) → slice_get xs i ≡ Some x → P i x
unfolding AllAt
at_place P [] h i x e = absurd cc
at_place P (y ∷ ys) h zero x e = let same : y ≡ x = cc in subst (P zero) same h.0
at_place P (y ∷ ys) h (suc i) x e = at_place (λ n. P (suc n)) ys h.1 i x e

at_number : {X : Type 0} (P : ℕ → X → Type 0) (xs : List X) → AllAt (λ i. P (suc i)) xs → (n : ℕ) (x : X) → item_at xs n ≡ Some x → P n x
at_number P xs h zero x e = absurd cc
at_number P xs h (suc i) x e = at_place (λ k. P (suc k)) xs h i x e

-- constant elements are below sets, sets below their differing element, and that is below formulas
ranks : Ranks
ranks = record { formula = λ n. 9 + n; set = λ n. n; element = λ n. if nat_eq n 5 then 9 else 0 }

below : Descends example 18 ranks
unfolding AllAt ranks
below =
    record {
      formulas = at_number (λ n f. (ranks.formula n < 18) × FormulaBelow example ranks (ranks.formula n) f) example.formulas ((omega arith, (omega arith, omega arith)), ((omega arith, (omega arith, omega arith)), ((omega arith, (omega arith, omega arith)), ((omega arith, (omega arith, omega arith)), ((omega arith, omega arith), tt)))));
      sets = at_number (λ n s. (ranks.set n < 18) × SetBelow ranks (ranks.set n) s) example.sets ((omega arith, tt), ((omega arith, tt), ((omega arith, (omega arith, omega arith)), ((omega arith, (omega arith, omega arith)), ((omega arith, (omega arith, omega arith)), ((omega arith, omega arith), ((omega arith, tt), ((omega arith, tt), tt))))))));
      elements = at_number (λ n e. (ranks.element n < 18) × ElementBelow example ranks (ranks.element n) e) example.elements ((omega arith, tt), ((omega arith, tt), ((omega arith, tt), ((omega arith, tt), ((omega arith, (omega arith, omega arith)), tt)))));
    }

pub example_is_problem : ExampleIsProblem
unfolding AllAt
example_is_problem =
    record {
      roots = ((omega arith, omega arith), ((omega arith, omega arith), tt));
      assertions = refl;
      formulas = (((omega arith, omega arith), (omega arith, omega arith)), (((omega arith, omega arith), (omega arith, omega arith)), (((omega arith, omega arith), (omega arith, omega arith)), (((omega arith, omega arith), (omega arith, omega arith)), ((omega arith, omega arith), tt)))));
      sets = (tt, (tt, (((omega arith, omega arith), (omega arith, omega arith)), (((omega arith, omega arith), (omega arith, omega arith)), (((omega arith, omega arith), (omega arith, omega arith)), ((omega arith, omega arith), (tt, (tt, tt))))))));
      elements = (tt, (tt, (tt, (tt, (((omega arith, omega arith), (omega arith, omega arith)), tt)))));
      components = (((omega arith, omega arith), ((omega arith, omega arith), ((omega arith, omega arith), ((omega arith, omega arith), ((omega arith, omega arith), tt))))), (((omega arith, omega arith), tt), (((omega arith, omega arith), tt), tt)));
      homes = at_number (λ n s. home_count example n ≡ homes_due s) example.sets (refl, (refl, (refl, (refl, (refl, (refl, (refl, (refl, tt))))))));
      bases = (((omega arith, omega arith), ((omega arith, omega arith), tt)), (((omega arith, omega arith), tt), (((omega arith, omega arith), tt), tt)));
      bases_match = refl;
      few_formulas = omega arith;
      few_sets = omega arith;
      few_elements = omega arith;
      few_components = omega arith;
      acyclic = (ranks, below);
    }
