-- No place is named exactly where the test holds of all.
use Rattle.std.proofs.Common.{◌≡◌, ◌↔◌, ℕ, ◌+◌, Bool, true, false, if◌then◌else◌, List, [], ◌∷◌, Some, None, refl, ap, ◌∙◌}
use Rattle.std.specs.List.{AllByRecursion}
use Rattle.sc_terms.specs.Meaning.{Valuation, AllTrue}
use Rattle.sc_meaning.specs.Answers.{failing_from, first_false}

some_is_none : {X : Type 0} (k : ℕ) → Some k ≡ None → X
some_is_none k e = absurd cc

all_hold : (t : ℕ → Bool) (k : ℕ) (fs : List ℕ) → failing_from k t fs ≡ None → AllByRecursion (λ f. t f ≡ true) fs
all_hold t k [] e = tt
all_hold t k (f ∷ fs) e = by (t f) refl e (all_hold t (k + 1) fs)
  where
    by : (b : Bool) → t f ≡ b → (if b then failing_from (k + 1) t fs else Some k) ≡ None → (failing_from (k + 1) t fs ≡ None → AllByRecursion (λ f. t f ≡ true) fs) → AllByRecursion (λ f. t f ≡ true) (f ∷ fs)
    by true holds h rest = (holds, rest h)
    by false fails h rest = some_is_none k h

none_fails : (t : ℕ → Bool) (k : ℕ) (fs : List ℕ) → AllByRecursion (λ f. t f ≡ true) fs → failing_from k t fs ≡ None
none_fails t k [] h = refl
none_fails t k (f ∷ fs) h = ap (λ b. if b then failing_from (k + 1) t fs else Some k) h.0 ∙ none_fails t (k + 1) fs h.1

pub none_false : (v : Valuation) (fs : List ℕ) → (first_false v fs ≡ None) ↔ AllTrue v fs
none_false v fs = (all_hold v.truth 1 fs, none_fails v.truth 1 fs)
