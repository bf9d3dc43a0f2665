-- Values that make every assertion true make the problem true.
use Rattle.std.proofs.Common.{◌≡◌, ℕ, ◌+◌, Bool, true, false, cond, List, [], ◌∷◌, map, Option, None, Some, refl, sym, ap, ◌∙◌}
use Rattle.sc_terms.specs.Meaning.{Valuation, AllTrue}
use Rattle.sc_meaning.specs.Answers.{failing_from}

pub none_false : (k : ℕ) (v : Valuation) (fs : List ℕ) → failing_from k v.truth fs ≡ None → AllTrue v fs
none_false k v [] e = tt
none_false k v (f ∷ fs) e = by (v.truth f) refl (none_false (k + 1) v fs) e
  where
    by : (b : Bool) → v.truth f ≡ b → (failing_from (k + 1) v.truth fs ≡ None → AllTrue v fs) → cond b (failing_from (k + 1) v.truth fs) (Some k) ≡ None → (v.truth f ≡ true) × AllTrue v fs
    by true is rest h = (is, rest h)
    by false is rest h = absurd cc

heads : (a b : Bool) (xs ys : List Bool) → a ∷ xs ≡ b ∷ ys → (a ≡ b) × (xs ≡ ys)
heads a b xs ys e = (cc, cc)

pub all_across : (v w : Valuation) (ms ns : List ℕ) → map v.truth ms ≡ map w.truth ns → AllTrue w ns → AllTrue v ms
all_across v w [] ns e h = tt
all_across v w (m ∷ ms) [] e h = absurd cc
all_across v w (m ∷ ms) (n ∷ ns) e h =
    let both = heads (v.truth m) (w.truth n) (map v.truth ms) (map w.truth ns) e in
    (both.0 ∙ h.0, all_across v w ms ns both.1 h.1)
