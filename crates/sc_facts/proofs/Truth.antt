-- What stands on a true path is true.
use Rattle.std.proofs.Common.{◌≡◌, true, List, [], ◌∷◌, inl, inr, sym, subst}
use Rattle.std.proofs.lemmas.Bool.{false≢true}
use Rattle.sc_base.proofs.Bools.{or_true}
use Rattle.sc_terms.specs.declared.problem.Parts.{Parts}
use Rattle.sc_terms.specs.Meaning.{Valuation}
use Rattle.sc_facts.specs.declared.fact.Fact.{Fact}
use Rattle.sc_facts.specs.Same.{same_fact, same_fact-Decides}
use Rattle.sc_facts.specs.Facts.{has, FactHolds, Hold}

pub has_holds : (problem : Parts) (v : Valuation) (path : List Fact) (fact : Fact) → Hold problem v path → has path fact ≡ true → FactHolds problem v fact
has_holds problem v [] fact h e = absurd (false≢true e)
has_holds problem v (x ∷ xs) fact h e =
    elim (or_true (same_fact fact x) (has xs fact) e) [
      | inl a ↦ subst (FactHolds problem v) (sym ((same_fact-Decides fact x).0 a)) h.0
      | inr b ↦ has_holds problem v xs fact h.1 b
    ]
