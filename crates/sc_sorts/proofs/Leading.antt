-- What a lead gives at one depth less.
use Rattle.std.proofs.Common.{◌≡◌, ℕ, zero, suc, ◌-◌, ◌<◌, subst, arith}
use Rattle.sc_terms.specs.declared.problem.Parts.{Parts}
use Rattle.sc_sorts.specs.declared.sorts.Term.{Term}
use Rattle.sc_sorts.specs.declared.sorts.Lead.{Lead}
use Rattle.sc_sorts.specs.Sorts.{sorts_within}
use Rattle.sc_sorts.specs.Walk.{sort_of, sort_after}

pub one_less : (problem : Parts) (term : Term) (lead : Lead) (depth : ℕ) → 0 < depth → ((less : ℕ) → sort_after (sorts_within problem less) lead ≡ sort_of (sorts_within problem (suc less)) term) → sort_after (sorts_within problem (depth - 1)) lead ≡ sort_of (sorts_within problem depth) term
one_less problem term lead zero some leads = absurd (omega (some, arith))
one_less problem term lead (suc depth) some leads =
    let back : depth ≡ suc depth - 1 = omega arith in subst (λ d. sort_after (sorts_within problem d) lead ≡ sort_of (sorts_within problem (suc depth)) term) back (leads depth)
