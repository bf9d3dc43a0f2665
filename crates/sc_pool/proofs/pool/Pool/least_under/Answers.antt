use Rattle.std.proofs.Common.{rules, ◌≡◌, ◌<◌, ℕ, List, length, Option, Some, refl, sym, ap, subst, ◌∙◌, arith}
use Rattle.std.specs.Prelude.{slice_get, if◌then◌else◌}
use Rattle.std.specs.Map.{lookup}
use Rattle.std.proofs.lemmas.Option.{slice_get_read}
use Rattle.sc_facts.specs.declared.fact.Fact.{Fact}
use Rattle.sc_facts.specs.Same.{same_fact}
use Rattle.sc_pool.specs.Pools.{all_stand}
use Rattle.sc_pool.specs.Index.{ends_with, up_to, PassesAt}
use Rattle.sc_pool.proofs.Places.{passes-within}
use Rattle.sc_pool.proofs.Tables.{IsUnderWay, walk-begins, walk-down, walk-goes_on}
use Rattle.sc_pool.proofs.pool.Pool.least_under.Goals as goal

pub loop-next-init : goal.loop-next-init
loop-next-init c =
    let lemmas : c.args.self.now ≡ c.self.inside.lemmas.items = search rules in
    let found : c.copied-next.result ≡ lookup (same_fact c.args.fact.now) c.self.inside.latest.entries = search rules in
    rw (lemmas, found) (walk-begins _ _ _ _ _ _ c.self.invariant)

pub judged-least-requires : goal.judged-least-requires
judged-least-requires c =
    let passes : PassesAt (ends_with c.args.fact.now) c.args.self.now (Some c.in-Some.place) = rw c.in-Some.is at c.loop-next.invariant.passes in
    passes-within _ _ _ passes

pub index-next-requires : goal.index-next-requires
index-next-requires c =
    let lemmas : c.args.self.now ≡ c.self.inside.lemmas.items = search rules in
    let passes : PassesAt (ends_with c.args.fact.now) c.args.self.now (Some c.in-Some.place) = rw c.in-Some.is at c.loop-next.invariant.passes in
    let within : c.in-Some.place < length c.self.inside.lemmas.items = rw (← lemmas) (passes-within _ _ _ passes) in
    let counts : length c.self.inside.earlier.items ≡ length c.self.inside.lemmas.items = c.self.invariant.counts in
    omega (arith, within, counts)

pub loop-next-smaller : goal.loop-next-smaller
loop-next-smaller c =
    let lemmas : c.args.self.now ≡ c.self.inside.lemmas.items = search rules in
    let next : c.loop-next.next ≡ Some c.in-Some.place = c.in-Some.is in
    let way : IsUnderWay c.args.path.now.facts c.args.fact.now c.self.inside.lemmas.items (Some c.in-Some.place) c.loop-next.least = subst (λ l. IsUnderWay c.args.path.now.facts c.args.fact.now l (Some c.in-Some.place) c.loop-next.least) lemmas (subst (λ o. IsUnderWay c.args.path.now.facts c.args.fact.now c.args.self.now o c.loop-next.least) next c.loop-next.invariant) in
    let within : c.in-Some.place < length c.self.inside.earlier.items = let p = passes-within (ends_with c.args.fact.now) c.self.inside.lemmas.items c.in-Some.place way.passes in let counts = c.self.invariant.counts in omega (arith, p, counts) in
    let at : slice_get c.self.inside.earlier.items c.in-Some.place ≡ Some c.index-next.result.now = slice_get_read c.self.inside.earlier.items (length c.self.inside.earlier.items) c.in-Some.place c.index-next.result.now refl within c.index-next.ensures in
    let down = walk-down c.args.fact.now _ _ _ _ c.self.invariant c.in-Some.place way.passes c.index-next.result.now at in
    subst (λ (o : Option ℕ). up_to c.index-next.result.now < up_to o) (sym next) (omega (arith, down))

pub loop-next-preserved : goal.loop-next-preserved
loop-next-preserved c =
    let lemmas : c.args.self.now ≡ c.self.inside.lemmas.items = search rules in
    let next : c.loop-next.next ≡ Some c.in-Some.place = c.in-Some.is in
    let way : IsUnderWay c.args.path.now.facts c.args.fact.now c.self.inside.lemmas.items (Some c.in-Some.place) c.loop-next.least = subst (λ l. IsUnderWay c.args.path.now.facts c.args.fact.now l (Some c.in-Some.place) c.loop-next.least) lemmas (subst (λ o. IsUnderWay c.args.path.now.facts c.args.fact.now c.args.self.now o c.loop-next.least) next c.loop-next.invariant) in
    let within : c.in-Some.place < length c.self.inside.earlier.items = let p = passes-within (ends_with c.args.fact.now) c.self.inside.lemmas.items c.in-Some.place way.passes in let counts = c.self.invariant.counts in omega (arith, p, counts) in
    let at : slice_get c.self.inside.earlier.items c.in-Some.place ≡ Some c.index-next.result.now = slice_get_read c.self.inside.earlier.items (length c.self.inside.earlier.items) c.in-Some.place c.index-next.result.now refl within c.index-next.ensures in
    let judged : (h : List Fact) → slice_get c.self.inside.lemmas.items c.in-Some.place ≡ Some h → c.judged-least.result ≡ (if all_stand c.args.path.now.facts h then Some c.in-Some.place else c.loop-next.least) = λ h e. c.judged-least.ensures h (ap (λ l. slice_get l c.in-Some.place) lemmas ∙ e) in
    rw lemmas (walk-goes_on _ _ _ _ _ _ c.self.invariant _ _ way _ _ at judged)
