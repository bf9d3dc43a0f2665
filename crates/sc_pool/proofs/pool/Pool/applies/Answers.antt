use Rattle.std.proofs.Common.{rules, ◌≡◌, ◌+◌, ◌<◌, ◌≤◌, ℕ, suc, length, take, Option, Some, refl, sym, ap, ◌∙◌, arith}
use Rattle.std.specs.Prelude.{slice_get}
use Rattle.std.specs.Option.{option_map}
use Rattle.std.proofs.lemmas.Option.{slice_get_read}
use Rattle.sc_pool.specs.Pools.{first_where, all_stand}
use Rattle.sc_pool.specs.Index.{stands_among, lesser}
use Rattle.sc_pool.proofs.Places.{first-within}
use Rattle.sc_pool.proofs.Tables.{among-next, among-whole}
use Rattle.sc_pool.proofs.pool.Pool.applies.Goals as goal

pub loop-fact-preserved : goal.loop-fact-preserved
loop-fact-preserved c =
    let facts : c.facts-fact-items.result.now ≡ c.args.path.now.facts = c.facts-fact-items.ensures.facts in
    let at : slice_get c.args.path.now.facts c.loop-fact.fact-index ≡ Some c.fact-item.result =
    ap (λ fs. slice_get fs c.loop-fact.fact-index) (sym facts) ∙ slice_get_read c.facts-fact-items.result.now (length c.facts-fact-items.result.now) c.loop-fact.fact-index c.fact-item.result refl c.loop-fact-test.true c.fact-item.is in
    let so_far : c.loop-fact.least ≡ first_where (stands_among c.args.path.now.facts (take c.loop-fact.fact-index c.args.path.now.facts)) c.args.self.now = c.loop-fact.invariant in
    c.lesser-least.ensures ∙ ap (λ (o : Option ℕ). lesser o c.least_under.result) so_far ∙ ap (lesser _) c.least_under.ensures ∙ sym (among-next c.args.path.now.facts c.args.path.now.facts c.args.self.now c.loop-fact.fact-index c.fact-item.result at)

pub returns-in_err-least : goal.returns-in_err-least
returns-in_err-least c =
    let past : length c.args.path.now.facts ≤ c.loop-fact.fact-index = rw (← c.facts-fact-items.ensures.facts) c.loop-fact-test.false in
    let least : c.loop-fact.least ≡ first_where (all_stand c.args.path.now.facts) c.args.self.now = c.loop-fact.invariant ∙ among-whole c.args.path.now.facts c.args.self.now c.loop-fact.fact-index past in
    c.from_residual.ensures ∙ ap (option_map suc) (sym c.in_err-least.was ∙ least)

pub overflow_add-result : goal.overflow_add-result
overflow_add-result c =
    let past : length c.args.path.now.facts ≤ c.loop-fact.fact-index = rw (← c.facts-fact-items.ensures.facts) c.loop-fact-test.false in
    let least : c.loop-fact.least ≡ first_where (all_stand c.args.path.now.facts) c.args.self.now = c.loop-fact.invariant ∙ among-whole c.args.path.now.facts c.args.self.now c.loop-fact.fact-index past in
    let within : c.in_ok-least.field-0 < length c.args.self.now = first-within (all_stand c.args.path.now.facts) c.args.self.now c.in_ok-least.field-0 (sym least ∙ c.in_ok-least.was) in
    let lemmas : c.args.self.now ≡ c.self.inside.lemmas.items = search rules in
    let below : c.in_ok-least.field-0 < length c.self.inside.lemmas.items = rw (← lemmas) within in
    let small = c.self.inside.lemmas.small in
    let counted = c.self.inside.lemmas.ok.0 in
    let room = c.self.inside.lemmas.ok.1 in
    omega (arith, below, small, counted, room)

pub returns : goal.returns
returns c =
    let past : length c.args.path.now.facts ≤ c.loop-fact.fact-index = rw (← c.facts-fact-items.ensures.facts) c.loop-fact-test.false in
    let least : c.loop-fact.least ≡ first_where (all_stand c.args.path.now.facts) c.args.self.now = c.loop-fact.invariant ∙ among-whole c.args.path.now.facts c.args.self.now c.loop-fact.fact-index past in
    let next : c.in_ok-least.field-0 + 1 ≡ suc c.in_ok-least.field-0 = omega arith in
    ap (λ n. Some n) next ∙ ap (option_map suc) (sym c.in_ok-least.was ∙ least)
