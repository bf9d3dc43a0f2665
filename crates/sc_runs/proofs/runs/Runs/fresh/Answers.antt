use Rattle.std.proofs.Common.{◌≡◌, ℤ, ◌-◌, List, arith, ap, subst, ◌∙◌, length, take, IfOk}
use Rattle.sc_base.specs.Integers.{fresh_up}
use Rattle.sc_runs.proofs.Sets.{fresh_from_up, fresh_joined, length-fresh_values, length-fresh_up_le, length-fresh_down_le}
use Rattle.sc_runs.proofs.runs.Runs.fresh.Goals as goal

pub unreachable-requires : goal.unreachable-requires
unreachable-requires c =
    c.in_default.ensures.count (omega (arith, ap length c.in_ok-up.ensures.value, length-fresh_up_le c.args.self.now))

pub returns-then-count-up_count : goal.returns-then-count-up_count
returns-then-count-up_count c =
    let up : c.in_ok-up.up ≡ fresh_up c.args.self.now = c.in_ok-up.ensures.value in
    subst (λ (ys : List ℤ). IfOk c.first.result (λ r. r ≡ ys))
    (ap (take c.args.count) up ∙ fresh_from_up c.args.count c.args.self.now (omega (arith, ap length up, c.in-Ok.ensures.count))) c.first.ensures

pub unreachable-requires-in_default-card : goal.unreachable-requires-in_default-card
unreachable-requires-in_default-card c =
    c.in_default-card.ensures.count (omega (arith, ap length c.in_ok-down.ensures.value, length-fresh_down_le c.args.self.now))

pub overflow_sub-down_count : goal.overflow_sub-down_count
overflow_sub-down_count c =
    omega (arith, ap length c.in_ok-up.ensures.value, ap length c.in_ok-down.ensures.value, c.in-Ok.ensures.count, c.in-Ok-card.ensures.count, length-fresh_values c.args.self.now)

pub returns : goal.returns
returns c =
    let up = ap length c.in_ok-up.ensures.value in
    let down = ap length c.in_ok-down.ensures.value in
    let n = c.in-Ok.ensures.count in
    let k = c.in-Ok-card.ensures.count in
    let both = length-fresh_values c.args.self.now in
    subst (λ (ys : List ℤ). IfOk c.union.result (λ r. r ≡ ys))
    (fresh_joined c.args.count (c.args.count - c.in-Ok.up_count) _ c.args.self.now c.in_ok-up.up c.in_ok-down.down c.in_ok-negative.negative
    c.in_ok-up.ensures.value c.in_ok-down.ensures.value c.in_ok-negative.ensures
    (ap (λ j. j - (c.args.count - c.in-Ok.up_count)) k.1) (omega (arith, n)) (omega (arith, up, down, n, k, both)))
    c.union.ensures
