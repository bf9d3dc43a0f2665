use Rattle.std.proofs.Common.{arith, ap, ◌∙◌, ◌≡◌, length, ◌+◌, ◌-◌, ◌<◌, ◌≤◌, ◌^◌, ℕ}
use Rattle.std.specs.Prelude.{IsTrue, nat_le, nat_eq, ◌↔◌}
use Rattle.std.proofs.lemmas.Bool.Decides.{nat_tests}
use Rattle.sc_base.specs.Integers.{fresh_values}
use Rattle.sc_base.specs.Spans.{members}
use Rattle.sc_runs.proofs.Sets.{length-outside}
use Rattle.sc_runs.proofs.runs.Runs.leaves.Goals as goal

some_left : (count inside free : ℕ) → free + inside ≡ 2 ^ 128 → inside < 2 ^ 128 → (count ≡ 0 → ⊥) → IsTrue (nat_le (count - 1) (340282366920938463463374607431768211455 - inside)) ↔ (count ≤ free)
some_left count inside free e h n = grind (arith, nat_tests)

none_left : (count inside free : ℕ) → free + inside ≡ 2 ^ 128 → (inside < 2 ^ 128 → ⊥) → IsTrue (nat_eq count 0) ↔ (count ≤ free)
none_left count inside free e h = grind (arith, nat_tests)

pub returns-else-count-eq0 : goal.returns-else-count-eq0
returns-else-count-eq0 c =
    let all : length (fresh_values c.args.self.now) + length c.args.self.now ≡ 2 ^ 128 = rw (← c.self.view_is) (length-outside _ c.self.invariant.apart) in
    let is : length (members c.as_slice.result.now) ≡ length c.args.self.now = ap (λ ss. length (members ss)) c.as_slice.ensures.value ∙ ap length c.self.view_is in
    some_left c.args.count c.in-Ok.inside _ (rw (c.in-Ok.ensures.1, is) all) (omega (arith, c.in-Ok.ensures)) c.if-count-eq0.false

pub returns-in-Err : goal.returns-in-Err
returns-in-Err c =
    let all : length (fresh_values c.args.self.now) + length c.args.self.now ≡ 2 ^ 128 = rw (← c.self.view_is) (length-outside _ c.self.invariant.apart) in
    let is : length (members c.as_slice.result.now) ≡ length c.args.self.now = ap (λ ss. length (members ss)) c.as_slice.ensures.value ∙ ap length c.self.view_is in
    none_left c.args.count (length c.args.self.now) _ all (λ l. c.in-Err.ensures (omega (arith, is, l)))
