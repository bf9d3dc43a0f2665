use Rattle.std.proofs.Common.{◌≡◌, ◌≤◌, ◌+◌, ◌-◌, ℕ, sym, ap, arith, drop, subst, ◌∙◌}
use Rattle.std.specs.List.{prefix_len}
use Rattle.sc_sexpr.specs.declared.scan.Pass.{Pass}
use Rattle.sc_sexpr.specs.Passes.{unmoved, Skips}
use Rattle.sc_sexpr.proofs.Skipping.{skip_gives}
use Rattle.sc_sexpr.proofs.scan.Pass.skipped.Goals as goal

pub returns : goal.returns
returns c =
    let most : c.span.result ≡ prefix_len (unmoved c.args.self.state) (drop c.args.self.at c.args.bytes.now) = c.span.ensures.count ∙ ap (prefix_len (unmoved c.args.self.state)) c.split_at.ensures.back in
    let few : c.lesser-count.result ≤ prefix_len (unmoved c.args.self.state) (drop c.args.self.at c.args.bytes.now) = omega (arith, most, c.lesser-count.ensures.count) in
    subst (λ (f : ℕ). Skips c.args.bytes.now c.args.self (let q : Pass = record { state = c.args.self.state; from = f; at = c.args.self.at + c.lesser-count.result; room = c.args.self.room - c.lesser-count.result } in q))
    (sym c.from_before.ensures)
    (skip_gives c.args.bytes.now c.args.self c.lesser-count.result c.requires.placed c.requires.rests c.lesser-count.ensures.room few)
