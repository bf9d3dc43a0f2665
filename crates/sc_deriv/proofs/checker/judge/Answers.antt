use Rattle.std.proofs.Common.{rules, ◌<◌, length}
use Rattle.std.proofs.lemmas.Bool.{false≢true}
use Rattle.sc_deriv.specs.Acceptance.{hypotheses_of}
use Rattle.sc_deriv.proofs.Judged.{failed}
use Rattle.sc_deriv.proofs.checker.judge.Goals as goal

pub returns-in-Some : goal.returns-in-Some
returns-in-Some c =
    let inside : c.loop-node.node-index < length c.args.nodes.now = search rules in
    failed c.args.problem.now (hypotheses_of c.args.lemmas.now) c.loop-node.walk c.take_node.new.walk c.args.nodes.now c.node-item.result c.loop-node.node-index c.loop-node.number c.in_ok-reason.field-0 c.in-Some.reason _ c.loop-node.invariant.told inside c.node-item.is (λ e. false≢true (c.if-is_done.ensures.1 e)) c.in_ok-reason.ensures c.in-Some.is
