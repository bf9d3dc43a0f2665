use Rattle.sc_deriv.proofs.Judged.{on_roots}
use Rattle.sc_deriv.proofs.checker.judge_roots.Goals as goal

pub returns-clause-judgement : goal.returns-clause-judgement
returns-clause-judgement c =
    on_roots c.judge.result c.args.problem.now c.args.derivation.now.lemmas c.as_slice.result.now c.in_ok-path.path c.new-walk.result c.args.derivation.now.nodes c.as_slice-2.result.now c.as_slice.ensures c.as_slice-2.ensures c.in_ok-path.ensures.path c.new-walk.ensures c.judge.ensures
