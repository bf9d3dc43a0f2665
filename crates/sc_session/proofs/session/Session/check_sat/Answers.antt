use Rattle.std.proofs.Common.{subst, sym}
use Rattle.std.specs.List.{AllByRecursion}
use Rattle.sc_terms.specs.Bank.{IsFormulaOf}
use Rattle.sc_stack.specs.Names.{sorts_of}
use Rattle.sc_sorts.specs.Posed.{IsPosed}
use Rattle.sc_session.specs.States.{state}
use Rattle.sc_session.proofs.Doing.{is_checked}
use Rattle.sc_session.proofs.session.Session.check_sat.Goals as goal

pub returns : goal.returns
returns g c = is_checked c.args.self.now (state c.self.inside.bank c.self.inside.stack c.self.inside.verdicts c.self.inside.checks c.self.inside.current) c.args.line c.args.budget c.in_ok-verdict.verdict c.in_ok-response.response c.push.new.self c.in_ok-problem.problem c.in_force.result.now c.self.view_is c.if-self-ge-MOST_CHECKS.false c.in_force.ensures c.in_ok-problem.ensures c.in_ok-verdict.ensures c.tell_printable.ensures c.in_ok-response.ensures c.in_ok-push.ensures.ok

pub decide-requires-clause-posed : goal.decide-requires-clause-posed
decide-requires-clause-posed g c =
    let formulas = subst (AllByRecursion (IsFormulaOf c.self.inside.bank)) (sym c.in_force.ensures) c.self.invariant.assertions in
    subst (λ problem. IsPosed problem c.self.inside.bank) (sym c.in_ok-problem.ensures) (c.stocks_are_posed.ensures (sorts_of c.self.inside.stack) c.self.inside.bank c.in_force.result.now c.tell.ensures.bank c.self.invariant.posed formulas)
