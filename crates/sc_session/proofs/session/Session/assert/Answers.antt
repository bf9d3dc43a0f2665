use Rattle.std.proofs.Common.{Err, subst}
use Rattle.sc_sexpr.specs.Shapes.{shape}
use Rattle.sc_elab.specs.States.{Answers, state_of}
use Rattle.sc_elab.specs.Elab.{core}
use Rattle.sc_session.specs.States.{state}
use Rattle.sc_session.proofs.Doing.{is_asserted}
use Rattle.sc_session.proofs.Standing.{sorted_bank}
use Rattle.sc_session.proofs.session.Session.assert.Goals as goal

pub returns-in-Ok : goal.returns-in-Ok
returns-in-Ok c = λ b. is_asserted c.args.self.now (state c.self.inside.bank c.self.inside.stack c.self.inside.verdicts c.self.inside.checks c.self.inside.current) (shape c.args.term.now) c.args.line b c.in-Ok.formula c.elaborate.new.bank c.assert_formula.result c.assert_formula.new.self c.self.view_is c.in-Ok.ensures.exact (λ old k. c.assert_formula.ensures old c.args.line k)

pub invariant_of-self : goal.invariant_of-self
invariant_of-self c =
    let before = state_of c.self.inside.bank c.self.inside.stack in
    let posed = c.elaboration_keeps_posed.ensures.done (shape c.args.term.now) before c.in-Ok.formula c.elaborate.new.bank c.tell.ensures.bank c.self.invariant.posed c.in-Ok.ensures.exact in
    sorted_bank c.self.inside.bank c.elaborate.new.bank c.self.inside.stack c.in-Ok.ensures.begins posed c.self.invariant

pub invariant_of-self-in-Err-Fault : goal.invariant_of-self-in-Err-Fault
invariant_of-self-in-Err-Fault c =
    let before = state_of c.self.inside.bank c.self.inside.stack in
    let exact = subst (λ e. Answers (core (shape c.args.term.now) before) (Err e) c.elaborate.new.bank) c.in-Err-Fault.field-0-is c.in-Err-Fault.ensures.exact in
    let posed = c.elaboration_keeps_posed.ensures.fault (shape c.args.term.now) before c.in-Err-Fault.code c.elaborate.new.bank c.tell.ensures.bank c.self.invariant.posed exact in
    sorted_bank c.self.inside.bank c.elaborate.new.bank c.self.inside.stack c.in-Err-Fault.ensures.begins posed c.self.invariant
