use Rattle.std.proofs.Common.{sym, ◌∙◌}
use Rattle.sc_sexpr.specs.Shapes.{shape}
use Rattle.sc_session.specs.States.{state}
use Rattle.sc_session.specs.Effects.{declare}
use Rattle.sc_session.proofs.Doing.{if_free_does}
use Rattle.sc_session.proofs.session.Session.declare_const.Goals as goal

pub returns : goal.returns
returns c = λ b. if_free_does c.args.self.now (state c.self.inside.bank c.self.inside.stack c.self.inside.verdicts c.self.inside.checks c.self.inside.current) c.args.name.now c.args.line b (λ x. declare c.args.name.now (shape c.args.sort.now) x c.args.line) c.declare.result c.declare.new.self c.self.view_is (sym c.is_taken.ensures ∙ c.if-is_taken.false) (c.declare.ensures b)
