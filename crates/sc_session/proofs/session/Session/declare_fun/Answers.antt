use Rattle.std.proofs.Common.{if◌then◌else◌, refl, sym, ◌∙◌}
use Rattle.sc_text.specs.declared.code.Code.TheVariants as code
use Rattle.sc_sexpr.specs.declared.tree.Tree.{List as Nested}
use Rattle.sc_sexpr.specs.Shapes.{shape}
use Rattle.sc_session.specs.States.{state}
use Rattle.sc_session.specs.Effects.{declare, refuses, is_empty_list}
use Rattle.sc_session.proofs.Doing.{if_free_does, no_arguments, arguments, refuses_does}
use Rattle.sc_session.proofs.session.Session.declare_fun.Goals as goal

pub returns-then-not-is_empty : goal.returns-then-not-is_empty
returns-then-not-is_empty c = λ b. if_free_does c.args.self.now (state c.self.inside.bank c.self.inside.stack c.self.inside.verdicts c.self.inside.checks c.self.inside.current) c.args.name.now c.args.line b (λ x. if is_empty_list (shape (Nested c.args.arguments.now)) then declare c.args.name.now (shape c.args.range.now) x c.args.line else refuses c.args.line code.E8 x) c.refusal-then-not-is_empty.result c.args.self.now c.self.view_is (sym c.is_taken.ensures ∙ c.if-is_taken.false)
    (arguments c.args.self.now c.args.name.now c.args.arguments.now (shape c.args.range.now) c.args.line b c.refusal-then-not-is_empty.result c.args.self.now (sym c.is_empty.ensures ∙ c.if-not-is_empty.true)
    (refuses_does c.args.self.now c.args.line b code.E8 c.refusal-then-not-is_empty.result c.args.self.now c.refusal-then-not-is_empty.ensures refl))

pub returns : goal.returns
returns c = λ b. if_free_does c.args.self.now (state c.self.inside.bank c.self.inside.stack c.self.inside.verdicts c.self.inside.checks c.self.inside.current) c.args.name.now c.args.line b (λ x. if is_empty_list (shape (Nested c.args.arguments.now)) then declare c.args.name.now (shape c.args.range.now) x c.args.line else refuses c.args.line code.E8 x) c.declare.result c.declare.new.self c.self.view_is (sym c.is_taken.ensures ∙ c.if-is_taken.false)
    (no_arguments c.args.self.now c.args.name.now c.args.arguments.now (shape c.args.range.now) c.args.line b c.declare.result c.declare.new.self (sym c.is_empty.ensures ∙ c.if-not-is_empty.false) (c.declare.ensures b))
