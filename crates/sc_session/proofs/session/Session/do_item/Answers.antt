use Rattle.std.proofs.Common.{Err, refl, subst}
use Rattle.sc_sexpr.specs.Shapes.{shape}
use Rattle.sc_session.specs.States.{IsSession}
use Rattle.sc_session.proofs.Doing.{item_does, refuses_does}
use Rattle.sc_session.proofs.session.Session.do_item.Goals as goal

pub returns-in-Ok-read_command-clause-does : goal.returns-in-Ok-read_command-clause-does
returns-in-Ok-read_command-clause-does g c = item_does c.args.self.now c.args.text.now c.args.line c.args.budget (shape c.in-Ok.tree) _ c.do_command.result c.do_command.new.self c.in-Ok.ensures c.in-Ok-read_command.ensures c.do_command.ensures

pub returns-in-Ok-read_command-clause-session : goal.returns-in-Ok-read_command-clause-session
returns-in-Ok-read_command-clause-session g c = subst IsSession c.self.view_is (record { bank = c.tell.ensures.bank; names = c.tell.ensures.names; sorted = c.self.invariant })

pub returns-in-Err-clause-session : goal.returns-in-Err-clause-session
returns-in-Err-clause-session g c = subst IsSession c.self.view_is (record { bank = c.tell.ensures.bank; names = c.tell.ensures.names; sorted = c.self.invariant })

pub returns-in-Err-clause-does : goal.returns-in-Err-clause-does
returns-in-Err-clause-does g c = item_does c.args.self.now c.args.text.now c.args.line c.args.budget (shape c.in-Ok.tree) (Err c.in-Err.code) c.refusal.result c.args.self.now c.in-Ok.ensures c.in-Err.ensures (refuses_does c.args.self.now c.args.line c.args.budget c.in-Err.code c.refusal.result c.args.self.now c.refusal.ensures refl)
