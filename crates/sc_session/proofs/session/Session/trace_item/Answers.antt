use Rattle.std.proofs.Common.{Err, subst}
use Rattle.sc_sexpr.specs.Shapes.{shape}
use Rattle.sc_session.specs.States.{IsSession}
use Rattle.sc_session.proofs.Following.{stepped, refusal_traced}
use Rattle.sc_session.proofs.session.Session.trace_item.Goals as goal

pub returns-in-Ok-read_command-clause-traces : goal.returns-in-Ok-read_command-clause-traces
returns-in-Ok-read_command-clause-traces c = stepped c.args.self.now c.args.text.now c.args.line (shape c.in-Ok.tree) _ c.trace_command.result c.trace_command.new.self c.in-Ok.ensures c.in-Ok-read_command.ensures c.trace_command.ensures

pub returns-in-Ok-read_command-clause-session : goal.returns-in-Ok-read_command-clause-session
returns-in-Ok-read_command-clause-session c = subst IsSession c.self.view_is (record { bank = c.tell.ensures.bank; names = c.tell.ensures.names; sorted = c.self.invariant })

pub returns-in-Err-clause-session : goal.returns-in-Err-clause-session
returns-in-Err-clause-session c = subst IsSession c.self.view_is (record { bank = c.tell.ensures.bank; names = c.tell.ensures.names; sorted = c.self.invariant })

pub returns-in-Err-clause-traces : goal.returns-in-Err-clause-traces
returns-in-Err-clause-traces c = stepped c.args.self.now c.args.text.now c.args.line (shape c.in-Ok.tree) (Err c.in-Err.code) c.traced_refusal.result c.args.self.now c.in-Ok.ensures c.in-Err.ensures (refusal_traced c.args.self.now c.args.line c.in-Err.code c.traced_refusal.result c.traced_refusal.ensures)
