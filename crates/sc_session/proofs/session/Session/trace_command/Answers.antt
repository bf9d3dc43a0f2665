use Rattle.std.proofs.Common.{◌∙◌}
use Rattle.sc_commands.specs.Commands.{seen}
use Rattle.sc_session.proofs.Following.{quick_traced}
use Rattle.sc_session.proofs.session.Session.trace_command.Goals as goal

pub returns-in_ok-do_quick-in_default : goal.returns-in_ok-do_quick-in_default
returns-in_ok-do_quick-in_default c =
    let q = quick_traced c.args.self.now c.args.line (seen c.args.command.now) c.in_ok-do_quick-in_default.field-0 c.do_quick.new.self c.in_ok-do_quick-in_default.ensures.quick (c.in_ok-do_quick-in_default.ensures.does 0) in
    (c.known_of.ensures ∙ q.0, q.1)
