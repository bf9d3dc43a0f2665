use Rattle.std.proofs.Common.{sym, ◌∙◌}
use Rattle.sc_model.specs.Deciding.{IsDue}
use Rattle.sc_model.proofs.Forcing.{due_is}
use Rattle.sc_model.proofs.Following.{kept_none}
use Rattle.sc_model.proofs.Settling.{settled_is}
use Rattle.sc_model.proofs.deciding.first_due.Goals as goal

pub returns : goal.returns
returns c =
    due_is (IsDue c.args.problem.now c.args.path.now.facts) c.due_undecided.result
    (settled_is c.args.problem.now c.args.path.now.facts c.args.classes.now c.args.labels.now c.requires.roots c.requires.consistent c.requires.labels
    (kept_none (IsDue c.args.problem.now c.args.path.now.facts) c.in_ok-apart.apart (sym c.is_some-has_apart.ensures ∙ c.if-has_apart.false) c.in_ok-apart.ensures)
    (kept_none (IsDue c.args.problem.now c.args.path.now.facts) c.in_ok-member.member (sym c.is_some-has_member.ensures ∙ c.if-has_member.false) c.in_ok-member.ensures)
    (kept_none (IsDue c.args.problem.now c.args.path.now.facts) c.in_ok-moved.moved (sym c.is_some-has_moved.ensures ∙ c.if-has_moved.false) c.in_ok-moved.ensures)
    (kept_none (IsDue c.args.problem.now c.args.path.now.facts) c.due_sign-sign.result (sym c.is_some-has_sign.ensures ∙ c.if-has_sign.false) c.due_sign-sign.ensures)
    (kept_none (IsDue c.args.problem.now c.args.path.now.facts) c.due_differ-differ.result (sym c.is_some-has_differ.ensures ∙ c.if-has_differ.false) c.due_differ-differ.ensures))
    c.due_undecided.ensures
