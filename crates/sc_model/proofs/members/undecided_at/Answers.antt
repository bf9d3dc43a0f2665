use Rattle.std.proofs.Common.{sym, ap, ◌∙◌}
use Rattle.std.specs.Prelude.{is_some}
use Rattle.sc_rules.specs.Members.{within_of}
use Rattle.sc_model.proofs.Following.{none_by}
use Rattle.sc_model.proofs.Telling.{cut_member}
use Rattle.sc_model.proofs.members.undecided_at.Goals as goal

pub returns : goal.returns
returns c = cut_member c.args.problem.now c.args.path.now.facts c.args.element c.args.set (sym c.may_hold.ensures ∙ c.if-not-may_hold.false) (none_by (within_of c.args.path.now.facts c.args.element c.args.set) (ap is_some (sym c.membership_of.ensures) ∙ (sym c.is_some.ensures ∙ c.if-is_some.false)))
