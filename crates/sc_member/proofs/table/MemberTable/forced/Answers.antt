use Rattle.std.proofs.Common.{sym, ap, ◌∙◌}
use Rattle.sc_member.specs.Memberships.{Memberships}
use Rattle.sc_member.proofs.Going.{finds_all}
use Rattle.sc_member.proofs.table.MemberTable.forced.Goals as goal

pub returns-clause-found : goal.returns-clause-found
returns-clause-found c =
    finds_all c.args.problem.now c.self.inside.about.value c.args.self.now.facts c.self.inside.path.facts
    (record { parents = c.self.inside.index.parents; singles = c.self.inside.index.singles; partners = c.self.inside.index.partners; pairs = c.args.classes.now.pairs })
    c.restart.new.self.set c.restart.new.self.place
    (c.requires.problem ∙ sym (ap (λ (m : Memberships). m.problem) c.self.view_is))
    (sym (ap (λ (m : Memberships). m.facts) c.self.view_is))
    c.self.invariant.0 c.self.invariant.1 c.requires.classes c.restart.ensures.set c.restart.ensures.place c.tried_rest-2.result c.tried_rest-2.ensures.found
