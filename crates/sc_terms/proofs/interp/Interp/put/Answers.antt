use Rattle.std.proofs.Common.{ap, ◌∙◌}
use Rattle.std.specs.FinMap as map
use Rattle.sc_terms.proofs.Entries.{inserted, AreProper-insert}
use Rattle.sc_terms.proofs.interp.Interp.put.Goals as goal

pub invariant_of-self-2 : goal.invariant_of-self-2
invariant_of-self-2 c =
    rw c.in_ok-insert.ensures.entries (AreProper-insert c.self.inside.values.entries c.args.constant c.args.value c.self.invariant c.keeps_order.ensures)

pub returns-clause-ok : goal.returns-clause-ok
returns-clause-ok c =
    inserted c.self.inside.values.entries c.insert.new.self.entries c.args.constant c.args.value c.in_ok-insert.ensures.updates.0
    ∙ ap (λ m. map.insert m c.args.constant c.args.value) c.self.view_is
