use Rattle.std.proofs.Common.{subst}
use Rattle.sc_classes.specs.Classes.{Merges, IsLeastJoined}
use Rattle.sc_classes.proofs.Joins.{least_at}
use Rattle.sc_classes.proofs.classes.Classes.label.Goals as goal

pub returns-clause-least : goal.returns-clause-least
returns-clause-least c =
    subst (λ (m : Merges). IsLeastJoined m.pairs c.args.e c.label.result) c.self.view_is (least_at c.self.inside.forest.pairs.items c.args.e c.label.result c.label.ensures)
