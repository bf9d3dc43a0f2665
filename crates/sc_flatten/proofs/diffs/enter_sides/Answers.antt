use Rattle.std.proofs.Common.{sym, ap, ◌∙◌}
use Rattle.indexmap.specs.IndexSet.{insert_all}
use Rattle.sc_flatten.specs.Classes.{sides_of, same_pair}
use Rattle.sc_flatten.proofs.Sides.{sides_less, sides_greater}
use Rattle.sc_flatten.proofs.diffs.enter_sides.Goals as goal

pub returns-in_ok-insert : goal.returns-in_ok-insert
returns-in_ok-insert c =
    c.in_ok-insert.ensures.keys ∙ sym (ap (insert_all same_pair c.args.pairs.now.keys) (ap sides_of c.in-EqSet.is ∙ sides_less c.in-EqSet.first c.in-EqSet.second c.if-first-second.true))

pub returns-in_ok-insert-2 : goal.returns-in_ok-insert-2
returns-in_ok-insert-2 c =
    c.in_ok-insert-2.ensures.keys ∙ sym (ap (insert_all same_pair c.args.pairs.now.keys) (ap sides_of c.in-EqSet.is ∙ sides_greater c.in-EqSet.first c.in-EqSet.second c.if-second-first.true))
