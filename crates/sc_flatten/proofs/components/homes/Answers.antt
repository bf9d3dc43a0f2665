use Rattle.sc_flatten.specs.Classes.{is_home}
use Rattle.sc_flatten.proofs.Grouping.{filter_next}
use Rattle.sc_flatten.proofs.components.homes.Goals as goal

pub loop-index-preserved : goal.loop-index-preserved
loop-index-preserved c = filter_next (is_home c.args.sets.now) c.loop-index.index c.loop-index.homes.items c.add_home.new.homes.items c.loop-index.invariant c.in_ok-add_home.ensures
