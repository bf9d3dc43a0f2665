use Rattle.std.proofs.Common.{sym}
use Rattle.sc_tree.proofs.Preorder.{read_on, there_on, fewer_left}
use Rattle.sc_tree.proofs.reading.nodes_of.Goals as goal

pub loop-number-smaller : goal.loop-number-smaller
loop-number-smaller c =
    fewer_left c.args.places.now c.requires.readable c.in-Some.number c.in-Some-find_place.place.now _ _ _ _ _ (sym c.in-Some-find_place.ensures) c.in-Some.ensures.first c.in-Ok.ensures

pub loop-number-preserved : goal.loop-number-preserved
loop-number-preserved c =
    record {
      told = read_on c.args.places.now c.requires.readable c.in-Some.number c.in-Some-find_place.place.now _ _ _ _ _ _ (sym c.in-Some-find_place.ensures) c.in-Some.ensures.first c.in-Ok.ensures c.loop-number.invariant.told;
      there = there_on c.args.places.now c.requires.readable c.in-Some.number c.in-Some-find_place.place.now _ _ _ _ _ (sym c.in-Some-find_place.ensures) c.in-Some.ensures.first c.in-Ok.ensures c.loop-number.invariant.there;
    }
