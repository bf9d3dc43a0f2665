use Rattle.sc_flatten.specs.Tables.{numbering}
use Rattle.sc_flatten.proofs.Placing.{place_more}
use Rattle.sc_flatten.proofs.forms.place_terms.Goals as goal

pub loop-index-preserved : goal.loop-index-preserved
loop-index-preserved c = place_more (numbering c.args.tables.now) c.args.terms.now c.loop-index.index c.index-terms-index.result c.loop-index.placed.entries c.place.new.placed.entries c.requires.listed c.loop-index-test.true c.loop-index.auto.index c.index-terms-index.is c.loop-index.invariant c.in_ok-place.ensures
