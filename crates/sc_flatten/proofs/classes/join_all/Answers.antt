use Rattle.std.proofs.Common.{◌∙◌}
use Rattle.sc_flatten.specs.Forests.{LinkIn}
use Rattle.sc_flatten.proofs.Grown.{forest_begins, forest_more, range_more}
use Rattle.sc_flatten.proofs.classes.join_all.Goals as goal

pub loop-link-init : goal.loop-link-init
loop-link-init c = record {
  stands = forest_begins c.args.links.now c.args.parents.now c.requires.own;
  count = c.requires.count;
  range = c.requires.links;
}

pub loop-link-preserved : goal.loop-link-preserved
loop-link-preserved c = record {
  stands = forest_more c.args.links.now c.loop-link.link-index (0, 0) c.loop-link.parents c.join.new.parents c.loop-link-test.true c.join.ensures.low c.join.ensures.joins c.loop-link.invariant.stands;
  count = c.join.auto.parents ∙ c.loop-link.invariant.count;
  range = range_more (LinkIn c.args.last) c.args.links.now c.loop-link.link-index (0, 0) c.loop-link-test.true c.loop-link.invariant.range;
}
