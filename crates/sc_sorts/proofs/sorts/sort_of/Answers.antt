use Rattle.std.proofs.Common.{◌-◌, sym, ap, ◌∙◌}
use Rattle.sc_sorts.specs.Sorts.{sorts_within}
use Rattle.sc_sorts.specs.Walk.{sort_after}
use Rattle.sc_sorts.proofs.Leading.{one_less}
use Rattle.sc_sorts.proofs.sorts.sort_of.Goals as goal

-- src/sorts.rt:83:34
pub returns-in-Found : goal.returns-in-Found
returns-in-Found c = sym (ap (sort_after (sorts_within c.args.problem.now (c.loop-left.left - 1))) c.in-Found.is) ∙ one_less c.args.problem.now c.loop-left.term c.lead_of.result c.loop-left.left (search) c.lead_of.ensures ∙ c.loop-left.invariant

-- src/sorts.rt:81:5
pub loop-left-preserved : goal.loop-left-preserved
loop-left-preserved c = sym (ap (sort_after (sorts_within c.args.problem.now (c.loop-left.left - 1))) c.in-Part.is) ∙ one_less c.args.problem.now c.loop-left.term c.lead_of.result c.loop-left.left (search) c.lead_of.ensures ∙ c.loop-left.invariant
