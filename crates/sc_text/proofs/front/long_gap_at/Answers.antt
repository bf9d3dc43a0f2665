use Rattle.std.proofs.Common.{sym, arith, ◌∙◌}
use Rattle.sc_text.proofs.Walks.{gap_begins, gap_goes, gap_stops, gap_ends}
use Rattle.sc_text.proofs.front.long_gap_at.Goals as goal

pub loop-i-init : goal.loop-i-init
loop-i-init c = gap_begins c.args.bytes.now

pub loop-i-preserved : goal.loop-i-preserved
loop-i-preserved c =
    gap_goes _ _ _ _ _ c.loop-i-test.true c.loop-i.invariant (sym c.gap_step.ensures ∙ c.in-Some.is)

pub returns-in-None-clause-gap : goal.returns-in-None-clause-gap
returns-in-None-clause-gap c =
    sym (gap_stops _ _ _ _ c.loop-i-test.true c.loop-i.invariant (sym c.gap_step.ensures ∙ c.in-None.is))

pub returns-clause-gap : goal.returns-clause-gap
returns-clause-gap c = sym (gap_ends _ _ _ _ (omega arith) c.loop-i.invariant)
