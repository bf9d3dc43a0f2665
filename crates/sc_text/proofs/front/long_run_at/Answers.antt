use Rattle.std.proofs.Common.{◌≡◌, ◌≤◌, length, sym, arith, ◌∙◌}
use Rattle.sc_text.proofs.Walks.{run_begins, run_goes, run_spans, run_closes, run_stops, run_fails, run_ends}
use Rattle.sc_text.proofs.front.long_run_at.Goals as goal

pub loop-i-init : goal.loop-i-init
loop-i-init c = record { goes = run_begins c.args.bytes.now; within = omega arith }

pub loop-i-preserved : goal.loop-i-preserved
loop-i-preserved c =
    record {
      goes = run_spans _ _ _ _ _ c.behind_span-i.ensures.behind (run_goes _ _ _ _ _ c.loop-i-test.true c.loop-i.invariant.goes (sym c.step.ensures.value ∙ c.in-Go.is));
      within = c.behind_span-i.ensures.within;
    }

pub returns-in-Close-clause-run : goal.returns-in-Close-clause-run
returns-in-Close-clause-run c =
    sym (run_closes _ _ _ _ _ c.loop-i-test.true c.loop-i.invariant.goes (sym c.step.ensures.value ∙ c.in-Close.is))

pub returns-in-Stop-clause-run : goal.returns-in-Stop-clause-run
returns-in-Stop-clause-run c =
    sym (run_stops _ _ _ _ _ c.loop-i-test.true c.loop-i.invariant.goes (sym c.step.ensures.value ∙ c.in-Stop.is))

pub returns-in-Fault-clause-run : goal.returns-in-Fault-clause-run
returns-in-Fault-clause-run c =
    sym (run_fails _ _ _ _ c.loop-i-test.true c.loop-i.invariant.goes (sym c.step.ensures.value ∙ c.in-Fault.is))

pub returns-clause-run : goal.returns-clause-run
returns-clause-run c =
    let within : c.loop-i.i ≤ length c.args.bytes.now = c.loop-i.invariant.within in
    let all : c.loop-i.i ≡ length c.args.bytes.now = omega arith in
    sym (run_ends _ _ c.args.bytes.now c.loop-i.i all c.loop-i.invariant.goes)
