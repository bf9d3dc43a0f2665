use Rattle.std.proofs.Common.{◌≡◌, ◌<◌, ◌≤◌, ◌+◌, length, refl, sym, arith, ap, ◌∙◌, subst}
use Rattle.sc_sexpr.specs.declared.state.State.{State}
use Rattle.sc_sexpr.specs.declared.scan.Found.{Found}
use Rattle.sc_sexpr.specs.Moves.{IsAhead}
use Rattle.sc_sexpr.specs.Passes.{Finds, scan_from}
use Rattle.sc_sexpr.proofs.Going.{scan_goes, scan_done, scan_before, scan_fails, scan_waits, still_grows, ended_follows, past_finds}
use Rattle.sc_sexpr.proofs.Skipping.{follows_on}
use Rattle.sc_sexpr.proofs.scan.scan.Goals as goal

pub returns-then-pass-eq0 : goal.returns-then-pass-eq0
returns-then-pass-eq0 c =
    subst (λ (f : Found). Finds c.args.bytes.now c.args.pass f (scan_from c.args.bytes.now c.args.pass)) (sym c.full.ensures)
    (past_finds c.args.bytes.now c.args.pass c.loop-pass.pass _ c.loop-pass.invariant.follows c.loop-pass-test.true (omega arith) refl c.loop-pass.invariant.same)

pub loop-pass-preserved : goal.loop-pass-preserved
loop-pass-preserved c =
    let some : 0 < c.loop-pass.pass.room = omega arith in
    let line : c.passed-behind.result.state.line ≡ c.in-Go.next.line = ap (λ (s : State). s.line) c.passed-behind.ensures.state in
    let next : c.in-Go.next.line ≤ c.loop-pass.pass.state.line + 1 = c.in-Go.ensures.keeps.0 in
    let within : c.passed-behind.result.at ≤ length c.args.bytes.now = omega arith in
    record {
      same = c.loop-pass.invariant.same ∙ scan_goes c.args.bytes.now c.loop-pass.pass c.passed-behind.result c.in-Go.next c.loop-pass-test.true some (sym c.step.ensures.value ∙ c.in-Go.is) c.passed-behind.ensures.state (c.passed-behind.ensures.text c.args.bytes.now c.loop-pass-test.true) c.passed-behind.ensures.room c.passed-behind.ensures.at ∙ c.onward-pass.ensures.same;
      rests = c.onward-pass.ensures.resting;
      follows = follows_on c.args.bytes.now c.args.pass c.passed-behind.result c.onward-pass.result (record {
        placed = record { order = c.passed-behind.ensures.order; within = within };
        grows = still_grows c.args.pass c.loop-pass.pass c.passed-behind.result c.in-Go.next c.loop-pass.invariant.follows.grows c.loop-pass.invariant.rests c.in-Go.ensures.keeps.1 c.passed-behind.ensures.grows c.passed-behind.ensures.at;
        lines = omega arith;
        ahead = λ h. subst (λ (s : State). IsAhead s) (sym c.passed-behind.ensures.state) (c.in-Go.ensures.keeps.2 (c.loop-pass.invariant.follows.ahead h));
        span = omega (arith, c.passed-behind.ensures.span, c.loop-pass.invariant.follows.span);
      }) c.onward-pass.ensures.follows;
    }

pub returns-in-Done : goal.returns-in-Done
returns-in-Done c =
    let some : 0 < c.loop-pass.pass.room = omega arith in
    let next : c.in-Done.next.line ≤ c.loop-pass.pass.state.line + 1 = c.in-Done.ensures.keeps.0 in
    let before : c.loop-pass.pass.state.line ≤ c.in-Done.next.line = c.in-Done.ensures.keeps.1 in (
      c.loop-pass.invariant.same ∙ scan_done c.args.bytes.now c.loop-pass.pass c.in-Done.next c.loop-pass.invariant.follows.placed c.loop-pass-test.true some (sym c.step.ensures.value ∙ c.in-Done.is),
      record {
        placed = record { order = omega arith; within = omega arith };
        grows = omega arith;
        lines = omega arith;
        ahead = λ h. c.in-Done.ensures.keeps.2 (c.loop-pass.invariant.follows.ahead h);
        span = omega arith;
      },
      λ h. let there : c.loop-pass.pass.state.item_line ≤ c.loop-pass.pass.state.line = c.loop-pass.invariant.follows.ahead h in omega arith,
    )

pub returns-in-Before : goal.returns-in-Before
returns-in-Before c =
    let some : 0 < c.loop-pass.pass.room = omega arith in
    subst (λ (f : Found). Finds c.args.bytes.now c.args.pass f (scan_from c.args.bytes.now c.args.pass)) (sym c.ended.ensures)
    (c.loop-pass.invariant.same ∙ scan_before c.args.bytes.now c.loop-pass.pass c.loop-pass-test.true some (sym c.step.ensures.value ∙ c.in-Before.is), ended_follows c.args.bytes.now c.args.pass c.loop-pass.pass c.loop-pass.invariant.follows, c.loop-pass.invariant.follows.ahead)

pub returns-in-Fail : goal.returns-in-Fail
returns-in-Fail c =
    let some : 0 < c.loop-pass.pass.room = omega arith in
    c.loop-pass.invariant.same ∙ scan_fails c.args.bytes.now c.loop-pass.pass c.in-Fail.fault c.loop-pass-test.true some (sym c.step.ensures.value ∙ c.in-Fail.is)

pub returns : goal.returns
returns c =
    let within : c.loop-pass.pass.at ≤ length c.args.bytes.now = omega arith in
    let all : c.loop-pass.pass.at ≡ length c.args.bytes.now = omega arith in
    (c.loop-pass.invariant.same ∙ scan_waits c.args.bytes.now c.loop-pass.pass (omega arith), all, c.loop-pass.invariant.rests, c.loop-pass.invariant.follows)
