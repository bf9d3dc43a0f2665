use Rattle.std.proofs.Common.{◌≡◌, ◌++◌, ◌||◌, ℤ, List, subst, IfOk}
use Rattle.sc_base.specs.declared.span.Span.{Span}
use Rattle.sc_base.specs.Integers.{without, in_order}
use Rattle.sc_base.specs.Spans.{covers, members}
use Rattle.sc_runs.proofs.Sets.{union_is}
use Rattle.sc_runs.proofs.runs.Runs.union.Goals as goal

pub returns : goal.returns
returns c =
    let same : members c.in_ok-spans.spans.items ≡ in_order (c.args.self.now ++ without c.args.other.now c.args.self.now) =
    rw (← c.self.view_is, ← c.other.view_is)
    (union_is _ _ _ c.in_ok-spans.ensures.apart c.self.invariant.apart c.other.invariant.apart
    (subst (λ (ts : List Span). (x : ℤ) → covers c.in_ok-spans.spans.items x ≡ (covers c.self.inside.spans.items x || covers ts x)) c.as_slice-2.ensures.value
    (subst (λ (ss : List Span). (x : ℤ) → covers c.in_ok-spans.spans.items x ≡ (covers ss x || covers c.as_slice-2.result.now x)) c.as_slice.ensures.value c.in_ok-spans.ensures.values))) in
    subst (λ (ys : List ℤ). IfOk c.with_runs.result (λ r. r ≡ ys)) same c.with_runs.ensures
