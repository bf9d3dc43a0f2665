use Rattle.std.proofs.Common.{ap, sym, ◌∙◌}
use Rattle.sc_base.specs.Spans.{members}
use Rattle.sc_runs.proofs.Sets.{same_spans, spans_eq-Decides}
use Rattle.sc_runs.proofs.runs.Runs.same.Goals as goal

pub returns : goal.returns
returns c =
    let d = spans_eq-Decides _ _ c.eq.result c.eq.ensures in
    let left = c.as_slice.ensures.value in
    let right = c.as_slice-2.ensures.value in (
      λ t. sym c.self.view_is ∙ (ap members (sym left ∙ (d.0 t ∙ right)) ∙ c.other.view_is),
      λ e. d.1 (left ∙ (same_spans _ _ c.self.invariant.apart c.other.invariant.apart (c.self.view_is ∙ (e ∙ sym c.other.view_is)) ∙ sym right)),
    )
