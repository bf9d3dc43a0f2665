use Rattle.std.proofs.Common.{◌≡◌, drop}
use Rattle.sc_meaning.specs.Marks.{with_marks}
use Rattle.sc_terms.specs.Under.{form_parts}
use Rattle.sc_meaning.proofs.marks.mark_form.Given as goal

abbrev pub invariant-loop-term : goal.invariant-loop-term
invariant-loop-term l = record { rest : with_marks (form_parts (drop l.term-index l.terms)) l.marks.items ≡ with_marks (form_parts l.terms) l.fn.marks.items }
