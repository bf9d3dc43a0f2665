use Rattle.std.proofs.Common.{sym, ap, subst, length, ◌∙◌}
use Rattle.std.specs.List.{AllByRecursion}
use Rattle.sc_terms.specs.Conditions.{IsIn}
use Rattle.sc_terms.specs.Values.{interpretation_of}
use Rattle.sc_terms.specs.Under.{form_parts}
use Rattle.sc_meaning.proofs.Parts.{atoms_in}
use Rattle.sc_meaning.proofs.Whole.{int_by}
use Rattle.sc_meaning.proofs.calls.eval_int.Goals as goal

pub evaluate-requires : goal.evaluate-requires
evaluate-requires c =
    subst (AllByRecursion (IsIn (length c.args.bank.now))) (sym (c.as_slice.ensures.value ∙ c.in_ok-parts.ensures ∙ ap form_parts c.terms.ensures.terms)) (atoms_in c.args.bank.now c.args.value.now.form c.requires)

pub returns : goal.returns
returns c =
    int_by c.args.bank.now c.evaluate.ensures.bank (interpretation_of c.args.interp.now) c.evaluate.ensures.interp c.args.value.now.form c.args.value.now.constant c.as_slice.result.now c.in_ok-values.values c.integer.result (c.as_slice.ensures.value ∙ c.in_ok-parts.ensures ∙ ap form_parts c.terms.ensures.terms) c.in_ok-values.ensures.values c.integer.ensures
