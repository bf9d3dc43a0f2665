use Rattle.std.proofs.Common.{◌∙◌}
use Rattle.sc_terms.specs.Values.{interpretation_of}
use Rattle.sc_meaning.specs.Answers.{values_by}
use Rattle.sc_meaning.proofs.Whole.{same_place}
use Rattle.sc_meaning.proofs.calls.all_true.Goals as goal

pub returns : goal.returns
returns c =
    (c.in_ok-values.ensures.values.0, c.false_place.ensures ∙ same_place (values_by c.args.bank.now c.args.interp.now) (interpretation_of c.args.interp.now) c.in_ok-values.values 1 c.args.formulas.now c.in_ok-values.ensures.values.1)
