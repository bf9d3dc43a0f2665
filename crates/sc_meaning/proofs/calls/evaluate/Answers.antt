use Rattle.std.proofs.Common.{◌≤◌, length, ◌∙◌, rules}
use Rattle.sc_terms.specs.Values.{interpretation_of}
use Rattle.sc_meaning.proofs.Whole.{evaluated_by}
use Rattle.sc_meaning.proofs.calls.evaluate.Goals as goal

pub returns-clause-values : goal.returns-clause-values
returns-clause-values c =
    let most : c.greatest-last.result ≤ length c.args.bank.now = search rules in
    evaluated_by c.args.bank.now c.len.ensures.bank (interpretation_of c.args.interp.now) c.interprets.ensures c.args.tops.now c.greatest-last.result c.greatest-last.ensures.all most c.as_slice.result.now (c.as_slice.ensures.value ∙ c.in_ok-marks.ensures) c.values_up.result c.values_up.ensures
