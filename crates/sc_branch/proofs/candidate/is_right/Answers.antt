use Rattle.std.proofs.Common.{sym, subst, ◌∙◌}
use Rattle.sc_terms.specs.BankValues.{bank_meaning}
use Rattle.sc_terms.specs.Values.{interpretation_of}
use Rattle.sc_branch.specs.Tried.{IsRight}
use Rattle.sc_branch.proofs.Trying.{none_false}
use Rattle.sc_branch.proofs.candidate.is_right.Goals as goal

pub returns-in-Ok-None : goal.returns-in-Ok-None
returns-in-Ok-None c =
    let v = bank_meaning c.args.bank.now (interpretation_of c.args.values.now) in
    λ yes. subst (λ ns. IsRight c.args.bank.now ns v) c.assertions-assertions.ensures (record {
      holds = none_false 1 v c.assertions-assertions.result.now (sym c.in-Ok-None.ensures.1 ∙ c.in-Ok-None.field-0-is);
      fits = c.in-Ok-None.ensures.0;
    })
