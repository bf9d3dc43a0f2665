use Rattle.std.proofs.Common.{subst}
use Rattle.sc_terms.specs.Bank.{IsFormulaOf}
use Rattle.sc_elab.specs.States.{put_formula}
use Rattle.sc_elab.specs.Growth.{Builds}
use Rattle.sc_elab.proofs.build.equation.Goals as goal

pub returns : goal.returns
returns c = subst (λ f. Builds IsFormulaOf (put_formula f c.args.bank.now) c.args.bank.now c.put_formula.result c.put_formula.new.bank) c.equal.ensures c.put_formula.ensures
