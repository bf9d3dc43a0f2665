use Rattle.std.proofs.Common.{◌≡◌, ◌∷◌, [], subst}
use Rattle.sc_terms.specs.Bank.{IsFormulaOf}
use Rattle.sc_terms.specs.declared.nodes.Formula.TheVariants as formulas
use Rattle.sc_elab.specs.Growth.{Builds}
use Rattle.sc_elab.specs.States as states
use Rattle.sc_elab.proofs.build.put_or.Goals as goal

pub returns-in-Ok : goal.returns-in-Ok
returns-in-Ok c =
    let parts : c.in-Ok.parts ≡ c.args.f ∷ c.args.g ∷ [] = c.in-Ok.ensures.ok in
    subst (λ fs. Builds IsFormulaOf (states.put_formula (formulas.Or fs) c.args.bank.now) c.args.bank.now c.put_formula.result c.put_formula.new.bank) parts c.put_formula.ensures
