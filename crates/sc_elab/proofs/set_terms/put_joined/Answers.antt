use Rattle.std.proofs.Common.{subst, sym}
use Rattle.sc_terms.specs.Bank.{IsSetOf}
use Rattle.sc_elab.specs.Growth.{Builds}
use Rattle.sc_elab.specs.Builds as spec
use Rattle.sc_elab.proofs.set_terms.put_joined.Goals as goal

pub returns-in-Union : goal.returns-in-Union
returns-in-Union c = subst (λ j. Builds IsSetOf (spec.joined j c.args.s c.args.t c.args.bank.now) c.args.bank.now c.put_union.result c.put_union.new.bank) (sym c.in-Union.is) c.put_union.ensures

pub returns-in-Inter : goal.returns-in-Inter
returns-in-Inter c = subst (λ j. Builds IsSetOf (spec.joined j c.args.s c.args.t c.args.bank.now) c.args.bank.now c.put_set_term.result c.put_set_term.new.bank) (sym c.in-Inter.is) c.put_set_term.ensures
