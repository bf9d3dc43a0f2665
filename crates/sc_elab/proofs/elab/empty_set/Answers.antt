use Rattle.std.proofs.Common.{subst, sym}
use Rattle.sc_terms.specs.declared.nodes.Node.TheVariants as nodes
use Rattle.sc_terms.specs.declared.nodes.SetTerm.TheVariants as sets
use Rattle.sc_terms.specs.declared.nodes.Sort.TheVariants as sorts
use Rattle.sc_elab.specs.Growth.{Builds, IsMeant}
use Rattle.sc_elab.specs.Elab as spec
use Rattle.sc_elab.proofs.elab.empty_set.Goals as goal

pub returns-in-SetNamed : goal.returns-in-SetNamed
returns-in-SetNamed c =
    let made = subst (λ s. Builds IsMeant (spec.leaf_value s (nodes.Set (sets.Empty s)) c.args.bank.now) c.args.bank.now c.put_empty.result c.put_empty.new.bank) c.in-SetNamed.is c.put_empty.ensures in
    subst (λ s. Builds IsMeant (spec.empty_set s c.args.bank.now) c.args.bank.now c.put_empty.result c.put_empty.new.bank) (sym c.in-SetNamed.is) made
