use Rattle.std.proofs.Common.{ℕ, List, Ok, subst, sym}
use Rattle.sc_terms.specs.declared.nodes.Node.{Node}
use Rattle.sc_terms.specs.declared.nodes.Node.TheVariants as nodes
use Rattle.sc_terms.specs.declared.nodes.Sort.TheVariants as sorts
use Rattle.sc_elab.specs.declared.meant.Meant.{Meant}
use Rattle.sc_elab.specs.States.{Outcome, Done}
use Rattle.sc_elab.specs.Growth.{Gives, IsMeant}
use Rattle.sc_elab.specs.Elab as spec
use Rattle.sc_elab.proofs.Growing.{gives_stop, gives_on, gives_done}
use Rattle.sc_elab.proofs.elab.leaf_formula.Goals as goal

abbrev as_leaf : ℕ → List Node → Outcome Meant
as_leaf n b = Done (spec.meant sorts.Bool 1 n) b

pub returns-in-Ok : goal.returns-in-Ok
returns-in-Ok c known =
    let made = spec.meant sorts.Bool 1 c.in-Ok.number in
    subst (λ m. Gives known IsMeant (spec.leaf_formula (nodes.Formula c.args.formula) c.args.bank.now) c.args.bank.now (Ok m) c.put_formula.new.bank) (sym c.leaf.ensures) (gives_on as_leaf (c.in-Ok.ensures known) (gives_done IsMeant made c.put_formula.new.bank (c.in-Ok.ensures known).stands))

pub returns-in-Err : goal.returns-in-Err
returns-in-Err c known = gives_stop as_leaf (c.in-Err.ensures known)
