use Rattle.std.proofs.Common.{ℕ, List, Ok, subst, sym}
use Rattle.sc_terms.specs.declared.nodes.Node.{Node}
use Rattle.sc_terms.specs.declared.nodes.Node.TheVariants as nodes
use Rattle.sc_terms.specs.declared.nodes.SetTerm.TheVariants as sets
use Rattle.sc_terms.specs.declared.nodes.Sort.{Sort}
use Rattle.sc_elab.specs.declared.meant.Meant.{Meant}
use Rattle.sc_elab.specs.States.{Outcome, Done, bind, put}
use Rattle.sc_elab.specs.Growth.{Gives, IsMeant}
use Rattle.sc_elab.specs.Elab as spec
use Rattle.sc_elab.proofs.Growing.{gives_stop, gives_on, gives_done}
use Rattle.sc_elab.proofs.Terms.{set_is}
use Rattle.sc_elab.proofs.elab.put_empty.Goals as goal

abbrev as_leaf : Sort → ℕ → List Node → Outcome Meant
as_leaf sort n b = Done (spec.meant sort 1 n) b

abbrev after_guard : Sort → Node → ℕ → List Node → Outcome Meant
after_guard sort x g b = bind (put x b) (as_leaf sort)

pub returns-in-Ok-put_set_term : goal.returns-in-Ok-put_set_term
returns-in-Ok-put_set_term c known =
    let x = nodes.Set (sets.Empty c.args.sort) in
    let made = spec.meant c.args.sort 1 c.in-Ok-put_set_term.number in
    let is = set_is c.put_set_term.new.bank c.args.sort c.in-Ok-put_set_term.number c.requires (c.in-Ok-put_set_term.ensures known).stands in
    subst (λ m. Gives known IsMeant (spec.leaf_value c.args.sort x c.args.bank.now) c.args.bank.now (Ok m) c.put_set_term.new.bank) (sym c.leaf.ensures)
    (gives_on (after_guard c.args.sort x) (c.in-Ok.ensures known) (gives_on (as_leaf c.args.sort) (c.in-Ok-put_set_term.ensures known) (gives_done IsMeant made c.put_set_term.new.bank is)))

pub returns-in-Err-put_set_term : goal.returns-in-Err-put_set_term
returns-in-Err-put_set_term c known =
    gives_on (after_guard c.args.sort (nodes.Set (sets.Empty c.args.sort))) (c.in-Ok.ensures known) (gives_stop (as_leaf c.args.sort) (c.in-Err-put_set_term.ensures known))

pub returns-in-Err : goal.returns-in-Err
returns-in-Err c known = gives_stop (after_guard c.args.sort (nodes.Set (sets.Empty c.args.sort))) (c.in-Err.ensures known)
