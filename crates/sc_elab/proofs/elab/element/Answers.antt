use Rattle.std.proofs.Common.{ℕ, List, Ok, subst, sym}
use Rattle.sc_terms.specs.declared.nodes.Node.{Node}
use Rattle.sc_terms.specs.declared.nodes.Node.TheVariants as nodes
use Rattle.sc_terms.specs.declared.nodes.Element.TheVariants as elements
use Rattle.sc_terms.specs.declared.nodes.Sort.{Sort}
use Rattle.sc_stack.specs.Names.{sorts_of}
use Rattle.sc_elab.specs.declared.meant.Meant.{Meant}
use Rattle.sc_elab.specs.States.{Outcome, Done, bind, put}
use Rattle.sc_elab.specs.Growth.{Gives, IsMeant}
use Rattle.sc_elab.specs.Elab as spec
use Rattle.sc_elab.proofs.Growing.{gives_stop, gives_on, gives_done}
use Rattle.sc_elab.proofs.Terms.{declared_is}
use Rattle.sc_elab.proofs.elab.element.Goals as goal

abbrev as_leaf : Sort → ℕ → List Node → Outcome Meant
as_leaf sort n b = Done (spec.meant sort 1 n) b

abbrev after_guard : Sort → Node → ℕ → List Node → Outcome Meant
after_guard sort x g b = bind (put x b) (as_leaf sort)

pub returns-in-Ok-put_element : goal.returns-in-Ok-put_element
returns-in-Ok-put_element c =
    let x = nodes.Element (elements.Const c.args.number c.args.sort) in
    let made = spec.meant c.args.sort 1 c.in-Ok-put_element.number in
    let is = declared_is c.put_element.new.bank c.args.sort c.in-Ok-put_element.number c.requires.declared c.in-Ok-put_element.ensures.stands in
    subst (λ m. Gives (sorts_of c.args.stack.now) IsMeant (spec.leaf_value c.args.sort x c.args.bank.now) c.args.bank.now (Ok m) c.put_element.new.bank) (sym c.leaf.ensures)
    (gives_on (after_guard c.args.sort x) (c.in-Ok.ensures (sorts_of c.args.stack.now)) (gives_on (as_leaf c.args.sort) c.in-Ok-put_element.ensures (gives_done IsMeant made c.put_element.new.bank is)))

pub returns-in-Err-put_element : goal.returns-in-Err-put_element
returns-in-Err-put_element c =
    gives_on (after_guard c.args.sort (nodes.Element (elements.Const c.args.number c.args.sort))) (c.in-Ok.ensures (sorts_of c.args.stack.now)) (gives_stop (as_leaf c.args.sort) c.in-Err-put_element.ensures)

pub returns-in-Err : goal.returns-in-Err
returns-in-Err c = gives_stop (after_guard c.args.sort (nodes.Element (elements.Const c.args.number c.args.sort))) (c.in-Err.ensures (sorts_of c.args.stack.now))
