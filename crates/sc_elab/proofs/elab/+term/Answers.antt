use Rattle.std.proofs.Common.{◌≡◌, ◌+◌, ◌<◌, ◌∷◌, [], ◌++◌, Ok, length, map, drop, get_or, subst, sym, ap, ◌∙◌, rules}
use Rattle.sc_sexpr.specs.Shapes.{Listed, shape, shapes_of}
use Rattle.sc_stack.specs.Names.{sorts_of}
use Rattle.sc_elab.specs.Growth.{Gives, IsMeant}
use Rattle.sc_elab.specs.declared.heads.Head.TheVariants as heads
use Rattle.sc_elab.specs.Heads.{head_of}
use Rattle.sc_elab.specs.Elab as spec
use Rattle.sc_elab.proofs.Growing.{gives_on}
use Rattle.sc_elab.proofs.Shaped.{listed}
use Rattle.sc_elab.proofs.Terms.{Elaborates, elaborates_on, cut_at}
use Rattle.sc_elab.proofs.elab.+term.Goals as goal

pub arguments-loop-index-preserved : goal.arguments-loop-index-preserved
arguments-loop-index-preserved t c =
    let slice : c.as_slice-trees.result.now ≡ c.args.items.now.trees.items = search rules in
    let lt : c.loop-index.index < length c.args.items.now.trees.items = search rules in
    let at = c.index-trees-index.is ∙ ap (λ ts. get_or ts c.loop-index.index c.index-trees-index.result) slice in
    let pushed : c.push.new.self ≡ c.loop-index.made ++ c.in-Ok.meant ∷ [] = search rules in
    let whole = spec.behind_head c.args.stack.now (shapes_of (map shape c.args.items.now.trees.items)) c.args.bank.now in
    let after = drop (c.loop-index.index + 1) c.args.items.now.trees.items in
    let goes = subst (λ l. Elaborates c.args.stack.now whole c.args.bank.now c.loop-index.made l c.loop-index.bank) (cut_at c.args.items.now.trees.items c.loop-index.index c.index-trees-index.result lt at) c.loop-index.invariant in
    subst (λ ms. Elaborates c.args.stack.now whole c.args.bank.now ms after c.term.new.bank) (sym pushed)
    (elaborates_on c.args.stack.now whole c.args.bank.now c.loop-index.made c.index-trees-index.result after c.in-Ok.meant c.loop-index.bank c.term.new.bank goes c.in-Ok.ensures)

pub term-returns-in-Ok-EmptySet : goal.term-returns-in-Ok-EmptySet
term-returns-in-Ok-EmptySet t c =
    let known = sorts_of c.args.stack.now in
    let parts = shapes_of (map shape c.in-List.items.trees.items) in
    let is : shape c.args.tree.now ≡ Listed c.in-List.items.line parts = ap shape c.in-List.is ∙ listed c.in-List.items in
    let head : head_of c.args.stack.now parts ≡ Ok (heads.EmptySet c.in-Ok-EmptySet.sort) = search rules in
    subst (λ s. Gives known IsMeant (spec.term c.args.stack.now s c.args.bank.now) c.args.bank.now c.empty_set.result c.empty_set.new.bank) (sym is)
    (subst (λ h. Gives known IsMeant (spec.list_term h (spec.behind_head c.args.stack.now parts) c.args.bank.now) c.args.bank.now c.empty_set.result c.empty_set.new.bank) (sym head) (c.empty_set.ensures known))

pub term-returns-in-Ok : goal.term-returns-in-Ok
term-returns-in-Ok t c =
    let known = sorts_of c.args.stack.now in
    let parts = shapes_of (map shape c.in-List.items.trees.items) in
    let is : shape c.args.tree.now ≡ Listed c.in-List.items.line parts = ap shape c.in-List.is ∙ listed c.in-List.items in
    let head : head_of c.args.stack.now parts ≡ Ok (heads.Operator c.in-Ok-Operator.operator) = search rules in
    let applied = subst (λ ms. Gives known IsMeant (spec.apply c.in-Ok-Operator.operator ms c.arguments.new.bank) c.arguments.new.bank c.apply.result c.apply.new.bank) c.as_slice-in-Ok.ensures (c.apply.ensures known) in
    subst (λ s. Gives known IsMeant (spec.term c.args.stack.now s c.args.bank.now) c.args.bank.now c.apply.result c.apply.new.bank) (sym is)
    (subst (λ h. Gives known IsMeant (spec.list_term h (spec.behind_head c.args.stack.now parts) c.args.bank.now) c.args.bank.now c.apply.result c.apply.new.bank) (sym head) (gives_on (spec.apply c.in-Ok-Operator.operator) c.in-Ok.ensures applied))
