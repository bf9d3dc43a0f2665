use Rattle.std.proofs.Common.{rules, ◌≡◌, ◌∷◌, [], ◌++◌, ◌+◌, length, None}
use Rattle.sc_stack.specs.declared.stack.Named.TheVariants as named
use Rattle.sc_stack.specs.Names.{fault_of}
use Rattle.sc_stack.specs.Tables.{names_of}
use Rattle.sc_stack.proofs.Tables.{sort_entered}
use Rattle.sc_stack.proofs.stack.Stack.declare_sort.Goals as goal

pub invariant_of-self-2 : goal.invariant_of-self-2
invariant_of-self-2 c =
    let key : c.in_ok-key.key.items ≡ c.args.name.now = search rules in
    let number : c.in_ok-number.number ≡ length c.self.inside.sorts.items + 1 = search rules in
    let sorts : c.push_reserved.new.self.items ≡ c.self.inside.sorts.items ++ c.args.name.now ∷ [] = search rules in
    let numbers : c.push_reserved-2.new.self.items ≡ c.self.inside.sorts_in_force.items ++ (length c.self.inside.sorts.items + 1) ∷ [] = search rules in
    let table : c.enter.new.table.entries ≡ c.self.inside.table.entries ++ (c.in_ok-key.key, named.Sort (length c.self.inside.sorts.items + 1)) ∷ [] = search rules in
    let fault : fault_of (names_of c.self.inside.sorts.items c.self.inside.constants.items c.self.inside.sorts_in_force.items c.self.inside.constants_in_force.items c.self.inside.assertions.items) c.args.name.now (length c.self.inside.sorts.items) ≡ None = search rules in
    rw (sorts, numbers) (sort_entered (λ key. key.items) _ _ _ _ _ _ _ _ _ key table fault c.self.invariant.0 c.self.invariant.1)
