use Rattle.std.proofs.Common.{rules, ◌≡◌, ◌∷◌, [], ◌++◌, ◌+◌, length, None}
use Rattle.sc_stack.specs.declared.stack.Named.TheVariants as named
use Rattle.sc_stack.specs.Names.{fault_of, IsSort}
use Rattle.sc_stack.specs.Tables.{names_of}
use Rattle.sc_stack.proofs.Tables.{constant_entered}
use Rattle.sc_stack.proofs.stack.Stack.declare.Goals as goal

pub invariant_of-self-2 : goal.invariant_of-self-2
invariant_of-self-2 c =
    let key : c.in_ok-key.key.items ≡ c.args.name.now = search rules in
    let constants : c.push_reserved.new.self.items ≡ c.self.inside.constants.items ++ record { name = c.args.name.now; sort = c.args.sort } ∷ [] = search rules in
    let numbers : c.push_reserved-2.new.self.items ≡ c.self.inside.constants_in_force.items ++ (length c.self.inside.constants.items + 1) ∷ [] = search rules in
    let table : c.enter.new.table.entries ≡ c.self.inside.table.entries ++ (c.in_ok-key.key, named.Constant (length c.self.inside.constants.items + 1) c.args.sort) ∷ [] = search rules in
    let fault : fault_of (names_of c.self.inside.sorts.items c.self.inside.constants.items c.self.inside.sorts_in_force.items c.self.inside.constants_in_force.items c.self.inside.assertions.items) c.args.name.now (length c.self.inside.constants.items) ≡ None = search rules in
    let declared : IsSort (names_of c.self.inside.sorts.items c.self.inside.constants.items c.self.inside.sorts_in_force.items c.self.inside.constants_in_force.items c.self.inside.assertions.items) c.args.sort = search rules in
    rw (constants, numbers) (constant_entered (λ key. key.items) _ _ _ _ _ _ _ _ _ c.args.sort key table fault declared c.self.invariant.0 c.self.invariant.1)
