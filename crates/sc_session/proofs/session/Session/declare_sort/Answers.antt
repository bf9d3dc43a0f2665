use Rattle.std.proofs.Common.{◌+◌, length}
use Rattle.sc_stack.specs.Names.{fault_of, with_sort}
use Rattle.sc_session.proofs.Standing.{sorted_sort, sorted_declared}
use Rattle.sc_session.proofs.session.Session.declare_sort.Goals as goal

pub invariant_of-self : goal.invariant_of-self
invariant_of-self c =
    sorted_declared c.self.inside.bank c.self.inside.stack (with_sort c.self.inside.stack c.args.name.now) c.declare_sort-tried.new.self
    (fault_of c.self.inside.stack c.args.name.now (length c.self.inside.stack.sorts)) (length c.self.inside.stack.sorts + 1) c.declare_sort-tried.result c.declare_sort-tried.ensures c.self.invariant
    (sorted_sort c.self.inside.bank c.self.inside.stack c.args.name.now c.self.invariant)
