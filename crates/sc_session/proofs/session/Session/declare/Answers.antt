use Rattle.std.proofs.Common.{◌+◌, length, sym, ◌∙◌}
use Rattle.sc_sexpr.specs.Shapes.{shape}
use Rattle.sc_stack.specs.Names.{fault_of, with_constant}
use Rattle.sc_session.proofs.Standing.{sorted_constant, sorted_declared}
use Rattle.sc_session.proofs.session.Session.declare.Goals as goal

pub declare-tried-requires : goal.declare-tried-requires
declare-tried-requires c = c.read_sorts_are_declared.ensures c.self.inside.stack (shape c.args.sort.now) c.in-Ok.sort (sym c.read_sort.ensures ∙ c.in-Ok.is)

pub invariant_of-self : goal.invariant_of-self
invariant_of-self c =
    sorted_declared c.self.inside.bank c.self.inside.stack (with_constant c.self.inside.stack (record { name = c.args.name.now; sort = c.in-Ok.sort })) c.declare-tried.new.self
    (fault_of c.self.inside.stack c.args.name.now (length c.self.inside.stack.constants)) (length c.self.inside.stack.constants + 1) c.declare-tried.result c.declare-tried.ensures c.self.invariant
    (sorted_constant c.self.inside.bank c.self.inside.stack (record { name = c.args.name.now; sort = c.in-Ok.sort }) c.self.invariant)
