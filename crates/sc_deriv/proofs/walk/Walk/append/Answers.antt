use Rattle.sc_deriv.proofs.Nested.{nested_after_extend, extended}
use Rattle.sc_deriv.proofs.walk.Walk.append.Goals as goal

pub invariant_of-self : goal.invariant_of-self
invariant_of-self c =
    nested_after_extend c.append.result c.self.inside.path c.append.new.self c.args.facts c.self.inside.waiting c.append.ensures.ok c.append.ensures.err c.self.invariant

pub returns : goal.returns
returns c =
    extended c.append.result c.self.inside.going c.self.inside.path c.append.new.self c.args.facts c.self.inside.waiting c.args.self.now c.self.view_is c.requires c.self.invariant c.append.ensures.ok
