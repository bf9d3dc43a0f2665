use Rattle.std.proofs.Common.{◌≡◌, ◌∷◌, refl}
use Rattle.sc_deriv.proofs.Nested.{nested_after_turn, turned}
use Rattle.sc_deriv.proofs.walk.Walk.close.Goals as goal

pub invariant_of-self : goal.invariant_of-self
invariant_of-self c =
    let top : c.self.inside.waiting ≡ c.in-Some.turn ∷ c.pop.new.self = c.in-Some.ensures in
    nested_after_turn c.append.result c.self.inside.path c.cut_back.new.self c.append.new.self c.in-Some.turn c.pop.new.self c.in-Some.turn.facts (rw top at c.self.invariant) c.cut_back.ensures c.append.ensures.ok c.append.ensures.err

pub returns-in-Some : goal.returns-in-Some
returns-in-Some c =
    let top : c.self.inside.waiting ≡ c.in-Some.turn ∷ c.pop.new.self = c.in-Some.ensures in
    turned c.append.result c.self.inside.going c.self.inside.path c.cut_back.new.self c.append.new.self c.in-Some.turn c.pop.new.self c.in-Some.turn.facts c.args.self.now refl (rw top at c.self.view_is) c.requires (rw top at c.self.invariant) c.cut_back.ensures c.append.ensures.ok
