use Rattle.std.proofs.Common.{◌≡◌, ◌++◌, ◌-◌, length, drop, refl, rules, arith}
use Rattle.std.proofs.lemmas.List.{length-drop}
use Rattle.sc_sexpr.proofs.Holding.{feeds}
use Rattle.sc_sexpr.proofs.splitter.Splitter.feed.Goals as goal

pub returns-clause-ok : goal.returns-clause-ok
returns-clause-ok c =
    let new : c.drop_front.new.bytes.items ≡ drop c.spare-spare.result (c.self.inside.bytes.items ++ c.args.piece.now) = search rules in
    let many : c.len.result - c.self.inside.pass.at ≡ length (drop c.self.inside.pass.at c.self.inside.bytes.items) = omega (arith, length-drop c.self.inside.pass.at c.self.inside.bytes.items) in
    feeds c.args.self.now _ c.self.inside.bytes.items c.drop_front.new.bytes.items c.args.piece.now c.self.inside.pass c.moved-self-inside.result c.self.inside.given c.spare-spare.result _ c.self.view_is refl refl refl refl refl c.self.invariant.placed c.spare-spare.ensures.within new c.moved-self-inside.ensures many
