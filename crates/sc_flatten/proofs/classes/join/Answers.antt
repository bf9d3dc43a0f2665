use Rattle.std.proofs.Common.{arith}
use Rattle.sc_flatten.proofs.Hanging.{joins_less, joins_more}
use Rattle.sc_flatten.proofs.classes.join.Goals as goal

pub returns-then-a-b-clause-joins : goal.returns-then-a-b-clause-joins
returns-then-a-b-clause-joins c = λ least own f. joins_less c.args.parents.now c.find-a.new.parents c.find-b.new.parents c.args.first c.args.second c.find-a.result c.find-b.result c.find-a.ensures.finds c.find-b.ensures.finds least own f (omega (arith, c.find-b.ensures.within, c.requires.second, c.find-a.auto.parents, c.find-b.auto.parents)) c.if-a-b.true

pub returns-else-a-b-clause-joins : goal.returns-else-a-b-clause-joins
returns-else-a-b-clause-joins c = λ least own f. joins_more c.args.parents.now c.find-a.new.parents c.find-b.new.parents c.args.first c.args.second c.find-a.result c.find-b.result c.find-a.ensures.finds c.find-b.ensures.finds least own f (omega (arith, c.find-a.ensures.within, c.requires.first, c.find-a.auto.parents, c.find-b.auto.parents)) c.if-a-b.false
