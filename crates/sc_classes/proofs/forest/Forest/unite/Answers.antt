use Rattle.std.proofs.Common.{inl, inr, sym, ap, ◌∙◌}
use Rattle.sc_classes.proofs.Hung.{stands_then}
use Rattle.sc_classes.proofs.forest.Forest.unite.Goals as goal

pub returns-then-index-clause-stands : goal.returns-then-index-clause-stands
returns-then-index-clause-stands c =
    stands_then c.args.last c.args.self.now.pairs.items c.args.self.now.parents.items c.args.self.now.ranks.items c.args.self.now.leasts.items (c.args.first, c.args.second) c.root-a.result c.root-b.result c.requires.stands c.root-a.ensures.within c.root-b.ensures.within c.root-a.ensures.root c.root-b.ensures.root c.if-a-b.false
    (inl (c.root-a.ensures.same, c.root-b.ensures.same))
    c.hang.new.self.pairs.items c.hang.new.self.parents.items c.hang.new.self.ranks.items c.hang.new.self.leasts.items
    (ap (λ v. v.items) c.hang.ensures.pairs ∙ c.push_reserved.ensures.items) c.hang.ensures.parents c.hang.ensures.ranks c.hang.ensures.leasts

pub returns-else-index-clause-stands : goal.returns-else-index-clause-stands
returns-else-index-clause-stands c =
    stands_then c.args.last c.args.self.now.pairs.items c.args.self.now.parents.items c.args.self.now.ranks.items c.args.self.now.leasts.items (c.args.first, c.args.second) c.root-b.result c.root-a.result c.requires.stands c.root-b.ensures.within c.root-a.ensures.within c.root-b.ensures.root c.root-a.ensures.root (λ e. c.if-a-b.false (sym e))
    (inr (c.root-b.ensures.same, c.root-a.ensures.same))
    c.hang-else-index.new.self.pairs.items c.hang-else-index.new.self.parents.items c.hang-else-index.new.self.ranks.items c.hang-else-index.new.self.leasts.items
    (ap (λ v. v.items) c.hang-else-index.ensures.pairs ∙ c.push_reserved.ensures.items) c.hang-else-index.ensures.parents c.hang-else-index.ensures.ranks c.hang-else-index.ensures.leasts
