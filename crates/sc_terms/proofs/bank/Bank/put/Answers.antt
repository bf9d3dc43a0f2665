use Rattle.std.proofs.Common.{◌≡◌, true, sym, subst, ◌∙◌}
use Rattle.sc_terms.specs.Bank.{NodeStands, takes}
use Rattle.sc_terms.proofs.Puts.{bank_after}
use Rattle.sc_terms.proofs.bank.Bank.put.Goals as goal

pub invariant_of-self : goal.invariant_of-self
invariant_of-self c =
    bank_after c.self.inside.nodes.keys c.insert_full.new.self.keys c.args.node c.insert_full.result c.self.invariant
    (subst (λ b. NodeStands b c.args.node) (sym c.self.view_is) c.requires)
    (subst (λ b. takes b c.args.node ≡ true) (sym c.self.view_is) (sym c.takes.ensures ∙ c.if-not-takes.false))
    c.insert_full.ensures.unique c.insert_full.ensures.keys c.insert_full.ensures.err
