use Rattle.std.proofs.Common.{◌≡◌, [], sym, subst, ◌∙◌}
use Rattle.sc_tree.specs.Events.{HasNoClash}
use Rattle.sc_branch.specs.Growing.{Held, IsOn, IsHeldAfter}
use Rattle.sc_branch.proofs.Allowed.{held, taken_held, nothing_held, no_items}
use Rattle.sc_branch.proofs.branch.Branch.advance.Goals as goal

pub returns-then-not-is_empty-clause-held : goal.returns-then-not-is_empty-clause-held
returns-then-not-is_empty-clause-held c = taken_held c.args.problem.now c.args.budget c.self.inside.about.value c.args.self.now c.self.inside.growing c.spread-spread.new.growing c.take_chain-chain.new.self c.take_chain-chain.result (sym c.self.view_is) c.self.invariant c.requires.on c.in_ok-spread.ensures c.take_chain-chain.ensures.chain c.take_chain-chain.ensures.rest

pub decide-requires-clause-on : goal.decide-requires-clause-on
decide-requires-clause-on c =
    let empty : c.take_chain-chain.result ≡ [] = no_items c.take_chain-chain.result c.is_empty.result c.is_empty.ensures.0 c.if-not-is_empty.false in
    let same : held c.self.inside.about.value c.take_chain-chain.new.self ≡ c.args.self.now = nothing_held c.args.problem.now c.args.budget c.self.inside.about.value c.args.self.now c.self.inside.growing c.spread-spread.new.growing c.take_chain-chain.new.self c.take_chain-chain.result (sym c.self.view_is) c.self.invariant c.requires.on c.in_ok-spread.ensures c.take_chain-chain.ensures.chain c.take_chain-chain.ensures.rest empty in
    subst (λ (h : Held). IsOn c.args.problem.now c.args.budget h.path.facts h.steps) (sym same) c.requires.on

pub decide-requires-clause-apart : goal.decide-requires-clause-apart
decide-requires-clause-apart c =
    let empty : c.take_chain-chain.result ≡ [] = no_items c.take_chain-chain.result c.is_empty.result c.is_empty.ensures.0 c.if-not-is_empty.false in
    let same : held c.self.inside.about.value c.take_chain-chain.new.self ≡ c.args.self.now = nothing_held c.args.problem.now c.args.budget c.self.inside.about.value c.args.self.now c.self.inside.growing c.spread-spread.new.growing c.take_chain-chain.new.self c.take_chain-chain.result (sym c.self.view_is) c.self.invariant c.requires.on c.in_ok-spread.ensures c.take_chain-chain.ensures.chain c.take_chain-chain.ensures.rest empty in
    subst (λ (h : Held). HasNoClash h.path.facts) (c.self.view_is ∙ sym same) c.in_default.ensures

pub returns-clause-held : goal.returns-clause-held
returns-clause-held c =
    let empty : c.take_chain-chain.result ≡ [] = no_items c.take_chain-chain.result c.is_empty.result c.is_empty.ensures.0 c.if-not-is_empty.false in
    let same : held c.self.inside.about.value c.take_chain-chain.new.self ≡ c.args.self.now = nothing_held c.args.problem.now c.args.budget c.self.inside.about.value c.args.self.now c.self.inside.growing c.spread-spread.new.growing c.take_chain-chain.new.self c.take_chain-chain.result (sym c.self.view_is) c.self.invariant c.requires.on c.in_ok-spread.ensures c.take_chain-chain.ensures.chain c.take_chain-chain.ensures.rest empty in
    subst (λ h. IsHeldAfter c.args.problem.now h c.in_ok-event.event c.decide.new.self) same c.in_ok-event.ensures.held
