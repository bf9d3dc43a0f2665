use Rattle.std.proofs.Common.{◌-◌, arith, sym, ap, subst, ◌∙◌}
use Rattle.std.proofs.Math.ListN.{set}
use Rattle.sc_facts.specs.declared.fact.Fact.TheVariants.{Member}
use Rattle.sc_model.specs.Modelling.{Gathered}
use Rattle.sc_model.proofs.Gathering.{gathered_one}
use Rattle.sc_model.proofs.model.gather.Goals as goal

pub returns-in_ok-push : goal.returns-in_ok-push
returns-in_ok-push c =
    subst (λ f. Gathered f c.args.lists.now.items (set c.args.lists.now.items (c.in-Member.set - 1) c.push.new.self)) (sym (c.in-Member.is ∙ ap (Member c.in-Member.element c.in-Member.set) c.if-not-sign.false))
    (gathered_one c.args.lists.now.items c.in-Member.element c.in-Member.set c.in-Some.list.now c.push.new.self (omega (arith, c.if-set-eq0.false)) c.in-Some.ensures.item.3.0 c.in-Some.ensures.value c.in_ok-push.ensures.ok)
