use Rattle.std.proofs.Common.{◌≡◌, ◌<◌, ◌≤◌, length, get_or, sym, subst, ◌∙◌, arith}
use Rattle.sc_member.specs.Memberships.{Forces}
use Rattle.sc_member.specs.Candidates.{AllCarry, AllIdle}
use Rattle.sc_member.proofs.OfKinds.{fact_kinds}
use Rattle.sc_member.proofs.Trying.{kept_none}
use Rattle.sc_member.proofs.Going.{facts_next, facts_past}
use Rattle.sc_member.proofs.agenda.Agenda.tried_facts.Goals as goal

pub tried_each-requires : goal.tried_each-requires
tried_each-requires c = subst AllCarry (sym c.in_ok-self.ensures) (fact_kinds (record { parents = c.args.index.now.parents; singles = c.args.index.now.singles; partners = c.args.index.now.partners; pairs = c.args.classes.now.pairs }) c.index-facts-place.result)

pub loop-place-preserved : goal.loop-place-preserved
loop-place-preserved c = record {
  kinds = c.in_ok-found.ensures.kinds;
  rest = λ after.
      c.loop-place.invariant.rest
      (facts_next c.args.problem.now c.args.path.now.facts (record { parents = c.args.index.now.parents; singles = c.args.index.now.singles; partners = c.args.index.now.partners; pairs = c.args.classes.now.pairs }) c.args.path.now.facts c.loop-place.place c.index-facts-place.result
      (subst (λ fs. c.loop-place.place < length fs) c.facts-facts.ensures.facts c.loop-place-test.true)
      (subst (λ fs. c.index-facts-place.result ≡ get_or fs c.loop-place.place c.index-facts-place.result) c.facts-facts.ensures.facts c.index-facts-place.is)
      (subst (AllIdle c.args.problem.now c.args.path.now.facts) c.in_ok-self.ensures (kept_none (Forces c.args.problem.now c.args.path.now.facts) c.in_ok-found.found (sym c.is_some.ensures ∙ c.if-is_some.false) c.in_ok-found.ensures.found))
      after);
}

pub returns-clause-found : goal.returns-clause-found
returns-clause-found c =
    c.loop-place.invariant.rest
    (facts_past c.args.problem.now c.args.path.now.facts (record { parents = c.args.index.now.parents; singles = c.args.index.now.singles; partners = c.args.index.now.partners; pairs = c.args.classes.now.pairs }) c.args.path.now.facts c.loop-place.place (subst (λ fs. length fs ≤ c.loop-place.place) c.facts-facts.ensures.facts (omega (arith, c.loop-place-test.false))))
