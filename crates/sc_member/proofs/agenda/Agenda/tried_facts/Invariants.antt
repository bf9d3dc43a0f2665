use Rattle.std.proofs.Common.{drop}
use Rattle.sc_member.specs.Candidates.{AllCarry, FactsIdle}
use Rattle.sc_member.proofs.agenda.Agenda.tried_facts.Given as goal

-- where the steps of the facts that are left are idle, those of all were
abbrev pub invariant-loop-place : goal.invariant-loop-place
invariant-loop-place l =
    record {
      kinds : AllCarry l.self.pending.items;
      rest : FactsIdle l.problem l.path.facts (record { parents = l.index.parents; singles = l.index.singles; partners = l.index.partners; pairs = l.classes.pairs }) (drop l.place l.path.facts)
          → FactsIdle l.problem l.path.facts (record { parents = l.index.parents; singles = l.index.singles; partners = l.index.partners; pairs = l.classes.pairs }) (drop l.fn.self.place l.path.facts);
    }
