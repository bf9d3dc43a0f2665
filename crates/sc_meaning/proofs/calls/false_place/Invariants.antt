use Rattle.std.proofs.Common.{◌≡◌, ◌+◌, drop}
use Rattle.sc_base.specs.Numbered.{item_at}
use Rattle.sc_meaning.specs.Answers.{failing_from}
use Rattle.sc_meaning.specs.Worths.{flag_in}
use Rattle.sc_meaning.proofs.calls.false_place.Given as goal

abbrev pub invariant-loop-formula : goal.invariant-loop-formula
invariant-loop-formula l =
    record {
      place : l.place ≡ l.formula-index;
      rest : failing_from (l.place + 1) (λ n. flag_in (item_at l.values n)) (drop l.formula-index l.formulas) ≡ failing_from 1 (λ n. flag_in (item_at l.values n)) l.formulas;
    }
