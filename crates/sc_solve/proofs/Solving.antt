-- From the input to the end of the run.
use Rattle.std.proofs.Common.{ℕ, List, [], sym, subst, inr}
use Rattle.sc_sexpr.specs.View.{View}
use Rattle.sc_sexpr.specs.Laws.{reading_of, AreCut}
use Rattle.sc_tree.specs.declared.verdict.Verdict.{Verdict}
use Rattle.sc_session.specs.Scripts.{IsScriptOf, most_bytes}
use Rattle.sc_session.specs.Laws.{AreRead}
use Rattle.sc_solve.specs.declared.ending.Ending.{Ending}
use Rattle.sc_solve.specs.declared.ending.Ending.TheVariants as ending
use Rattle.sc_solve.specs.Gathering.{IsGathered, IsSplit}
use Rattle.sc_solve.specs.Ends.{Moment, RespondGives, IsSolved, SolveEnds}

module _ (law : AreRead) (cut : AreCut) (budget : ℕ) (before after : Moment) (v : View) (text : List ℕ) (gathered : IsGathered before.source after.source text) (split : IsSplit v text) where
  is_solved : (e : Ending) (vs : List Verdict) → RespondGives budget (reading_of v []) before.sink after.sink e vs → IsSolved budget before after e vs
  is_solved e vs gives =
      let found = law.one text in
      record {
        text = text;
        gathered = gathered;
        script = found.0;
        reads = found.1;
        long = λ more_than rest. subst (λ r. IsScriptOf r found.0) (sym (cut most_bytes text rest more_than)) found.1;
        responds = gives found.0 (subst (λ r. IsScriptOf r found.0) (sym split.items) found.1);
      }

  pub solves : (e : Ending) (vs : List Verdict) → RespondGives budget (reading_of v []) before.sink after.sink e vs → SolveEnds budget before after e vs
  solves ending.Done vs gives = is_solved ending.Done vs gives
  solves ending.Error vs gives = is_solved ending.Error vs gives
  solves ending.ReadFault vs gives = absurd (is_solved ending.ReadFault vs gives).responds
  solves ending.WriteFault vs gives = is_solved ending.WriteFault vs gives
  solves ending.Memory vs gives = inr (is_solved ending.Memory vs gives)
