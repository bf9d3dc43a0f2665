-- How a run ends, and why.
use Rattle.std.specs.Prelude.{◌≡◌, ℕ, ◌^◌, List, [], Result, Ok, Err}
use Rattle.sc_io.specs.Moments.{SinkMoment}
use Rattle.sc_io.specs.declared.put.PutError.{PutError}
use Rattle.sc_io.specs.declared.put.PutError.TheVariants as put
use Rattle.sc_io.specs.Writing.{PutGives}
use Rattle.sc_tree.specs.declared.budget.Budget.{Budget}
use Rattle.sc_tree.specs.declared.budget.Budget.TheVariants.{Steps, Full}
use Rattle.sc_tree.specs.declared.verdict.Verdict.{Verdict}
use Rattle.sc_solve.specs.declared.ending.Ending.{Ending}
use Rattle.sc_solve.specs.declared.ending.Ending.TheVariants as ending
use Rattle.sc_solve.specs.Ends.{Moment, SolveEnds}
use Rattle.sc_check.specs.declared.ending.Ending.{Ending as CheckEnding}
use Rattle.sc_check.specs.declared.ending.Ending.TheVariants as checks
use Rattle.sc_check.specs.Ends as check
use Rattle.setcard.specs.Words.{usage_line}

-- the steps on each branch of a check-sat
abbrev pub steps : Budget → ℕ
steps (Steps n) = n
steps Full = 2 ^ 40

-- the exit status of a run that solves
abbrev pub status_of : Ending → ℕ
status_of ending.Done = 0
status_of ending.Error = 1
status_of ending.ReadFault = 3
status_of ending.WriteFault = 4
status_of ending.Memory = 5

-- A run that solves ended with this status, and this is why.
pub record IsSolving (budget : ℕ) (before after : Moment) (code : ℕ) (verdicts : List Verdict) : Type 0 where
  pub ending : Ending
  pub status : code ≡ status_of ending
  pub ends : SolveEnds budget before after ending verdicts

-- the exit status of a run that checks
abbrev pub check_status : CheckEnding → ℕ
check_status checks.Done = 0
check_status checks.Error = 1
check_status checks.ReadFault = 3
check_status checks.WriteFault = 4
check_status checks.Memory = 5
check_status checks.Refused = 6
check_status checks.Nothing = 7

-- A run that checks ended with this status, and this is why; there are no verdicts.
pub record IsChecking (before after : check.Moment) (code : ℕ) (verdicts : List Verdict) : Type 0 where
  pub ending : CheckEnding
  pub status : code ≡ check_status ending
  pub ends : check.CheckEnds before after ending
  pub none : verdicts ≡ []

-- the exit status of a run whose words were refused
abbrev pub usage_status : Result (Unit {0}) PutError → ℕ
usage_status (Ok u) = 2
usage_status (Err put.Sink) = 4
usage_status (Err put.Memory) = 5

-- The usage line was written, or a front of it, and there are no verdicts.
pub record IsRefusing (before after : SinkMoment) (code : ℕ) (verdicts : List Verdict) : Type 0 where
  pub wrote : Result (Unit {0}) PutError
  pub status : code ≡ usage_status wrote
  pub gives : PutGives before after usage_line wrote
  pub none : verdicts ≡ []
