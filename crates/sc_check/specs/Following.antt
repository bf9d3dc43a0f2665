-- What following a script does.
use Rattle.std.specs.Prelude.{◌≡◌, ◌⊎◌, ⊤, ℕ, true, List, Result, Ok, Err}
use Rattle.sc_sexpr.specs.declared.item.Fault.{Fault}
use Rattle.sc_sexpr.specs.declared.item.Item.TheVariants as item
use Rattle.sc_sexpr.specs.View.{View, answer}
use Rattle.sc_terms.specs.declared.memory.Memory.{Memory}
use Rattle.sc_session.specs.declared.tracing.Traced.TheVariants as traced
use Rattle.sc_session.specs.Tracing.{step}
use Rattle.sc_session.specs.Courses.{fault_line}
use Rattle.sc_session.specs.States.{State}
use Rattle.sc_session.specs.Scripts.{most_bytes}
use Rattle.sc_check.specs.declared.follow.Followed.{Followed}
use Rattle.sc_check.specs.declared.follow.Followed.TheVariants as followed
use Rattle.sc_check.specs.Reports.{Standing, standing, Follows, EndsScript}
use Rattle.sc_check.specs.Judging.{AreAllOf}

-- a splitter that is told that no more bytes come
pub record IsFresh (v : View) : Type 0 where
  pub last : v.last ≡ true
  pub granted : v.granted ≡ most_bytes

-- the script was left by (exit)
pub record IsLeft (v : View) (asked : List (List ℕ)) (w : View) (session : State) : Type 0 where
  pub script : State
  pub before : View
  pub follows : Follows v (standing script asked) before
  pub leaves : EndsScript (standing script asked) before traced.Exit w
  pub terms : session.bank ≡ (step script leaves.i).session.bank
  pub formulas : AreAllOf session asked
  pub last : w.last ≡ true
  pub granted : w.granted ≡ most_bytes

-- the script was ended by an error, with this line
pub record IsStopped (v : View) (bytes : List ℕ) : Type 0 where
  pub script : Standing
  pub before : View
  pub follows : Follows v script before
  pub why : ((x : View) × EndsScript script before (traced.Error bytes) x) ⊎ ((f : Fault) × ((answer before).item ≡ item.Bad f) × (bytes ≡ fault_line f))

-- the input ended before the script did
pub record IsUnended (v : View) : Type 0 where
  pub script : Standing
  pub before : View
  pub follows : Follows v script before
  pub at_end : (answer before).item ≡ item.End

abbrev pub FollowGives : View → Result Followed Memory → View → State → Type 0
FollowGives v (Ok (followed.Exited asked)) w session = IsLeft v asked w session
FollowGives v (Ok (followed.Stopped bytes)) w session = IsStopped v bytes
FollowGives v (Ok followed.Unended) w session = IsUnended v
FollowGives v (Err e) w session = ⊤
