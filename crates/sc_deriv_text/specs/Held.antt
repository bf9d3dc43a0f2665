-- Bytes that are held back before they are written.
use Rattle.std.specs.Prelude.{◌≡◌, ℕ, Bool, true, false, List, ◌++◌, Some, Result, Ok, Err}
use Rattle.sc_io.specs.Moments.{SinkMoment}
use Rattle.sc_io.specs.Writing.{IsWritten, PutGives}
use Rattle.sc_io.specs.declared.put.PutError.{PutError}

-- what is held, how often a piece did not fit, and whether the last one did not
pub record HeldBytes : Type 0 where
  pub held : List ℕ
  pub wants : ℕ
  pub has_wanted : Bool

-- held bytes as a sink: it never fails
abbrev pub held_moment : HeldBytes → SinkMoment
held_moment h = record { written = Some h.held; faults = 0; failed_answers = 0; has_failed = false; wants = h.wants; has_wanted = h.has_wanted; never_fails = true; never_lacks_memory = false }

-- a front of the bytes was written, and the rest is held
pub record IsHeldFrom (before now : SinkMoment) (bytes held : List ℕ) : Type 0 where
  pub front : List ℕ
  pub parts : bytes ≡ front ++ held
  pub written : IsWritten before now front

-- the bytes are written or held, or a front of them is written, with an error
abbrev pub HoldGives : SinkMoment → SinkMoment → List ℕ → List ℕ → Result (Unit {0}) PutError → Type 0
HoldGives before now bytes held (Ok _) = IsHeldFrom before now bytes held
HoldGives before now bytes held (Err e) = PutGives before now bytes (Err e)
