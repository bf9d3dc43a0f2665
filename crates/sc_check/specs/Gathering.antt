-- What was read of the input.
use Rattle.std.specs.Prelude.{ℕ, ◌+◌, List}
use Rattle.std.specs.Io.KnownBytes.{IsAtEnd}
use Rattle.sc_io.specs.Moments.{SourceMoment}
use Rattle.sc_io.specs.Reading.{IsRead}
use Rattle.sc_session.specs.Scripts.{most_bytes}
use Rattle.sc_check.specs.Reports.{most_more}

-- one byte more than a script and what follows it may have: more are not kept
abbrev pub most_input : ℕ
most_input = most_bytes + most_more + 1

-- The text was read to the end of the input.
pub record IsGathered (before after : SourceMoment) (text : List ℕ) : Type 0 where
  pub read : IsRead before after text
  pub at_end : IsAtEnd after.left
