-- What was read of the input.
use Rattle.std.specs.Prelude.{◌≡◌, ◌⊎◌, ℕ, ◌+◌, ◌<◌, ◌≤◌, true, List, [], length}
use Rattle.std.specs.Io.KnownBytes.{IsAtEnd}
use Rattle.sc_io.specs.Moments.{SourceMoment}
use Rattle.sc_io.specs.Reading.{IsRead, IsReadToFault}
use Rattle.sc_sexpr.specs.Scans.{items_of}
use Rattle.sc_sexpr.specs.View.{View}
use Rattle.sc_sexpr.specs.Laws.{reading_of}
use Rattle.sc_session.specs.Scripts.{most_bytes}

-- at most so many bytes were read, and then the source failed
pub record IsCutOff (before after : SourceMoment) (most : ℕ) : Type 0 where
  pub bytes : List ℕ
  pub at_most : length bytes ≤ most
  pub read : IsReadToFault before after bytes

-- The text was read to the end of the input, or up to one byte more than a script may have.
pub record IsGathered (before after : SourceMoment) (text : List ℕ) : Type 0 where
  pub read : IsRead before after text
  pub whole : IsAtEnd after.left ⊎ (most_bytes < length text)
  pub most : length text ≤ most_bytes + 1

-- the whole input is fed, and the splitter has been told so
pub record IsSplit (v : View) (text : List ℕ) : Type 0 where
  pub items : reading_of v [] ≡ items_of most_bytes text
  pub finished : v.last ≡ true
