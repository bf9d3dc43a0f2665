-- What reading a source into a splitter does.
use Rattle.std.specs.Prelude.{◌≡◌, ℕ, ◌<◌, ◌≤◌, true, List, [], ◌++◌, length, Option, Some, None, Result, Ok, Err}
use Rattle.std.specs.Io.KnownBytes.{IsAtEnd}
use Rattle.sc_io.specs.Moments.{SourceMoment}
use Rattle.sc_io.specs.Reading.{IsRead, IsReadToFault}
use Rattle.sc_sexpr.specs.View.{View, keeping, fed}
use Rattle.sc_input.specs.declared.gathering.GatherError.{GatherError}
use Rattle.sc_input.specs.declared.gathering.GatherError.TheVariants as errors
use Rattle.sc_input.specs.declared.gathering.Reach.{Reach}
use Rattle.sc_input.specs.declared.gathering.Reach.TheVariants as reach

-- at most so many bytes were read
pub record IsReadInPart (before after : SourceMoment) (most : ℕ) : Type 0 where
  pub bytes : List ℕ
  pub at_most : length bytes ≤ most
  pub read : IsRead before after bytes

-- fewer bytes were read, and then the source failed
pub record IsCutOff (before after : SourceMoment) (most : ℕ) : Type 0 where
  pub bytes : List ℕ
  pub fewer : length bytes < most
  pub read : IsReadToFault before after bytes

-- how far the text goes that was read
abbrev pub Reaches : SourceMoment → List ℕ → ℕ → Reach → Type 0
Reaches after text most reach.End = IsAtEnd after.left × (length text < most)
Reaches after text most reach.Most = length text ≡ most

-- The splitter has these bytes behind those that it had, in whatever pieces they came.
abbrev pub IsFed : View → View → List ℕ → Type 0
IsFed old new bytes = new ≡ record old { unread = old.unread ++ bytes; piece = new.piece; waiting = new.waiting; kept = new.kept }

-- and no more bytes come
abbrev pub IsFilled : View → View → List ℕ → Type 0
IsFilled old new bytes = new ≡ record old { unread = old.unread ++ bytes; last = true; piece = new.piece; waiting = new.waiting; kept = new.kept }

-- The text was read so far, and the splitter has it.
pub record Gathered (before after : SourceMoment) (Has : List ℕ → Type 0) (most : ℕ) (r : Reach) : Type 0 where
  pub text : List ℕ
  pub read : IsRead before after text
  pub reaches : Reaches after text most r
  pub fed : Has text

-- what was read where no more could be
abbrev pub Stops : SourceMoment → SourceMoment → ℕ → GatherError → Type 0
Stops before after most errors.Failed = IsCutOff before after most
Stops before after most errors.Memory = IsReadInPart before after most

-- The source was read to its end, or so many bytes of it, and the splitter was told that no more come; or why not.
abbrev pub GatherGives : SourceMoment → SourceMoment → View → View → ℕ → Result Reach GatherError → Type 0
GatherGives before after old new most (Ok r) = Gathered before after (IsFilled old new) most r
GatherGives before after old new most (Err e) = Stops before after most e

-- all pieces were fed, or why not
abbrev pub FillGives : SourceMoment → SourceMoment → View → View → ℕ → Result Reach GatherError → Type 0
FillGives before after old new most (Ok r) = Gathered before after (IsFed old new) most r
FillGives before after old new most (Err e) = Stops before after most e

-- a piece of so many bytes was read and fed
pub record FeedsPiece (before after : SourceMoment) (old new : View) (most count : ℕ) : Type 0 where
  pub piece : List ℕ
  pub some : 0 < count
  pub at_most : count ≤ most
  pub size : length piece ≡ count
  pub read : IsRead before after piece
  pub fed : new ≡ keeping new.kept (fed old piece)

-- the source is at its end
pub record IsOver (before after : SourceMoment) (old new : View) : Type 0 where
  pub at_end : IsAtEnd after.left
  pub read : IsRead before after []
  pub same : new ≡ old

-- what was read before a fault or want of memory, where at most so many bytes were asked for
abbrev pub StopsPiece : SourceMoment → SourceMoment → ℕ → GatherError → Type 0
StopsPiece before after most errors.Failed = IsReadToFault before after []
StopsPiece before after most errors.Memory = IsReadInPart before after most

-- a piece was read, or there is none
abbrev pub MoreGives : SourceMoment → SourceMoment → View → View → ℕ → Result (Option ℕ) GatherError → Type 0
MoreGives before after old new most (Ok None) = IsOver before after old new
MoreGives before after old new most (Ok (Some count)) = FeedsPiece before after old new most count
MoreGives before after old new most (Err e) = StopsPiece before after most e
