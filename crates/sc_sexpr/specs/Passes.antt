-- What the code says of a pass over the bytes that a splitter holds.
use Rattle.std.specs.Prelude.{◌≡◌, ℕ, ◌+◌, ◌-◌, ◌<◌, ◌≤◌, Bool, true, false, ◌||◌, ◌==◌, not, if◌then◌else◌, List, take, drop, length, get_or}
use Rattle.sc_text.specs.declared.token.Kind.{Kind}
use Rattle.sc_text.specs.declared.mode.Mode.{Mode}
use Rattle.sc_text.specs.declared.mode.Mode.TheVariants as mode
use Rattle.sc_text.specs.declared.mode.Step.TheVariants as step
use Rattle.sc_text.specs.Bytes.{is_break, is_symbol_byte}
use Rattle.sc_text.specs.Modes.{is_start, stays, step_of}
use Rattle.sc_sexpr.specs.declared.state.State.{State}
use Rattle.sc_sexpr.specs.declared.scan.Pass.{Pass}
use Rattle.sc_sexpr.specs.declared.scan.Found.{Found}
use Rattle.sc_sexpr.specs.declared.scan.Found.TheVariants as found
use Rattle.sc_sexpr.specs.declared.state.Move.{Move}
use Rattle.sc_sexpr.specs.declared.state.Move.TheVariants as move
use Rattle.sc_sexpr.specs.Moves.{is_idle, here, closed, IsAhead}
use Rattle.sc_sexpr.specs.Scans.{Scan, Waits, Top, Full, Bad, scan}

-- the bytes of the item at hand
abbrev pub text_of : List ℕ → Pass → List ℕ
text_of bytes p = take (p.at - p.from) (drop p.from bytes)

-- a place in the bytes
pub record IsPlaced (bytes : List ℕ) (p : Pass) : Type 0 where
  pub order : p.from ≤ p.at
  pub within : p.at ≤ length bytes

-- where no item is at hand, none of its bytes are
abbrev pub IsResting : Pass → Type 0
IsResting p = is_idle p.state ≡ true → p.from ≡ p.at

-- a pass goes on from another
pub record Follows (bytes : List ℕ) (old new : Pass) : Type 0 where
  pub placed : IsPlaced bytes new
  pub grows : old.at - old.from ≤ new.at - new.from
  pub lines : new.state.line + new.room ≤ old.state.line + old.room
  pub ahead : IsAhead old.state → IsAhead new.state
  pub span : new.at - new.from + new.room ≤ old.at - old.from + old.room

-- the item at hand ends before the next byte
abbrev pub ends_before : Pass → Found
ends_before p = found.Top (record p { state = closed p.state }) p.state.item_line

-- what a byte past the limit shows
abbrev pub found_past : Move → Pass → Found
found_past (move.Go s) p = found.Full (here p.state)
found_past (move.Done s) p = found.Full (here p.state)
found_past move.Before p = ends_before p
found_past (move.Fail f) p = found.Full (here p.state)

abbrev pub Finds : List ℕ → Pass → Found → Scan → Type 0
Finds bytes old (found.Waits p) r = (r ≡ Waits p.state (text_of bytes p) p.room) × (p.at ≡ length bytes) × IsResting p × Follows bytes old p
Finds bytes old (found.Top p line) r = (r ≡ Top (text_of bytes p) line p.state p.room (drop p.at bytes)) × Follows bytes old p × (IsAhead old.state → line ≤ p.state.line)
Finds bytes old (found.Full line) r = r ≡ Full line
Finds bytes old (found.Bad f) r = r ≡ Bad f

abbrev pub scan_from : List ℕ → Pass → Scan
scan_from bytes p = scan p.state (text_of bytes p) p.room (drop p.at bytes)

-- the same place where so many bytes are gone from the front
abbrev pub moved : Pass → ℕ → Pass
moved p count = record p { from = p.from - count; at = p.at - count }

-- white space but for line feeds
abbrev pub is_blank : ℕ → Bool
is_blank b = b == 32 || b == 9 || b == 13

abbrev pub no_break : ℕ → Bool
no_break b = not (is_break b)

-- the bytes that leave a state as it is, line feeds aside
abbrev pub unmoved : State → ℕ → Bool
unmoved s = if s.comment then no_break else if is_start s.mode then is_blank else stays s.mode

-- the same state behind so many more bytes
abbrev pub further : Bool → Pass → ℕ → Pass
further idle p n = record p { from = if idle then p.at + n else p.from; at = p.at + n; room = p.room - n }

-- a pass goes over bytes that change nothing but its place
pub record Skips (bytes : List ℕ) (old new : Pass) : Type 0 where
  pub same : scan_from bytes old ≡ scan_from bytes new
  pub resting : IsResting new
  pub follows : Follows bytes old new
  pub order : old.at ≤ new.at

-- so many bytes further in another state, with the item at hand
abbrev pub along : Pass → State → ℕ → Pass
along p s n = record p { state = s; at = p.at + n; room = p.room - n }

-- a simple symbol or a numeral stands from one place up to another, and the byte there ends it
pub record IsToken (bytes : List ℕ) (at end : ℕ) : Type 0 where
  pub reached : Mode
  pub made : Kind
  pub order : at < end
  pub within : end < length bytes
  pub begun : is_start reached ≡ false
  pub begins : step_of mode.Start (get_or bytes at 0) ≡ step.Go reached
  pub goes : (i : ℕ) → at < i → i < end → step_of reached (get_or bytes i 0) ≡ step.Go reached
  pub stops : step_of reached (get_or bytes end 0) ≡ step.Stop made
  pub symbols : (i : ℕ) → at ≤ i → i < end → is_symbol_byte (get_or bytes i 0) ≡ true

-- a place between the tokens of a list
pub record IsBetween (s : State) : Type 0 where
  pub comment : s.comment ≡ false
  pub start : is_start s.mode ≡ true
  pub inside : (s.depth == 0) ≡ false

-- the bytes from a pass on, as many as may be read
pub record AreNext (bytes : List ℕ) (p : Pass) (rest : List ℕ) : Type 0 where
  pub placed : IsPlaced bytes p
  pub same : (i : ℕ) → i < length rest → get_or bytes (p.at + i) 0 ≡ get_or rest i 0
  pub within : p.at + length rest ≤ length bytes
  pub room : length rest ≤ p.room

-- further between the tokens of the list, and nothing is passed over but bytes with which it goes on
pub record Glides (rest : List ℕ) (s : State) (n : ℕ) (next : State × ℕ) : Type 0 where
  pub between : IsBetween next.0
  pub order : n < next.1
  pub within : next.1 ≤ length rest
  pub skips : (bytes : List ℕ) (p : Pass) → AreNext bytes p rest → Skips bytes p (along p s n) → Skips bytes p (along p next.0 next.1)
