-- The items of an input.
use Rattle.std.specs.Prelude.{ℕ, ◌-◌, false, ◌==◌, if◌then◌else◌, List, [], ◌∷◌, ◌++◌}
use Rattle.sc_text.specs.declared.mode.Mode.TheVariants as mode
use Rattle.sc_sexpr.specs.declared.item.Fault.{Fault}
use Rattle.sc_sexpr.specs.declared.item.Fault.TheVariants.{Limit}
use Rattle.sc_sexpr.specs.declared.item.Last.{Last}
use Rattle.sc_sexpr.specs.declared.item.Last.TheVariants as last
use Rattle.sc_sexpr.specs.declared.state.State.{State}
use Rattle.sc_sexpr.specs.declared.state.Move.{Move}
use Rattle.sc_sexpr.specs.declared.state.Move.TheVariants as move
use Rattle.sc_sexpr.specs.declared.state.Ending.{Ending}
use Rattle.sc_sexpr.specs.declared.state.Ending.TheVariants as ending
use Rattle.sc_sexpr.specs.Moves.{is_idle, here, closed, move_of, ending_of}

-- the bytes of the item at hand, where the state is this behind a byte
abbrev pub text_after : State → List ℕ → ℕ → List ℕ
text_after s text b = if is_idle s then [] else text ++ b ∷ []

-- what the first bytes show: all of them are read, an item and what follows it, a byte past the limit, or a fault
pub data Scan : Type 0 where
  Waits : State → List ℕ → ℕ → Scan
  Top : List ℕ → ℕ → State → ℕ → List ℕ → Scan
  Full : ℕ → Scan
  Bad : Fault → Scan

abbrev pub scan_after : Move → State → List ℕ → ℕ → ℕ → List ℕ → (State → List ℕ → Scan) → Scan
scan_after (move.Go s') s text room b bs rest = rest s' (text_after s' text b)
scan_after (move.Done s') s text room b bs rest = Top (text ++ b ∷ []) s.item_line s' (room - 1) bs
scan_after move.Before s text room b bs rest = Top text s.item_line (closed s) room (b ∷ bs)
scan_after (move.Fail f) s text room b bs rest = Bad f

-- A byte past the limit: an item that ends before it comes first.
abbrev pub scan_past : Move → State → List ℕ → ℕ → List ℕ → Scan
scan_past (move.Go s') s text b bs = Full (here s)
scan_past (move.Done s') s text b bs = Full (here s)
scan_past move.Before s text b bs = Top text s.item_line (closed s) 0 (b ∷ bs)
scan_past (move.Fail f) s text b bs = Full (here s)

-- The first item, behind a state and the bytes of the item at hand, where so many bytes may come.
unfoldable pub scan : State → List ℕ → ℕ → List ℕ → Scan
scan s text room [] = Waits s text room
scan s text room (b ∷ bs) =
    if room == 0 then scan_past (move_of s b) s text b bs
    else scan_after (move_of s b) s text room b bs (λ s' text'. scan s' text' (room - 1) bs)

-- an item, and the line of its first token
pub record Piece : Type 0 where
  pub text : List ℕ
  pub line : ℕ

-- the items of an input, and how it ends
pub record Reading : Type 0 where
  pub tops : List Piece
  pub last : Last

abbrev pub with_top : List ℕ → ℕ → Reading → Reading
with_top text line r = record { tops = record { text = text; line = line } ∷ r.tops; last = r.last }

abbrev pub stops : Fault → Reading
stops f = record { tops = []; last = last.Bad f }

abbrev pub ends_with : Ending → State → List ℕ → Reading
ends_with ending.Nothing s text = record { tops = []; last = last.End }
ends_with ending.Whole s text = with_top text s.item_line (record { tops = []; last = last.End })
ends_with (ending.Bad f) s text = stops f

-- A byte behind an item that ended before it: no item ends before it again.
abbrev pub reads_fresh : Move → State → ℕ → (State → List ℕ → Reading) → Reading
reads_fresh (move.Go s') s b rest = rest s' (text_after s' [] b)
reads_fresh (move.Done s') s b rest = with_top (b ∷ []) s.item_line (rest s' [])
reads_fresh move.Before s b rest = record { tops = []; last = last.End }
reads_fresh (move.Fail f) s b rest = stops f

abbrev pub reads_after : Move → State → List ℕ → ℕ → (State → List ℕ → Reading) → Reading
reads_after (move.Go s') s text b rest = rest s' (text_after s' text b)
reads_after (move.Done s') s text b rest = with_top (text ++ b ∷ []) s.item_line (rest s' [])
reads_after move.Before s text b rest = with_top text s.item_line (reads_fresh (move_of (closed s) b) (closed s) b rest)
reads_after (move.Fail f) s text b rest = stops f

-- A byte past the limit: it stands in the item at hand, or in none. An item that ends before it comes first.
abbrev pub reads_past : Move → ℕ → State → List ℕ → Reading
reads_past (move.Go s') limit s text = stops (Limit (here s) limit)
reads_past (move.Done s') limit s text = stops (Limit (here s) limit)
reads_past move.Before limit s text = with_top text s.item_line (stops (Limit s.line limit))
reads_past (move.Fail f) limit s text = stops (Limit (here s) limit)

-- The items of all the bytes, behind a state and the bytes of the item at hand: the limit has this number, and so many more bytes may come.
unfoldable pub reads : ℕ → State → List ℕ → ℕ → List ℕ → Reading
reads limit s text room [] = ends_with (ending_of s) s text
reads limit s text room (b ∷ bs) =
    if room == 0 then reads_past (move_of s b) limit s text
    else reads_after (move_of s b) s text b (λ s' text'. reads limit s' text' (room - 1) bs)

-- nothing has been read
abbrev pub start : State
start = record { mode = mode.Start; comment = false; depth = 0; line = 1; token_line = 1; item_line = 1 }

-- the items of an input of at most so many bytes, and how it ends
abbrev pub items_of : ℕ → List ℕ → Reading
items_of limit bytes = reads limit start [] limit bytes
