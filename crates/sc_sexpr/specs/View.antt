-- What a splitter has read, and what it has still to read.
use Rattle.std.specs.Prelude.{◌≡◌, ℕ, ◌+◌, ◌-◌, ◌*◌, ◌<◌, ◌≤◌, ◌^◌, Bool, true, false, List, [], ◌++◌, length, Option, Some, None, unwrap_or, if◌then◌else◌}
use Rattle.sc_sexpr.specs.declared.item.Fault.TheVariants.{Limit}
use Rattle.sc_sexpr.specs.declared.item.Last.{Last}
use Rattle.sc_sexpr.specs.declared.item.Last.TheVariants as last
use Rattle.sc_sexpr.specs.declared.item.Item.{Item}
use Rattle.sc_sexpr.specs.declared.item.Item.TheVariants as item
use Rattle.sc_sexpr.specs.declared.state.State.{State}
use Rattle.sc_sexpr.specs.declared.state.Ending.{Ending}
use Rattle.sc_sexpr.specs.declared.state.Ending.TheVariants as ending
use Rattle.sc_sexpr.specs.declared.scan.Pass.{Pass}
use Rattle.sc_sexpr.specs.Moves.{IsAhead, closed, ending_of}
use Rattle.sc_sexpr.specs.Scans.{Scan, Waits, Top, Full, Bad, scan, start}
use Rattle.sc_sexpr.specs.Passes.{text_of, IsPlaced, IsResting}
use Rattle.sc_sexpr.specs.Spots.{AtHand}

pub record View : Type 0 where
  -- behind the bytes that have been read
  pub state : State
  -- the bytes of the item at hand
  pub text : List ℕ
  -- the bytes that have come and were not read
  pub unread : List ℕ
  -- how many more bytes may be read, of how many since the last limit, of how many altogether
  pub room : ℕ
  pub limit : ℕ
  pub granted : ℕ
  -- whether no more bytes come
  pub last : Bool
  -- the item given last
  pub given : Option (List ℕ)
  -- the end or the fault that was found
  pub over : Option Last
  -- how many bytes the last piece has, and how many were not yet read when it came
  pub piece : ℕ
  pub waiting : ℕ
  -- how many bytes are kept
  pub kept : ℕ

abbrev pub given_of : List ℕ → Pass → Bool → Option (List ℕ)
given_of bytes p true = Some (text_of bytes p)
given_of bytes p false = None

abbrev pub text_at_hand : List ℕ → Pass → Bool → List ℕ
text_at_hand bytes p true = []
text_at_hand bytes p false = text_of bytes p

-- what the fields keep
pub record Holds (bytes : List ℕ) (p : Pass) (given : Bool) (piece waiting granted : ℕ) : Type 0 where
  pub placed : IsPlaced bytes p
  pub rests : given ≡ false → IsResting p
  pub kept : length bytes ≤ p.at - p.from + piece + 2 * waiting
  pub lines : p.state.line + p.room ≤ granted + 1
  pub ahead : IsAhead p.state
  pub span : p.at - p.from + p.room ≤ granted
  pub granted_fits : granted < 2 ^ 63
  pub hand : AtHand p.state (text_at_hand bytes p given)

-- nothing has come, and so many bytes may come
abbrev pub fresh_view : ℕ → View
fresh_view limit = record { state = start; text = []; unread = []; room = limit; limit = limit; granted = limit; last = false; given = None; over = None; piece = 0; waiting = 0; kept = 0 }

-- so many bytes are kept
abbrev pub keeping : ℕ → View → View
keeping n v = record v { kept = n }

-- a piece has come
abbrev pub fed : View → List ℕ → View
fed v piece = record v { unread = v.unread ++ piece; piece = length piece; waiting = length v.unread }

-- more bytes may come behind the last item
abbrev pub widened : View → ℕ → View
widened v limit = record v { room = limit; limit = limit; granted = v.granted + limit }

-- an answer, and the splitter behind it
pub record Answer : Type 0 where
  pub item : Item
  pub view : View

-- how an end or a fault is told
abbrev pub item_of : Last → Item
item_of last.End = item.End
item_of (last.Bad f) = item.Bad f

abbrev pub stopped : View → Last → Answer
stopped v i = record { item = item_of i; view = record v { given = None; over = Some i } }

abbrev pub gives : View → List ℕ → ℕ → State → ℕ → List ℕ → Answer
gives v text line s room rest = record { item = item.Top line; view = record v { state = s; text = []; unread = rest; room = room; given = Some text } }

abbrev pub at_end : View → Ending → Answer
at_end v ending.Nothing = stopped v last.End
at_end v ending.Whole = gives v v.text v.state.item_line (closed v.state) v.room v.unread
at_end v (ending.Bad f) = stopped v (last.Bad f)

abbrev pub waits : View → Answer
waits v = if v.last then at_end v (ending_of v.state) else record { item = item.More; view = v }

abbrev pub shows : View → Scan → Answer
shows v (Waits s text room) = waits (record v { state = s; text = text; unread = []; room = room; given = None })
shows v (Top text line s room rest) = gives v text line s room rest
shows v (Full line) = stopped v (last.Bad (Limit line v.limit))
shows v (Bad f) = stopped v (last.Bad f)

abbrev pub repeats : Option Last → View → Answer → Answer
repeats None v other = other
repeats (Some i) v other = record { item = item_of i; view = v }

-- what the bytes that have come show
abbrev pub scan_of : View → Scan
scan_of v = scan v.state v.text v.room v.unread

-- The next item, the end or a fault, which stay, or nothing yet.
unfoldable pub answer : View → Answer
answer v = repeats v.over v (shows v (scan_of v))

-- No more bytes than this are kept: the item given last or the one at hand, the last piece, and where bytes before it were not yet read when it came, twice as many.
abbrev pub held_at_most : View → ℕ
held_at_most v = length (unwrap_or v.given v.text) + v.piece + 2 * v.waiting
