-- What a splitter's answers say of the whole input.
use Rattle.std.specs.Prelude.{◌≡◌, ℕ, ◌+◌, ◌*◌, ◌<◌, ◌^◌, true, false, List, [], ◌++◌, length, Option, Some, None, IsSome, unwrap_or, if◌then◌else◌}
use Rattle.sc_sexpr.specs.declared.item.Last.{Last}
use Rattle.sc_sexpr.specs.declared.item.Last.TheVariants as last
use Rattle.sc_sexpr.specs.declared.item.Item.{Item}
use Rattle.sc_sexpr.specs.declared.item.Item.TheVariants as item
use Rattle.sc_sexpr.specs.declared.state.State.{State}
use Rattle.sc_sexpr.specs.Moves.{is_idle}
use Rattle.sc_sexpr.specs.Scans.{Reading, with_top, stops, reads, items_of}
use Rattle.sc_sexpr.specs.Trees.{IsItem}
use Rattle.sc_sexpr.specs.Spots.{AtHand}
use Rattle.sc_sexpr.specs.Walk.{IsBetween}
use Rattle.sc_sexpr.specs.View.{View, keeping, fed, fresh_view, answer}

-- the items of what a splitter has still to read, where these bytes come
abbrev pub reading_by : Option Last → View → List ℕ → Reading
reading_by None v more = reads v.limit v.state v.text v.room (v.unread ++ more)
reading_by (Some l) v more = record { tops = []; last = l }

abbrev pub reading_of : View → List ℕ → Reading
reading_of v more = reading_by v.over v more

-- an item, and then those behind the answer
abbrev pub behind : Item → View → List ℕ → Reading
behind (item.Top line) v more = with_top (unwrap_or v.given []) line (reading_of v more)
behind item.More v more = reading_of v more
behind item.End v more = record { tops = []; last = last.End }
behind (item.Bad f) v more = stops f

abbrev pub busy : State → ℕ
busy s = if is_idle s then 0 else 1

-- twice the number of bytes that were not read, and one for an item at hand
abbrev pub work_of : View → ℕ
work_of v = 2 * length v.unread + busy v.state

-- With each item there is less to do.
abbrev pub Works : Item → View → View → Type 0
Works (item.Top line) old new = work_of new < work_of old
Works i old new = Unit {0}

-- An item that is answered is there, as one whole item for a reader of trees, whose lines fit 64 bits.
pub record IsReady (line : ℕ) (given : Option (List ℕ)) : Type 0 where
  pub some : IsSome given
  pub item : IsItem (unwrap_or given []) line
  pub lines : line + length (unwrap_or given []) < 2 ^ 64

abbrev pub IsGiven : Item → View → Type 0
IsGiven (item.Top line) v = IsReady line v.given
IsGiven i v = Unit {0}

-- Behind an item the splitter stands between items.
abbrev pub StandsBetween : Item → View → Type 0
StandsBetween (item.Top line) v = IsBetween v.state × (v.text ≡ [])
StandsBetween i v = Unit {0}

-- the bytes that a splitter gave are an item, and it stands between items
abbrev pub GivesItem : Item → View → Type 0
GivesItem (item.Top line) v = IsSome v.given × IsItem (unwrap_or v.given []) line × IsBetween v.state × (v.text ≡ [])
GivesItem i v = Unit {0}

-- What a splitter gives is an item for a reader of trees.
pub record AreItems : Type 0 where
  pub begins : (limit : ℕ) → AtHand (fresh_view limit).state (fresh_view limit).text
  pub stays : (v : View) → AtHand v.state v.text → AtHand (answer v).view.state (answer v).view.text
  pub gives : (v : View) → AtHand v.state v.text → GivesItem (answer v).item (answer v).view

pub record IsReader : Type 0 where
  -- nothing has come
  pub begins : (limit : ℕ) (bytes : List ℕ) → reading_of (fresh_view limit) bytes ≡ items_of limit bytes
  -- It doesn't matter in what pieces the bytes come.
  pub feeds : (v : View) (piece more : List ℕ) → reading_of (fed v piece) more ≡ reading_of v (piece ++ more)
  -- nor how many bytes are kept
  pub keeps : (v : View) (kept : ℕ) (more : List ℕ) → reading_of (keeping kept v) more ≡ reading_of v more
  -- The items that are given, and then the end, are those of all the bytes.
  pub answers : (v : View) (more : List ℕ) → (v.last ≡ true → more ≡ []) → reading_of v more ≡ behind (answer v).item (answer v).view more
  -- More is answered only where more may come.
  pub waits : (v : View) → (answer v).item ≡ item.More → v.last ≡ false
  -- It is answered only where all bytes are read.
  pub ends : (v : View) → (answer v).item ≡ item.More → (answer v).view.unread ≡ []
  pub works : (v : View) → Works (answer v).item v (answer v).view

-- Where a text is longer than its limit, what follows it does not matter.
abbrev pub AreCut : Type 0
AreCut = (limit : ℕ) (text more : List ℕ) → limit < length text → items_of limit (text ++ more) ≡ items_of limit text
