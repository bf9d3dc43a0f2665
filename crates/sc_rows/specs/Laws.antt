-- Laws of programs.
use Rattle.std.specs.Prelude.{◌≡◌, ◌↔◌, ◌≢◌, ◌+◌, ◌++◌, [], ◌∷◌, length, negsuc, List, ⊤, Ok, Err}
use Rattle.sc_terms.specs.declared.form.Row.{Row}
use Rattle.sc_terms.specs.declared.problem.Parts.{Parts}
use Rattle.sc_terms.specs.Meaning.{Valuation}
use Rattle.sc_facts.specs.declared.fact.Fact.{Fact}
use Rattle.sc_facts.specs.Facts.{rows_of, Hold}
use Rattle.sc_rows.specs.declared.program.Item.{Item}
use Rattle.sc_rows.specs.declared.program.Judged.TheVariants as judged
use Rattle.sc_rows.specs.declared.program.Failure.{Failure}
use Rattle.sc_rows.specs.declared.program.Failure.TheVariants.{Memory}
use Rattle.sc_rows.specs.Programs.{item_row, failing, judgement, HasNoValues}

abbrev pub RefutedRowsHaveNoValues : Type 0
RefutedRowsHaveNoValues = (rows : List Row) (program : List Item) → judgement rows program ≡ judged.Yes → HasNoValues rows

abbrev pub RefutedPathsDoNotHold : Type 0
RefutedPathsDoNotHold = (facts : List Fact) (program : List Item) → judgement (rows_of facts) program ≡ judged.Yes → (problem : Parts) (v : Valuation) → Hold problem v facts → ⊥

-- 0 <= -1
abbrev pub absurd_row : Row
absurd_row = record { form = []; bound = negsuc 0 }

-- behind the items that gave `done`, these items give these rows, each from the given ones and those before it
abbrev pub GiveRows : List Row → List Row → List Item → List Row → Type 0
GiveRows given done [] [] = ⊤
GiveRows given done [] (row ∷ rows) = ⊥
GiveRows given done (item ∷ items) [] = ⊥
GiveRows given done (item ∷ items) (row ∷ rows) = (item_row given done item ≡ Ok row) × GiveRows given (done ++ row ∷ []) items rows

abbrev pub YesGivesRows : Type 0
YesGivesRows = (given : List Row) (program : List Item) → (judgement given program ≡ judged.Yes) ↔ ((rows : List Row) × GiveRows given [] program (rows ++ absurd_row ∷ []))

-- the items in front give rows, and the next gives none for this reason; or all give rows, and the last is not 0 <= -1, or there is none
pub record FailuresAreTheFirst : Type 0 where
  pub first : (given : List Row) (front : List Item) (item : Item) (behind : List Item) (rows : List Row) (e : Failure) → GiveRows given [] front rows → item_row given rows item ≡ Err e → judgement given (front ++ item ∷ behind) ≡ failing (length front + 1) e
  pub last : (given : List Row) (program : List Item) (rows : List Row) (row : Row) → GiveRows given [] program (rows ++ row ∷ []) → row ≢ absurd_row → judgement given program ≡ judged.No (length program)
  pub none : (given : List Row) → judgement given [] ≡ judged.No 0

abbrev pub ItemsWantNoMemory : Type 0
ItemsWantNoMemory = (given done : List Row) (item : Item) → item_row given done item ≢ Err Memory
