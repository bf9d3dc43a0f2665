-- Programs that combine rows, judged item by item.
use Rattle.std.specs.Prelude.{◌≡◌, ℕ, ◌+◌, Bool, true, false, ◌&&◌, if◌then◌else◌, ℤ, pos, negsuc, int_le, List, [], ◌∷◌, ◌++◌, length, Option, Some, None, Ok, Err, ⊤}
use Rattle.std.specs.declared.result.Result.{Result}
use Rattle.std.specs.List.{AllByRecursion}
use Rattle.std.specs.Ordering.{int_eq}
use Rattle.sc_base.specs.Numbered.{item_at}
use Rattle.sc_terms.specs.declared.atoms.Atom.{Atom}
use Rattle.sc_terms.specs.declared.form.Row.{Row}
use Rattle.sc_linear.specs.declared.exact.LinearError.{LinearError}
use Rattle.sc_linear.specs.declared.exact.LinearError.TheVariants as linear
use Rattle.sc_linear.specs.Rows.{added, divides, tightened, zero_row}
use Rattle.sc_linear.specs.Laws.{HoldsBy}
use Rattle.sc_rows.specs.declared.program.Item.{Item}
use Rattle.sc_rows.specs.declared.program.Item.TheVariants as items
use Rattle.sc_rows.specs.declared.program.Judged.{Judged}
use Rattle.sc_rows.specs.declared.program.Judged.TheVariants as judged
use Rattle.sc_rows.specs.declared.program.Failure.{Failure}
use Rattle.sc_rows.specs.declared.program.Failure.TheVariants.{Refused, Wide, Memory}

-- a row, or a refusal where there is none
abbrev pub row_or_refused : Option Row → Result Row Failure
row_or_refused None = Err Refused
row_or_refused (Some row) = Ok row

-- the row with a number that counts from 1
abbrev pub row_at : List Row → ℕ → Result Row Failure
row_at rows n = row_or_refused (item_at rows n)

-- a failure of arithmetic as one of an item
abbrev pub failure_of : LinearError → Failure
failure_of (linear.Wide op a b) = Wide op a b
failure_of linear.Memory = Memory

abbrev pub lifted : Result Row LinearError → Result Row Failure
lifted (Ok row) = Ok row
lifted (Err e) = Err (failure_of e)

-- what f gives of the row, where there is one
abbrev pub and_then : Result Row Failure → (Row → Result Row Failure) → Result Row Failure
and_then (Ok row) f = f row
and_then (Err e) f = Err e

-- a row plus a factor times the row of an earlier item
abbrev pub sum_step : List Row → Row → ℕ × ℤ → Result Row Failure
sum_step done total t = if int_le (pos 0) t.1 then and_then (row_at done t.0) (λ row. lifted (added total row t.1)) else Err Refused

abbrev pub sum_from : List Row → Row → List (ℕ × ℤ) → Result Row Failure
sum_from done total [] = Ok total
sum_from done total (t ∷ ts) = and_then (sum_step done total t) (λ next. sum_from done next ts)

abbrev pub quotient_of : Row → ℤ → Result Row Failure
quotient_of row g = if divides g row.form then Ok (tightened row g) else Err Refused

-- the row that an item gives after the rows of the earlier items
abbrev pub item_row : List Row → List Row → Item → Result Row Failure
item_row rows done (items.Use r) = row_at rows r
item_row rows done (items.Sum []) = Err Refused
item_row rows done (items.Sum (t ∷ ts)) = sum_from done zero_row (t ∷ ts)
item_row rows done (items.Div i g) = if int_le (pos 1) g then and_then (row_at done i) (λ row. quotient_of row g) else Err Refused

-- 0 <= -1
abbrev pub has_no_terms : List (ℤ × Atom) → Bool
has_no_terms [] = true
has_no_terms (t ∷ ts) = false

abbrev pub is_absurd : Row → Bool
is_absurd row = has_no_terms row.form && int_eq row.bound (negsuc 0)

-- the judgement where all items gave rows, by the last of them
abbrev pub by_last : ℕ → Result Row Failure → Judged
by_last count (Err e) = judged.No count
by_last count (Ok row) = if is_absurd row then judged.Yes else judged.No count

abbrev pub ending : List Row → Judged
ending done = by_last (length done) (row_at done (length done))

-- the judgement where an item gives no row
abbrev pub failing : ℕ → Failure → Judged
failing k Refused = judged.No k
failing k (Wide op a b) = judged.Wide k op a b
failing k Memory = judged.No k

-- the judgement of an item that gives a row or none, and of those behind it
abbrev pub goes_on : ℕ → Result Row Failure → (Row → Judged) → Judged
goes_on k (Ok row) f = f row
goes_on k (Err e) f = failing k e

-- the judgement of the items behind those that gave the rows
abbrev pub judged_from : List Row → List Row → List Item → Judged
judged_from rows done [] = ending done
judged_from rows done (item ∷ rest) = goes_on (length done + 1) (item_row rows done item) (λ row. judged_from rows (done ++ row ∷ []) rest)

abbrev pub judgement : List Row → List Item → Judged
judgement rows program = judged_from rows [] program

-- the answer is what is expected, or there was no memory
abbrev pub IsExact : Result Row Failure → Result Row Failure → Type 0
IsExact (Ok row) expected = expected ≡ Ok row
IsExact (Err Refused) expected = expected ≡ Err Refused
IsExact (Err (Wide op a b)) expected = expected ≡ Err (Wide op a b)
IsExact (Err Memory) expected = ⊤

-- no integers for the atoms make all rows hold
abbrev pub HasNoValues : List Row → Type 0
HasNoValues rows = (v : Atom → ℤ) → AllByRecursion (HoldsBy v) rows → ⊥
