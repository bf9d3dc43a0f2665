-- A program that refutes is right: no integers make all rows hold.
use Rattle.std.proofs.Common.{◌≡◌, ℕ, zero, suc, ◌+◌, Bool, true, false, ℤ, pos, negsuc, ◌≤ℤ◌, List, [], ◌∷◌, ◌++◌, length, refl, sym, ap, ◌∙◌, subst, Option, Some, None, Ok, Err, arith}
use Rattle.std.specs.Prelude.{slice_get, int_le, if◌then◌else◌, IfOk}
use Rattle.std.specs.declared.result.Result.{Result}
use Rattle.std.specs.List.{AllByRecursion}
use Rattle.std.specs.Cmp.{signed_Decides}
use Rattle.std.proofs.lemmas.Int.{ints}
use Rattle.std.proofs.lemmas.Bool.{false≢true}
use Rattle.sc_base.specs.Numbered.{item_at}
use Rattle.sc_terms.specs.declared.atoms.Atom.{Atom}
use Rattle.sc_terms.specs.declared.form.Row.{Row as LinearRow}
use Rattle.sc_terms.specs.declared.problem.Parts.{Parts}
use Rattle.sc_terms.specs.Meaning.{Valuation, atom_value}
use Rattle.sc_facts.specs.declared.fact.Fact.{Fact}
use Rattle.sc_facts.specs.declared.fact.Fact.TheVariants.{Sign, Member, Eq, EqSet, Row, Empty}
use Rattle.sc_facts.specs.Facts.{rows_of, Hold}
use Rattle.sc_linear.specs.declared.exact.LinearError.{LinearError}
use Rattle.sc_linear.specs.Rows.{added, divides, tightened, zero_row}
use Rattle.sc_linear.specs.Laws.{HoldsBy, SumsHold, QuotientsHold, RowsHoldByAtoms}
use Rattle.sc_rows.specs.declared.program.Item.{Item}
use Rattle.sc_rows.specs.declared.program.Item.TheVariants as items
use Rattle.sc_rows.specs.declared.program.Judged.{Judged}
use Rattle.sc_rows.specs.declared.program.Judged.TheVariants as judged
use Rattle.sc_terms.specs.declared.memory.Memory.{Memory as Mem}
use Rattle.sc_rows.specs.declared.program.Failure.{Failure}
use Rattle.sc_rows.specs.declared.program.Failure.TheVariants.{Refused, Wide, Memory}
use Rattle.sc_rows.specs.Programs.{row_or_refused, row_at, lifted, and_then, sum_step, sum_from, quotient_of, item_row, is_absurd, by_last, failing, goes_on, judged_from, judgement, HasNoValues}

-- what is known of operations on rows
pub record RowLaws : Type 0 where
  pub sums : SumsHold
  pub quotients : QuotientsHold

ok_is : {A : Type 0} (x y : A) → (let r : Result A Failure = Ok x in r) ≡ Ok y → x ≡ y
ok_is x y h = cc

err_ok : {A X : Type 0} (e : Failure) (y : A) → (let r : Result A Failure = Err e in r) ≡ Ok y → X
err_ok e y h = cc

and_then-ok : (r : Result LinearRow Failure) (f : LinearRow → Result LinearRow Failure) (y : LinearRow) → and_then r f ≡ Ok y → (x : LinearRow) × (r ≡ Ok x) × (f x ≡ Ok y)
and_then-ok (Ok x) f y h = (x, refl, h)
and_then-ok (Err e) f y h = err_ok e y h

lifted-ok : (r : Result LinearRow LinearError) (y : LinearRow) → lifted r ≡ Ok y → r ≡ Ok y
lifted-ok (Ok x) y h = ap Ok (ok_is x y h)
lifted-ok (Err e) y h = cc

row_is : (o : Option LinearRow) (row : LinearRow) → row_or_refused o ≡ Ok row → o ≡ Some row
row_is None row e = err_ok Refused row e
row_is (Some r) row e = ap Some (ok_is r row e)

module _ (laws : RowLaws) (v : Atom → ℤ) where
  at_place : (rows : List LinearRow) (k : ℕ) (row : LinearRow) → AllByRecursion (HoldsBy v) rows → slice_get rows k ≡ Some row → HoldsBy v row
  at_place [] k row h e = cc
  at_place (r ∷ rs) zero row h e = let same : r ≡ row = cc in subst (HoldsBy v) same h.0
  at_place (r ∷ rs) (suc k) row h e = at_place rs k row h.1 e

  at_number : (rows : List LinearRow) (n : ℕ) (row : LinearRow) → AllByRecursion (HoldsBy v) rows → item_at rows n ≡ Some row → HoldsBy v row
  at_number rows zero row h e = cc
  at_number rows (suc k) row h e = at_place rows k row h e

  row_at_holds : (rows : List LinearRow) (n : ℕ) (row : LinearRow) → AllByRecursion (HoldsBy v) rows → row_at rows n ≡ Ok row → HoldsBy v row
  row_at_holds rows n row h e = at_number rows n row h (row_is (item_at rows n) row e)

  added_holds : (a b r : LinearRow) (m : ℤ) → pos 0 ≤ℤ m → added a b m ≡ Ok r → HoldsBy v a → HoldsBy v b → HoldsBy v r
  added_holds a b r m n e h k = laws.sums v a b r m n e h k

  step_holds : (done : List LinearRow) (total next : LinearRow) (t : ℕ × ℤ) (b : Bool) → int_le (pos 0) t.1 ≡ b → AllByRecursion (HoldsBy v) done → HoldsBy v total
      → (if b then and_then (row_at done t.0) (λ row. lifted (added total row t.1)) else Err Refused) ≡ Ok next → HoldsBy v next
  step_holds done total next t true e h k f =
      let m : pos 0 ≤ℤ t.1 = grind (arith, ints) in
      let a = and_then-ok (row_at done t.0) (λ row. lifted (added total row t.1)) next f in
      added_holds total a.0 next t.1 m (lifted-ok (added total a.0 t.1) next a.2) k (row_at_holds done t.0 a.0 h a.1)
  step_holds done total next t false e h k f = err_ok Refused next f

  sum_holds : (done : List LinearRow) (total row : LinearRow) (ts : List (ℕ × ℤ)) → AllByRecursion (HoldsBy v) done → HoldsBy v total → sum_from done total ts ≡ Ok row → HoldsBy v row
  sum_holds done total row [] h k e = subst (HoldsBy v) (ok_is total row e) k
  sum_holds done total row (t ∷ ts) h k e =
      let a = and_then-ok (sum_step done total t) (λ next. sum_from done next ts) row e in
      sum_holds done a.0 row ts h (step_holds done total a.0 t (int_le (pos 0) t.1) refl h k a.1) a.2

  quotient_holds : (row r : LinearRow) (g : ℤ) (b : Bool) → divides g row.form ≡ b → pos 1 ≤ℤ g → HoldsBy v row → (if b then Ok (tightened row g) else Err Refused) ≡ Ok r → HoldsBy v r
  quotient_holds row r g true e p h f = subst (HoldsBy v) (ok_is (tightened row g) r f) ((laws.quotients v row g p e).0 h)
  quotient_holds row r g false e p h f = err_ok Refused r f

  div_holds : (done : List LinearRow) (i : ℕ) (g : ℤ) (r : LinearRow) (b : Bool) → int_le (pos 1) g ≡ b → AllByRecursion (HoldsBy v) done
      → (if b then and_then (row_at done i) (λ row. quotient_of row g) else Err Refused) ≡ Ok r → HoldsBy v r
  div_holds done i g r true e h f =
      let p : pos 1 ≤ℤ g = grind (arith, ints) in
      let a = and_then-ok (row_at done i) (λ row. quotient_of row g) r f in
      quotient_holds a.0 r g (divides g a.0.form) refl p (row_at_holds done i a.0 h a.1) a.2
  div_holds done i g r false e h f = err_ok Refused r f

  item_holds : (rows done : List LinearRow) (item : Item) (row : LinearRow) → AllByRecursion (HoldsBy v) rows → AllByRecursion (HoldsBy v) done → item_row rows done item ≡ Ok row → HoldsBy v row
  item_holds rows done (items.Use r) row h k e = row_at_holds rows r row h e
  item_holds rows done (items.Sum []) row h k e = err_ok Refused row e
  item_holds rows done (items.Sum (t ∷ ts)) row h k e = sum_holds done zero_row row (t ∷ ts) k (omega (arith, ints)) e
  item_holds rows done (items.Div i g) row h k e = div_holds done i g row (int_le (pos 1) g) refl k e

  absurd_row : (form : List (ℤ × Atom)) (bound : ℤ) → is_absurd (record { form = form; bound = bound }) ≡ true → HoldsBy v (record { form = form; bound = bound }) → ⊥
  absurd_row [] bound e h = let z : bound ≡ negsuc 0 = (signed_Decides bound (negsuc 0)).0 e in omega (arith, ints, z, h)
  absurd_row (t ∷ ts) bound e h = false≢true e

  pub yes_only : (b : Bool) (n : ℕ) → (if b then judged.Yes else judged.No n) ≡ judged.Yes → b ≡ true
  yes_only true n e = refl
  yes_only false n e = cc

  last_yes : (rows : List LinearRow) (n : ℕ) (r : Result LinearRow Failure) → row_at rows n ≡ r → AllByRecursion (HoldsBy v) rows → by_last n r ≡ judged.Yes → ⊥
  last_yes rows n (Err x) f h e = cc
  last_yes rows n (Ok row) f h e = absurd_row row.form row.bound (yes_only (is_absurd row) n e) (row_at_holds rows n row h f)

  all_push : (rows : List LinearRow) (row : LinearRow) → AllByRecursion (HoldsBy v) rows → HoldsBy v row → AllByRecursion (HoldsBy v) (rows ++ row ∷ [])
  all_push [] row h k = (k, tt)
  all_push (r ∷ rs) row h k = (h.0, all_push rs row h.1 k)

  pub failing_yes : (k : ℕ) (e : Failure) → failing k e ≡ judged.Yes → ⊥
  failing_yes k Refused h = cc
  failing_yes k (Wide op a b) h = cc
  failing_yes k Memory h = cc

  item_yes : (k : ℕ) (r : Result LinearRow Failure) (f : LinearRow → Judged) → goes_on k r f ≡ judged.Yes → ((row : LinearRow) → r ≡ Ok row → f row ≡ judged.Yes → ⊥) → ⊥
  item_yes k (Ok row) f e next = next row refl e
  item_yes k (Err x) f e next = failing_yes k x e

  refuted : (rows done : List LinearRow) (program : List Item) → AllByRecursion (HoldsBy v) rows → AllByRecursion (HoldsBy v) done → judged_from rows done program ≡ judged.Yes → ⊥
  refuted rows done [] h k e = last_yes done (length done) (row_at done (length done)) refl k e
  refuted rows done (item ∷ rest) h k e =
      item_yes (length done + 1) (item_row rows done item) (λ row. judged_from rows (done ++ row ∷ []) rest) e (λ row f g. refuted rows (done ++ row ∷ []) rest h (all_push done row k (item_holds rows done item row h k f)) g)

-- where the judgement is Yes, no integers make all rows hold
pub refutes_sound : RowLaws → (rows : List LinearRow) (program : List Item) → judgement rows program ≡ judged.Yes → HasNoValues rows
refutes_sound laws rows program e v h = refuted laws v rows [] program h tt e

-- ---- paths
rows_hold : RowsHoldByAtoms → (problem : Parts) (v : Valuation) (facts : List Fact) → Hold problem v facts → AllByRecursion (HoldsBy (atom_value problem v)) (rows_of facts)
rows_hold values problem v [] h = tt
rows_hold values problem v (Row row ∷ facts) h = ((values problem v row).0 h.0, rows_hold values problem v facts h.1)
rows_hold values problem v (Sign f s ∷ facts) h = rows_hold values problem v facts h.1
rows_hold values problem v (Member e s b ∷ facts) h = rows_hold values problem v facts h.1
rows_hold values problem v (Eq e f b ∷ facts) h = rows_hold values problem v facts h.1
rows_hold values problem v (EqSet s t b ∷ facts) h = rows_hold values problem v facts h.1
rows_hold values problem v (Empty c b ∷ facts) h = rows_hold values problem v facts h.1

pub refuted_paths_do_not_hold : ((rows : List LinearRow) (program : List Item) → judgement rows program ≡ judged.Yes → HasNoValues rows) → RowsHoldByAtoms
    → (facts : List Fact) (program : List Item) → judgement (rows_of facts) program ≡ judged.Yes → (problem : Parts) (v : Valuation) → Hold problem v facts → ⊥
refuted_paths_do_not_hold refuted values facts program e problem v h = refuted (rows_of facts) program e (atom_value problem v) (rows_hold values problem v facts h)

-- ---- what is answered
pub yes_is : (r : Result Judged Mem) (all : Judged) → r ≡ Ok judged.Yes → IfOk r (λ j. j ≡ all) → all ≡ judged.Yes
yes_is (Ok j) all e h = sym h ∙ inside j e where
  inside : (j : Judged) → (let r : Result Judged Mem = Ok j in r) ≡ Ok judged.Yes → j ≡ judged.Yes
  inside j e = cc
yes_is (Err x) all e h = cc
