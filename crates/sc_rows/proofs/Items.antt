-- What a judgement says of items that give no row, and of the last.
use Rattle.std.proofs.Common.{◌≡◌, ◌≢◌, ℕ, zero, suc, ◌+◌, Bool, true, false, ℤ, pos, negsuc, List, [], ◌∷◌, ◌++◌, length, length-append, append_assoc, refl, sym, ap, subst, ◌∙◌, Option, Some, None, Ok, Err, arith}
use Rattle.std.specs.Prelude.{◌↔◌, slice_get, if◌then◌else◌, int_le}
use Rattle.std.specs.declared.result.Result.{Result}
use Rattle.std.specs.Cmp.{signed_Decides}
use Rattle.std.proofs.lemmas.Bool.{false≢true}
use Rattle.sc_base.specs.Numbered.{item_at}
use Rattle.sc_terms.specs.declared.atoms.Atom.{Atom}
use Rattle.sc_terms.specs.declared.form.Row.{Row}
use Rattle.sc_linear.specs.declared.exact.LinearError.{LinearError}
use Rattle.sc_linear.specs.declared.exact.LinearError.TheVariants as linear
use Rattle.sc_linear.specs.Exact.{Operation, exact_value, fits, unless_wide}
use Rattle.sc_linear.specs.Rows.{added, sum_operations, sum_row, divides, tightened, zero_row}
use Rattle.sc_rows.specs.declared.program.Item.{Item}
use Rattle.sc_rows.specs.declared.program.Item.TheVariants as items
use Rattle.sc_rows.specs.declared.program.Judged.{Judged}
use Rattle.sc_rows.specs.declared.program.Judged.TheVariants as judged
use Rattle.sc_rows.specs.declared.program.Failure.{Failure}
use Rattle.sc_rows.specs.declared.program.Failure.TheVariants.{Refused, Wide, Memory}
use Rattle.sc_rows.specs.Programs.{row_or_refused, row_at, lifted, and_then, sum_step, sum_from, quotient_of, item_row, is_absurd, by_last, ending, failing, goes_on, judged_from, judgement}
use Rattle.sc_rows.specs.Laws.{absurd_row, GiveRows, YesGivesRows, FailuresAreTheFirst, ItemsWantNoMemory}

-- ---- the last row
absurd_form : (form : List (ℤ × Atom)) (bound : ℤ) → is_absurd (record { form = form; bound = bound }) ≡ true → record { form = form; bound = bound } ≡ absurd_row
absurd_form [] bound e = let z : bound ≡ negsuc 0 = (signed_Decides bound (negsuc 0)).0 e in λ i. record { form = []; bound = z i }
absurd_form (t ∷ ts) bound e = absurd (false≢true e)

last_there : (done : List Row) (row : Row) → slice_get (done ++ row ∷ []) (length done) ≡ Some row
last_there [] row = refl
last_there (r ∷ rs) row = last_there rs row

one_more : (done : List Row) (row : Row) → length (done ++ row ∷ []) ≡ suc (length done)
one_more [] row = refl
one_more (r ∷ rs) row = ap suc (one_more rs row)

last_of : (done : List Row) (row : Row) → ending (done ++ row ∷ []) ≡ by_last (length (done ++ row ∷ [])) (Ok row)
last_of done row =
    ap (by_last (length (done ++ row ∷ []))) (ap (row_at (done ++ row ∷ [])) (one_more done row) ∙ ap row_or_refused (last_there done row))

-- ---- one item
passes : (given done : List Row) (item : Item) (rest : List Item) (row : Row) → item_row given done item ≡ Ok row → judged_from given done (item ∷ rest) ≡ judged_from given (done ++ row ∷ []) rest
passes given done item rest row e = ap (λ r. goes_on (length done + 1) r (λ (z : Row). judged_from given (done ++ z ∷ []) rest)) e

stops : (given done : List Row) (item : Item) (rest : List Item) (e : Failure) → item_row given done item ≡ Err e → judged_from given done (item ∷ rest) ≡ failing (length done + 1) e
stops given done item rest e f = ap (λ r. goes_on (length done + 1) r (λ (z : Row). judged_from given (done ++ z ∷ []) rest)) f

-- ---- the first that fails
no_more : (xs : List Row) → xs ++ [] ≡ xs
no_more [] = refl
no_more (x ∷ xs) = ap (λ ys. x ∷ ys) (no_more xs)

counted : (done : List Row) (row : Row) (n : ℕ) → length (done ++ row ∷ []) + n ≡ length done + suc n
counted done row n = let e : length (done ++ row ∷ []) ≡ suc (length done) = one_more done row in omega (arith, e)

first_from : (given done : List Row) (front : List Item) (item : Item) (behind : List Item) (rows : List Row) (e : Failure) → GiveRows given done front rows → item_row given (done ++ rows) item ≡ Err e
    → judged_from given done (front ++ item ∷ behind) ≡ failing (length done + length front + 1) e
first_from given done [] item behind [] e h f =
    let own : item_row given done item ≡ Err e = ap (λ xs. item_row given xs item) (sym (no_more done)) ∙ f in
    let n : length done + 1 ≡ length done + 0 + 1 = omega arith in
    stops given done item behind e own ∙ ap (λ k. failing k e) n
first_from given done [] item behind (r ∷ rs) e h f = absurd h
first_from given done (i ∷ is) item behind [] e h f = absurd h
first_from given done (i ∷ is) item behind (r ∷ rs) e h f =
    let own : item_row given ((done ++ r ∷ []) ++ rs) item ≡ Err e = ap (λ xs. item_row given xs item) (append_assoc done (r ∷ []) rs) ∙ f in
    passes given done i (is ++ item ∷ behind) r h.0
    ∙ (first_from given (done ++ r ∷ []) is item behind rs e h.1 own
    ∙ ap (λ k. failing (k + 1) e) (counted done r (length is)))

-- ---- the last where all give rows
no_case : (row : Row) (n : ℕ) (b : Bool) → is_absurd row ≡ b → row ≢ absurd_row → (if b then judged.Yes else judged.No n) ≡ judged.No n
no_case row n true e f = absurd (f (absurd_form row.form row.bound e))
no_case row n false e f = refl

last_from : (given done : List Row) (program : List Item) (rows : List Row) (row : Row) → GiveRows given done program (rows ++ row ∷ []) → row ≢ absurd_row → judged_from given done program ≡ judged.No (length done + length program)
last_from given done [] [] row h n = absurd h
last_from given done [] (r ∷ rs) row h n = absurd h
last_from given done (i ∷ []) [] row h n =
    let c : length (done ++ row ∷ []) ≡ length done + 1 = let e : length (done ++ row ∷ []) ≡ suc (length done) = one_more done row in omega (arith, e) in
    passes given done i [] row h.0 ∙ (last_of done row ∙ (no_case row (length (done ++ row ∷ [])) (is_absurd row) refl n ∙ ap judged.No c))
last_from given done (i ∷ j ∷ js) [] row h n = absurd h.1
last_from given done (i ∷ is) (r ∷ rs) row h n =
    passes given done i is r h.0 ∙ (last_from given (done ++ r ∷ []) is rs row h.1 n ∙ ap judged.No (counted done r (length is)))

from_none : (n : ℕ) → 0 + n ≡ n
from_none n = omega arith

pub failures_are_the_first : FailuresAreTheFirst
failures_are_the_first =
    record {
      first = λ given front item behind rows e h f. first_from given [] front item behind rows e h f ∙ ap (λ k. failing (k + 1) e) (from_none (length front));
      last = λ given program rows row h n. last_from given [] program rows row h n ∙ ap judged.No (from_none (length program));
      none = λ given. refl;
    }

-- ---- Yes
yes_only : (b : Bool) (n : ℕ) → (if b then judged.Yes else judged.No n) ≡ judged.Yes → b ≡ true
yes_only true n e = refl
yes_only false n e = cc

failing_yes : (k : ℕ) (e : Failure) → failing k e ≡ judged.Yes → ⊥
failing_yes k Refused h = cc
failing_yes k (Wide op a b) h = cc
failing_yes k Memory h = cc

-- a program that is judged Yes goes on behind its first item
item_goes : {X : Type 0} (given done : List Row) (item : Item) (rest : List Item) (r : Result Row Failure) → item_row given done item ≡ r → judged_from given done (item ∷ rest) ≡ judged.Yes
    → ((row : Row) → item_row given done item ≡ Ok row → judged_from given (done ++ row ∷ []) rest ≡ judged.Yes → X) → X
item_goes given done item rest (Ok row) f e next = next row f (sym (passes given done item rest row f) ∙ e)
item_goes given done item rest (Err x) f e next = absurd (failing_yes (length done + 1) x (sym (stops given done item rest x f) ∙ e))

rows_given : (given done : List Row) (item : Item) (rest : List Item) → judged_from given done (item ∷ rest) ≡ judged.Yes → (rows : List Row) × GiveRows given done (item ∷ rest) (rows ++ absurd_row ∷ [])
rows_given given done item [] e =
    item_goes given done item [] (item_row given done item) refl e
    (λ row f g.
    let last : row ≡ absurd_row = absurd_form row.form row.bound (yes_only (is_absurd row) (length (done ++ row ∷ [])) (sym (last_of done row) ∙ g)) in
    ([], (f ∙ ap Ok last, tt)))
rows_given given done item (next ∷ rest) e =
    item_goes given done item (next ∷ rest) (item_row given done item) refl e
    (λ row f g.
    let others = rows_given given (done ++ row ∷ []) next rest g in
    (row ∷ others.0, (f, others.1)))

yes_judged : (given done : List Row) (program : List Item) (rows : List Row) → GiveRows given done program (rows ++ absurd_row ∷ []) → judged_from given done program ≡ judged.Yes
yes_judged given done [] [] h = absurd h
yes_judged given done [] (row ∷ rows) h = absurd h
yes_judged given done (item ∷ []) [] h = passes given done item [] absurd_row h.0 ∙ last_of done absurd_row
yes_judged given done (item ∷ next ∷ rest) [] h = absurd h.1
yes_judged given done (item ∷ rest) (row ∷ rows) h = passes given done item rest row h.0 ∙ yes_judged given (done ++ row ∷ []) rest rows h.1

from_judged : (given : List Row) (program : List Item) → judgement given program ≡ judged.Yes → (rows : List Row) × GiveRows given [] program (rows ++ absurd_row ∷ [])
from_judged given [] e = absurd (no_yes e) where
  no_yes : (let j = judged.No 0 in j) ≡ judged.Yes → ⊥
  no_yes e = cc
from_judged given (item ∷ rest) e = rows_given given [] item rest e

pub yes_gives_rows : YesGivesRows
yes_gives_rows given program = (from_judged given program, λ h. yes_judged given [] program h.0 h.1)

-- ---- no item fails for want of memory
wide_case : {A : Type 0} (b : Bool) (o : Operation) (r : Result A LinearError) → (r ≡ Err linear.Memory → ⊥) → (if b then r else Err (linear.Wide o.op o.a o.b)) ≡ Err linear.Memory → ⊥
wide_case true o r f e = f e
wide_case false o r f e = cc

operations_want : {A : Type 0} (os : List Operation) (x : A) → unless_wide os x ≡ Err linear.Memory → ⊥
operations_want [] x e = cc
operations_want (o ∷ os) x e = wide_case (fits (exact_value o)) o (unless_wide os x) (operations_want os x) e

lifted_case : (r : Result Row LinearError) → (r ≡ Err linear.Memory → ⊥) → lifted r ≡ Err Memory → ⊥
lifted_case (Ok row) f e = cc
lifted_case (Err (linear.Wide op a b)) f e = cc
lifted_case (Err linear.Memory) f e = f refl

then_case : (r : Result Row Failure) (f : Row → Result Row Failure) → (r ≡ Err Memory → ⊥) → ((row : Row) → f row ≡ Err Memory → ⊥) → and_then r f ≡ Err Memory → ⊥
then_case (Ok row) f h k e = k row e
then_case (Err x) f h k e = h e

refused_case : (o : Option Row) → row_or_refused o ≡ Err Memory → ⊥
refused_case None e = cc
refused_case (Some row) e = cc

either_case : (b : Bool) (r : Result Row Failure) → (r ≡ Err Memory → ⊥) → (if b then r else Err Refused) ≡ Err Memory → ⊥
either_case true r f e = f e
either_case false r f e = cc

step_wants : (done : List Row) (total : Row) (t : ℕ × ℤ) → sum_step done total t ≡ Err Memory → ⊥
step_wants done total t e =
    either_case (int_le (pos 0) t.1) (and_then (row_at done t.0) (λ row. lifted (added total row t.1)))
    (then_case (row_at done t.0) (λ row. lifted (added total row t.1)) (refused_case (item_at done t.0)) (λ row. lifted_case (added total row t.1) (operations_want (sum_operations total row t.1) (sum_row total row t.1)))) e

sum_wants : (done : List Row) (total : Row) (ts : List (ℕ × ℤ)) → sum_from done total ts ≡ Err Memory → ⊥
sum_wants done total [] e = cc
sum_wants done total (t ∷ ts) e = then_case (sum_step done total t) (λ next. sum_from done next ts) (step_wants done total t) (λ next. sum_wants done next ts) e

quotient_wants : (row : Row) (g : ℤ) → quotient_of row g ≡ Err Memory → ⊥
quotient_wants row g e = either_case (divides g row.form) (Ok (tightened row g)) (λ f. cc) e

pub items_want_no_memory : ItemsWantNoMemory
items_want_no_memory given done (items.Use r) e = refused_case (item_at given r) e
items_want_no_memory given done (items.Sum []) e = cc
items_want_no_memory given done (items.Sum (t ∷ ts)) e = sum_wants done zero_row (t ∷ ts) e
items_want_no_memory given done (items.Div i g) e =
    either_case (int_le (pos 1) g) (and_then (row_at done i) (λ row. quotient_of row g)) (then_case (row_at done i) (λ row. quotient_of row g) (refused_case (item_at done i)) (λ row. quotient_wants row g)) e
