-- Quotients and opposites of rows, coefficient by coefficient.
use Rattle.std.proofs.Common.{◌≡◌, ℕ, zero, suc, ◌+◌, ◌*◌, ◌/◌, ◌<◌, ◌≤◌, true, ℤ, pos, negsuc, ◌+ℤ◌, ◌-ℤ◌, ◌*ℤ◌, ◌≤ℤ◌, ◌<ℤ◌, [], ◌∷◌, ◌++◌, drop, get_or, length, append_assoc, append-nil, refl, sym, ap, ◌∙◌, subst, Ok, Err, arith}
use Rattle.std.specs.Prelude.{int_div, int_rem, if◌then◌else◌, ◌↔◌, IfOk}
use Rattle.std.specs.declared.result.Result.{Result}
use Rattle.std.specs.Ordering.{int_eq}
use Rattle.std.proofs.lemmas.Int.{ints}
use Rattle.std.proofs.lemmas.List.{drop_more, drop_all}
use Rattle.std.specs.Int.{int_div_euclid}
use Rattle.std.proofs.Math.Nat.{le-div_iff_mul-le, div-lt_iff_lt-mul}
use Rattle.sc_terms.specs.declared.atoms.Atom.{Atom}
use Rattle.sc_terms.specs.declared.form.Row.{Row}
use Rattle.sc_terms.specs.Forms.{IsForm}
use Rattle.sc_terms.specs.Same.{same_atom}
use Rattle.sc_linear.specs.declared.exact.LinearError.{LinearError}
use Rattle.sc_linear.specs.declared.exact.LinearError.TheVariants.{Wide, Memory}
use Rattle.sc_linear.specs.Exact.{product, unless_wide, IsExact}
use Rattle.sc_linear.specs.Rows.{coefficient, divides, quotient, quotients, tightened, minus_one, flipped, opposite, opposite_operations, opposite_row, negated}
use Rattle.sc_linear.specs.Laws.{form_by, HoldsBy, IsQuotient, IsOpposite}
use Rattle.sc_linear.proofs.Forms.{Form, Above, by_test}
use Rattle.sc_linear.proofs.Adding.{value_is, passed, stopped, all_passed, same_stop}
use Rattle.sc_linear.proofs.Valuing.{exact_quotient, both_true, times_mono, value_quotients, quotient_holds}

times_zero : (g : ℤ) → g *ℤ pos 0 ≡ pos 0
times_zero g = omega (arith, ints)

-- ---- quotients
above_quotients : (g : ℤ) (a : Atom) (ts : Form) → Above a ts → Above a (quotients g ts)
above_quotients g a [] h = tt
above_quotients g a (t ∷ ts) h = (h.0, above_quotients g a ts h.1)

pub quotients_form : (g : ℤ) (form : Form) → divides g form ≡ true → IsForm form → IsForm (quotients g form)
quotients_form g [] e h = tt
quotients_form g (t ∷ ts) e h =
    let d = both_true (int_eq (int_rem t.0 g) (pos 0)) (divides g ts) e in
    (λ z. h.0 (exact_quotient t.0 g d.0 ∙ (ap (λ q. g *ℤ q) z ∙ times_zero g)), above_quotients g t.1 ts h.1, quotients_form g ts d.1 h.2)

quotient_coefficient : (x : Atom) (g : ℤ) (form : Form) → divides g form ≡ true → g *ℤ coefficient x (quotients g form) ≡ coefficient x form
quotient_coefficient x g [] e = times_zero g
quotient_coefficient x g (t ∷ ts) e =
    let d = both_true (int_eq (int_rem t.0 g) (pos 0)) (divides g ts) e in
    by_test (λ b. g *ℤ (if b then int_div t.0 g else coefficient x (quotients g ts)) ≡ (if b then t.0 else coefficient x ts)) (same_atom x t.1) (λ s. sym (exact_quotient t.0 g d.0)) (λ s. quotient_coefficient x g ts d.1)

below_floor : (n y : ℕ) → 0 < n → y / n * n ≤ y
below_floor n y p = (le-div_iff_mul-le p).0 (omega arith)

above_floor : (n y : ℕ) → 0 < n → y < suc (y / n) * n
above_floor n y p = (div-lt_iff_lt-mul p).0 (omega arith)

pub floor_low : (n : ℕ) (b : ℤ) → 0 < n → (pos n *ℤ int_div_euclid b (pos n)) ≤ℤ b
floor_low n (pos y) p = let l : y / n * n ≤ y = below_floor n y p in omega (arith, ints, l)
floor_low n (negsuc y) p = let l : y < suc (y / n) * n = above_floor n y p in omega (arith, ints, l)

high_neg : (n k y : ℕ) → k * n ≤ y → negsuc y <ℤ (pos n *ℤ (negsuc k +ℤ pos 1))
high_neg n zero y l =
    let z : negsuc 0 +ℤ pos 1 ≡ pos 0 = omega (arith, ints) in
    subst (λ (w : ℤ). negsuc y <ℤ (pos n *ℤ w)) (sym z) (omega (arith, ints))
high_neg n (suc k) y l =
    let z : negsuc (suc k) +ℤ pos 1 ≡ negsuc k = omega (arith, ints) in
    subst (λ (w : ℤ). negsuc y <ℤ (pos n *ℤ w)) (sym z) (omega (arith, ints, l))

pub floor_high : (n : ℕ) (b : ℤ) → 0 < n → b <ℤ (pos n *ℤ (int_div_euclid b (pos n) +ℤ pos 1))
floor_high n (pos y) p = let l : y < suc (y / n) * n = above_floor n y p in omega (arith, ints, l)
floor_high n (negsuc y) p = high_neg n (y / n) y (below_floor n y p)

pub is_quotient : (row : Row) (g : ℤ) → pos 1 ≤ℤ g → divides g row.form ≡ true → IsForm row.form → IsQuotient row g (tightened row g)
is_quotient row (pos n) p d h =
    record {
      form = quotients_form (pos n) row.form d h;
      coefficients = λ x. quotient_coefficient x (pos n) row.form d;
      low = floor_low n row.bound (omega (arith, ints, p));
      high = floor_high n row.bound (omega (arith, ints, p));
    }
is_quotient row (negsuc n) p d h = absurd (omega (arith, ints, p))

-- and where the quotient holds, so does the row
pub quotient_says : (v : Atom → ℤ) (row : Row) (g : ℤ) → pos 1 ≤ℤ g → divides g row.form ≡ true → HoldsBy v (tightened row g) → HoldsBy v row
quotient_says v row (pos n) p d h =
    let more : (pos n *ℤ form_by v (quotients (pos n) row.form)) ≤ℤ (pos n *ℤ int_div_euclid row.bound (pos n)) = times_mono (pos n) (form_by v (quotients (pos n) row.form)) (int_div_euclid row.bound (pos n)) (omega (arith, ints)) h in
    subst (λ (z : ℤ). z ≤ℤ row.bound) (sym (value_quotients v (pos n) row.form d))
    (through (pos n *ℤ form_by v (quotients (pos n) row.form)) (pos n *ℤ int_div_euclid row.bound (pos n)) row.bound more (floor_low n row.bound (omega (arith, ints, p)))) where
      through : (x y z : ℤ) → x ≤ℤ y → y ≤ℤ z → x ≤ℤ z
      through x y z h k = omega (arith, ints)
quotient_says v row (negsuc n) p d h = absurd (omega (arith, ints, p))

-- ---- opposites
above_opposite : (a : Atom) (ts : Form) → Above a ts → Above a (opposite ts)
above_opposite a [] h = tt
above_opposite a (t ∷ ts) h = (h.0, above_opposite a ts h.1)

back_to_zero : (c : ℤ) → minus_one *ℤ c ≡ pos 0 → c ≡ pos 0
back_to_zero c e = omega (arith, ints, e)

pub opposite_form : (form : Form) → IsForm form → IsForm (opposite form)
opposite_form [] h = tt
opposite_form (t ∷ ts) h = (λ z. h.0 (back_to_zero t.0 z), above_opposite t.1 ts h.1, opposite_form ts h.2)

sum_of_both : (c : ℤ) → (minus_one *ℤ c) +ℤ c ≡ pos 0
sum_of_both c = omega (arith, ints)

opposite_coefficient : (x : Atom) (form : Form) → coefficient x (opposite form) +ℤ coefficient x form ≡ pos 0
opposite_coefficient x [] = refl
opposite_coefficient x (t ∷ ts) =
    by_test (λ b. (if b then minus_one *ℤ t.0 else coefficient x (opposite ts)) +ℤ (if b then t.0 else coefficient x ts) ≡ pos 0) (same_atom x t.1) (λ s. sum_of_both t.0) (λ s. opposite_coefficient x ts)

both_bounds : (b : ℤ) → (minus_one -ℤ b) +ℤ b ≡ minus_one
both_bounds b = omega (arith, ints)

is_opposite : (row r : Row) → IsForm row.form → negated row ≡ Ok r → IsOpposite row r
is_opposite row r h e =
    subst (IsOpposite row) (value_is (opposite_operations row.form) (opposite_row row) r e)
    (record { form = opposite_form row.form h; coefficients = λ x. opposite_coefficient x row.form; bound = both_bounds row.bound })

pub quotients_hold : (v : Atom → ℤ) (row : Row) (g : ℤ) → pos 1 ≤ℤ g → divides g row.form ≡ true → HoldsBy v row ↔ HoldsBy v (tightened row g)
quotients_hold v row g p d = (quotient_holds v row g p d, quotient_says v row g p d)

pub quotient_made : (a r : Row) (g : ℤ) → pos 1 ≤ℤ g → divides g a.form ≡ true → IsForm a.form → r ≡ tightened a g → IsQuotient a g r
quotient_made a r g p d h e = subst (IsQuotient a g) (sym e) (is_quotient a g p d h)

pub exact_gives_opposite : (a : Row) (r : Result Row LinearError) → IsForm a.form → IsExact r (negated a) → IfOk r (λ row. IsOpposite a row)
exact_gives_opposite a (Ok row) h e = is_opposite a row h e
exact_gives_opposite a (Err e) h f = tt

-- ---- one term after another
pub one_divided : (g : ℤ) (done next form : Form) (i : ℕ) (t : ℤ × Atom) → i < length form → t ≡ get_or form i t → next ≡ done ++ quotient g t ∷ [] → done ++ quotients g (drop i form) ≡ quotients g form → next ++ quotients g (drop (i + 1) form) ≡ quotients g form
one_divided g done next form i t l at e h =
    let d : drop i form ≡ t ∷ drop (i + 1) form = drop_more form i t l ∙ ap (λ x. x ∷ drop (i + 1) form) (sym at) in
    ap (λ xs. xs ++ quotients g (drop (i + 1) form)) e ∙ (append_assoc done (quotient g t ∷ []) (quotients g (drop (i + 1) form)) ∙ (ap (λ xs. done ++ quotients g xs) (sym d) ∙ h))

pub one_flipped : (done next form : Form) (i : ℕ) (t u : ℤ × Atom) (all : Result Form LinearError) → i < length form → t ≡ get_or form i t → next ≡ done ++ u ∷ []
    → unless_wide (product minus_one t.0 ∷ []) (flipped t) ≡ Ok u
    → unless_wide (opposite_operations (drop i form)) (done ++ opposite (drop i form)) ≡ all → unless_wide (opposite_operations (drop (i + 1) form)) (next ++ opposite (drop (i + 1) form)) ≡ all
one_flipped done next form i t u all l at e f h =
    let same : flipped t ≡ u = value_is (product minus_one t.0 ∷ []) (flipped t) u f in
    let us : Form = drop (i + 1) form in
    let d : drop i form ≡ t ∷ us = drop_more form i t l ∙ ap (λ x. x ∷ us) (sym at) in
    let made : next ++ opposite us ≡ done ++ opposite (t ∷ us) = ap (λ xs. xs ++ opposite us) (e ∙ ap (λ w. done ++ w ∷ []) (sym same)) ∙ append_assoc done (flipped t ∷ []) (opposite us) in
    ap (unless_wide (opposite_operations us)) made
    ∙ (sym (passed (product minus_one t.0 ∷ []) (opposite_operations us) (flipped t) u (done ++ opposite (t ∷ us)) f)
    ∙ (ap (λ xs. unless_wide (opposite_operations xs) (done ++ opposite xs)) (sym d) ∙ h))

-- where one product passes 128 bits, that is the answer
pub one_stops : (done form : Form) (i : ℕ) (t : ℤ × Atom) (e : LinearError) (all : Result Form LinearError) → i < length form → t ≡ get_or form i t → IsExact (Err e) (unless_wide (product minus_one t.0 ∷ []) (flipped t))
    → unless_wide (opposite_operations (drop i form)) (done ++ opposite (drop i form)) ≡ all → IsExact (Err e) all
one_stops done form i t Memory all l at h w = tt
one_stops done form i t (Wide op a b) all l at h w =
    let us : Form = drop (i + 1) form in
    let d : drop i form ≡ t ∷ us = drop_more form i t l ∙ ap (λ x. x ∷ us) (sym at) in
    sym w ∙ (ap (λ xs. unless_wide (opposite_operations xs) (done ++ opposite xs)) d ∙ stopped (product minus_one t.0 ∷ []) (opposite_operations us) (flipped t) (done ++ opposite (t ∷ us)) (Wide op a b) h)

pub all_flipped : (done form : Form) (i : ℕ) (all : Result Form LinearError) → length form ≤ i → unless_wide (opposite_operations (drop i form)) (done ++ opposite (drop i form)) ≡ all → all ≡ Ok done
all_flipped done form i all l w = sym w ∙ (ap (λ xs. unless_wide (opposite_operations xs) (done ++ opposite xs)) (drop_all i form l) ∙ ap Ok (append-nil done))

-- the opposite terms make the opposite row
pub row_turned : (a : Row) (terms : Form) → unless_wide (opposite_operations a.form) (opposite a.form) ≡ Ok terms → negated a ≡ Ok (record { form = terms; bound = minus_one -ℤ a.bound })
row_turned a terms h =
    let f : opposite a.form ≡ terms = value_is (opposite_operations a.form) (opposite a.form) terms h in
    all_passed (opposite_operations a.form) (opposite a.form) terms (opposite_row a) h ∙ (λ i. Ok (record { form = f i; bound = minus_one -ℤ a.bound }))

pub row_stops : (a : Row) (e : LinearError) → IsExact (Err e) (unless_wide (opposite_operations a.form) (opposite a.form)) → IsExact (Err e) (negated a)
row_stops a Memory h = tt
row_stops a (Wide op p q) h = same_stop (opposite_operations a.form) (opposite a.form) (opposite_row a) (Wide op p q) h

-- and are a form
pub turned_form : (form terms : Form) → IsForm form → unless_wide (opposite_operations form) (opposite form) ≡ Ok terms → IsForm terms
turned_form form terms h e = subst IsForm (value_is (opposite_operations form) (opposite form) terms e) (opposite_form form h)
