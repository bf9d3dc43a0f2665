-- What operations on rows are worth for values of the atoms.
use Rattle.std.proofs.Common.{◌≡◌, ℕ, suc, ◌+◌, ◌*◌, ◌/◌, ◌<◌, ◌≤◌, Bool, true, false, ◌&&◌, ℤ, pos, negsuc, ◌+ℤ◌, ◌-ℤ◌, ◌*ℤ◌, neg_ℤ, ◌≤ℤ◌, [], ◌∷◌, ◌++◌, refl, sym, ap, ◌∙◌, subst, Ok, arith}
use Rattle.std.specs.Prelude.{int_div, int_rem, ◌↔◌, if◌then◌else◌}
use Rattle.std.specs.Ordering.{int_eq, match_ordering}
use Rattle.std.specs.Cmp.{signed_Decides}
use Rattle.std.proofs.lemmas.Int.{ints, quot-rem, by_lt_z}
use Rattle.std.specs.Int.{int_div_euclid}
use Rattle.std.proofs.lemmas.Bool.{false≢true}
use lib.IntN.{*ℤ_comm, zero-*ℤ}
use borrow.Author.Differences.{up, down, sum_is_lem, product_is}
use Rattle.std.proofs.Math.Nat.{mul-le-mul_left, le-div_iff_mul-le, div-lt_iff_lt-mul}
use Rattle.sc_terms.specs.declared.atoms.Atom.{Atom}
use Rattle.sc_terms.specs.declared.form.Row.{Row}
use Rattle.sc_terms.specs.declared.problem.Parts.{Parts}
use Rattle.sc_terms.specs.Forms.{atom_cmp}
use Rattle.sc_terms.specs.Meaning.{Valuation, atom_value, form_value, RowHolds}
use Rattle.sc_linear.specs.Rows.{term, plus_term, form_sum, sum_operations, sum_row, added, divides, quotients, tightened, minus_one, opposite, opposite_operations, opposite_row, negated}
use Rattle.sc_linear.specs.Laws.{form_by, HoldsBy}
use Rattle.sc_linear.proofs.Forms.{Form, by_cases, same_is}
use Rattle.sc_linear.proofs.Adding.{value_is}

-- ---- laws of products
distribute : (a b w : ℤ) → (a +ℤ b) *ℤ w ≡ (a *ℤ w) +ℤ (b *ℤ w)
distribute a b w = omega (arith, ints, ap (λ n. n * up w) (sum_is_lem a b), ap (λ n. n * down w) (sum_is_lem a b))

distribute_left : (m a b : ℤ) → m *ℤ (a +ℤ b) ≡ (m *ℤ a) +ℤ (m *ℤ b)
distribute_left m a b = omega (arith, ints, ap (λ n. n * up m) (sum_is_lem a b), ap (λ n. n * down m) (sum_is_lem a b))

times_assoc : (m c w : ℤ) → (m *ℤ c) *ℤ w ≡ m *ℤ (c *ℤ w)
times_assoc m c w =
    omega (
      arith,
      ints,
      ap (λ n. n * up w) (product_is m c).0,
      ap (λ n. n * down w) (product_is m c).0,
      ap (λ n. n * up w) (product_is m c).1,
      ap (λ n. n * down w) (product_is m c).1,
      ap (λ n. up m * n) (product_is c w).0,
      ap (λ n. down m * n) (product_is c w).0,
      ap (λ n. up m * n) (product_is c w).1,
      ap (λ n. down m * n) (product_is c w).1,
    )

pub times_mono : (m a b : ℤ) → pos 0 ≤ℤ m → a ≤ℤ b → (m *ℤ a) ≤ℤ (m *ℤ b)
times_mono (pos n) a b h k =
    let l : up a + down b ≤ up b + down a = omega (arith, ints) in
    omega (arith, ints, mul-le-mul_left n l)
times_mono (negsuc n) a b h k = absurd (omega (arith, ints))

-- ---- values of sums
value_term_case : (v : Atom → ℤ) (c : ℤ) (a : Atom) (rest : Form) (b : Bool) → int_eq c (pos 0) ≡ b → form_by v ((if b then [] else (c, a) ∷ []) ++ rest) ≡ (c *ℤ v a) +ℤ form_by v rest
value_term_case v c a rest false e = refl
value_term_case v c a rest true e =
    let z : c ≡ pos 0 = (signed_Decides c (pos 0)).0 e in
    nothing (form_by v rest) ∙ ap (λ k. k +ℤ form_by v rest) (sym (ap (λ k. k *ℤ v a) z ∙ zero-*ℤ (v a))) where
      nothing : (x : ℤ) → x ≡ pos 0 +ℤ x
      nothing x = omega (arith, ints)

value_term : (v : Atom → ℤ) (c : ℤ) (a : Atom) (rest : Form) → form_by v (term c a ++ rest) ≡ (c *ℤ v a) +ℤ form_by v rest
value_term v c a rest = value_term_case v c a rest (int_eq c (pos 0)) refl

append_nothing : (xs : Form) → xs ++ [] ≡ xs
append_nothing [] = refl
append_nothing (x ∷ xs) = ap (λ ys. x ∷ ys) (append_nothing xs)

-- p more at an atom is worth p times the atom more
value_plus : (v : Atom → ℤ) (p : ℤ) (a : Atom) (ts : Form) → form_by v (plus_term p a ts) ≡ (p *ℤ v a) +ℤ form_by v ts
value_plus v p a [] = ap (form_by v) (sym (append_nothing (term p a))) ∙ value_term v p a []
value_plus v p a (t ∷ ts) =
    by_cases (λ o. form_by v (match_ordering o (term p a ++ t ∷ ts) (term (t.0 +ℤ p) a ++ ts) (t ∷ plus_term p a ts)) ≡ (p *ℤ v a) +ℤ form_by v (t ∷ ts))
    (atom_cmp a t.1)
    (λ e. value_term v p a (t ∷ ts))
    (λ e.
    value_term v (t.0 +ℤ p) a ts
    ∙ (ap (λ z. z +ℤ form_by v ts) (distribute t.0 p (v a))
    ∙ (turned (t.0 *ℤ v a) (p *ℤ v a) (form_by v ts) ∙ ap (λ (k : Atom). (p *ℤ v a) +ℤ ((t.0 *ℤ v k) +ℤ form_by v ts)) (same_is a t.1 e))))
    (λ e. ap (λ z. (t.0 *ℤ v t.1) +ℤ z) (value_plus v p a ts) ∙ exchanged (t.0 *ℤ v t.1) (p *ℤ v a) (form_by v ts)) where
      turned : (x y z : ℤ) → (x +ℤ y) +ℤ z ≡ y +ℤ (x +ℤ z)
      turned x y z = omega (arith, ints)

      exchanged : (x y z : ℤ) → x +ℤ (y +ℤ z) ≡ y +ℤ (x +ℤ z)
      exchanged x y z = omega (arith, ints)

pub value_sum : (v : Atom → ℤ) (m : ℤ) (xs ys : Form) → form_by v (form_sum m xs ys) ≡ form_by v xs +ℤ (m *ℤ form_by v ys)
value_sum v m xs [] = nothing (form_by v xs) m where
  nothing : (x m : ℤ) → x ≡ x +ℤ (m *ℤ pos 0)
  nothing x m = omega (arith, ints)
value_sum v m xs (y ∷ ys) =
    value_sum v m (plus_term (m *ℤ y.0) y.1 xs) ys
    ∙ (ap (λ z. z +ℤ (m *ℤ form_by v ys)) (value_plus v (m *ℤ y.0) y.1 xs ∙ ap (λ z. z +ℤ form_by v xs) (times_assoc m y.0 (v y.1)))
    ∙ (regroup (m *ℤ (y.0 *ℤ v y.1)) (form_by v xs) (m *ℤ form_by v ys) ∙ ap (λ z. form_by v xs +ℤ z) (sym (distribute_left m (y.0 *ℤ v y.1) (form_by v ys))))) where
      regroup : (x y z : ℤ) → (x +ℤ y) +ℤ z ≡ y +ℤ (x +ℤ z)
      regroup x y z = omega (arith, ints)

-- a sum of rows that hold, with a factor that is not negative, holds
pub sum_holds : (v : Atom → ℤ) (a b r : Row) (m : ℤ) → pos 0 ≤ℤ m → added a b m ≡ Ok r → HoldsBy v a → HoldsBy v b → HoldsBy v r
sum_holds v a b r m n e h k =
    let more : (m *ℤ form_by v b.form) ≤ℤ (m *ℤ b.bound) = times_mono m (form_by v b.form) b.bound n k in
    subst (HoldsBy v) (value_is (sum_operations a b m) (sum_row a b m) r e)
    (bounds (form_by v (form_sum m a.form b.form)) (form_by v a.form) (m *ℤ form_by v b.form) a.bound (m *ℤ b.bound) (value_sum v m a.form b.form) h more) where
      bounds : (r x y p q : ℤ) → r ≡ x +ℤ y → x ≤ℤ p → y ≤ℤ q → r ≤ℤ (p +ℤ q)
      bounds r x y p q e h k = omega (arith, ints)

-- ---- division
floor_le : (n : ℕ) (q b : ℤ) → 0 < n → (pos n *ℤ q) ≤ℤ b → q ≤ℤ int_div_euclid b (pos n)
floor_le n (pos x) (pos y) p h =
    let l : x * n ≤ y = omega (arith, ints, h) in
    let m : x ≤ y / n = (le-div_iff_mul-le p).1 l in
    omega (arith, ints)
floor_le n (negsuc x) (pos y) p h = omega (arith, ints)
floor_le n (pos x) (negsuc y) p h = absurd (omega (arith, ints, h))
floor_le n (negsuc x) (negsuc y) p h =
    let l : y < suc x * n = omega (arith, ints, h) in
    let m : y / n < suc x = (div-lt_iff_lt-mul p).1 l in
    omega (arith, ints)

pub exact_quotient : (c g : ℤ) → int_eq (int_rem c g) (pos 0) ≡ true → c ≡ g *ℤ int_div c g
exact_quotient c g e =
    let z : int_rem c g ≡ pos 0 = (signed_Decides (int_rem c g) (pos 0)).0 e in
    let q : int_div c g *ℤ g +ℤ int_rem c g ≡ c = quot-rem c g in
    let t : int_div c g *ℤ g ≡ g *ℤ int_div c g = *ℤ_comm (int_div c g) g in
    omega (arith, ints, z, q, t)

pub both_true : (a b : Bool) → (a && b) ≡ true → (a ≡ true) × (b ≡ true)
both_true true b e = (refl, e)
both_true false b e = absurd (false≢true e)

pub value_quotients : (v : Atom → ℤ) (g : ℤ) (form : Form) → divides g form ≡ true → form_by v form ≡ g *ℤ form_by v (quotients g form)
value_quotients v g [] e = omega (arith, ints)
value_quotients v g (t ∷ ts) e =
    let d = both_true (int_eq (int_rem t.0 g) (pos 0)) (divides g ts) e in
    let first : t.0 *ℤ v t.1 ≡ g *ℤ (int_div t.0 g *ℤ v t.1) = ap (λ z. z *ℤ v t.1) (exact_quotient t.0 g d.0) ∙ times_assoc g (int_div t.0 g) (v t.1) in
    let rest : form_by v ts ≡ g *ℤ form_by v (quotients g ts) = value_quotients v g ts d.1 in
    ap (λ z. z +ℤ form_by v ts) first ∙ (ap (λ z. (g *ℤ (int_div t.0 g *ℤ v t.1)) +ℤ z) rest ∙ sym (distribute_left g (int_div t.0 g *ℤ v t.1) (form_by v (quotients g ts))))

-- a row that holds still does when it is divided and its bound rounded down
pub quotient_holds : (v : Atom → ℤ) (row : Row) (g : ℤ) → pos 1 ≤ℤ g → divides g row.form ≡ true → HoldsBy v row → HoldsBy v (tightened row g)
quotient_holds v row (pos n) p d h =
    floor_le n (form_by v (quotients (pos n) row.form)) row.bound (omega (arith, ints, p)) (subst (λ (z : ℤ). z ≤ℤ row.bound) (value_quotients v (pos n) row.form d) h)
quotient_holds v row (negsuc n) p d h = absurd (omega (arith, ints, p))

-- ---- a row and its opposite
value_opposite : (v : Atom → ℤ) (form : Form) → form_by v (opposite form) ≡ neg_ℤ (form_by v form)
value_opposite v [] = refl
value_opposite v (t ∷ ts) = turned ((minus_one *ℤ t.0) *ℤ v t.1) (t.0 *ℤ v t.1) (form_by v (opposite ts)) (form_by v ts) (times_assoc minus_one t.0 (v t.1)) (value_opposite v ts) where
  turned : (x y r s : ℤ) → x ≡ negsuc 0 *ℤ y → r ≡ neg_ℤ s → x +ℤ r ≡ neg_ℤ (y +ℤ s)
  turned x y r s e f = omega (arith, ints)

-- where a row does not hold, its opposite does, and the other way round
pub opposite_holds : (v : Atom → ℤ) (row r : Row) → negated row ≡ Ok r → (HoldsBy v row → ⊥) ↔ HoldsBy v r
opposite_holds v row r h =
    let whole : opposite_row row ≡ r = value_is (opposite_operations row.form) (opposite_row row) r h in
    let e : form_by v (opposite row.form) ≡ neg_ℤ (form_by v row.form) = value_opposite v row.form in
    (λ n. subst (HoldsBy v) whole (above (form_by v (opposite row.form)) (form_by v row.form) row.bound e n), λ k l. clash (form_by v (opposite row.form)) (form_by v row.form) row.bound e (subst (HoldsBy v) (sym whole) k) l) where
      above : (x y b : ℤ) → x ≡ neg_ℤ y → (y ≤ℤ b → ⊥) → x ≤ℤ (negsuc 0 -ℤ b)
      above x y b e n = by_lt_z b y (λ l. omega (arith, ints, e, l)) (λ m. absurd (n m))

      clash : (x y b : ℤ) → x ≡ neg_ℤ y → x ≤ℤ (negsuc 0 -ℤ b) → y ≤ℤ b → ⊥
      clash x y b e k l = omega (arith, ints)

-- ---- rows over the values of a problem's atoms
form_by_atoms : (problem : Parts) (v : Valuation) (form : Form) → form_value problem v form ≡ form_by (atom_value problem v) form
form_by_atoms problem v [] = refl
form_by_atoms problem v (t ∷ ts) = ap (λ z. (t.0 *ℤ atom_value problem v t.1) +ℤ z) (form_by_atoms problem v ts)

pub row_by_atoms : (problem : Parts) (v : Valuation) (row : Row) → RowHolds problem v row ↔ HoldsBy (atom_value problem v) row
row_by_atoms problem v row =
    let e : form_value problem v row.form ≡ form_by (atom_value problem v) row.form = form_by_atoms problem v row.form in
    (λ h. subst (λ (z : ℤ). z ≤ℤ row.bound) e h, λ h. subst (λ (z : ℤ). z ≤ℤ row.bound) (sym e) h)
