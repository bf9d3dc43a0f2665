-- The orders of signs, of regions and of atoms are total, and only equal ones tie.
use Rattle.std.proofs.Common.{◌≡◌, ℕ, Bool, true, [], refl, sym, ap, subst}
use Rattle.std.specs.Bool.{Decides}
use Rattle.std.specs.declared.cmp.Ordering.{Ordering}
use Rattle.std.specs.declared.cmp.Ordering.TheVariants.{Less, Equal, Greater}
use Rattle.std.specs.Ordering.{nat_cmp, ordering_then, eq_by_cmp, is_eq}
use Rattle.std.specs.Cmp.{IsTotalOrder, nat_cmp_total, then_total, on_total, tied_itself, Equal-is, both_ways}
use Rattle.std.specs.Cmp.Lexicographic.{slice_cmp, lists_total}
use Rattle.std.specs.FinMap.{IsAntisymmetric, nat_cmp-IsAntisymmetric, slice_cmp-IsAntisymmetric}
use Rattle.std.proofs.lemmas.Bool.{false≢true}
use Rattle.sc_terms.specs.declared.atoms.Sign.{Sign}
use Rattle.sc_terms.specs.declared.atoms.Sign.TheVariants.{Plus, Minus}
use Rattle.sc_terms.specs.declared.atoms.Cube.{Cube}
use Rattle.sc_terms.specs.declared.atoms.Atom.{Atom}
use Rattle.sc_terms.specs.declared.atoms.Atom.TheVariants as atoms
use Rattle.sc_terms.specs.Same.{same_sign, same_sign-Decides, same_cube, same_cube-Decides, same_atom, same_atom-Decides}
use Rattle.sc_terms.specs.Forms.{sign_cmp, sign_byte, cube_cmp, kind_of, atom_cmp}

-- a total order in which only equal ones tie, and a test that decides equality, agree
ties : {K : Type 0} {R : K → K → Ordering} (t : K → K → Bool) → IsTotalOrder R → IsAntisymmetric R → ((x y : K) → Decides (t x y) (x ≡ y)) → (x y : K) → t x y ≡ eq_by_cmp R x y
ties {R = R} t total same decides x y =
    both_ways (t x y) (eq_by_cmp R x y) (λ e. subst (λ z. eq_by_cmp R x z ≡ true) ((decides x y).0 e) ((Equal-is (R x x)).1 (tied_itself total x))) (λ e. (decides x y).1 (same x y ((Equal-is (R x y)).0 e)))

then_equal : (r s : Ordering) → ordering_then r s ≡ Equal → (r ≡ Equal) × (s ≡ Equal)
then_equal Less s e = absurd (false≢true (ap is_eq e))
then_equal Equal s e = (refl, e)
then_equal Greater s e = absurd (false≢true (ap is_eq e))

then_nothing : (r : Ordering) → ordering_then r Equal ≡ r
then_nothing Less = refl
then_nothing Equal = refl
then_nothing Greater = refl

-- ---- signs
pub sign_number : (a b : Sign) → sign_cmp a b ≡ nat_cmp (sign_byte a) (sign_byte b)
sign_number Plus Plus = refl
sign_number Plus Minus = refl
sign_number Minus Plus = refl
sign_number Minus Minus = refl

pub sign_total : IsTotalOrder sign_cmp
sign_total = subst IsTotalOrder (λ i a b. sym (sign_number a b) i) (on_total sign_byte nat_cmp_total)

sign_antisymmetric : IsAntisymmetric sign_cmp
sign_antisymmetric Plus Plus e = refl
sign_antisymmetric Plus Minus e = absurd (false≢true (ap is_eq e))
sign_antisymmetric Minus Plus e = absurd (false≢true (ap is_eq e))
sign_antisymmetric Minus Minus e = refl

pub sign_ties : (a b : Sign) → same_sign a b ≡ eq_by_cmp sign_cmp a b
sign_ties = ties same_sign sign_total sign_antisymmetric same_sign-Decides

-- ---- regions
pub cube_total : IsTotalOrder cube_cmp
cube_total = then_total (on_total (λ (c : Cube). c.component) nat_cmp_total) (on_total (λ (c : Cube). c.signs) (lists_total sign_total))

cube_antisymmetric : IsAntisymmetric cube_cmp
cube_antisymmetric a b e =
    let both = then_equal (nat_cmp a.component b.component) (slice_cmp sign_cmp a.signs b.signs) e in
    let p : a.component ≡ b.component = nat_cmp-IsAntisymmetric a.component b.component both.0 in
    let q : a.signs ≡ b.signs = slice_cmp-IsAntisymmetric sign_antisymmetric a.signs b.signs both.1 in
    λ i. record { component = p i; signs = q i }

pub cube_ties : (a b : Cube) → same_cube a b ≡ eq_by_cmp cube_cmp a b
cube_ties = ties same_cube cube_total cube_antisymmetric same_cube-Decides

-- ---- atoms: by kind, then by number, then by region
number_of : Atom → ℕ
number_of (atoms.Int n) = n
number_of (atoms.Card s) = s
number_of (atoms.Diff e) = e
number_of (atoms.Size cube) = 0

cube_of : Atom → Cube
cube_of (atoms.Size cube) = cube
cube_of _ = record { component = 0; signs = [] }

by_parts : Atom → Atom → Ordering
by_parts a b = ordering_then (nat_cmp (kind_of a) (kind_of b)) (ordering_then (nat_cmp (number_of a) (number_of b)) (cube_cmp (cube_of a) (cube_of b)))

atom_parts : (a b : Atom) → by_parts a b ≡ atom_cmp a b
unfolding by_parts number_of cube_of
atom_parts (atoms.Int m) (atoms.Int n) = then_nothing (nat_cmp m n)
atom_parts (atoms.Card m) (atoms.Card n) = then_nothing (nat_cmp m n)
atom_parts (atoms.Diff m) (atoms.Diff n) = then_nothing (nat_cmp m n)
atom_parts (atoms.Size a) (atoms.Size b) = refl
atom_parts _ _ = refl

by_parts_total : IsTotalOrder by_parts
unfolding by_parts
by_parts_total = then_total (on_total kind_of nat_cmp_total) (then_total (on_total number_of nat_cmp_total) (on_total cube_of cube_total))

pub atom_total : IsTotalOrder atom_cmp
atom_total = subst IsTotalOrder (λ i a b. atom_parts a b i) by_parts_total

atom_antisymmetric : IsAntisymmetric atom_cmp
atom_antisymmetric (atoms.Int m) (atoms.Int n) e = ap atoms.Int (nat_cmp-IsAntisymmetric m n e)
atom_antisymmetric (atoms.Card m) (atoms.Card n) e = ap atoms.Card (nat_cmp-IsAntisymmetric m n e)
atom_antisymmetric (atoms.Diff m) (atoms.Diff n) e = ap atoms.Diff (nat_cmp-IsAntisymmetric m n e)
atom_antisymmetric (atoms.Size a) (atoms.Size b) e = ap atoms.Size (cube_antisymmetric a b e)
atom_antisymmetric _ _ e = absurd (false≢true (ap is_eq e))

pub atom_ties : (a b : Atom) → same_atom a b ≡ eq_by_cmp atom_cmp a b
atom_ties = ties same_atom atom_total atom_antisymmetric same_atom-Decides
