-- Sums, opposites and quotients of rows.
use Rattle.std.specs.Prelude.{Bool, if◌then◌else◌, ℤ, pos, negsuc, ◌+ℤ◌, ◌-ℤ◌, ◌*ℤ◌, int_div, int_rem, List, [], ◌∷◌, ◌++◌, map}
use Rattle.std.specs.declared.result.Result.{Result}
use Rattle.std.specs.Int.{int_div_euclid}
use Rattle.std.specs.List.{list_all}
use Rattle.std.specs.Ordering.{int_eq, match_ordering}
use Rattle.sc_terms.specs.declared.atoms.Atom.{Atom}
use Rattle.sc_terms.specs.declared.form.Row.{Row}
use Rattle.sc_terms.specs.Forms.{atom_cmp}
use Rattle.sc_terms.specs.Same.{same_atom}
use Rattle.sc_linear.specs.declared.exact.LinearError.{LinearError}
use Rattle.sc_linear.specs.Exact.{Operation, product, addition, unless_wide}

-- the coefficient of an atom; 0 where the form does not have it
abbrev pub coefficient : Atom → List (ℤ × Atom) → ℤ
coefficient a [] = pos 0
coefficient a (t ∷ ts) = if same_atom a t.1 then t.0 else coefficient a ts

-- a term, or none where the coefficient is 0
abbrev pub term : ℤ → Atom → List (ℤ × Atom)
term c a = if int_eq c (pos 0) then [] else (c, a) ∷ []

-- the form with p more at an atom
abbrev pub plus_term : ℤ → Atom → List (ℤ × Atom) → List (ℤ × Atom)
plus_term p a [] = term p a
plus_term p a (t ∷ ts) = match_ordering (atom_cmp a t.1) (term p a ++ t ∷ ts) (term (t.0 +ℤ p) a ++ ts) (t ∷ plus_term p a ts)

-- the first form plus m times the second
abbrev pub form_sum : ℤ → List (ℤ × Atom) → List (ℤ × Atom) → List (ℤ × Atom)
form_sum m xs [] = xs
form_sum m xs (y ∷ ys) = form_sum m (plus_term (m *ℤ y.0) y.1 xs) ys

abbrev pub sum_row : Row → Row → ℤ → Row
sum_row a b m = record { form = form_sum m a.form b.form; bound = a.bound +ℤ (m *ℤ b.bound) }

-- adding m times a number: the product, then the sum
abbrev pub scaled_addition : ℤ → ℤ → ℤ → List Operation
scaled_addition a b m = product m b ∷ addition a (m *ℤ b) ∷ []

-- the operations on coefficients, in the order of the second form's atoms
abbrev pub form_operations : ℤ → List (ℤ × Atom) → List (ℤ × Atom) → List Operation
form_operations m xs [] = []
form_operations m xs (y ∷ ys) = scaled_addition (coefficient y.1 xs) y.0 m ++ form_operations m xs ys

-- and then those on the bounds
abbrev pub sum_operations : Row → Row → ℤ → List Operation
sum_operations a b m = form_operations m a.form b.form ++ scaled_addition a.bound b.bound m

-- the first row plus m times the second
abbrev pub added : Row → Row → ℤ → Result Row LinearError
added a b m = unless_wide (sum_operations a b m) (sum_row a b m)

-- a multiple of one atom is at most the bound
abbrev pub single_row : ℤ → Atom → ℤ → Row
single_row c a b = record { form = term c a; bound = b }

-- 0 <= 0
abbrev pub zero_row : Row
zero_row = record { form = []; bound = pos 0 }

-- whether each coefficient is a multiple of g
abbrev pub divides : ℤ → List (ℤ × Atom) → Bool
divides g form = list_all (λ t. int_eq (int_rem t.0 g) (pos 0)) form

abbrev pub quotient : ℤ → ℤ × Atom → ℤ × Atom
quotient g t = (int_div t.0 g, t.1)

abbrev pub quotients : ℤ → List (ℤ × Atom) → List (ℤ × Atom)
quotients g form = map (quotient g) form

-- each coefficient divided by g, and the bound divided and rounded down
abbrev pub tightened : Row → ℤ → Row
tightened row g = record { form = quotients g row.form; bound = int_div_euclid row.bound g }

abbrev pub minus_one : ℤ
minus_one = negsuc 0

-- a term times -1
abbrev pub flipped : ℤ × Atom → ℤ × Atom
flipped t = (minus_one *ℤ t.0, t.1)

abbrev pub opposite : List (ℤ × Atom) → List (ℤ × Atom)
opposite form = map flipped form

-- the form is at least the bound and one more
abbrev pub opposite_row : Row → Row
opposite_row row = record { form = opposite row.form; bound = minus_one -ℤ row.bound }

-- a product for each coefficient, in the order of the atoms
abbrev pub opposite_operations : List (ℤ × Atom) → List Operation
opposite_operations form = map (λ t. product minus_one t.0) form

abbrev pub negated : Row → Result Row LinearError
negated row = unless_wide (opposite_operations row.form) (opposite_row row)
