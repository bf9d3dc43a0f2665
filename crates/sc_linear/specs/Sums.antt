-- A map from atoms to coefficients as a form.
use Rattle.std.specs.Prelude.{ℤ, List, [], ◌∷◌, ◌++◌, map}
use Rattle.std.specs.Ordering.{match_ordering}
use Rattle.sc_terms.specs.declared.atoms.Atom.{Atom}
use Rattle.sc_terms.specs.Forms.{atom_cmp}
use Rattle.sc_linear.specs.Rows.{term}

abbrev pub as_term : Atom × ℤ → ℤ × Atom
as_term e = (e.1, e.0)

abbrev pub terms_of : List (Atom × ℤ) → List (ℤ × Atom)
terms_of entries = map as_term entries

-- the form in which an atom has this coefficient
abbrev pub with_coefficient : ℤ → Atom → List (ℤ × Atom) → List (ℤ × Atom)
with_coefficient c a [] = term c a
with_coefficient c a (t ∷ ts) = match_ordering (atom_cmp a t.1) (term c a ++ t ∷ ts) (term c a ++ ts) (t ∷ with_coefficient c a ts)
