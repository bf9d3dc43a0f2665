-- What operations on rows are worth: coefficient by coefficient, and for the values of the atoms.
use Rattle.std.specs.Prelude.{◌≡◌, ◌↔◌, true, ℤ, pos, ◌+ℤ◌, ◌*ℤ◌, ◌≤ℤ◌, ◌<ℤ◌, List, [], ◌∷◌, Ok}
use Rattle.sc_terms.specs.declared.atoms.Atom.{Atom}
use Rattle.sc_terms.specs.declared.form.Row.{Row}
use Rattle.sc_terms.specs.declared.problem.Parts.{Parts}
use Rattle.sc_terms.specs.Forms.{IsForm}
use Rattle.sc_terms.specs.Meaning.{Valuation, atom_value, RowHolds}
use Rattle.sc_linear.specs.Rows.{coefficient, minus_one, form_sum, added, divides, tightened, negated}

-- every coefficient and the bound of r are those of a plus m times those of b
pub record IsSum (a b : Row) (m : ℤ) (r : Row) : Type 0 where
  pub form : IsForm r.form
  pub coefficients : (x : Atom) → coefficient x r.form ≡ coefficient x a.form +ℤ (m *ℤ coefficient x b.form)
  pub bound : r.bound ≡ a.bound +ℤ (m *ℤ b.bound)

-- g times every coefficient of r is that of a, and g times the bound of r is the greatest multiple of g up to a's
pub record IsQuotient (a : Row) (g : ℤ) (r : Row) : Type 0 where
  pub form : IsForm r.form
  pub coefficients : (x : Atom) → g *ℤ coefficient x r.form ≡ coefficient x a.form
  pub low : (g *ℤ r.bound) ≤ℤ a.bound
  pub high : a.bound <ℤ (g *ℤ (r.bound +ℤ pos 1))

-- every coefficient of r is that of a with the other sign, and the bounds add up to -1
pub record IsOpposite (a r : Row) : Type 0 where
  pub form : IsForm r.form
  pub coefficients : (x : Atom) → coefficient x r.form +ℤ coefficient x a.form ≡ pos 0
  pub bound : r.bound +ℤ a.bound ≡ minus_one

-- a form's value where the atoms have the values of v
abbrev pub form_by : (Atom → ℤ) → List (ℤ × Atom) → ℤ
form_by v [] = pos 0
form_by v (t ∷ ts) = (t.0 *ℤ v t.1) +ℤ form_by v ts

abbrev pub HoldsBy : (Atom → ℤ) → Row → Type 0
HoldsBy v row = form_by v row.form ≤ℤ row.bound

-- a form is told by its coefficients
abbrev pub FormsAreCoefficients : Type 0
FormsAreCoefficients = (xs ys : List (ℤ × Atom)) → IsForm xs → IsForm ys → ((a : Atom) → coefficient a xs ≡ coefficient a ys) → xs ≡ ys

-- whatever the atoms' values, the first form plus m times the second has the first's value plus m times the second's
abbrev pub SumsAddValues : Type 0
SumsAddValues = (v : Atom → ℤ) (m : ℤ) (xs ys : List (ℤ × Atom)) → form_by v (form_sum m xs ys) ≡ form_by v xs +ℤ (m *ℤ form_by v ys)

-- where two rows hold, so does the first plus m times the second, for m from 0 on
abbrev pub SumsHold : Type 0
SumsHold = (v : Atom → ℤ) (a b r : Row) (m : ℤ) → pos 0 ≤ℤ m → added a b m ≡ Ok r → HoldsBy v a → HoldsBy v b → HoldsBy v r

-- a row and its quotient hold for the same integers
abbrev pub QuotientsHold : Type 0
QuotientsHold = (v : Atom → ℤ) (row : Row) (g : ℤ) → pos 1 ≤ℤ g → divides g row.form ≡ true → HoldsBy v row ↔ HoldsBy v (tightened row g)

-- the opposite row holds exactly where the row does not
abbrev pub OppositesHold : Type 0
OppositesHold = (v : Atom → ℤ) (row r : Row) → negated row ≡ Ok r → (HoldsBy v row → ⊥) ↔ HoldsBy v r

-- a row is true for the nodes of a problem exactly where it holds for the values of its atoms
abbrev pub RowsHoldByAtoms : Type 0
RowsHoldByAtoms = (problem : Parts) (v : Valuation) (row : Row) → RowHolds problem v row ↔ HoldsBy (atom_value problem v) row
