-- Numbers past 128 bits on a path: what its bounds fix has a product or a sum that no signed number of 128 bits holds.
use Rattle.std.specs.Prelude.{◌≡◌, ℕ, ◌^◌, ◌≤◌, Bool, true, false, ◌⊎◌, ℤ, pos, ◌+◌, ◌+ℤ◌, ◌*ℤ◌, ◌≤ℤ◌, unsigned_abs, List, [], ◌∷◌, ◌++◌, length, map, slice_get, if◌then◌else◌, Some, ⊤}
use Rattle.std.specs.List.{AllByRecursion}
use Rattle.std.proofs.Math.IntN.{neg_ℤ}
use Rattle.sc_terms.specs.declared.atoms.Atom.{Atom}
use Rattle.sc_terms.specs.declared.atoms.Atom.TheVariants as atoms
use Rattle.sc_terms.specs.declared.atoms.Cube.{Cube}
use Rattle.sc_terms.specs.declared.atoms.Sign.{Sign}
use Rattle.sc_terms.specs.declared.form.Affine.{Affine}
use Rattle.sc_terms.specs.declared.form.Row.{Row}
use Rattle.sc_terms.specs.declared.nodes.Element.TheVariants as elements
use Rattle.sc_terms.specs.declared.problem.Parts.{Parts}
use Rattle.sc_terms.specs.Conditions.{IsIn}
use Rattle.sc_terms.specs.Lookup.{set_at, element_at, is_empty_set, component_of, is_counted}
use Rattle.sc_terms.specs.Meaning.{is_plus}
use Rattle.sc_terms.specs.Regions.{is_region}
use Rattle.sc_terms.specs.Same.{same_truth}
use Rattle.sc_base.specs.Numbered.{item_at}
use Rattle.sc_facts.specs.declared.fact.Fact.{Fact}
use Rattle.sc_facts.specs.declared.fact.Fact.TheVariants as facts
use Rattle.sc_facts.specs.declared.note.Note.{Note}
use Rattle.sc_facts.specs.declared.note.Note.TheVariants as notes
use Rattle.sc_facts.specs.Facts.{has, rows_of}
use Rattle.sc_terms.specs.Bounds.{IsLeastOf, IsGreatestOf, at_most, at_least, High, Low}

-- ---- what a path fixes
-- the path says that the atom is at most h, and at least l
abbrev pub IsAtMost : List Fact → Atom → ℤ → Type 0
IsAtMost path a h = has path (facts.Row (at_most a h)) ≡ true

abbrev pub IsAtLeast : List Fact → Atom → ℤ → Type 0
IsAtLeast path a l = has path (facts.Row (at_least a l)) ≡ true

-- v is the least value of the atom by the assertions' bounds and the path's, and the greatest
abbrev pub IsLeastValue : Parts → List Fact → Atom → ℤ → Type 0
IsLeastValue problem path a v = IsGreatestOf (λ l. Low problem a l ⊎ IsAtLeast path a l) v

abbrev pub IsGreatestValue : Parts → List Fact → Atom → ℤ → Type 0
IsGreatestValue problem path a v = IsLeastOf (λ h. High problem a h ⊎ IsAtMost path a h) v

-- Int constants, cards of empty sets, and cards and sizes of counted components
abbrev pub MayBeFixed : Parts → Atom → Type 0
MayBeFixed problem (atoms.Int n) = IsIn (length problem.ints) n
MayBeFixed problem (atoms.Card s) = (is_empty_set (set_at problem s) ≡ true) ⊎ ((c : ℕ) × (component_of problem s ≡ Some c) × (is_counted problem c ≡ true))
MayBeFixed problem (atoms.Diff e) = ⊥
MayBeFixed problem (atoms.Size cube) = IsIn (length problem.components) cube.component × (is_counted problem cube.component ≡ true)

-- the atom has this value alone
pub record IsFixed (problem : Parts) (path : List Fact) (a : Atom) (v : ℤ) : Type 0 where
  pub may : MayBeFixed problem a
  pub least : IsLeastValue problem path a v
  pub greatest : IsGreatestValue problem path a v

-- ---- a single atom past 128 bits, or with bounds that lie that far apart the wrong way round

pub record AreCrossed (path : List Fact) (a : Atom) : Type 0 where
  pub low : ℤ
  pub high : ℤ
  pub says_low : IsAtLeast path a low
  pub says_high : IsAtMost path a high
  pub apart : (high +ℤ pos (2 ^ 127 + 1)) ≤ℤ low

abbrev pub IsFar : Parts → List Fact → Atom → Type 0
IsFar problem path a = MayBeFixed problem a × (IsAtLeast path a (pos (2 ^ 127)) ⊎ (IsAtMost path a (neg_ℤ (pos (2 ^ 127))) ⊎ AreCrossed path a))

-- ---- sums of several atoms
-- a form, and what is added to it: the constant of an Int term, or the negated bound of a row
pub record Subject : Type 0 where
  pub form : List (ℤ × Atom)
  pub offset : ℤ

-- the atoms that have to be fixed: all but one differing element with coefficient 1 or -1 at most
pub data HaveToBeFixed : List (ℤ × Atom) → List (ℤ × Atom) → Type 0 where
  all : (form : List (ℤ × Atom)) → HaveToBeFixed form form
  but_one : (before after : List (ℤ × Atom)) (k : ℤ) (e : ℕ) → unsigned_abs k ≡ 1 → HaveToBeFixed (before ++ (k, atoms.Diff e) ∷ after) (before ++ after)

-- the products of the form's coefficients with the values that the path fixes
abbrev pub AreProducts : Parts → List Fact → List (ℤ × Atom) → List ℤ → Type 0
AreProducts problem path [] [] = ⊤
AreProducts problem path (p ∷ form) (z ∷ products) = ((v : ℤ) × IsFixed problem path p.1 v × (z ≡ p.0 *ℤ v)) × AreProducts problem path form products
AreProducts problem path _ _ = ⊥

abbrev pub total : List ℤ → ℤ
total [] = pos 0
total (z ∷ zs) = z +ℤ total zs

-- an absolute value of 2^127 or more
abbrev pub IsPast : ℤ → Type 0
IsPast z = 2 ^ 127 ≤ unsigned_abs z

-- a product passes 128 bits, or their sum, or the sum with the offset
abbrev pub SomePasses : List ℤ → ℤ → Type 0
SomePasses products offset = ((i : ℕ) × (z : ℤ) × (slice_get products i ≡ Some z) × IsPast z) ⊎ (IsPast (total products) ⊎ IsPast (total products +ℤ offset))

abbrev pub IsWideSubject : Parts → List Fact → Subject → Type 0
IsWideSubject problem path subject =
    (form : List (ℤ × Atom)) × (products : List ℤ) × HaveToBeFixed subject.form form × AreProducts problem path form products × SomePasses products subject.offset

-- ---- sizes of regions of one component of which no two can share an element
-- two words have different signs at some place
abbrev pub are_disjoint : List Sign → List Sign → Bool
are_disjoint (a ∷ first) (b ∷ second) = if same_truth (is_plus a) (is_plus b) then are_disjoint first second else true
are_disjoint _ _ = false

abbrev pub AreApart : List Cube → Type 0
AreApart [] = ⊤
AreApart (c ∷ cs) = AllByRecursion (λ d. (d.component ≡ c.component) × (are_disjoint c.signs d.signs ≡ true)) cs × AreApart cs

abbrev pub IsRegion : Parts → Cube → Type 0
IsRegion problem cube = is_region problem cube ≡ true

abbrev pub sizes : List Cube → List (ℤ × Atom)
sizes cubes = map (λ c. (pos 1, atoms.Size c)) cubes

-- ---- What a note names on the path. No step concludes a row from two elements or from a cut on a row: so no sum of rows is a subject, and each row of the path is.
abbrev pub IsSubject : Parts → List Fact → Note → Subject → Type 0
IsSubject problem path (notes.Row n) subject = (row : Row) × (item_at (rows_of path) n ≡ Some row) × (subject ≡ record { form = row.form; offset = neg_ℤ row.bound })
IsSubject problem path (notes.Term e) subject = (affine : Affine) × (element_at problem e ≡ Some (elements.Number affine)) × (subject ≡ record { form = affine.form; offset = affine.constant })
IsSubject problem path (notes.Cubes cubes) subject = AllByRecursion (IsRegion problem) cubes × AreApart cubes × (subject ≡ record { form = sizes cubes; offset = pos 0 })
IsSubject problem path (notes.Sum rows) subject = ⊥
IsSubject problem path (notes.Far a) subject = ⊥

-- the note names a number past 128 bits on the path
abbrev pub IsWide : Parts → List Fact → Note → Type 0
IsWide problem path (notes.Far a) = IsFar problem path a
IsWide problem path note = (subject : Subject) × IsSubject problem path note subject × IsWideSubject problem path subject
