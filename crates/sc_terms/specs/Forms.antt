-- The order of atoms, and forms over them.
use Rattle.std.specs.Prelude.{◌≡◌, ◌≢◌, ℕ, ℤ, pos, List, [], ◌∷◌, map, ⊤}
use Rattle.std.specs.List.{AllByRecursion}
use Rattle.std.specs.declared.cmp.Ordering.{Ordering}
use Rattle.std.specs.declared.cmp.Ordering.TheVariants.{Less, Equal, Greater}
use Rattle.std.specs.Ordering.{nat_cmp, ordering_then}
use Rattle.std.specs.Cmp.Lexicographic.{slice_cmp}
use Rattle.sc_terms.specs.declared.atoms.Sign.{Sign}
use Rattle.sc_terms.specs.declared.atoms.Sign.TheVariants.{Plus, Minus}
use Rattle.sc_terms.specs.declared.atoms.Cube.{Cube}
use Rattle.sc_terms.specs.declared.atoms.Atom.{Atom}
use Rattle.sc_terms.specs.declared.atoms.Atom.TheVariants as atoms

-- plus before minus
abbrev pub sign_cmp : Sign → Sign → Ordering
sign_cmp Plus Plus = Equal
sign_cmp Plus Minus = Less
sign_cmp Minus Plus = Greater
sign_cmp Minus Minus = Equal

-- by component, then by word; a front of a word before what it begins
abbrev pub cube_cmp : Cube → Cube → Ordering
cube_cmp a b = ordering_then (nat_cmp a.component b.component) (slice_cmp sign_cmp a.signs b.signs)

-- a sign as the byte of `+` or of `-`
abbrev pub sign_byte : Sign → ℕ
sign_byte Plus = 43
sign_byte Minus = 45

-- regions of one component are ordered as their words are, byte by byte
abbrev pub CubesAscendAsWords : Type 0
CubesAscendAsWords = (a b : Cube) → a.component ≡ b.component → cube_cmp a b ≡ slice_cmp nat_cmp (map sign_byte a.signs) (map sign_byte b.signs)

-- Int constants, cards, differing elements, sizes; each kind ascending
abbrev pub kind_of : Atom → ℕ
kind_of (atoms.Int n) = 0
kind_of (atoms.Card s) = 1
kind_of (atoms.Diff e) = 2
kind_of (atoms.Size cube) = 3

abbrev pub atom_cmp : Atom → Atom → Ordering
atom_cmp (atoms.Int m) (atoms.Int n) = nat_cmp m n
atom_cmp (atoms.Card s) (atoms.Card t) = nat_cmp s t
atom_cmp (atoms.Diff e) (atoms.Diff f) = nat_cmp e f
atom_cmp (atoms.Size a) (atoms.Size b) = cube_cmp a b
atom_cmp a b = nat_cmp (kind_of a) (kind_of b)

-- the atoms ascend, and no coefficient is 0
abbrev pub IsForm : List (ℤ × Atom) → Type 0
IsForm [] = ⊤
IsForm (p ∷ ps) = (p.0 ≢ pos 0) × AllByRecursion (λ q. atom_cmp p.1 q.1 ≡ Less) ps × IsForm ps
