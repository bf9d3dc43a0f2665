-- Which cubes are regions of a problem.
use Rattle.std.specs.Prelude.{ℕ, Bool, ◌&&◌, nat_eq, nat_le, List, length}
use Rattle.std.specs.List.{list_any}
use Rattle.sc_terms.specs.declared.atoms.Cube.{Cube}
use Rattle.sc_terms.specs.declared.atoms.Sign.{Sign}
use Rattle.sc_terms.specs.declared.problem.Parts.{Parts}
use Rattle.sc_terms.specs.Lookup.{basis_of, is_counted}
use Rattle.sc_terms.specs.Meaning.{is_plus}

-- a region's word has a plus
abbrev pub has_plus : List Sign → Bool
has_plus signs = list_any is_plus signs

-- whether there is such a component
abbrev pub is_component : Parts → ℕ → Bool
is_component problem component = nat_le 1 component && nat_le component (length problem.components)

-- a region is of a component, its word has a plus, and no more signs than the component's basis has sets
abbrev pub is_region : Parts → Cube → Bool
is_region problem cube = is_component problem cube.component && (has_plus cube.signs && nat_le (length cube.signs) (length (basis_of problem cube.component)))

-- a word as long as the basis of a component of which a card counts
abbrev pub is_full : Parts → Cube → Bool
is_full problem cube = nat_eq (length cube.signs) (length (basis_of problem cube.component)) && is_counted problem cube.component
