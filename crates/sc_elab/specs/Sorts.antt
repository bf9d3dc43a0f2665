-- The sorts of scripts: `Bool`, a declared sort, and `(Set T)` of a declared sort T. Integers are not done.
use Rattle.std.specs.Prelude.{ℕ, Bool, true, false, if◌then◌else◌, List, codes, Option, Some, None, Result, Ok, Err}
use Rattle.std.specs.Str.{bytes_eq}
use Rattle.sc_text.specs.declared.code.Code.{Code}
use Rattle.sc_text.specs.declared.code.Code.TheVariants as code
use Rattle.sc_sexpr.specs.Shapes.{Shape, Single, Listed, Shapes, Empty, More}
use Rattle.sc_terms.specs.declared.nodes.Sort.{Sort}
use Rattle.sc_terms.specs.declared.nodes.Sort.TheVariants as sorts
use Rattle.sc_stack.specs.declared.stack.Named.{Named}
use Rattle.sc_stack.specs.declared.stack.Named.TheVariants as named
use Rattle.sc_stack.specs.Names.{Names, look_up}
use Rattle.sc_elab.specs.Words.{symbol_name}
use Rattle.sc_elab.specs.Counts.{is_end}

-- the declared sort that a name names, made into another by f
abbrev pub declared_sort : (ℕ → Sort) → Option Named → Result Sort Code
declared_sort f (Some (named.Sort n)) = Ok (f n)
declared_sort f found = Err code.E6

abbrev pub named_sort : Names → List ℕ → Result Sort Code
named_sort names name =
    if bytes_eq (codes "Bool") name then Ok sorts.Bool
    else if bytes_eq (codes "Int") name then Err code.E8
    else declared_sort sorts.Named (look_up names name)

-- the sets of the sort with this name: sets of Bool are left out
abbrev pub named_sets : Names → List ℕ → Result Sort Code
named_sets names name =
    if bytes_eq (codes "Bool") name then Err code.E8
    else if bytes_eq (codes "Int") name then Err code.E8
    else declared_sort sorts.SetNamed (look_up names name)

abbrev pub is_set_word : Option (List ℕ) → Bool
is_set_word (Some name) = bytes_eq (codes "Set") name
is_set_word None = false

-- what stands behind `Set`: one symbol
abbrev pub sets_of : Names → Option (List ℕ) → Bool → Result Sort Code
sets_of names (Some name) true = named_sets names name
sets_of names found alone = Err code.E8

abbrev pub sets_of_parts : Names → Shapes → Result Sort Code
sets_of_parts names Empty = Err code.E8
sets_of_parts names (More s rest) = sets_of names (symbol_name s) (is_end rest)

abbrev pub token_sort : Names → Option (List ℕ) → Result Sort Code
token_sort names (Some name) = named_sort names name
token_sort names None = Err code.E5

abbrev pub list_sort : Names → Shapes → Result Sort Code
list_sort names Empty = Err code.E8
list_sort names (More head rest) = if is_set_word (symbol_name head) then sets_of_parts names rest else Err code.E8

-- The sort that a tree is. A list is outside the profile unless it is `(Set T)` with a symbol T.
abbrev pub sort_of : Names → Shape → Result Sort Code
sort_of names (Single k text start line) = token_sort names (symbol_name (Single k text start line))
sort_of names (Listed line parts) = list_sort names parts
