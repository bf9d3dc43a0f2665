-- The table of a stack: each name in force, with what it names.
use Rattle.std.specs.Prelude.{◌≡◌, ℕ, List, [], ◌∷◌}
use Rattle.std.specs.Map.{lookup}
use Rattle.std.specs.Str.{bytes_eq}
use Rattle.sc_stack.specs.declared.stack.Named.{Named}
use Rattle.sc_stack.specs.declared.stack.Constant.{Constant}
use Rattle.sc_stack.specs.Names.{Names, look_up}

-- looking a name up in the table finds what it names
pub record IsIndexed {K : Type 0} (bytes : K → List ℕ) (table : List (K × Named)) (names : Names) : Type 0 where
  pub finds : (name : List ℕ) → lookup (λ key. bytes_eq name (bytes key)) table ≡ look_up names name

-- what stands with the first level alone
abbrev pub names_of : List (List ℕ) → List Constant → List ℕ → List ℕ → List ℕ → Names
names_of sorts constants sort_numbers constant_numbers assertions =
    record { sorts = sorts; constants = constants; levels = record { sorts = sort_numbers; constants = constant_numbers; assertions = assertions } ∷ [] }
