-- Facts that stand on a path with both signs.
use Rattle.std.specs.Prelude.{◌≡◌, true, List, Option, Some, None, if◌then◌else◌}
use Rattle.sc_facts.specs.declared.fact.Fact.{Fact}
use Rattle.sc_facts.specs.declared.fact.Fact.TheVariants as facts
use Rattle.sc_facts.specs.declared.name.FactName.{FactName}
use Rattle.sc_facts.specs.declared.name.FactName.TheVariants as names
use Rattle.sc_deriv.specs.Acceptance.{clashes}
use Rattle.sc_tree.specs.Events.{HasNoClash}

-- the name of a fact that is no row
abbrev pub name_of : Fact → Option FactName
name_of (facts.Sign f s) = Some (names.Sign f)
name_of (facts.Member e t s) = Some (names.Member e t)
name_of (facts.Eq e f s) = Some (names.Eq e f)
name_of (facts.EqSet t u s) = Some (names.EqSet t u)
name_of (facts.Empty cube s) = Some (names.Empty cube)
name_of (facts.Row row) = None

-- the name, where it clashes
abbrev pub clash_of : List Fact → Option FactName → Option FactName
clash_of path None = None
clash_of path (Some name) = if clashes path name then Some name else None

-- this name clashes on the path, or none does
abbrev pub IsClash : List Fact → Option FactName → Type 0
IsClash path None = HasNoClash path
IsClash path (Some name) = clashes path name ≡ true
