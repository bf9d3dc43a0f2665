-- Numbers that are noted beside numbers, in lists: the first list also has what is noted beside the numbers past the last.
use Rattle.std.specs.Prelude.{◌≡◌, ℕ, ◌≤◌, Bool, true, false, ◌||◌, nat_eq, nat_lt, if◌then◌else◌, List, [], length, slice_index_or, Option, Some}
use Rattle.sc_terms.specs.declared.nodes.SetTerm.{SetTerm}
use Rattle.sc_terms.specs.declared.nodes.SetTerm.TheVariants as sets
use Rattle.sc_terms.specs.declared.problem.Parts.{Parts}
use Rattle.sc_terms.specs.Lookup.{is_listed, set_at}
use Rattle.sc_facts.specs.declared.fact.Fact.{Fact}
use Rattle.sc_rules.specs.Pairs.{same_set}
use Rattle.sc_rules.specs.Members.{single_of}

-- the place of the list of a number
abbrev pub place_of : List (List ℕ) → ℕ → ℕ
place_of lists n = if nat_lt n (length lists) then n else 0

-- what is noted beside a number, and perhaps more
abbrev pub noted : List (List ℕ) → ℕ → List ℕ
noted lists n = slice_index_or lists (place_of lists n) []

abbrev pub is_noted : List (List ℕ) → ℕ → ℕ → Bool
is_noted lists n v = is_listed v (noted lists n)

-- what was noted still is
abbrev pub Keeps : List (List ℕ) → List (List ℕ) → Type 0
Keeps old new = (n v : ℕ) → is_noted old n v ≡ true → is_noted new n v ≡ true

-- whether a number is one of two
abbrev pub is_either : ℕ → ℕ → ℕ → Bool
is_either n a b = nat_eq n a || nat_eq n b

-- whether a set term is an argument of this one
abbrev pub is_argument : ℕ → Option SetTerm → Bool
is_argument s (Some (sets.Union a b)) = is_either s a b
is_argument s (Some (sets.Inter a b)) = is_either s a b
is_argument s (Some (sets.Minus a b)) = is_either s a b
is_argument s _ = false

-- a set term's number is noted beside those of its arguments, or of its element
pub record IsNotedAt (number : ℕ) (node : Option SetTerm) (parents singles : List (List ℕ)) : Type 0 where
  pub by_argument : (s : ℕ) → is_argument s node ≡ true → is_noted parents s number ≡ true
  pub by_element : (e : ℕ) → single_of node ≡ Some e → is_noted singles e number ≡ true

-- the same for all set terms up to a number
abbrev pub AreNotedTo : Parts → ℕ → List (List ℕ) → List (List ℕ) → Type 0
AreNotedTo problem last parents singles = (n : ℕ) → n ≤ last → IsNotedAt n (set_at problem n) parents singles

-- the same for all set terms of the problem
abbrev pub AreNoted : Parts → List (List ℕ) → List (List ℕ) → Type 0
AreNoted problem parents singles = (n : ℕ) → IsNotedAt n (set_at problem n) parents singles

-- beside each set term the ones are noted that the path says equal it
abbrev pub HasPartners : List Fact → List (List ℕ) → Type 0
HasPartners path partners = (s t : ℕ) → same_set path s t true ≡ true → is_noted partners s t ≡ true
