-- Facts on pairs, whose numbers may be given in any order.
use Rattle.std.specs.Prelude.{ℕ, Bool, true, false, nat_lt, if◌then◌else◌, List, Option, Some, None}
use Rattle.sc_facts.specs.declared.fact.Fact.{Fact}
use Rattle.sc_facts.specs.declared.fact.Fact.TheVariants as facts
use Rattle.sc_facts.specs.Facts.{has}

-- a plus where the first holds, else a minus where the second does
abbrev pub first_sign : Bool → Bool → Option Bool
first_sign plus minus = if plus then Some true else if minus then Some false else None

-- two numbers, the lower one first
abbrev pub ordered : ℕ → ℕ → ℕ × ℕ
ordered m n = if nat_lt n m then (n, m) else (m, n)

-- that elements e and f are equal, or not
abbrev pub equal_fact : ℕ → ℕ → Bool → Fact
equal_fact e f b = facts.Eq (ordered e f).0 (ordered e f).1 b

abbrev pub equal : List Fact → ℕ → ℕ → Bool → Bool
equal path e f b = has path (equal_fact e f b)

abbrev pub equal_of : List Fact → ℕ → ℕ → Option Bool
equal_of path e f = first_sign (equal path e f true) (equal path e f false)

-- that sets s and t are equal, or not
abbrev pub same_set_fact : ℕ → ℕ → Bool → Fact
same_set_fact s t b = facts.EqSet (ordered s t).0 (ordered s t).1 b

abbrev pub same_set : List Fact → ℕ → ℕ → Bool → Bool
same_set path s t b = has path (same_set_fact s t b)

abbrev pub same_set_of : List Fact → ℕ → ℕ → Option Bool
same_set_of path s t = first_sign (same_set path s t true) (same_set path s t false)
