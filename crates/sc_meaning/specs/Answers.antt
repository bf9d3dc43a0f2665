-- What the values of asked nodes are.
use Rattle.std.specs.Prelude.{ℕ, ◌+◌, Bool, if◌then◌else◌, List, [], ◌∷◌, Option, None, Some}
use Rattle.sc_terms.specs.declared.nodes.Node.{Node}
use Rattle.sc_terms.specs.BankValues.{bank_meaning}
use Rattle.sc_terms.specs.Meaning.{Valuation}
use Rattle.sc_terms.specs.Values.{ValueMap, interpretation_of}

-- the values that the constants' values give the nodes of a bank
abbrev pub values_by : List Node → ValueMap → Valuation
values_by bank m = bank_meaning bank (interpretation_of m)

-- the place of the first number of the list at which the test fails, where the list starts at the place k
abbrev pub failing_from : ℕ → (ℕ → Bool) → List ℕ → Option ℕ
failing_from k t [] = None
failing_from k t (f ∷ fs) = if t f then failing_from (k + 1) t fs else Some k

-- the place of the first false formula of the list, from 1
abbrev pub first_false : Valuation → List ℕ → Option ℕ
first_false v fs = failing_from 1 v.truth fs
