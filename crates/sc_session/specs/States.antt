-- A session at a moment.
use Rattle.std.specs.Prelude.{ℕ, ◌+◌, ◌-◌, ◌≤◌, Bool, true, false, if◌then◌else◌, List, [], ◌∷◌, ◌++◌, length, slice_get, Option, Some, None}
use Rattle.std.specs.List.{AllByRecursion}
use Rattle.sc_terms.specs.declared.nodes.Node.{Node}
use Rattle.sc_terms.specs.Bank.{IsBank, IsFormulaOf}
use Rattle.sc_sorts.specs.Posed.{IsPosedBank}
use Rattle.sc_stack.specs.Names.{Names, IsNames, no_names, sorts_of, assertions_in_force}
use Rattle.sc_deriv.specs.declared.derivation.Derivation.{Derivation}
use Rattle.sc_tree.specs.declared.verdict.Verdict.{Verdict}
use Rattle.sc_tree.specs.declared.verdict.Verdict.TheVariants.{Sat, Unsat, Unknown}

-- the terms made so far, the names and assertions that stand, the verdicts that were given, how many check-sats were done, and whether the last of them is current: nothing was declared or asserted behind it
pub record State : Type 0 where
  pub bank : List Node
  pub names : Names
  pub verdicts : List Verdict
  pub checks : ℕ
  pub current : Bool

abbrev pub state : List Node → Names → List Verdict → ℕ → Bool → State
state bank names verdicts checks current = record { bank = bank; names = names; verdicts = verdicts; checks = checks; current = current }

-- nothing was done
abbrev pub start : State
start = state [] no_names [] 0 false

abbrev pub with_bank : State → List Node → State
with_bank s bank = state bank s.names s.verdicts s.checks s.current

abbrev pub with_names : State → Names → State
with_names s names = state s.bank names s.verdicts s.checks s.current

-- a declaration or an assertion was done, so no check-sat is current
abbrev pub moved_on : State → State
moved_on s = state s.bank s.names s.verdicts s.checks false

-- a check-sat was done, and its verdict is not asked
abbrev pub with_check : State → State
with_check s = state s.bank s.names s.verdicts (s.checks + 1) true

-- a check-sat was done, with this verdict
abbrev pub with_verdict : State → Verdict → State
with_verdict s v = state s.bank s.names (s.verdicts ++ v ∷ []) (s.checks + 1) true

-- the verdict of the check-sat that is current
abbrev pub current_verdict : State → Option Verdict
current_verdict s = if s.current then slice_get s.verdicts (length s.verdicts - 1) else None

-- the derivation of an unsat
abbrev pub derivation_of : Option Verdict → Option Derivation
derivation_of (Some (Unsat d)) = Some d
derivation_of (Some (Sat m)) = None
derivation_of (Some (Unknown t)) = None
derivation_of None = None

-- the derivation of the current verdict
abbrev pub proof : State → Option Derivation
proof s = derivation_of (current_verdict s)

-- Formulas of the bank may be posed, where the constants have the sorts that were declared, and each assertion in force is a formula of the bank.
pub record IsSorted (bank : List Node) (names : Names) : Type 0 where
  pub posed : IsPosedBank (sorts_of names) bank
  pub assertions : AllByRecursion (IsFormulaOf bank) (assertions_in_force names)

-- what is true of every session
pub record IsSession (s : State) : Type 0 where
  pub bank : IsBank s.bank
  pub names : IsNames s.names
  pub sorted : IsSorted s.bank s.names

-- what the meaning of a session's assertions hangs on: they are formulas of a bank, and there is a level for the next one
pub record IsGrounded (s : State) : Type 0 where
  pub bank : IsBank s.bank
  pub levels : 1 ≤ length s.names.levels
  pub assertions : AllByRecursion (IsFormulaOf s.bank) (assertions_in_force s.names)
