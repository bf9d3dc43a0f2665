-- What a session knows of a verdict that it was given.
use Rattle.std.specs.Prelude.{⊤, ℕ}
use Rattle.sc_terms.specs.declared.problem.Parts.{Parts}
use Rattle.sc_deriv_text.specs.Spelling.{Fits}
use Rattle.sc_tree.specs.declared.verdict.Verdict.{Verdict}
use Rattle.sc_tree.specs.declared.verdict.Verdict.TheVariants.{Sat, Unsat, Unknown}
use Rattle.sc_tree.specs.Verdicts.{IsJust}

-- the numbers of an unsat's derivation are of 32 bits, so its text is read back
abbrev pub IsPrintable : Verdict → Type 0
IsPrintable (Unsat d) = Fits d
IsPrintable (Sat m) = ⊤
IsPrintable (Unknown t) = ⊤

-- The verdict is just for the problem, and its derivation can be printed and read back.
pub record IsGiven (problem : Parts) (budget : ℕ) (v : Verdict) : Type 0 where
  pub just : IsJust problem budget v
  pub printable : IsPrintable v
