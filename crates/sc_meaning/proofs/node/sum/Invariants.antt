use Rattle.std.proofs.Common.{◌≡◌, ◌≤◌, ◌+ℤ◌, drop}
use Rattle.std.specs.Prelude.{unsigned_abs}
use Rattle.std.specs.List.{AllByRecursion}
use Rattle.sc_terms.specs.BankValues.{no_parts}
use Rattle.sc_terms.specs.Meaning.{form_value}
use Rattle.sc_terms.specs.Values.{interpretation_of, TermFits}
use Rattle.sc_base.specs.Totals.{amount}
use Rattle.sc_meaning.specs.Worths.{found}
use Rattle.sc_meaning.proofs.node.sum.Given as goal

abbrev pub invariant-loop-one : goal.invariant-loop-one
invariant-loop-one l =
    record {
      value : (amount l.total +ℤ form_value no_parts (found (interpretation_of l.interp) l.values) (drop l.one-index l.terms)) ≡ form_value no_parts (found (interpretation_of l.interp) l.values) l.terms;
      fits : AllByRecursion (TermFits no_parts (found (interpretation_of l.interp) l.values)) (drop l.one-index l.terms) → AllByRecursion (TermFits no_parts (found (interpretation_of l.interp) l.values)) l.terms;
      turns : unsigned_abs l.total.turns ≤ l.one-index;
    }
