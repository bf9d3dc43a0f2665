use Rattle.std.proofs.Common.{ℕ, List, []}
use Rattle.sc_terms.specs.declared.nodes.Node.{Node}
use Rattle.sc_terms.specs.declared.nodes.Formula.TheVariants as formulas
use Rattle.sc_elab.specs.States.{Outcome, put_formula}
use Rattle.sc_elab.proofs.Growing.{stop, go_on}
use Rattle.sc_elab.proofs.build.difference.Goals as goal

abbrev negated : ℕ → List Node → Outcome ℕ
negated n b = put_formula (formulas.Not n) b

pub put_formula-requires-clause-stands : goal.put_formula-requires-clause-stands
put_formula-requires-clause-stands c = (c.in-Ok.ensures []).stands

pub returns-in-Ok : goal.returns-in-Ok
returns-in-Ok c = go_on negated c.in-Ok.ensures c.put_formula.ensures

pub returns-in-Err : goal.returns-in-Err
returns-in-Err c = stop negated c.in-Err.ensures
