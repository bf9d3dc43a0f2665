use Rattle.std.proofs.Common.{ℕ, List, []}
use Rattle.sc_terms.specs.declared.nodes.Node.{Node}
use Rattle.sc_terms.specs.declared.nodes.Formula.TheVariants as formulas
use Rattle.sc_terms.specs.declared.nodes.SetTerm.TheVariants as sets
use Rattle.sc_terms.specs.declared.nodes.Sort.{Sort}
use Rattle.sc_elab.specs.States.{Outcome, bind, put_set, put_formula}
use Rattle.sc_elab.proofs.Growing.{stop, go_on, still_set}
use Rattle.sc_elab.proofs.set_terms.inclusion.Goals as goal

-- what is left after each part
abbrev after_empty : ℕ → ℕ → List Node → Outcome ℕ
after_empty m e b = put_formula (formulas.EqSet m e) b

abbrev after_minus : Sort → ℕ → List Node → Outcome ℕ
after_minus sort m b = bind (put_set (sets.Empty sort) b) (after_empty m)

pub put_formula-requires-clause-stands : goal.put_formula-requires-clause-stands
put_formula-requires-clause-stands c = (still_set [] c.put_set_term.new.bank c.put_set_term-2.new.bank c.in-Ok.number (c.in-Ok-put_set_term.ensures []).grown (c.in-Ok.ensures []).stands, (c.in-Ok-put_set_term.ensures []).stands)

pub returns-in-Err : goal.returns-in-Err
returns-in-Err c = stop (after_minus c.args.sort) c.in-Err.ensures

pub returns-in-Ok-put_set_term : goal.returns-in-Ok-put_set_term
returns-in-Ok-put_set_term c = go_on (after_minus c.args.sort) c.in-Ok.ensures (go_on (after_empty c.in-Ok.number) c.in-Ok-put_set_term.ensures c.put_formula.ensures)

pub returns-in-Err-put_set_term : goal.returns-in-Err-put_set_term
returns-in-Err-put_set_term c = go_on (after_minus c.args.sort) c.in-Ok.ensures (stop (after_empty c.in-Ok.number) c.in-Err-put_set_term.ensures)
