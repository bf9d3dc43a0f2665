use Rattle.std.proofs.Common.{◌≡◌, ℕ, List, ◌+◌, ◌-◌, ◌<◌, [], length, take, get_or, ap, ◌∙◌, subst, sym, rules}
use Rattle.sc_terms.specs.Bank.{IsFormulaOf}
use Rattle.sc_terms.specs.declared.nodes.Node.{Node}
use Rattle.sc_elab.specs.Builds as spec
use Rattle.sc_elab.specs.States.{Outcome, bind, each}
use Rattle.sc_elab.specs.Growth.{Builds, AreFormulas}
use Rattle.sc_elab.proofs.Growing.{stop, go_on, builds_same, still_formula}
use Rattle.sc_elab.proofs.Loops.{from_right_is, split_last, last_is}
use Rattle.sc_elab.proofs.build.implication.Goals as goal

-- the last formula is what the negations imply
abbrev after_negations : ℕ → List ℕ → List Node → Outcome ℕ
after_negations last ns b = spec.nested spec.disjunction ns last b

two_parts : (fs : List ℕ) (k : ℕ) (bank : List Node) → length fs ≡ k + 1 → spec.implication fs bank ≡ bind (each spec.negation (take k fs) bank) (after_negations (get_or fs k 0))
two_parts fs k bank e = ap (λ l. spec.implication l bank) (sym (split_last fs k 0 e)) ∙ from_right_is spec.negation spec.disjunction (take k fs) (get_or fs k 0) bank

pub disjunctions-requires-clause-negations : goal.disjunctions-requires-clause-negations
disjunctions-requires-clause-negations c = subst (AreFormulas c.negations.new.bank) (sym c.as_slice.ensures) (c.in-Ok.ensures []).stands

pub disjunctions-requires-clause-last : goal.disjunctions-requires-clause-last
disjunctions-requires-clause-last c =
    let lt : length c.args.formulas.now - 1 < length c.args.formulas.now = search rules in
    still_formula [] c.args.bank.now c.negations.new.bank (get_or c.args.formulas.now (length c.args.formulas.now - 1) 0) (c.in-Ok.ensures []).grown (last_is IsFormulaOf still_formula c.args.bank.now c.args.formulas.now (length c.args.formulas.now - 1) lt c.requires)

pub returns-in-Ok : goal.returns-in-Ok
returns-in-Ok c =
    let long : length c.args.formulas.now ≡ (length c.args.formulas.now - 1) + 1 = search rules in
    let last = get_or c.args.formulas.now (length c.args.formulas.now - 1) 0 in
    let rest = subst (λ ns. Builds IsFormulaOf (spec.nested spec.disjunction ns last c.negations.new.bank) c.negations.new.bank c.disjunctions.result c.disjunctions.new.bank) c.as_slice.ensures c.disjunctions.ensures in
    builds_same (two_parts c.args.formulas.now (length c.args.formulas.now - 1) c.args.bank.now long) (go_on (after_negations last) c.in-Ok.ensures rest)

pub returns-in-Err : goal.returns-in-Err
returns-in-Err c =
    let long : length c.args.formulas.now ≡ (length c.args.formulas.now - 1) + 1 = search rules in
    builds_same (two_parts c.args.formulas.now (length c.args.formulas.now - 1) c.args.bank.now long) (stop (after_negations (get_or c.args.formulas.now (length c.args.formulas.now - 1) 0)) c.in-Err.ensures)
