use Rattle.std.proofs.Common.{◌≡◌, ◌+◌, ◌<◌, ◌≤◌, ◌∷◌, [], ◌++◌, length, drop, get_or, subst, sym, rules}
use Rattle.std.proofs.lemmas.List.{drop_more}
use Rattle.sc_elab.specs.Builds as spec
use Rattle.sc_elab.specs.States.{each}
use Rattle.sc_elab.proofs.Growing.{still_formulas, still_formula}
use Rattle.sc_elab.proofs.Loops.{none_left, Collects, collects_on, collects_stops, collects_memory, collects_all, first_is, rest_are}
use Rattle.sc_terms.specs.Bank.{IsFormulaOf}
use Rattle.sc_elab.proofs.build.negations.Goals as goal

pub put_formula-requires-clause-stands : goal.put_formula-requires-clause-stands
put_formula-requires-clause-stands c =
    let lt : c.loop-formula.formula-index < length c.args.formulas.now = search rules in
    first_is (IsFormulaOf c.loop-formula.bank) c.args.formulas.now c.loop-formula.formula-index lt c.loop-formula.invariant.1

pub returns-then-is_err : goal.returns-then-is_err
returns-then-is_err c =
    let whole = each spec.negation c.args.formulas.now c.args.bank.now in
    collects_memory IsFormulaOf still_formula spec.negation whole c.args.bank.now c.loop-formula.made (drop c.loop-formula.formula-index c.args.formulas.now) c.loop-formula.bank c.put_formula.new.bank c.loop-formula.invariant.0 (λ known. (c.in-Ok.ensures known).grown)

pub returns-in-Err : goal.returns-in-Err
returns-in-Err c =
    let lt : c.loop-formula.formula-index < length c.args.formulas.now = search rules in
    let whole = each spec.negation c.args.formulas.now c.args.bank.now in
    let goes : Collects IsFormulaOf still_formula spec.negation whole c.args.bank.now c.loop-formula.made (get_or c.args.formulas.now c.loop-formula.formula-index 0 ∷ drop (c.loop-formula.formula-index + 1) c.args.formulas.now) c.loop-formula.bank = subst (λ l. Collects IsFormulaOf still_formula spec.negation whole c.args.bank.now c.loop-formula.made l c.loop-formula.bank) (drop_more c.args.formulas.now c.loop-formula.formula-index 0 lt) c.loop-formula.invariant.0 in
    collects_stops IsFormulaOf still_formula spec.negation whole c.args.bank.now c.loop-formula.made (get_or c.args.formulas.now c.loop-formula.formula-index 0) (drop (c.loop-formula.formula-index + 1) c.args.formulas.now) c.in-Err.error c.loop-formula.bank c.put_formula.new.bank goes c.in-Err.ensures

pub loop-formula-preserved : goal.loop-formula-preserved
loop-formula-preserved c =
    let lt : c.loop-formula.formula-index < length c.args.formulas.now = search rules in
    let whole = each spec.negation c.args.formulas.now c.args.bank.now in
    let pushed : c.push.new.self ≡ c.loop-formula.made ++ c.in-Ok.number ∷ [] = search rules in
    let goes : Collects IsFormulaOf still_formula spec.negation whole c.args.bank.now c.loop-formula.made (get_or c.args.formulas.now c.loop-formula.formula-index 0 ∷ drop (c.loop-formula.formula-index + 1) c.args.formulas.now) c.loop-formula.bank = subst (λ l. Collects IsFormulaOf still_formula spec.negation whole c.args.bank.now c.loop-formula.made l c.loop-formula.bank) (drop_more c.args.formulas.now c.loop-formula.formula-index 0 lt) c.loop-formula.invariant.0 in
    let next = collects_on IsFormulaOf still_formula spec.negation whole c.args.bank.now c.loop-formula.made (get_or c.args.formulas.now c.loop-formula.formula-index 0) (drop (c.loop-formula.formula-index + 1) c.args.formulas.now) c.in-Ok.number c.loop-formula.bank c.put_formula.new.bank goes c.in-Ok.ensures in (
      subst (λ ns. Collects IsFormulaOf still_formula spec.negation whole c.args.bank.now ns (drop (c.loop-formula.formula-index + 1) c.args.formulas.now) c.put_formula.new.bank) (sym pushed) next,
      still_formulas [] c.loop-formula.bank c.put_formula.new.bank (drop (c.loop-formula.formula-index + 1) c.args.formulas.now) (c.in-Ok.ensures []).grown (rest_are (IsFormulaOf c.loop-formula.bank) c.args.formulas.now c.loop-formula.formula-index lt c.loop-formula.invariant.1),
    )

pub loop-formula-init : goal.loop-formula-init
loop-formula-init c = search rules

pub returns : goal.returns
returns c =
    let whole = each spec.negation c.args.formulas.now c.args.bank.now in
    let past : length c.args.formulas.now ≤ c.loop-formula.formula-index = search rules in
    let none = none_left c.args.formulas.now c.loop-formula.formula-index past in
    collects_all IsFormulaOf still_formula spec.negation whole c.args.bank.now c.loop-formula.made c.loop-formula.bank (subst (λ l. Collects IsFormulaOf still_formula spec.negation whole c.args.bank.now c.loop-formula.made l c.loop-formula.bank) none c.loop-formula.invariant.0)
