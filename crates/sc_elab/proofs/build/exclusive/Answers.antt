use Rattle.std.proofs.Common.{◌+◌, ◌<◌, ◌≤◌, ◌∷◌, length, drop, get_or, subst, rules}
use Rattle.std.proofs.lemmas.List.{drop_more}
use Rattle.sc_elab.specs.Builds as spec
use Rattle.sc_elab.proofs.Loops.{none_left, Folds, folds_on, folds_stop, folds_all}
use Rattle.sc_terms.specs.Bank.{IsFormulaOf}
use Rattle.sc_elab.proofs.Growing.{still_formula}
use Rattle.sc_elab.proofs.build.exclusive.Goals as goal

pub returns-in-Err : goal.returns-in-Err
returns-in-Err c =
    let lt : c.loop-next.next-index < length c.args.rest.now = search rules in
    let whole = spec.exclusive c.args.first c.args.rest.now c.args.bank.now in
    let goes : Folds IsFormulaOf still_formula spec.exclusive_or whole c.args.bank.now c.loop-next.made (get_or c.args.rest.now c.loop-next.next-index 0 ∷ drop (c.loop-next.next-index + 1) c.args.rest.now) c.loop-next.bank = subst (λ l. Folds IsFormulaOf still_formula spec.exclusive_or whole c.args.bank.now c.loop-next.made l c.loop-next.bank) (drop_more c.args.rest.now c.loop-next.next-index 0 lt) c.loop-next.invariant in
    folds_stop IsFormulaOf still_formula spec.exclusive_or whole c.args.bank.now c.loop-next.made (get_or c.args.rest.now c.loop-next.next-index 0) (drop (c.loop-next.next-index + 1) c.args.rest.now) c.loop-next.bank c.difference.new.bank goes c.in-Err.error c.in-Err.ensures

pub loop-next-preserved : goal.loop-next-preserved
loop-next-preserved c =
    let lt : c.loop-next.next-index < length c.args.rest.now = search rules in
    let whole = spec.exclusive c.args.first c.args.rest.now c.args.bank.now in
    let goes : Folds IsFormulaOf still_formula spec.exclusive_or whole c.args.bank.now c.loop-next.made (get_or c.args.rest.now c.loop-next.next-index 0 ∷ drop (c.loop-next.next-index + 1) c.args.rest.now) c.loop-next.bank = subst (λ l. Folds IsFormulaOf still_formula spec.exclusive_or whole c.args.bank.now c.loop-next.made l c.loop-next.bank) (drop_more c.args.rest.now c.loop-next.next-index 0 lt) c.loop-next.invariant in
    folds_on IsFormulaOf still_formula spec.exclusive_or whole c.args.bank.now c.loop-next.made (get_or c.args.rest.now c.loop-next.next-index 0) (drop (c.loop-next.next-index + 1) c.args.rest.now) c.loop-next.bank c.difference.new.bank goes c.in-Ok.number c.in-Ok.ensures

pub returns : goal.returns
returns c =
    let whole = spec.exclusive c.args.first c.args.rest.now c.args.bank.now in
    let past : length c.args.rest.now ≤ c.loop-next.next-index = search rules in
    let none = none_left c.args.rest.now c.loop-next.next-index past in
    folds_all IsFormulaOf still_formula spec.exclusive_or whole c.args.bank.now c.loop-next.made c.loop-next.bank (subst (λ l. Folds IsFormulaOf still_formula spec.exclusive_or whole c.args.bank.now c.loop-next.made l c.loop-next.bank) none c.loop-next.invariant)
