use Rattle.std.proofs.Common.{◌≡◌, ◌+◌, ◌<◌, ◌≤◌, ◌∷◌, [], ◌++◌, length, drop, get_or, subst, sym, rules}
use Rattle.std.proofs.lemmas.List.{drop_more}
use Rattle.sc_elab.specs.Builds as spec
use Rattle.sc_elab.specs.States.{each}
use Rattle.sc_elab.proofs.Growing.{still_sort, still_sorts, still_formula}
use Rattle.sc_elab.proofs.Loops.{none_left, Collects, collects_on, collects_stops, collects_memory, collects_all, first_is, rest_are}
use Rattle.sc_terms.specs.Bank.{IsFormulaOf}
use Rattle.sc_elab.specs.Growth.{IsOfSort}
use Rattle.sc_elab.proofs.build.equations.Goals as goal

pub equation-requires-clause-x : goal.equation-requires-clause-x
equation-requires-clause-x c = c.loop-next.invariant.1.0

pub equation-requires-clause-y : goal.equation-requires-clause-y
equation-requires-clause-y c =
    let lt : c.loop-next.next-index < length c.args.rest.now = search rules in
    first_is (IsOfSort c.loop-next.bank c.args.sort) c.args.rest.now c.loop-next.next-index lt c.loop-next.invariant.1.1

pub returns-then-is_err : goal.returns-then-is_err
returns-then-is_err c =
    let whole = each (spec.equation c.args.sort) (spec.neighbours (c.args.first ∷ c.args.rest.now)) c.args.bank.now in
    collects_memory IsFormulaOf still_formula (spec.equation c.args.sort) whole c.args.bank.now c.loop-next.made (spec.neighbours (c.loop-next.last ∷ drop c.loop-next.next-index c.args.rest.now)) c.loop-next.bank c.equation.new.bank c.loop-next.invariant.0 (λ known. (c.in-Ok.ensures known).grown)

pub returns-in-Err : goal.returns-in-Err
returns-in-Err c =
    let lt : c.loop-next.next-index < length c.args.rest.now = search rules in
    let whole = each (spec.equation c.args.sort) (spec.neighbours (c.args.first ∷ c.args.rest.now)) c.args.bank.now in
    let x = get_or c.args.rest.now c.loop-next.next-index 0 in
    let after = drop (c.loop-next.next-index + 1) c.args.rest.now in
    let goes : Collects IsFormulaOf still_formula (spec.equation c.args.sort) whole c.args.bank.now c.loop-next.made ((c.loop-next.last, x) ∷ spec.neighbours (x ∷ after)) c.loop-next.bank = subst (λ l. Collects IsFormulaOf still_formula (spec.equation c.args.sort) whole c.args.bank.now c.loop-next.made (spec.neighbours (c.loop-next.last ∷ l)) c.loop-next.bank) (drop_more c.args.rest.now c.loop-next.next-index 0 lt) c.loop-next.invariant.0 in
    collects_stops IsFormulaOf still_formula (spec.equation c.args.sort) whole c.args.bank.now c.loop-next.made (c.loop-next.last, x) (spec.neighbours (x ∷ after)) c.in-Err.error c.loop-next.bank c.equation.new.bank goes c.in-Err.ensures

pub loop-next-preserved : goal.loop-next-preserved
loop-next-preserved c =
    let lt : c.loop-next.next-index < length c.args.rest.now = search rules in
    let whole = each (spec.equation c.args.sort) (spec.neighbours (c.args.first ∷ c.args.rest.now)) c.args.bank.now in
    let x = get_or c.args.rest.now c.loop-next.next-index 0 in
    let after = drop (c.loop-next.next-index + 1) c.args.rest.now in
    let pushed : c.push.new.self ≡ c.loop-next.made ++ c.in-Ok.number ∷ [] = search rules in
    let goes : Collects IsFormulaOf still_formula (spec.equation c.args.sort) whole c.args.bank.now c.loop-next.made ((c.loop-next.last, x) ∷ spec.neighbours (x ∷ after)) c.loop-next.bank = subst (λ l. Collects IsFormulaOf still_formula (spec.equation c.args.sort) whole c.args.bank.now c.loop-next.made (spec.neighbours (c.loop-next.last ∷ l)) c.loop-next.bank) (drop_more c.args.rest.now c.loop-next.next-index 0 lt) c.loop-next.invariant.0 in
    let next = collects_on IsFormulaOf still_formula (spec.equation c.args.sort) whole c.args.bank.now c.loop-next.made (c.loop-next.last, x) (spec.neighbours (x ∷ after)) c.in-Ok.number c.loop-next.bank c.equation.new.bank goes c.in-Ok.ensures in (
      subst (λ ns. Collects IsFormulaOf still_formula (spec.equation c.args.sort) whole c.args.bank.now ns (spec.neighbours (x ∷ after)) c.equation.new.bank) (sym pushed) next,
      (
        still_sort c.args.sort [] c.loop-next.bank c.equation.new.bank x (c.in-Ok.ensures []).grown (first_is (IsOfSort c.loop-next.bank c.args.sort) c.args.rest.now c.loop-next.next-index lt c.loop-next.invariant.1.1),
        still_sorts c.args.sort [] c.loop-next.bank c.equation.new.bank after (c.in-Ok.ensures []).grown (rest_are (IsOfSort c.loop-next.bank c.args.sort) c.args.rest.now c.loop-next.next-index lt c.loop-next.invariant.1.1),
      ),
    )

pub returns : goal.returns
returns c =
    let whole = each (spec.equation c.args.sort) (spec.neighbours (c.args.first ∷ c.args.rest.now)) c.args.bank.now in
    let past : length c.args.rest.now ≤ c.loop-next.next-index = search rules in
    collects_all IsFormulaOf still_formula (spec.equation c.args.sort) whole c.args.bank.now c.loop-next.made c.loop-next.bank (subst (λ l. Collects IsFormulaOf still_formula (spec.equation c.args.sort) whole c.args.bank.now c.loop-next.made (spec.neighbours (c.loop-next.last ∷ l)) c.loop-next.bank) (none_left c.args.rest.now c.loop-next.next-index past) c.loop-next.invariant.0)
