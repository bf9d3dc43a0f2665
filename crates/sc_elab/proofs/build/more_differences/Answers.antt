use Rattle.std.proofs.Common.{◌≡◌, ℕ, ◌+◌, ◌<◌, ◌≤◌, List, ◌∷◌, [], ◌++◌, length, drop, get_or, map, subst, sym, rules}
use Rattle.std.proofs.lemmas.List.{drop_more}
use Rattle.sc_elab.specs.Builds as spec
use Rattle.sc_elab.specs.States.{Done, bind, each}
use Rattle.sc_elab.proofs.Growing.{still_sort, still_sorts, still_formula}
use Rattle.sc_elab.proofs.Loops.{none_left, Collects, collects_on, collects_stops, collects_memory, collects_all, first_is, rest_are}
use Rattle.sc_terms.specs.Bank.{IsFormulaOf}
use Rattle.sc_elab.specs.Growth.{IsOfSort}
use Rattle.sc_elab.proofs.build.more_differences.Goals as goal

-- the pairs with the first
abbrev with : ℕ → List ℕ → List (ℕ × ℕ)
with first others = map (λ y. (first, y)) others

pub difference-requires-clause-x : goal.difference-requires-clause-x
difference-requires-clause-x c = c.loop-other.invariant.2

pub difference-requires-clause-y : goal.difference-requires-clause-y
difference-requires-clause-y c =
    let lt : c.loop-other.other-index < length c.args.others.now = search rules in
    first_is (IsOfSort c.loop-other.bank c.args.sort) c.args.others.now c.loop-other.other-index lt c.loop-other.invariant.1

pub returns-then-is_err : goal.returns-then-is_err
returns-then-is_err c =
    let whole = bind (each (spec.difference c.args.sort) (with c.args.first c.args.others.now) c.args.bank.now) (λ ns b. Done (c.args.made ++ ns) b) in
    collects_memory IsFormulaOf still_formula (spec.difference c.args.sort) whole c.args.bank.now c.loop-other.made (with c.args.first (drop c.loop-other.other-index c.args.others.now)) c.loop-other.bank c.difference.new.bank c.loop-other.invariant.0 (λ known. (c.in-Ok.ensures known).grown)

pub returns-in-Err : goal.returns-in-Err
returns-in-Err c =
    let lt : c.loop-other.other-index < length c.args.others.now = search rules in
    let whole = bind (each (spec.difference c.args.sort) (with c.args.first c.args.others.now) c.args.bank.now) (λ ns b. Done (c.args.made ++ ns) b) in
    let x = get_or c.args.others.now c.loop-other.other-index 0 in
    let after = drop (c.loop-other.other-index + 1) c.args.others.now in
    let goes : Collects IsFormulaOf still_formula (spec.difference c.args.sort) whole c.args.bank.now c.loop-other.made ((c.args.first, x) ∷ with c.args.first after) c.loop-other.bank = subst (λ l. Collects IsFormulaOf still_formula (spec.difference c.args.sort) whole c.args.bank.now c.loop-other.made (with c.args.first l) c.loop-other.bank) (drop_more c.args.others.now c.loop-other.other-index 0 lt) c.loop-other.invariant.0 in
    collects_stops IsFormulaOf still_formula (spec.difference c.args.sort) whole c.args.bank.now c.loop-other.made (c.args.first, x) (with c.args.first after) c.in-Err.error c.loop-other.bank c.difference.new.bank goes c.in-Err.ensures

pub loop-other-preserved : goal.loop-other-preserved
loop-other-preserved c =
    let lt : c.loop-other.other-index < length c.args.others.now = search rules in
    let whole = bind (each (spec.difference c.args.sort) (with c.args.first c.args.others.now) c.args.bank.now) (λ ns b. Done (c.args.made ++ ns) b) in
    let x = get_or c.args.others.now c.loop-other.other-index 0 in
    let after = drop (c.loop-other.other-index + 1) c.args.others.now in
    let pushed : c.push.new.self ≡ c.loop-other.made ++ c.in-Ok.number ∷ [] = search rules in
    let goes : Collects IsFormulaOf still_formula (spec.difference c.args.sort) whole c.args.bank.now c.loop-other.made ((c.args.first, x) ∷ with c.args.first after) c.loop-other.bank = subst (λ l. Collects IsFormulaOf still_formula (spec.difference c.args.sort) whole c.args.bank.now c.loop-other.made (with c.args.first l) c.loop-other.bank) (drop_more c.args.others.now c.loop-other.other-index 0 lt) c.loop-other.invariant.0 in
    let next = collects_on IsFormulaOf still_formula (spec.difference c.args.sort) whole c.args.bank.now c.loop-other.made (c.args.first, x) (with c.args.first after) c.in-Ok.number c.loop-other.bank c.difference.new.bank goes c.in-Ok.ensures in (
      subst (λ ns. Collects IsFormulaOf still_formula (spec.difference c.args.sort) whole c.args.bank.now ns (with c.args.first after) c.difference.new.bank) (sym pushed) next,
      still_sorts c.args.sort [] c.loop-other.bank c.difference.new.bank after (c.in-Ok.ensures []).grown (rest_are (IsOfSort c.loop-other.bank c.args.sort) c.args.others.now c.loop-other.other-index lt c.loop-other.invariant.1),
      still_sort c.args.sort [] c.loop-other.bank c.difference.new.bank c.args.first (c.in-Ok.ensures []).grown c.loop-other.invariant.2,
    )

pub returns : goal.returns
returns c =
    let whole = bind (each (spec.difference c.args.sort) (with c.args.first c.args.others.now) c.args.bank.now) (λ ns b. Done (c.args.made ++ ns) b) in
    let past : length c.args.others.now ≤ c.loop-other.other-index = search rules in
    collects_all IsFormulaOf still_formula (spec.difference c.args.sort) whole c.args.bank.now c.loop-other.made c.loop-other.bank (subst (λ l. Collects IsFormulaOf still_formula (spec.difference c.args.sort) whole c.args.bank.now c.loop-other.made (with c.args.first l) c.loop-other.bank) (none_left c.args.others.now c.loop-other.other-index past) c.loop-other.invariant.0)
