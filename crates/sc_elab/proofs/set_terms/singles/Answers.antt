use Rattle.std.proofs.Common.{◌≡◌, ◌+◌, ◌<◌, ◌≤◌, ◌∷◌, [], ◌++◌, length, drop, get_or, subst, sym, rules}
use Rattle.std.proofs.lemmas.List.{drop_more}
use Rattle.sc_elab.specs.Builds as spec
use Rattle.sc_elab.specs.States.{each}
use Rattle.sc_elab.proofs.Growing.{still_all, still_set, still_element}
use Rattle.sc_elab.proofs.Loops.{none_left, Collects, collects_on, collects_stops, collects_memory, collects_all, first_is, rest_are}
use Rattle.sc_terms.specs.Bank.{IsSetOf, IsElementOf}
use Rattle.sc_elab.proofs.set_terms.singles.Goals as goal

pub put_set_term-requires-clause-stands : goal.put_set_term-requires-clause-stands
put_set_term-requires-clause-stands c =
    let lt : c.loop-element.element-index < length c.args.elements.now = search rules in
    first_is (IsElementOf c.loop-element.bank) c.args.elements.now c.loop-element.element-index lt c.loop-element.invariant.1

pub returns-then-is_err : goal.returns-then-is_err
returns-then-is_err c =
    let whole = each spec.single c.args.elements.now c.args.bank.now in
    collects_memory IsSetOf still_set spec.single whole c.args.bank.now c.loop-element.made (drop c.loop-element.element-index c.args.elements.now) c.loop-element.bank c.put_set_term.new.bank c.loop-element.invariant.0 (λ known. (c.in-Ok.ensures known).grown)

pub returns-in-Err : goal.returns-in-Err
returns-in-Err c =
    let lt : c.loop-element.element-index < length c.args.elements.now = search rules in
    let whole = each spec.single c.args.elements.now c.args.bank.now in
    let goes : Collects IsSetOf still_set spec.single whole c.args.bank.now c.loop-element.made (get_or c.args.elements.now c.loop-element.element-index 0 ∷ drop (c.loop-element.element-index + 1) c.args.elements.now) c.loop-element.bank = subst (λ l. Collects IsSetOf still_set spec.single whole c.args.bank.now c.loop-element.made l c.loop-element.bank) (drop_more c.args.elements.now c.loop-element.element-index 0 lt) c.loop-element.invariant.0 in
    collects_stops IsSetOf still_set spec.single whole c.args.bank.now c.loop-element.made (get_or c.args.elements.now c.loop-element.element-index 0) (drop (c.loop-element.element-index + 1) c.args.elements.now) c.in-Err.error c.loop-element.bank c.put_set_term.new.bank goes c.in-Err.ensures

pub loop-element-preserved : goal.loop-element-preserved
loop-element-preserved c =
    let lt : c.loop-element.element-index < length c.args.elements.now = search rules in
    let whole = each spec.single c.args.elements.now c.args.bank.now in
    let pushed : c.push.new.self ≡ c.loop-element.made ++ c.in-Ok.number ∷ [] = search rules in
    let goes : Collects IsSetOf still_set spec.single whole c.args.bank.now c.loop-element.made (get_or c.args.elements.now c.loop-element.element-index 0 ∷ drop (c.loop-element.element-index + 1) c.args.elements.now) c.loop-element.bank = subst (λ l. Collects IsSetOf still_set spec.single whole c.args.bank.now c.loop-element.made l c.loop-element.bank) (drop_more c.args.elements.now c.loop-element.element-index 0 lt) c.loop-element.invariant.0 in
    let next = collects_on IsSetOf still_set spec.single whole c.args.bank.now c.loop-element.made (get_or c.args.elements.now c.loop-element.element-index 0) (drop (c.loop-element.element-index + 1) c.args.elements.now) c.in-Ok.number c.loop-element.bank c.put_set_term.new.bank goes c.in-Ok.ensures in (
      subst (λ ns. Collects IsSetOf still_set spec.single whole c.args.bank.now ns (drop (c.loop-element.element-index + 1) c.args.elements.now) c.put_set_term.new.bank) (sym pushed) next,
      still_all IsElementOf still_element [] c.loop-element.bank c.put_set_term.new.bank (drop (c.loop-element.element-index + 1) c.args.elements.now) (c.in-Ok.ensures []).grown (rest_are (IsElementOf c.loop-element.bank) c.args.elements.now c.loop-element.element-index lt c.loop-element.invariant.1),
    )

pub loop-element-init : goal.loop-element-init
loop-element-init c = search rules

pub returns : goal.returns
returns c =
    let whole = each spec.single c.args.elements.now c.args.bank.now in
    let past : length c.args.elements.now ≤ c.loop-element.element-index = search rules in
    let none = none_left c.args.elements.now c.loop-element.element-index past in
    collects_all IsSetOf still_set spec.single whole c.args.bank.now c.loop-element.made c.loop-element.bank (subst (λ l. Collects IsSetOf still_set spec.single whole c.args.bank.now c.loop-element.made l c.loop-element.bank) none c.loop-element.invariant.0)
