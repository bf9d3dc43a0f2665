use Rattle.std.proofs.Common.{◌+◌, ◌<◌, ◌≤◌, [], ◌++◌, length, drop, get_or, map, subst, rules}
use Rattle.std.specs.Prelude.{Ok, Err}
use Rattle.std.proofs.lemmas.List.{drop_more}
use Rattle.sc_elab.specs.Builds as spec
use Rattle.sc_elab.specs.States.{Done, bind, each}
use Rattle.sc_elab.specs.Growth.{Builds, AreFormulas, IsOfSort}
use Rattle.sc_elab.proofs.Growing.{still_sorts, still_formula}
use Rattle.sc_elab.proofs.Loops.{none_left, Collects, collects_more, collects_more_stops, collects_all, rest_are}
use Rattle.sc_terms.specs.Bank.{IsFormulaOf}
use Rattle.sc_elab.proofs.build.differences.Goals as goal

pub returns-in-Err : goal.returns-in-Err
returns-in-Err c =
    let lt : c.loop-index.index < length c.args.things.now = search rules in
    let whole = each (spec.difference c.args.sort) (spec.pairs c.args.things.now) c.args.bank.now in
    let x = get_or c.args.things.now c.loop-index.index 0 in
    let after = drop (c.loop-index.index + 1) c.args.things.now in
    let goes : Collects IsFormulaOf still_formula (spec.difference c.args.sort) whole c.args.bank.now c.loop-index.made (map (λ y. (x, y)) after ++ spec.pairs after) c.loop-index.bank = subst (λ l. Collects IsFormulaOf still_formula (spec.difference c.args.sort) whole c.args.bank.now c.loop-index.made (spec.pairs l) c.loop-index.bank) (drop_more c.args.things.now c.loop-index.index 0 lt) c.loop-index.invariant.0 in
    collects_more_stops IsFormulaOf still_formula (spec.difference c.args.sort) whole c.args.bank.now c.loop-index.made (map (λ y. (x, y)) after) (spec.pairs after) c.loop-index.bank c.more_differences.new.bank goes c.in-Err.error (subst (λ l. Builds AreFormulas (bind (each (spec.difference c.args.sort) (map (λ y. (x, y)) l) c.loop-index.bank) (λ ns b. Done (c.loop-index.made ++ ns) b)) c.loop-index.bank (Err c.in-Err.error) c.more_differences.new.bank) c.behind.ensures c.in-Err.ensures)

pub loop-index-preserved : goal.loop-index-preserved
loop-index-preserved c =
    let lt : c.loop-index.index < length c.args.things.now = search rules in
    let whole = each (spec.difference c.args.sort) (spec.pairs c.args.things.now) c.args.bank.now in
    let x = get_or c.args.things.now c.loop-index.index 0 in
    let after = drop (c.loop-index.index + 1) c.args.things.now in
    let goes : Collects IsFormulaOf still_formula (spec.difference c.args.sort) whole c.args.bank.now c.loop-index.made (map (λ y. (x, y)) after ++ spec.pairs after) c.loop-index.bank = subst (λ l. Collects IsFormulaOf still_formula (spec.difference c.args.sort) whole c.args.bank.now c.loop-index.made (spec.pairs l) c.loop-index.bank) (drop_more c.args.things.now c.loop-index.index 0 lt) c.loop-index.invariant.0 in (
      collects_more IsFormulaOf still_formula (spec.difference c.args.sort) whole c.args.bank.now c.loop-index.made (map (λ y. (x, y)) after) (spec.pairs after) c.loop-index.bank c.more_differences.new.bank goes c.in-Ok.more (subst (λ l. Builds AreFormulas (bind (each (spec.difference c.args.sort) (map (λ y. (x, y)) l) c.loop-index.bank) (λ ns b. Done (c.loop-index.made ++ ns) b)) c.loop-index.bank (Ok c.in-Ok.more) c.more_differences.new.bank) c.behind.ensures c.in-Ok.ensures),
      still_sorts c.args.sort [] c.loop-index.bank c.more_differences.new.bank after (c.in-Ok.ensures []).grown (rest_are (IsOfSort c.loop-index.bank c.args.sort) c.args.things.now c.loop-index.index lt c.loop-index.invariant.1),
    )

pub returns : goal.returns
returns c =
    let whole = each (spec.difference c.args.sort) (spec.pairs c.args.things.now) c.args.bank.now in
    let past : length c.args.things.now ≤ c.loop-index.index = search rules in
    collects_all IsFormulaOf still_formula (spec.difference c.args.sort) whole c.args.bank.now c.loop-index.made c.loop-index.bank (subst (λ l. Collects IsFormulaOf still_formula (spec.difference c.args.sort) whole c.args.bank.now c.loop-index.made (spec.pairs l) c.loop-index.bank) (none_left c.args.things.now c.loop-index.index past) c.loop-index.invariant.0)
