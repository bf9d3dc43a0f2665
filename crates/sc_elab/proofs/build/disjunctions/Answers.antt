use Rattle.std.proofs.Common.{◌≡◌, ◌+◌, ◌-◌, ◌<◌, length, subst, rules}
use Rattle.sc_elab.specs.Builds as spec
use Rattle.sc_elab.proofs.Loops.{Nests, nests_item, nests_on, nests_stop, nests_all, nests_none}
use Rattle.sc_terms.specs.Bank.{IsFormulaOf}
use Rattle.sc_elab.proofs.Growing.{still_formula}
use Rattle.sc_elab.proofs.build.disjunctions.Goals as goal

pub put_or-requires-clause-f : goal.put_or-requires-clause-f
put_or-requires-clause-f c =
    let one : c.loop-index.index ≡ (c.loop-index.index - 1) + 1 = search rules in
    let lt : c.loop-index.index - 1 < length c.args.negations.now = search rules in
    nests_item IsFormulaOf still_formula spec.disjunction c.args.negations.now c.args.last c.args.bank.now c.loop-index.made (c.loop-index.index - 1) c.loop-index.bank c.loop-index.bank lt (subst (λ i. Nests IsFormulaOf still_formula spec.disjunction c.args.negations.now c.args.last c.args.bank.now c.loop-index.made i c.loop-index.bank) one c.loop-index.invariant)

pub put_or-requires-clause-g : goal.put_or-requires-clause-g
put_or-requires-clause-g c = c.loop-index.invariant.made_is

pub loop-index-preserved : goal.loop-index-preserved
loop-index-preserved c =
    let one : c.loop-index.index ≡ (c.loop-index.index - 1) + 1 = search rules in
    let lt : c.loop-index.index - 1 < length c.args.negations.now = search rules in
    nests_on IsFormulaOf still_formula spec.disjunction c.args.negations.now c.args.last c.args.bank.now c.loop-index.made (c.loop-index.index - 1) c.loop-index.bank c.put_or.new.bank lt (subst (λ i. Nests IsFormulaOf still_formula spec.disjunction c.args.negations.now c.args.last c.args.bank.now c.loop-index.made i c.loop-index.bank) one c.loop-index.invariant) c.in-Ok.number c.in-Ok.ensures

pub returns-in-Err : goal.returns-in-Err
returns-in-Err c =
    let one : c.loop-index.index ≡ (c.loop-index.index - 1) + 1 = search rules in
    let lt : c.loop-index.index - 1 < length c.args.negations.now = search rules in
    nests_stop IsFormulaOf still_formula spec.disjunction c.args.negations.now c.args.last c.args.bank.now c.loop-index.made (c.loop-index.index - 1) c.loop-index.bank c.put_or.new.bank lt (subst (λ i. Nests IsFormulaOf still_formula spec.disjunction c.args.negations.now c.args.last c.args.bank.now c.loop-index.made i c.loop-index.bank) one c.loop-index.invariant) c.in-Err.error c.in-Err.ensures

pub returns : goal.returns
returns c =
    let none : c.loop-index.index ≡ 0 = search rules in
    nests_all IsFormulaOf still_formula spec.disjunction c.args.negations.now c.args.last c.args.bank.now c.loop-index.made c.loop-index.bank (subst (λ i. Nests IsFormulaOf still_formula spec.disjunction c.args.negations.now c.args.last c.args.bank.now c.loop-index.made i c.loop-index.bank) none c.loop-index.invariant)

pub loop-index-init : goal.loop-index-init
loop-index-init c = nests_none IsFormulaOf still_formula spec.disjunction c.args.negations.now c.args.last c.args.bank.now c.requires.negations c.requires.last
