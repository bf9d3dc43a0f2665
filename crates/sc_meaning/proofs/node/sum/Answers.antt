use Rattle.std.proofs.Common.{◌≡◌, ◌<◌, ◌≤◌, ◌*ℤ◌, ◌+ℤ◌, ℤ, length, sym, ap, subst, ◌∙◌, rules}
use Rattle.std.specs.Prelude.{FitsSigned}
use Rattle.std.specs.Int.{w128}
use Rattle.std.specs.List.{AllByRecursion}
use Rattle.sc_runs.proofs.LoopSteps.{read_fit}
use Rattle.sc_terms.specs.declared.atoms.Atom.{Atom}
use Rattle.sc_terms.specs.BankValues.{no_parts}
use Rattle.sc_terms.specs.Meaning.{Valuation, atom_value}
use Rattle.sc_terms.specs.Values.{interpretation_of, TermFits}
use Rattle.sc_base.specs.Totals.{amount}
use Rattle.sc_meaning.specs.Worths.{found}
use Rattle.sc_meaning.proofs.Sums.{sum_next, fits_next, all_there, all_added, with_condition}
use Rattle.sc_meaning.proofs.node.sum.Goals as goal

pub loop-one-preserved : goal.loop-one-preserved
loop-one-preserved c =
    let v : Valuation = found (interpretation_of c.args.interp.now) c.args.values.now in
    let within : c.loop-one.one-index < length c.args.terms.now = c.loop-one-test.true in
    let fits : TermFits no_parts v c.one-item.result = c.in-Some.ensures.0 in
    let is : c.in-Some.product ≡ c.one-item.result.0 *ℤ atom_value no_parts v c.one-item.result.1 = c.in-Some.ensures.1 in
    record {
      value = sum_next v c.args.terms.now c.loop-one.one-index c.one-item.result within (amount c.loop-one.total) (amount c.plus-total.result) _
          (c.plus-total.ensures.amount ∙ ap (λ z. amount c.loop-one.total +ℤ z) (read_fit c.in-Some.product (subst (FitsSigned w128) (sym is) fits.0) ∙ is ∙ ap (λ (p : ℤ × Atom). p.0 *ℤ atom_value no_parts v p.1) c.one-item.is))
          c.loop-one.invariant.value;
      fits = fits_next v c.args.terms.now c.loop-one.one-index c.one-item.result within (subst (TermFits no_parts v) c.one-item.is fits) c.loop-one.invariant.fits;
      turns = search rules;
    }

pub returns : goal.returns
returns c =
    let v : Valuation = found (interpretation_of c.args.interp.now) c.args.values.now in
    let past : length c.args.terms.now ≤ c.loop-one.one-index = c.loop-one-test.false in
    with_condition (AllByRecursion (TermFits no_parts v) c.args.terms.now) (amount c.plus.result) _ _ (all_there v c.args.terms.now c.loop-one.one-index past c.loop-one.invariant.fits) (all_added v c.args.terms.now c.loop-one.one-index (amount c.loop-one.total) (amount c.plus.result) c.args.constant _ past c.loop-one.invariant.value (c.plus.ensures.amount ∙ ap (λ z. amount c.loop-one.total +ℤ z) (read_fit c.args.constant c.ranges.constant))) c.whole.ensures
