use Rattle.std.proofs.Common.{◌≡◌, rules, to_z, of_z, ◌∙◌, refl}
use Rattle.std.specs.Int.{w128}
use Rattle.std.proofs.lemmas.Int.{to_z-of_z}
use Rattle.sc_linear.specs.Sums.{terms_of}
use Rattle.sc_linear.proofs.Adding.{read_more, read_fails}
use Rattle.sc_linear.proofs.sums.add_terms.Goals as goal

pub returns-in-Err-clause-exact : goal.returns-in-Err-clause-exact
returns-in-Err-clause-exact c =
    let factor : to_z w128 (of_z w128 c.args.m) ≡ c.args.m = to_z-of_z w128 c.args.m c.ranges.m in
    let old : to_z w128 (of_z w128 c.coefficient_of-coefficient.result) ≡ c.coefficient_of-coefficient.result = to_z-of_z w128 _ (search rules) in
    let given : to_z w128 (of_z w128 c.term-item.result.0) ≡ c.term-item.result.0 = to_z-of_z w128 _ (search rules) in
    read_fails c.args.m (to_z w128 (of_z w128 c.args.m)) (to_z w128 (of_z w128 c.args.m)) (to_z w128 (of_z w128 c.coefficient_of-coefficient.result)) (to_z w128 (of_z w128 c.term-item.result.0)) (terms_of c.args.coefficients.now.entries) (terms_of c.loop-term.coefficients.entries) c.args.terms.now c.loop-term.term-index c.term-item.result c.in-Err.e c.loop-term-test.true c.term-item.is c.loop-term.invariant.1 c.in-Err.ensures
    factor
    factor
    (old ∙ c.coefficient_of-coefficient.ensures)
    given

pub loop-term-preserved : goal.loop-term-preserved
loop-term-preserved c =
    let factor : to_z w128 (of_z w128 c.args.m) ≡ to_z w128 (of_z w128 c.args.m) = refl in
    let old : to_z w128 (of_z w128 c.coefficient_of-coefficient.result) ≡ c.coefficient_of-coefficient.result = to_z-of_z w128 _ (search rules) in
    let given : to_z w128 (of_z w128 c.term-item.result.0) ≡ c.term-item.result.0 = to_z-of_z w128 _ (search rules) in
    let made : to_z w128 (of_z w128 c.in-Ok.sum) ≡ c.in-Ok.sum = to_z-of_z w128 _ (search rules) in
    read_more (to_z w128 (of_z w128 c.args.m)) (to_z w128 (of_z w128 c.args.m)) (to_z w128 (of_z w128 c.coefficient_of-coefficient.result)) (to_z w128 (of_z w128 c.term-item.result.0)) c.in-Ok.sum (to_z w128 (of_z w128 c.in-Ok.sum)) (terms_of c.args.coefficients.now.entries) (terms_of c.loop-term.coefficients.entries) (terms_of c.set_coefficient.new.coefficients.entries) c.args.terms.now c.loop-term.term-index c.term-item.result c.loop-term-test.true c.term-item.is c.requires.terms c.loop-term.invariant.0 c.loop-term.invariant.1 c.in-Ok.ensures c.in-Ok-set_coefficient.ensures
    factor
    (old ∙ c.coefficient_of-coefficient.ensures)
    given
    made
