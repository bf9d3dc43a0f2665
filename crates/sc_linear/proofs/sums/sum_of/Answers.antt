use Rattle.std.proofs.Common.{◌≡◌, rules, to_z, of_z}
use Rattle.std.specs.Int.{w128}
use Rattle.std.proofs.lemmas.Int.{to_z-of_z}
use Rattle.sc_linear.specs.Sums.{terms_of}
use Rattle.sc_linear.proofs.Adding.{kept, read_form_fails, read_bound_fails, read_row}
use Rattle.sc_linear.proofs.sums.sum_of.Goals as goal

pub returns-in_err-add_terms-clause-exact : goal.returns-in_err-add_terms-clause-exact
returns-in_err-add_terms-clause-exact c =
    let factor : to_z w128 (of_z w128 c.args.m) ≡ c.args.m = to_z-of_z w128 c.args.m c.ranges.m in
    kept _ c.in_err-add_terms.field-0.0 _ c.from_residual.ensures.1
    (read_form_fails (record { form = terms_of c.args.coefficients.entries; bound = c.args.bound }) c.args.row.now c.args.m (to_z w128 (of_z w128 c.args.m)) c.terms.result.now c.in_err-add_terms.field-0.0 c.in_err-add_terms.ensures.exact factor c.terms.ensures.terms)

pub returns-in_err-bound-clause-exact : goal.returns-in_err-bound-clause-exact
returns-in_err-bound-clause-exact c =
    let factor : to_z w128 (of_z w128 c.args.m) ≡ c.args.m = to_z-of_z w128 c.args.m c.ranges.m in
    let own : to_z w128 (of_z w128 c.args.bound) ≡ c.args.bound = to_z-of_z w128 c.args.bound c.ranges.bound in
    let other : to_z w128 (of_z w128 c.args.row.now.bound) ≡ c.args.row.now.bound = to_z-of_z w128 _ (search rules) in
    kept _ c.in_err-bound.field-0.0 _ c.from_residual-in_err-bound.ensures.1
    (read_bound_fails (record { form = terms_of c.args.coefficients.entries; bound = c.args.bound }) c.args.row.now c.args.m (to_z w128 (of_z w128 c.args.m)) (to_z w128 (of_z w128 c.args.m)) (to_z w128 (of_z w128 c.args.bound)) (to_z w128 (of_z w128 c.args.row.now.bound)) c.terms.result.now _ c.in_err-bound.field-0.0 c.in_ok-add_terms.ensures.exact c.in_err-bound.ensures factor c.terms.ensures.terms factor own other)

pub returns-clause-exact : goal.returns-clause-exact
returns-clause-exact c =
    let factor : to_z w128 (of_z w128 c.args.m) ≡ c.args.m = to_z-of_z w128 c.args.m c.ranges.m in
    let own : to_z w128 (of_z w128 c.args.bound) ≡ c.args.bound = to_z-of_z w128 c.args.bound c.ranges.bound in
    let other : to_z w128 (of_z w128 c.args.row.now.bound) ≡ c.args.row.now.bound = to_z-of_z w128 _ (search rules) in
    let made : to_z w128 (of_z w128 c.in_ok-bound.bound) ≡ c.in_ok-bound.bound = to_z-of_z w128 _ (search rules) in
    read_row (record { form = terms_of c.args.coefficients.entries; bound = c.args.bound }) c.args.row.now c.args.m (to_z w128 (of_z w128 c.args.m)) (to_z w128 (of_z w128 c.args.m)) (to_z w128 (of_z w128 c.args.bound)) (to_z w128 (of_z w128 c.args.row.now.bound)) c.in_ok-bound.bound (to_z w128 (of_z w128 c.in_ok-bound.bound)) c.terms.result.now _ c.in_ok-add_terms.ensures.exact c.in_ok-bound.ensures factor c.terms.ensures.terms factor own other made
