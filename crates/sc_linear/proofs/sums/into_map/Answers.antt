use Rattle.std.proofs.Common.{◌≡◌, rules, to_z, of_z, ap, ◌∙◌}
use Rattle.std.specs.Int.{w128}
use Rattle.std.proofs.lemmas.Int.{to_z-of_z}
use Rattle.sc_linear.specs.Sums.{terms_of, with_coefficient}
use Rattle.sc_linear.proofs.Adding.{form_more}
use Rattle.sc_linear.proofs.Entries.{one_copied}
use Rattle.sc_linear.proofs.sums.into_map.Goals as goal

pub loop-term-preserved : goal.loop-term-preserved
loop-term-preserved c =
    let given : to_z w128 (of_z w128 c.term-item.result.0) ≡ c.term-item.result.0 = to_z-of_z w128 _ (search rules) in
    let made : terms_of c.set_coefficient.new.coefficients.entries ≡ with_coefficient c.term-item.result.0 c.term-item.result.1 (terms_of c.loop-term.coefficients.entries) = c.in_ok-set_coefficient.ensures ∙ ap (λ z. with_coefficient z c.term-item.result.1 (terms_of c.loop-term.coefficients.entries)) given in (
      form_more c.term-item.result.0 c.term-item.result.1 (terms_of c.loop-term.coefficients.entries) (terms_of c.set_coefficient.new.coefficients.entries) c.loop-term.invariant.0 made,
      one_copied (terms_of c.loop-term.coefficients.entries) (terms_of c.set_coefficient.new.coefficients.entries) c.args.terms.now c.loop-term.term-index c.term-item.result c.loop-term-test.true c.term-item.is c.requires c.loop-term.invariant.1 made,
    )
