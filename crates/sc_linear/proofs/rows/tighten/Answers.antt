use Rattle.std.proofs.Common.{rules, ◌≡◌, true}
use Rattle.sc_terms.specs.Forms.{IsForm}
use Rattle.sc_linear.specs.Rows.{divides, tightened}
use Rattle.sc_linear.proofs.Scaling.{quotient_made}
use Rattle.sc_linear.proofs.rows.tighten.Goals as goal

pub returns-clause-quotient : goal.returns-clause-quotient
returns-clause-quotient c =
    let d : divides c.args.g c.args.a.now.form ≡ true = search rules in
    let e : c.in_ok-row.row ≡ tightened c.args.a.now c.args.g = search rules in
    let f : IsForm c.args.a.now.form = c.terms.ensures.form in
    quotient_made c.args.a.now c.in_ok-row.row c.args.g c.requires d f e
