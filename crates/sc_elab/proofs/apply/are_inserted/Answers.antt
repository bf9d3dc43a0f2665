use Rattle.std.proofs.Common.{◌≡◌, ◌+◌, ◌-◌, true, false, length, rules}
use Rattle.sc_terms.specs.declared.nodes.Sort.TheVariants as sorts
use Rattle.sc_elab.specs.Elab.{meant}
use Rattle.sc_elab.proofs.Arguments.{inserted_true, inserted_false}
use Rattle.sc_elab.proofs.apply.are_inserted.Goals as goal

pub returns-then-all_of : goal.returns-then-all_of
returns-then-all_of c =
    let long : length c.args.terms.now ≡ (length c.args.terms.now - 1) + 1 = search rules in
    let yes : c.all_of.result ≡ true = search rules in
    inserted_true c.args.sort c.args.terms.now (length c.args.terms.now - 1) (meant sorts.Bool 0 0) c.all_of.result c.is_set_of.result long c.all_of.ensures yes c.is_set_of.ensures

pub returns-else-all_of : goal.returns-else-all_of
returns-else-all_of c =
    let long : length c.args.terms.now ≡ (length c.args.terms.now - 1) + 1 = search rules in
    let never : c.all_of.result ≡ false = search rules in
    inserted_false c.args.sort c.args.terms.now (length c.args.terms.now - 1) (meant sorts.Bool 0 0) c.all_of.result long c.all_of.ensures never
