use Rattle.std.proofs.Common.{◌≡◌, length, rules}
use Rattle.sc_elab.proofs.Growing.{builds_same}
use Rattle.sc_elab.proofs.Loops.{conjunction_many}
use Rattle.sc_elab.proofs.build.conjunction.Goals as goal

pub returns : goal.returns
returns c =
    let many : length c.args.formulas ≡ 1 → ⊥ = search rules in
    builds_same (conjunction_many c.args.formulas c.args.bank.now many) c.put_formula.ensures
