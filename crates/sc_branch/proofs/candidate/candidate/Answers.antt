use Rattle.sc_terms.specs.BankValues.{bank_meaning}
use Rattle.sc_terms.specs.Values.{interpretation_of, meaning}
use Rattle.sc_branch.proofs.Trying.{all_across}
use Rattle.sc_branch.proofs.candidate.candidate.Goals as goal

pub returns-then-branch : goal.returns-then-branch
returns-then-branch c =
    let m = c.in_ok-values.values in
    let i = interpretation_of m in
    let right = c.in_ok-is_right.ensures c.if-branch.true in
    c.read_off_values_show.ensures c.args.problem.now c.args.path.now.facts _ m c.in_ok-values.ensures.read_off c.interprets.ensures
    (all_across (meaning c.args.problem.now i) (bank_meaning c.args.bank.now i) c.args.problem.now.roots c.args.problem.now.assertions (c.requires.posed.of_bank.agree i c.interprets.ensures) right.holds)
    (c.requires.posed.of_bank.fits i c.interprets.ensures right.fits)
