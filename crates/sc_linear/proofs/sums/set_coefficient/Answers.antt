use Rattle.std.proofs.Common.{◌≡◌, ◌≢◌, ℤ, pos, sym, subst, arith}
use Rattle.std.proofs.lemmas.Int.{ints}
use Rattle.sc_linear.specs.Sums.{terms_of, with_coefficient}
use Rattle.sc_linear.proofs.Entries.{entered, removed}
use Rattle.sc_linear.proofs.sums.set_coefficient.Goals as goal

pub returns-then-coefficient-eq0 : goal.returns-then-coefficient-eq0
returns-then-coefficient-eq0 c =
    let e : c.args.coefficient ≡ pos 0 = omega (arith, ints, c.if-coefficient-eq0.true) in
    subst (λ (z : ℤ). terms_of c.remove.new.self.entries ≡ with_coefficient z c.args.atom.now (terms_of c.args.coefficients.now.entries)) (sym e)
    (removed c.args.atom.now c.args.coefficients.now.entries c.remove.new.self.entries c.requires c.remove.ensures.entries)

pub returns : goal.returns
returns c =
    let n : c.args.coefficient ≢ pos 0 = λ e. omega (arith, ints, c.if-coefficient-eq0.false, e) in
    entered c.args.atom.now _ c.args.coefficient _ c.args.coefficients.now.entries c.enter.new.coefficients.entries n c.in_ok-enter.ensures c.in_ok-copy.ensures (omega (arith, ints, c.ranges.coefficient))
