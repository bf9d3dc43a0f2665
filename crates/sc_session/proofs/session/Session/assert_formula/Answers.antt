use Rattle.std.proofs.Common.{sym, subst}
use Rattle.sc_terms.specs.Bank.{IsFormulaOf}
use Rattle.sc_session.specs.States.{IsSorted}
use Rattle.sc_session.proofs.Standing.{sorted_assertion}
use Rattle.sc_session.proofs.session.Session.assert_formula.Goals as goal

pub invariant_of-self-2 : goal.invariant_of-self-2
invariant_of-self-2 c =
    subst (λ names. IsSorted c.self.inside.bank names) (sym c.in_ok-assert.ensures.ok)
    (sorted_assertion c.self.inside.bank c.self.inside.stack c.args.formula c.tell.ensures.names.levels (subst (λ s. IsFormulaOf s.bank c.args.formula) (sym c.self.view_is) c.requires) c.self.invariant)
