use Rattle.std.proofs.Common.{◌+◌, sym, subst, arith}
use Rattle.sc_terms.specs.Lookup.{set_at}
use Rattle.sc_member.specs.Candidates.{AllCarry}
use Rattle.sc_member.proofs.OfKinds.{set_kinds}
use Rattle.sc_member.proofs.Going.{sets_all}
use Rattle.sc_member.proofs.agenda.Agenda.tried_sets.Goals as goal

pub tried_each-requires : goal.tried_each-requires
tried_each-requires c = subst AllCarry (sym c.in_ok-self.ensures) (set_kinds c.args.problem.now (c.loop-number.number + 1) (set_at c.args.problem.now (c.loop-number.number + 1)))

pub returns-clause-found : goal.returns-clause-found
returns-clause-found c = sets_all c.args.problem.now c.args.path.now.facts c.args.self.now.set c.loop-number.number (omega (arith, c.counts-count.ensures.sets, c.loop-number-test.false)) c.loop-number.invariant.idle
