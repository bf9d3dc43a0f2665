use Rattle.std.proofs.Common.{◌≡◌, [], true}
use Rattle.sc_sexpr.specs.Laws.{reading_of, work_of}
use Rattle.sc_session.specs.Scripts.{Script, IsScriptOf}
use Rattle.sc_solve.proofs.Going.{Underway}
use Rattle.sc_solve.proofs.respond.respond.Given as goal

-- the responses so far, and then those that are left, are all
abbrev pub invariant-loop-line : goal.invariant-loop-line
invariant-loop-line g l = record {
  finished : l.splitter.last ≡ true;
  under : (script : Script) → IsScriptOf (reading_of l.initial.splitter []) script → Underway l.budget script (g.O.Sink.moment l.initial.out) (g.O.Sink.moment l.out) l.session (reading_of l.splitter []);
}

abbrev pub decreases-loop-line : goal.decreases-loop-line
decreases-loop-line g l = work_of l.splitter
