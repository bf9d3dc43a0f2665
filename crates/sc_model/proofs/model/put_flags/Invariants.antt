use Rattle.std.proofs.Common.{ℕ, ◌≤◌}
use Rattle.sc_sorts.specs.Posed.{NamesFlag}
use Rattle.sc_model.specs.Modelling.{HasValue, Fills, label_in}
use Rattle.sc_model.proofs.model.put_flags.Given as goal

-- the nodes so far have values
abbrev pub invariant-loop-place : goal.invariant-loop-place
invariant-loop-place l = record {
  fills : Fills l.problem l.path.facts (label_in l.labels) l.initial.values l.values;
  put : (n c : ℕ) → n ≤ l.place → NamesFlag l.problem n c → HasValue l.values c;
}
