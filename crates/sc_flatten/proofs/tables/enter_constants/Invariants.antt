use Rattle.std.proofs.Common.{◌≡◌, ◌<◌, ◌^◌, drop, length, nat_eq}
use Rattle.indexmap.specs.IndexSet.{insert_all}
use Rattle.sc_flatten.specs.Walk.{form_constants}
use Rattle.sc_flatten.proofs.tables.enter_constants.Given as goal

-- what is entered, with the constants of the terms that are left, is what is to be entered
abbrev pub invariant-loop-term : goal.invariant-loop-term
invariant-loop-term l =
    record {
      keys : insert_all nat_eq l.ints.keys (form_constants (drop l.term-index l.terms)) ≡ insert_all nat_eq l.fn.ints.keys (form_constants l.terms);
      few : length l.ints.keys < 2 ^ 32;
    }
