use Rattle.std.proofs.Common.{◌≡◌, ◌≤◌, ◌++◌, take, length}
use Rattle.std.specs.Vec.Iter.{into_iter_items}
use Rattle.sc_facts.proofs.path.Path.add_facts.Given as goal

-- what was added, with what is left, is all
abbrev pub invariant-loop-fact : goal.invariant-loop-fact
invariant-loop-fact l =
    record {
      roots : l.self.roots ≡ l.fn.self.roots;
      all : l.self.facts ++ into_iter_items l.fact-iterator ≡ l.fn.self.facts ++ l.fn.facts;
      longer : length l.fn.self.facts ≤ length l.self.facts;
      front : take (length l.fn.self.facts) l.self.facts ≡ l.fn.self.facts;
    }
