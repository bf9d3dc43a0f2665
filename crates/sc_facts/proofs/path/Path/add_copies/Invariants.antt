use Rattle.std.proofs.Common.{◌≡◌, ◌++◌, take}
use Rattle.sc_facts.proofs.path.Path.add_copies.Given as goal

abbrev pub invariant-loop-fact : goal.invariant-loop-fact
invariant-loop-fact l =
    record {
      roots : l.self.roots ≡ l.fn.self.roots;
      facts : l.self.facts ≡ l.fn.self.facts ++ take l.fact-index l.facts;
    }
