use Rattle.std.proofs.Common.{◌≡◌, take}
use Rattle.sc_facts.specs.Facts.{root_facts}
use Rattle.sc_facts.proofs.path.Path.root.Given as goal

abbrev pub invariant-loop-root : goal.invariant-loop-root
invariant-loop-root l = l.path.facts ≡ root_facts (take l.root-index l.root-items)
