use Rattle.std.proofs.Common.{◌≡◌, ◌++◌, ◌+◌, drop}
use Rattle.std.specs.List.{flat_map}
use Rattle.sc_flatten.specs.Classes.{links_between, argument_links, side_links}
use Rattle.sc_flatten.proofs.links.links.Given as goal

-- the links so far, and those of the set terms that are left, are those of all set terms
abbrev pub invariant-loop-set : goal.invariant-loop-set
invariant-loop-set l =
    record {
      made : l.links.items ++ links_between l.sets (argument_links (l.number + 1) (drop l.set-index l.sets)) ≡ links_between l.sets (argument_links 1 l.sets);
      count : l.number ≡ l.set-index;
    }

-- the links so far, and those of the formulas that are left, are all
abbrev pub invariant-loop-formula : goal.invariant-loop-formula
invariant-loop-formula l =
    l.links.items ++ links_between l.sets (flat_map side_links (drop l.formula-index l.formulas)) ≡ links_between l.sets (argument_links 1 l.sets) ++ links_between l.sets (flat_map side_links l.formulas)
