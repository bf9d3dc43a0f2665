use Rattle.std.proofs.Common.{◌≡◌, ◌+◌, drop, length}
use Rattle.std.specs.List.{AllByRecursion}
use Rattle.sc_flatten.specs.Forests.{LinkIn}
use Rattle.sc_flatten.proofs.Grown.{ForestStands}
use Rattle.sc_flatten.proofs.classes.join_all.Given as goal

abbrev pub invariant-loop-link : goal.invariant-loop-link
invariant-loop-link l =
    record {
      stands : ForestStands l.links (drop l.link-index l.links) l.parents;
      count : length l.parents ≡ l.last + 1;
      range : AllByRecursion (LinkIn l.last) (drop l.link-index l.links);
    }
