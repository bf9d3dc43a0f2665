use Rattle.std.proofs.Common.{◌≡◌, ◌++◌, drop, map}
use Rattle.std.specs.List.{AllByRecursion}
use Rattle.sc_flatten.specs.Stock.{number_in}
use Rattle.sc_flatten.specs.Numbered.{IsAmong}
use Rattle.sc_flatten.proofs.nodes.numbers_in.Given as goal

-- the numbers so far, and those of what is left, are the numbers of all
abbrev pub invariant-loop-item : goal.invariant-loop-item
invariant-loop-item l =
    record {
      made : l.numbers ++ map (number_in l.items.keys) (drop l.item-index l.named) ≡ map (number_in l.items.keys) l.named;
      among : AllByRecursion (IsAmong l.items.keys) (drop l.item-index l.named);
    }
