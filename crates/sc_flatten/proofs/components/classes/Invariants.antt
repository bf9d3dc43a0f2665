use Rattle.std.proofs.Common.{◌≡◌, ◌<◌, ℕ, drop, take, length}
use Rattle.std.specs.List.{AllByRecursion}
use Rattle.sc_flatten.specs.Forests.{IsLow, IsForest}
use Rattle.sc_flatten.proofs.Grouping.{GroupsStand}
use Rattle.sc_flatten.proofs.components.classes.Given as goal

-- the numbers so far are in their classes
abbrev pub invariant-loop-number : goal.invariant-loop-number
invariant-loop-number l =
    record {
      low : IsLow l.parents;
      count : length l.lists.items ≡ length l.keys.keys;
      range : AllByRecursion (λ n. n < length l.parents) (drop l.number-index l.numbers);
      stands : (least : ℕ → ℕ) → IsForest least l.fn.parents → IsForest least l.parents × GroupsStand least (take l.number-index l.numbers) l.keys.keys l.lists.items;
    }
