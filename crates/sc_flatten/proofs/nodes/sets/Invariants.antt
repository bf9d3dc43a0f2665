use Rattle.std.proofs.Common.{◌≡◌, ◌++◌, length, drop, map}
use Rattle.std.specs.List.{AllByRecursion}
use Rattle.sc_base.specs.Numbered.{item_at}
use Rattle.sc_terms.specs.Conditions.{IsIn}
use Rattle.sc_flatten.specs.Stock.{set_by, sets_by}
use Rattle.sc_flatten.specs.Numbered.{SetListedAt}
use Rattle.sc_flatten.specs.Tables.{numbering}
use Rattle.sc_flatten.proofs.nodes.sets.Given as goal

-- the nodes so far, and those of what is left, are all
abbrev pub invariant-loop-number : goal.invariant-loop-number
invariant-loop-number l =
    record {
      made : l.made ++ map (λ n. set_by (numbering l.tables) (item_at l.bank n)) (drop l.number-index l.tables.sets.keys) ≡ sets_by l.bank (numbering l.tables);
      range : AllByRecursion (IsIn (length l.bank)) (drop l.number-index l.tables.sets.keys);
      listed : AllByRecursion (λ n. SetListedAt (numbering l.tables) (item_at l.bank n)) (drop l.number-index l.tables.sets.keys);
    }
