use Rattle.std.proofs.Common.{◌≡◌, ◌++◌, length, drop, map}
use Rattle.std.specs.List.{AllByRecursion}
use Rattle.sc_base.specs.Numbered.{item_at}
use Rattle.sc_terms.specs.Conditions.{IsIn}
use Rattle.sc_flatten.specs.Stock.{element_by, walked_by}
use Rattle.sc_flatten.specs.Numbered.{ElementListedAt}
use Rattle.sc_flatten.specs.Tables.{numbering}
use Rattle.sc_flatten.proofs.nodes.elements.Given as goal

-- the nodes so far, and those of what is left, are all
abbrev pub invariant-loop-number : goal.invariant-loop-number
invariant-loop-number l =
    record {
      made : l.made ++ map (λ n. element_by (numbering l.tables) (item_at l.bank n)) (drop l.number-index l.tables.elements.keys) ≡ walked_by l.bank (numbering l.tables);
      range : AllByRecursion (IsIn (length l.bank)) (drop l.number-index l.tables.elements.keys);
      listed : AllByRecursion (λ n. ElementListedAt (numbering l.tables) (item_at l.bank n)) (drop l.number-index l.tables.elements.keys);
    }
