use Rattle.std.proofs.Common.{◌≡◌, ◌++◌, length, drop, map}
use Rattle.std.specs.List.{AllByRecursion}
use Rattle.sc_base.specs.Numbered.{item_at}
use Rattle.sc_terms.specs.Conditions.{IsIn}
use Rattle.sc_flatten.specs.Stock.{formula_by, formulas_by}
use Rattle.sc_flatten.specs.Numbered.{FormulaListedAt}
use Rattle.sc_flatten.specs.Tables.{numbering}
use Rattle.sc_flatten.proofs.nodes.formulas.Given as goal

-- the nodes so far, and those of what is left, are all
abbrev pub invariant-loop-number : goal.invariant-loop-number
invariant-loop-number l =
    record {
      made : l.made ++ map (λ n. formula_by (numbering l.tables) (item_at l.bank n)) (drop l.number-index l.tables.formulas.keys) ≡ formulas_by l.bank (numbering l.tables);
      range : AllByRecursion (IsIn (length l.bank)) (drop l.number-index l.tables.formulas.keys);
      listed : AllByRecursion (λ n. FormulaListedAt (numbering l.tables) (item_at l.bank n)) (drop l.number-index l.tables.formulas.keys);
    }
