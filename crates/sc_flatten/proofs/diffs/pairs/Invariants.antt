use Rattle.std.proofs.Common.{◌≡◌, drop}
use Rattle.std.specs.List.{flat_map}
use Rattle.indexmap.specs.IndexSet.{insert_all}
use Rattle.sc_flatten.specs.Classes.{sides_of, same_pair, pairs_of}
use Rattle.sc_flatten.proofs.diffs.pairs.Given as goal

-- what is entered, with the sides in the formulas that are left, is all
abbrev pub invariant-loop-formula : goal.invariant-loop-formula
invariant-loop-formula l = insert_all same_pair l.pairs.keys (flat_map sides_of (drop l.formula-index l.formulas)) ≡ pairs_of l.formulas
