use Rattle.std.proofs.Common.{◌≡◌, drop, length, filter, nat_eq}
use Rattle.std.specs.List.{flat_map, AllByRecursion}
use Rattle.indexmap.specs.IndexSet.{insert_all}
use Rattle.sc_base.specs.Numbered.{item_at}
use Rattle.sc_terms.specs.Bank.{is_formula, is_set, is_element}
use Rattle.sc_terms.specs.Conditions.{IsIn}
use Rattle.sc_flatten.specs.Walk.{constants_at}
use Rattle.sc_flatten.specs.Tables.{HasFewInts}
use Rattle.sc_flatten.proofs.tables.Tables.enter_all.Given as goal

-- what is entered, with what the nodes that are left enter, is what is to be entered
abbrev pub invariant-loop-number : goal.invariant-loop-number
invariant-loop-number l =
    record {
      formulas : insert_all nat_eq l.self.formulas.keys (filter (λ n. is_formula (item_at l.bank n)) (drop l.number-index l.order)) ≡ insert_all nat_eq l.fn.self.formulas.keys (filter (λ n. is_formula (item_at l.bank n)) l.order);
      sets : insert_all nat_eq l.self.sets.keys (filter (λ n. is_set (item_at l.bank n)) (drop l.number-index l.order)) ≡ insert_all nat_eq l.fn.self.sets.keys (filter (λ n. is_set (item_at l.bank n)) l.order);
      elements : insert_all nat_eq l.self.elements.keys (filter (λ n. is_element (item_at l.bank n)) (drop l.number-index l.order)) ≡ insert_all nat_eq l.fn.self.elements.keys (filter (λ n. is_element (item_at l.bank n)) l.order);
      ints : insert_all nat_eq l.self.ints.keys (flat_map (λ n. constants_at (item_at l.bank n)) (drop l.number-index l.order)) ≡ insert_all nat_eq l.fn.self.ints.keys (flat_map (λ n. constants_at (item_at l.bank n)) l.order);
      few : HasFewInts l.self;
      range : AllByRecursion (IsIn (length l.bank)) (drop l.number-index l.order);
    }
