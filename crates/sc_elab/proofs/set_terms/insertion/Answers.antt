use Rattle.std.proofs.Common.{◌≡◌, ℕ, List, ◌+◌, ◌-◌, [], length, take, get_or, ap, ◌∙◌, subst, sym, rules}
use Rattle.sc_terms.specs.Bank.{IsSetOf}
use Rattle.sc_terms.specs.declared.nodes.Node.{Node}
use Rattle.sc_elab.specs.Builds as spec
use Rattle.sc_elab.specs.States.{Outcome, bind, each}
use Rattle.sc_elab.specs.Growth.{Builds, AreSets}
use Rattle.sc_elab.proofs.Growing.{stop, go_on, builds_same, still_set}
use Rattle.sc_elab.proofs.Loops.{from_right_is, split_last}
use Rattle.sc_elab.proofs.Arguments.{elements_are, inserted_last}
use Rattle.sc_elab.proofs.set_terms.insertion.Goals as goal

-- the singles are united with the set
abbrev after_singles : ℕ → List ℕ → List Node → Outcome ℕ
after_singles last ns b = spec.nested spec.union ns last b

two_parts : (ns : List ℕ) (k : ℕ) (bank : List Node) → length ns ≡ k + 1 → spec.insertion ns bank ≡ bind (each spec.single (take k ns) bank) (after_singles (get_or ns k 0))
two_parts ns k bank e = ap (λ l. spec.insertion l bank) (sym (split_last ns k 0 e)) ∙ from_right_is spec.single spec.union (take k ns) (get_or ns k 0) bank

pub singles-requires : goal.singles-requires
singles-requires c =
    let long : length c.args.arguments.now ≡ (length c.args.arguments.now - 1) + 1 = search rules in
    elements_are c.args.bank.now c.args.arguments.now (length c.args.arguments.now - 1) long c.requires

pub united-requires-clause-singles : goal.united-requires-clause-singles
united-requires-clause-singles c = subst (AreSets c.singles.new.bank) (sym c.as_slice.ensures) (c.in-Ok.ensures []).stands

pub united-requires-clause-last : goal.united-requires-clause-last
united-requires-clause-last c =
    let long : length c.args.arguments.now ≡ (length c.args.arguments.now - 1) + 1 = search rules in
    still_set [] c.args.bank.now c.singles.new.bank (get_or c.args.arguments.now (length c.args.arguments.now - 1) 0) (c.in-Ok.ensures []).grown (inserted_last c.args.bank.now c.args.arguments.now (length c.args.arguments.now - 1) long c.requires)

pub returns-in-Ok : goal.returns-in-Ok
returns-in-Ok c =
    let long : length c.args.arguments.now ≡ (length c.args.arguments.now - 1) + 1 = search rules in
    let last = get_or c.args.arguments.now (length c.args.arguments.now - 1) 0 in
    let rest = subst (λ ns. Builds IsSetOf (spec.nested spec.union ns last c.singles.new.bank) c.singles.new.bank c.united.result c.united.new.bank) c.as_slice.ensures c.united.ensures in
    builds_same (two_parts c.args.arguments.now (length c.args.arguments.now - 1) c.args.bank.now long) (go_on (after_singles last) c.in-Ok.ensures rest)

pub returns-in-Err : goal.returns-in-Err
returns-in-Err c =
    let long : length c.args.arguments.now ≡ (length c.args.arguments.now - 1) + 1 = search rules in
    builds_same (two_parts c.args.arguments.now (length c.args.arguments.now - 1) c.args.bank.now long) (stop (after_singles (get_or c.args.arguments.now (length c.args.arguments.now - 1) 0)) c.in-Err.ensures)
