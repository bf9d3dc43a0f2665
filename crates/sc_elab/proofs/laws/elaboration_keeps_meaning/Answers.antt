use Rattle.std.proofs.Common.{sym, ap}
use Rattle.sc_elab.specs.Value.{truth}
use Rattle.sc_elab.proofs.Standing.{BankLaws}
use Rattle.sc_elab.proofs.Worths.{core_value}
use Rattle.sc_elab.proofs.laws.elaboration_keeps_meaning.Goals as goal

pub returns-clause-value : goal.returns-clause-value
returns-clause-value c =
    let laws : BankLaws = record {
      fit = c.bank_meanings_fit.ensures;
      stay = c.meanings_stay.ensures;
      bank = c.bank_with_node.ensures.bank;
      begins = c.bank_with_node.ensures.begins;
      number = c.bank_with_node.ensures.number;
      formula = c.bank_grows.ensures.formula;
      set = c.bank_grows.ensures.set;
      element = c.bank_grows.ensures.element;
      onward = c.bank_grows.ensures.onward;
    } in
    λ t s n bank stands done i proper. core_value laws i proper t s n bank stands done

pub returns-clause-truth : goal.returns-clause-truth
returns-clause-truth c =
    let laws : BankLaws = record {
      fit = c.bank_meanings_fit.ensures;
      stay = c.meanings_stay.ensures;
      bank = c.bank_with_node.ensures.bank;
      begins = c.bank_with_node.ensures.begins;
      number = c.bank_with_node.ensures.number;
      formula = c.bank_grows.ensures.formula;
      set = c.bank_grows.ensures.set;
      element = c.bank_grows.ensures.element;
      onward = c.bank_grows.ensures.onward;
    } in
    λ t s n bank stands done i proper. sym (ap truth (core_value laws i proper t s n bank stands done))
