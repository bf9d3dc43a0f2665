use Rattle.sc_elab.proofs.Keeping.{fault_grows}
use Rattle.sc_elab.proofs.Standing.{BankLaws}
use Rattle.sc_elab.proofs.Worths.{core_grows, core_stays}
use Rattle.sc_elab.proofs.laws.elaboration_grows_bank.Goals as goal

pub returns-clause-bank : goal.returns-clause-bank
returns-clause-bank c =
    let laws : BankLaws = record {
      fit = c.bank_meanings_fit.ensures;
      stay = c.meanings_stay.ensures;
      bank = c.bank_with_node.ensures.bank;
      begins = c.bank_with_node.ensures.begins;
      number = c.bank_with_node.ensures.number;
      formula = c.bank_grows.ensures.formula;
      set = c.bank_grows.ensures.set;
      element = c.bank_grows.ensures.element;
      onward = c.bank_grows.ensures.onward;
    } in
    λ t s n bank stands done. let grown = core_grows laws t s n bank stands done in (grown.0.bank, grown.0.begins, grown.1)

pub returns-clause-stays : goal.returns-clause-stays
returns-clause-stays c =
    let laws : BankLaws = record {
      fit = c.bank_meanings_fit.ensures;
      stay = c.meanings_stay.ensures;
      bank = c.bank_with_node.ensures.bank;
      begins = c.bank_with_node.ensures.begins;
      number = c.bank_with_node.ensures.number;
      formula = c.bank_grows.ensures.formula;
      set = c.bank_grows.ensures.set;
      element = c.bank_grows.ensures.element;
      onward = c.bank_grows.ensures.onward;
    } in
    core_stays laws

pub returns-clause-fault : goal.returns-clause-fault
returns-clause-fault c = fault_grows c.constants_have_sorts.ensures
