use Rattle.sc_check.proofs.Claiming.{accepted_refute_scripts}
use Rattle.sc_check.proofs.laws.accepted_derivations_refute_scripts.Goals as goal

pub returns : goal.returns
returns c = accepted_refute_scripts c.traces_say_the_same.ensures c.traces_keep_formulas.ensures c.elaboration_grows_bank.ensures.bank c.stocks_stay.ensures c.accepted_derivations_refute.ensures
