use Rattle.sc_check.proofs.Counting.{each_is_answered}
use Rattle.sc_check.proofs.Printing.{proofs_are_printed, printed_are_accepted, checks_accept_printed}
use Rattle.sc_check.proofs.laws.printed_derivations_are_accepted.Goals as goal

pub returns-clause-printed : goal.returns-clause-printed
returns-clause-printed c = proofs_are_printed

pub returns-clause-accepted : goal.returns-clause-accepted
returns-clause-accepted c =
    printed_are_accepted c.elaboration_grows_bank.ensures.bank c.stocks_stay.ensures c.proofs_refute.ensures c.traces_go_along.ensures c.sessions_say_the_same.ensures c.accepts_closed_trees.ensures c.texts_have_tokens.ensures c.items_have_tokens.ensures

pub returns-clause-answered : goal.returns-clause-answered
returns-clause-answered c = each_is_answered c.traces_go_along.ensures

pub returns-clause-checks : goal.returns-clause-checks
returns-clause-checks c =
    checks_accept_printed c.elaboration_grows_bank.ensures.bank c.stocks_stay.ensures c.proofs_refute.ensures c.traces_go_along.ensures c.sessions_say_the_same.ensures c.accepts_closed_trees.ensures c.texts_have_tokens.ensures c.items_have_tokens.ensures
