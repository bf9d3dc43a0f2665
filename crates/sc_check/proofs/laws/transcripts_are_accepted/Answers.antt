use Rattle.sc_check.proofs.Copying.{transcripts_are_copies, checks_accept_transcripts}
use Rattle.sc_check.proofs.laws.transcripts_are_accepted.Goals as goal

pub returns-clause-copies : goal.returns-clause-copies
returns-clause-copies c = transcripts_are_copies c.errors_read_back.ensures c.proofs_refute.ensures c.sessions_say_the_same.ensures c.texts_have_tokens.ensures c.items_have_tokens.ensures c.codes_are_by_the_head.ensures

pub returns-clause-checks : goal.returns-clause-checks
returns-clause-checks c =
    checks_accept_transcripts c.printed_derivations_are_accepted.ensures.checks c.printed_derivations_are_accepted.ensures.answered c.splitters_give_items.ensures c.items_have_all_tokens.ensures
    (transcripts_are_copies c.errors_read_back.ensures c.proofs_refute.ensures c.sessions_say_the_same.ensures c.texts_have_tokens.ensures c.items_have_tokens.ensures c.codes_are_by_the_head.ensures)
