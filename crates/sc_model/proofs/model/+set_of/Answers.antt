use Rattle.sc_model.proofs.Reading.{halves_have}
use Rattle.sc_model.proofs.model.+set_of.Goals as goal

pub returns-in_ok-both-in_default : goal.returns-in_ok-both-in_default
returns-in_ok-both-in_default t c = halves_have c.args.numbers.now _ _ _ c.in_ok-low-in_default.low c.in_ok-high-in_default.high c.in_ok-both-in_default.both c.split_at.ensures.front c.split_at.ensures.back c.in_ok-low-in_default.ensures c.in_ok-high-in_default.ensures c.in_ok-both-in_default.ensures
