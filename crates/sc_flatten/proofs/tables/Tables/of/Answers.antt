use Rattle.sc_flatten.proofs.Entering.{numbered}
use Rattle.sc_flatten.proofs.tables.Tables.of.Goals as goal

pub returns : goal.returns
returns c = numbered c.args.bank.now c.args.order.now _ c.enter_all.new.self c.requires.distinct c.new.ensures.empty c.new-2.ensures.empty c.new-3.ensures.empty c.new-4.ensures.empty c.in_ok-enter_all.ensures.enters c.in_ok-enter_all.ensures.few
