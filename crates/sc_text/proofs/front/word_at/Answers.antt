use Rattle.std.proofs.Common.{arith}
use Rattle.sc_text.proofs.Starts.{word_takes, word_ends}
use Rattle.sc_text.proofs.front.word_at.Goals as goal

pub returns-then-len-bytes-clause-run : goal.returns-then-len-bytes-clause-run
returns-then-len-bytes-clause-run c =
    word_takes c.args.bytes.now c.args.first c.behind_span-len.result c.requires.first c.requires.symbol c.requires.letter c.behind_span-len.ensures.behind c.if-len-bytes.true

pub returns-else-len-bytes-clause-run : goal.returns-else-len-bytes-clause-run
returns-else-len-bytes-clause-run c =
    word_ends c.args.bytes.now c.args.first c.behind_span-len.result c.requires.first c.requires.symbol c.requires.letter c.behind_span-len.ensures.behind (omega (arith, c.if-len-bytes.false, c.behind_span-len.ensures.within))
