use Rattle.std.proofs.Common.{is_ok}
use Rattle.sc_print.proofs.Lines.{appends, limit_line}
use Rattle.sc_print.proofs.error.limit_passed.Goals as goal

pub returns : goal.returns
returns c = appends (is_ok c.append.result) c.args.out.now.items _ _ _ c.append.ensures (rw (c.as_bytes-line.ensures.value, c.format.ensures.text, c.as_bytes-limit.ensures.value, c.format-2.ensures.text) (limit_line c.args.line c.args.limit))
