use Rattle.sc_text.proofs.Walks.{none_stay}
use Rattle.sc_text.proofs.mode.Mode.span.Goals as goal

pub returns-in_default-clause-count : goal.returns-in_default-clause-count
returns-in_default-clause-count c = none_stay c.args.self c.in_default.not-Symbol c.in_default.not-Keyword c.in_default.not-Literal c.in_default.not-Quoted c.args.bytes.now
