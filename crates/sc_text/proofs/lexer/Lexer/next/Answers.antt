use Rattle.sc_text.proofs.Readings.{gives_first}
use Rattle.sc_text.proofs.lexer.Lexer.next.Goals as goal

pub returns-clause-first : goal.returns-clause-first
returns-clause-first c = gives_first _ _ _ c.advance.ensures
