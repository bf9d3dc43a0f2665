use Rattle.sc_deriv_text.proofs.Exprs.{list_no_word}
use Rattle.sc_deriv_text.proofs.tokens.word_of.Goals as goal

pub returns-in-List : goal.returns-in-List
returns-in-List c = list_no_word c.args.tree.now c.in-List.field-0 c.in-List.is
