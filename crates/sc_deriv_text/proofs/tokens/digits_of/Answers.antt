use Rattle.sc_deriv_text.proofs.Exprs.{list_no_digits}
use Rattle.sc_deriv_text.proofs.tokens.digits_of.Goals as goal

pub returns-in-List : goal.returns-in-List
returns-in-List c = list_no_digits c.args.tree.now c.in-List.field-0 c.in-List.is
