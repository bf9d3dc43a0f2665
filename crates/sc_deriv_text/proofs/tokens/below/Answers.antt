use Rattle.std.proofs.Common.{rules}
use Rattle.sc_deriv_text.proofs.Numerals.{numeral_utf8, too_great}
use Rattle.sc_deriv_text.proofs.tokens.below.Goals as goal

pub returns-in_default : goal.returns-in_default
returns-in_default c = absurd (c.in_default.ensures.cases.0 (numeral_utf8 c.args.text.now (search rules)))

pub returns-in-Err : goal.returns-in-Err
returns-in-Err c = too_great c.in-Ok.digits.now c.args.text.now c.parse.result _ c.args.limit (search rules) (search rules) c.in-Ok.ensures.cases.0 c.parse.ensures.value.0 c.in-Err.is
