use Rattle.std.proofs.Common.{◌≡◌, ◌<◌, ◌≤◌, length, get_or, sym, ◌∙◌, rules}
use Rattle.std.proofs.lemmas.Bool.{ne_eqb}
use Rattle.sc_text.proofs.Starts.{number_takes, number_ends}
use Rattle.sc_text.proofs.front.number_at.Goals as goal

pub returns-in-None-clause-run : goal.returns-in-None-clause-run
returns-in-None-clause-run c =
    let past : length c.args.bytes.now ≤ c.digits_at-len.result = search rules in
    number_ends c.args.bytes.now c.args.first c.digits_at-len.result c.requires.first c.requires.digit (ne_eqb c.args.first 48 c.if-first-eq48.false) c.digits_at-len.ensures.count past

pub returns-in-Some-2-clause-run : goal.returns-in-Some-2-clause-run
returns-in-Some-2-clause-run c =
    let lt : c.digits_at-len.result < length c.args.bytes.now = search rules in
    let at : get_or c.args.bytes.now c.digits_at-len.result 0 ≡ c.in-Some.byte.now = search rules in
    number_takes c.args.bytes.now c.args.first c.in-Some.byte.now c.digits_at-len.result c.requires.first c.requires.digit (ne_eqb c.args.first 48 c.if-first-eq48.false) c.digits_at-len.ensures.count lt at (sym c.is_symbol_byte.ensures ∙ c.if-is_symbol_byte.false)
