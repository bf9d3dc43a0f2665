use Rattle.std.proofs.Common.{rules, length, ap, sym, ◌∙◌, ◌≡◌, ◌<◌, drop, get_or, subst, false, ℕ, List}
use Rattle.std.specs.List.{prefix_len}
use Rattle.sc_text.specs.Bytes.{is_digit, is_symbol_byte}
use Rattle.sc_sexpr.proofs.Ends.{numeral_ends_at}
use Rattle.sc_sexpr.proofs.glide.numeral_end.Goals as goal

pub returns-in-Some : goal.returns-in-Some
returns-in-Some c =
    let lt : c.digits_at-count.result < length c.split_at.result.1.now = search rules in
    let at : get_or c.split_at.result.1.now c.digits_at-count.result 0 ≡ c.in-Some.byte.now = search rules in
    let count : c.digits_at-count.result ≡ prefix_len is_digit (drop c.args.at c.args.bytes.now) = c.digits_at-count.ensures.count ∙ ap (prefix_len is_digit) c.split_at.ensures.back in
    let short : c.digits_at-count.result < length (drop c.args.at c.args.bytes.now) = subst (λ (k : ℕ). c.digits_at-count.result < k) (ap length c.split_at.ensures.back) lt in
    let none : is_symbol_byte c.in-Some.byte.now ≡ false = search rules in
    let there : is_symbol_byte (get_or (drop c.args.at c.args.bytes.now) c.digits_at-count.result 0) ≡ false =
    ap (λ (xs : List ℕ). is_symbol_byte (get_or xs c.digits_at-count.result 0)) (sym c.split_at.ensures.back) ∙ ap is_symbol_byte at ∙ none in
    numeral_ends_at c.args.bytes.now c.args.at c.digits_at-count.result c.requires.within c.requires.digit c.requires.some count short there
