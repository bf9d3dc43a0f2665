use Rattle.std.proofs.Common.{length, ap, ◌∙◌, ◌≡◌, ◌<◌, drop, subst, ℕ}
use Rattle.std.specs.List.{prefix_len}
use Rattle.sc_text.specs.Bytes.{is_symbol_byte}
use Rattle.sc_sexpr.proofs.Ends.{word_ends_at}
use Rattle.sc_sexpr.proofs.glide.word_end.Goals as goal

pub returns-then-count-rest : goal.returns-then-count-rest
returns-then-count-rest c =
    let count : c.span-count.result ≡ prefix_len is_symbol_byte (drop c.args.at c.args.bytes.now) = c.span-count.ensures.count ∙ ap (prefix_len is_symbol_byte) c.split_at.ensures.back in
    let short : c.span-count.result < length (drop c.args.at c.args.bytes.now) = subst (λ (k : ℕ). c.span-count.result < k) (ap length c.split_at.ensures.back) c.if-count-rest.true in
    word_ends_at c.args.bytes.now c.args.at c.span-count.result c.requires.within c.requires.symbol c.requires.letter count short
