use Rattle.std.proofs.Common.{◌&&◌, sym, ap, ◌∙◌}
use Rattle.std.proofs.lemmas.Bool.{false≢true}
use Rattle.sc_deriv.specs.Spelling.{closes, are_nodes}
use Rattle.sc_deriv.proofs.Spellings.{spelt_if, not_spelt}
use Rattle.sc_deriv.proofs.spelling.is_spelt.Goals as goal

pub returns-then-is_empty : goal.returns-then-is_empty
returns-then-is_empty c =
    spelt_if c.args.derivation.now c.are_tree_nodes.result (c.is_empty.ensures.0 c.if-is_empty.true)
    (c.are_tree_nodes.ensures ∙ ap (λ ns. closes 1 ns && are_nodes ns) c.as_slice.ensures)

pub returns-else-is_empty : goal.returns-else-is_empty
returns-else-is_empty c =
    not_spelt c.args.derivation.now c.is_empty.result (λ none. false≢true (sym c.if-is_empty.false ∙ c.is_empty.ensures.1 none)) c.if-is_empty.false
