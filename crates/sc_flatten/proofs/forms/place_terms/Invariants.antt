use Rattle.std.proofs.Common.{◌≡◌, drop, map}
use Rattle.sc_flatten.specs.Stock.{form_in}
use Rattle.sc_flatten.specs.Tables.{numbering, as_term}
use Rattle.sc_flatten.proofs.forms.place_terms.Given as goal

-- the terms from the index on are placed
abbrev pub invariant-loop-index : goal.invariant-loop-index
invariant-loop-index l = map as_term l.placed.entries ≡ form_in (numbering l.tables) (drop l.index l.terms)
