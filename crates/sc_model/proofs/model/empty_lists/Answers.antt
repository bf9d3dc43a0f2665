use Rattle.std.proofs.Common.{◌+◌, [], ◌∷◌, ◌++◌, sym, ap, subst, ◌∙◌}
use Rattle.sc_model.specs.Modelling.{Gathers}
use Rattle.sc_model.proofs.Gathering.{gathers_none}
use Rattle.sc_model.proofs.model.empty_lists.Goals as goal

pub loop-place-preserved : goal.loop-place-preserved
loop-place-preserved c =
    subst (Gathers (c.loop-place.place + 1) []) (sym (c.in_ok-push.ensures.items ∙ ap (λ xs. c.loop-place.lists.items ++ xs ∷ []) c.new.ensures)) (gathers_none c.loop-place.place c.loop-place.lists.items c.loop-place.invariant)
