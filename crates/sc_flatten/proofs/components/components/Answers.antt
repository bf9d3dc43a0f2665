use Rattle.std.proofs.Common.{◌<◌, sym, ap, subst, ◌∙◌, length}
use Rattle.std.specs.List.{AllByRecursion}
use Rattle.sc_flatten.proofs.Linked.{homes_below}
use Rattle.sc_flatten.proofs.components.components.Goals as goal

pub classes-requires-clause-range : goal.classes-requires-clause-range
classes-requires-clause-range c =
    subst (AllByRecursion (λ n. n < length c.deref_mut.result.now)) (sym (c.as_slice-2.ensures.value ∙ c.in_ok-homes.ensures))
    (homes_below c.args.sets.now c.args.formulas.now (length c.deref_mut.result.now) (ap (λ xs. length xs) c.deref_mut.ensures.value ∙ c.in_ok-parents.ensures.count))
