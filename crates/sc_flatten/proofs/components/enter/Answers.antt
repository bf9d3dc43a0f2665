use Rattle.std.proofs.Common.{◌≡◌, ◌++◌, [], ◌∷◌, OnOk, is_some, sym, ap, subst, ◌∙◌}
use Rattle.sc_flatten.proofs.Grouping.{grouped_at, grouped_new}
use Rattle.sc_flatten.proofs.components.enter.Goals as goal

pub returns-in-Some-clause-lists : goal.returns-in-Some-clause-lists
returns-in-Some-clause-lists c =
    subst (λ lists. OnOk c.push_at.result (c.push_at.new.lists.items ≡ lists))
    (grouped_at c.args.key c.args.number c.args.keys.now.keys c.args.lists.now.items c.in-Some.place (sym c.get_index_of.ensures.index ∙ c.in-Some.is) (sym c.get_index_of.ensures.found ∙ ap is_some c.in-Some.is) c.requires)
    c.push_at.ensures

pub returns-clause-lists : goal.returns-clause-lists
returns-clause-lists c =
    c.in_ok-push.ensures.items ∙ (ap (λ single. c.args.lists.now.items ++ single ∷ []) c.in_ok-from_slice.ensures ∙ grouped_new c.args.key c.args.number c.args.keys.now.keys c.args.lists.now.items (sym c.in_default.ensures.found) c.requires)
