use Rattle.std.proofs.Common.{◌≡◌, ◌++◌, ◌∷◌, [], List, ap, sym, subst, ◌∙◌}
use Rattle.sc_base.specs.declared.span.Span.{Span}
use Rattle.sc_base.specs.Spans.{AreApart}
use Rattle.sc_runs.specs.Joins.{BeginsBy, IsJoined}
use Rattle.sc_runs.proofs.Joins.{joined_past, joined_longer}
use Rattle.sc_runs.proofs.spans.push_joined.Goals as goal

pub returns-in_ok-push-3 : goal.returns-in_ok-push-3
returns-in_ok-push-3 c =
    let l : Span = c.in-Some.last in
    let front : List Span = c.pop.new.self.items in
    let old : c.args.spans.now.items ≡ front ++ l ∷ [] = c.in-Some.ensures.items in
    subst (λ (xs : List Span). IsJoined xs c.args.next c.push-then-is_past-2.new.self.items) (sym old)
    (joined_past front _ l c.args.next (subst AreApart old c.requires.apart) c.requires.proper (subst (BeginsBy c.args.next.low) old c.requires.starts)
    (sym c.is_past.ensures ∙ c.if-is_past.true)
    (c.in_ok-push-3.ensures.items ∙ ap (λ xs. xs ++ c.args.next ∷ []) c.in_ok-push-2.ensures.items))

pub returns-in_ok-push-4 : goal.returns-in_ok-push-4
returns-in_ok-push-4 c =
    let l : Span = c.in-Some.last in
    let front : List Span = c.pop.new.self.items in
    let old : c.args.spans.now.items ≡ front ++ l ∷ [] = c.in-Some.ensures.items in
    subst (λ (xs : List Span). IsJoined xs c.args.next c.push-else-is_past.new.self.items) (sym old)
    (joined_longer front _ l c.args.next (subst AreApart old c.requires.apart) c.requires.proper (subst (BeginsBy c.args.next.low) old c.requires.starts)
    (sym c.is_past.ensures ∙ c.if-is_past.false)
    (c.in_ok-push-4.ensures.items ∙ ap (λ u. front ++ u ∷ []) c.lengthened.ensures))
