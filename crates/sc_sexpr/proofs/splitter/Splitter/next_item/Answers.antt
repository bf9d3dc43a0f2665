use Rattle.std.proofs.Common.{◌≡◌, None, sym, ap, ◌∙◌, subst}
use Rattle.sc_sexpr.specs.View.{View, Answer, keeping}
use Rattle.sc_sexpr.specs.Spots.{AtHand}
use Rattle.sc_sexpr.proofs.Showing.{repeated, forgot}
use Rattle.sc_sexpr.proofs.Work.{told, told_more, told_read, told_work, no_item}
use Rattle.sc_sexpr.proofs.Holding.{stands_between}
use Rattle.sc_sexpr.proofs.splitter.Splitter.next_item.Goals as goal

pub returns-in-Some-clause-result : goal.returns-in-Some-clause-result
returns-in-Some-clause-result c =
    c.item.ensures ∙ sym (ap (λ (a : Answer). a.item) (repeated c.args.self.now c.in-Some.end (ap (λ (x : View). x.over) (sym c.self.view_is) ∙ c.in-Some.is)))

pub returns-clause-result : goal.returns-clause-result
returns-clause-result c =
    let over : c.args.self.now.over ≡ None = ap (λ (x : View). x.over) (sym c.self.view_is) ∙ c.in_default.is in
    c.look.ensures.result ∙ (forgot c.args.self.now c.forget.new.self over c.forget.ensures).item

pub returns-in-Some-clause-state : goal.returns-in-Some-clause-state
returns-in-Some-clause-state c =
    sym (ap (λ (a : Answer). keeping c.args.self.now.kept a.view) (repeated c.args.self.now c.in-Some.end (ap (λ (x : View). x.over) (sym c.self.view_is) ∙ c.in-Some.is)))

pub returns-clause-state : goal.returns-clause-state
returns-clause-state c =
    let over : c.args.self.now.over ≡ None = ap (λ (x : View). x.over) (sym c.self.view_is) ∙ c.in_default.is in
    c.look.ensures.state ∙ (forgot c.args.self.now c.forget.new.self over c.forget.ensures).view c.look.new.self.kept

pub returns-in-Some-clause-reading : goal.returns-in-Some-clause-reading
returns-in-Some-clause-reading c = told c.args.self.now _ _ (returns-in-Some-clause-result c) (returns-in-Some-clause-state c)

pub returns-in-Some-clause-more : goal.returns-in-Some-clause-more
returns-in-Some-clause-more c = told_more c.args.self.now _ (returns-in-Some-clause-result c)

pub returns-in-Some-clause-work : goal.returns-in-Some-clause-work
returns-in-Some-clause-work c = told_work c.args.self.now _ _ (returns-in-Some-clause-result c) (returns-in-Some-clause-state c)

pub returns-clause-reading : goal.returns-clause-reading
returns-clause-reading c = told c.args.self.now _ _ (returns-clause-result c) (returns-clause-state c)

pub returns-clause-more : goal.returns-clause-more
returns-clause-more c = told_more c.args.self.now _ (returns-clause-result c)

pub returns-clause-work : goal.returns-clause-work
returns-clause-work c = told_work c.args.self.now _ _ (returns-clause-result c) (returns-clause-state c)

pub returns-in-Some-clause-given : goal.returns-in-Some-clause-given
returns-in-Some-clause-given c = no_item c.in-Some.end _ _ c.item.ensures

pub returns-in-Some-clause-read : goal.returns-in-Some-clause-read
returns-in-Some-clause-read c = told_read c.args.self.now _ _ (returns-in-Some-clause-result c) (returns-in-Some-clause-state c)

pub returns-in-Some-clause-between : goal.returns-in-Some-clause-between
returns-in-Some-clause-between c = stands_between c.args.self.now _ _ (subst (λ (x : View). AtHand x.state x.text) c.self.view_is c.self.invariant.hand) (returns-in-Some-clause-result c) (returns-in-Some-clause-state c)

pub returns-clause-read : goal.returns-clause-read
returns-clause-read c = told_read c.args.self.now _ _ (returns-clause-result c) (returns-clause-state c)

pub returns-clause-between : goal.returns-clause-between
returns-clause-between c = stands_between c.args.self.now _ _ (subst (λ (x : View). AtHand x.state x.text) c.self.view_is c.self.invariant.hand) (returns-clause-result c) (returns-clause-state c)
