use Rattle.std.proofs.Common.{refl, sym, ap, ◌∙◌, subst, slice_get}
use Rattle.sc_sexpr.specs.Shapes.{shape}
use Rattle.sc_check.specs.Lines.{finding}
use Rattle.sc_check.specs.Judging.{TellGives}
use Rattle.sc_check.proofs.Tallying.{looked_up, passed, told_line}
use Rattle.sc_check.proofs.judge.judge_item.Goals as goal

pub returns-then-not-is_derivation : goal.returns-then-not-is_derivation
returns-then-not-is_derivation g c =
    passed c.args.session.now.bank c.args.asked.now c.args.text.now c.args.line (shape c.in-Ok.tree) c.in-Ok.ensures c.args.count.now _ (g.O.Sink.moment c.args.out.now) _
    (sym c.is_derivation.ensures ∙ c.if-not-is_derivation.true) refl refl

pub returns : goal.returns
returns g c =
    told_line c.args.session.now.bank c.args.asked.now c.args.text.now c.args.line (shape c.in-Ok.tree) c.in-Ok.ensures c.args.count.now c.tell.new.count (g.O.Sink.moment c.args.out.now) (g.O.Sink.moment c.tell.new.out)
    c.tell.result (sym c.is_derivation.ensures ∙ c.if-not-is_derivation.false)
    (subst (λ ns. TellGives (finding c.args.session.now.bank ns (shape c.in-Ok.tree)) c.args.count.now c.tell.new.count (g.O.Sink.moment c.args.out.now) (g.O.Sink.moment c.tell.new.out) c.tell.result)
    (looked_up c.as_slice.result.now c.args.count.now.number c.get-assertions.result c.get-assertions.ensures.lookup.0 c.get-assertions.ensures.lookup.1 ∙ ap (λ xs. slice_get xs c.args.count.now.number) c.as_slice.ensures) c.tell.ensures)
