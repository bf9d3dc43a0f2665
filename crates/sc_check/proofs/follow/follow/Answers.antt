use Rattle.std.proofs.Common.{sym, ◌∙◌, subst}
use Rattle.sc_check.specs.Reports.{standing}
use Rattle.sc_check.proofs.Following.{Under, on_ok, begins, goes, asks, errs, leaves}
use Rattle.sc_check.proofs.follow.follow.Goals as goal

pub loop-line-init : goal.loop-line-init
loop-line-init c = begins c.args.splitter.now c.args.session.now c.new-asked.result c.requires.fresh c.new-asked.ensures c.requires.finished c.requires.granted

pub loop-line-preserved-in-Ok-Nothing : goal.loop-line-preserved-in-Ok-Nothing
loop-line-preserved-in-Ok-Nothing c =
    goes c.traces_keep_formulas.ensures c.args.splitter.now c.loop-line.splitter c.next_item.new.self c.loop-line.session c.trace_item.new.self c.loop-line.asked c.trace_item.ensures.session c.loop-line.invariant
    c.in-Top.line c.item.result.now (sym c.next_item.ensures.result ∙ c.in-Top.is) c.next_item.ensures.state c.item.ensures c.next_item.ensures.last c.next_item.ensures.granted
    (rw c.in-Ok-Nothing.field-0-is at c.in-Ok-Nothing.ensures.traces)

pub loop-line-preserved : goal.loop-line-preserved
loop-line-preserved c =
    subst (λ ns. Under c.args.splitter.now c.next_item.new.self (standing c.trace_item.new.self ns)) (sym (on_ok c.push.result _ c.push.ensures.ok (sym c.if-is_err.ensures.value)))
    (asks c.traces_keep_formulas.ensures c.args.splitter.now c.loop-line.splitter c.next_item.new.self c.loop-line.session c.trace_item.new.self c.loop-line.asked c.trace_item.ensures.session c.loop-line.invariant
    c.in-Top.line c.item.result.now (sym c.next_item.ensures.result ∙ c.in-Top.is) c.next_item.ensures.state c.item.ensures c.next_item.ensures.last c.next_item.ensures.granted
    c.in-Ok-Proof.assertions (rw c.in-Ok-Proof.field-0-is at c.in-Ok-Proof.ensures.traces))

pub returns-in-Ok-Error : goal.returns-in-Ok-Error
returns-in-Ok-Error c =
    errs c.traces_keep_formulas.ensures c.args.splitter.now c.loop-line.splitter c.next_item.new.self c.loop-line.session c.trace_item.new.self c.loop-line.asked c.trace_item.ensures.session c.loop-line.invariant
    c.in-Top.line c.item.result.now (sym c.next_item.ensures.result ∙ c.in-Top.is) c.next_item.ensures.state c.item.ensures c.next_item.ensures.last c.next_item.ensures.granted
    c.in-Ok-Error.bytes (rw c.in-Ok-Error.field-0-is at c.in-Ok-Error.ensures.traces)

pub returns-in-Ok-Exit : goal.returns-in-Ok-Exit
returns-in-Ok-Exit c =
    leaves c.traces_keep_formulas.ensures c.args.splitter.now c.loop-line.splitter c.next_item.new.self c.loop-line.session c.trace_item.new.self c.loop-line.asked c.trace_item.ensures.session c.loop-line.invariant
    c.in-Top.line c.item.result.now (sym c.next_item.ensures.result ∙ c.in-Top.is) c.next_item.ensures.state c.item.ensures c.next_item.ensures.last c.next_item.ensures.granted
    (rw c.in-Ok-Exit.field-0-is at c.in-Ok-Exit.ensures.traces)
