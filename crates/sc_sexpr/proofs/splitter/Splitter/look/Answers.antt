use Rattle.std.proofs.Common.{◌≡◌, length, drop, false, refl, sym, ap, ◌∙◌}
use Rattle.sc_sexpr.specs.declared.item.Item.TheVariants as item
use Rattle.sc_sexpr.specs.declared.item.Last.TheVariants as last
use Rattle.sc_sexpr.specs.declared.item.Fault.TheVariants.{Limit}
use Rattle.sc_sexpr.specs.Scans.{Waits, Top, Full, Bad}
use Rattle.sc_sexpr.specs.Passes.{text_of, scan_from, Follows}
use Rattle.sc_sexpr.specs.View.{View, keeping, Answer, stopped, shows, scan_of}
use Rattle.sc_sexpr.proofs.Showing.{not_given, looked, waited}
use Rattle.sc_sexpr.proofs.Holding.{waits_holds, top_holds, top_ready}
use Rattle.sc_sexpr.proofs.splitter.Splitter.look.Goals as goal

pub returns-in-Top-clause-result : goal.returns-in-Top-clause-result
returns-in-Top-clause-result c =
    let found : scan_from c.self.inside.bytes.items c.self.inside.pass ≡ Top (text_of c.self.inside.bytes.items c.in-Top.pass) c.in-Top.line c.in-Top.pass.state c.in-Top.pass.room (drop c.in-Top.pass.at c.self.inside.bytes.items) = rw (← c.as_slice.ensures.value) c.in-Top.ensures.0 in
    let shown : scan_of c.args.self.now ≡ Top (text_of c.self.inside.bytes.items c.in-Top.pass) c.in-Top.line c.in-Top.pass.state c.in-Top.pass.room (drop c.in-Top.pass.at c.self.inside.bytes.items) = looked c.args.self.now _ c.self.inside.bytes.items c.self.inside.pass c.self.inside.given (Top (text_of c.self.inside.bytes.items c.in-Top.pass) c.in-Top.line c.in-Top.pass.state c.in-Top.pass.room (drop c.in-Top.pass.at c.self.inside.bytes.items)) c.requires c.self.view_is refl refl refl refl refl found in
    sym (ap (λ r. (shows c.args.self.now r).item) shown)

pub returns-in-Full-clause-result : goal.returns-in-Full-clause-result
returns-in-Full-clause-result c =
    let found : scan_from c.self.inside.bytes.items c.self.inside.pass ≡ Full c.in-Full.line = rw (← c.as_slice.ensures.value) c.in-Full.ensures in
    let shown : scan_of c.args.self.now ≡ Full c.in-Full.line = looked c.args.self.now _ c.self.inside.bytes.items c.self.inside.pass c.self.inside.given (Full c.in-Full.line) c.requires c.self.view_is refl refl refl refl refl found in
    c.stop.ensures.result ∙ ap (λ (x : View). item.Bad (Limit c.in-Full.line x.limit)) c.self.view_is ∙ sym (ap (λ r. (shows c.args.self.now r).item) shown)

pub returns-in-Bad-clause-result : goal.returns-in-Bad-clause-result
returns-in-Bad-clause-result c =
    let found : scan_from c.self.inside.bytes.items c.self.inside.pass ≡ Bad c.in-Bad.fault = rw (← c.as_slice.ensures.value) c.in-Bad.ensures in
    let shown : scan_of c.args.self.now ≡ Bad c.in-Bad.fault = looked c.args.self.now _ c.self.inside.bytes.items c.self.inside.pass c.self.inside.given (Bad c.in-Bad.fault) c.requires c.self.view_is refl refl refl refl refl found in
    c.stop-in-Bad.ensures.result ∙ sym (ap (λ r. (shows c.args.self.now r).item) shown)

pub returns-in-Waits-clause-result : goal.returns-in-Waits-clause-result
returns-in-Waits-clause-result c =
    let found : scan_from c.self.inside.bytes.items c.self.inside.pass ≡ Waits c.in-Waits.pass.state (text_of c.self.inside.bytes.items c.in-Waits.pass) c.in-Waits.pass.room = rw (← c.as_slice.ensures.value) c.in-Waits.ensures.0 in
    let shown : scan_of c.args.self.now ≡ Waits c.in-Waits.pass.state (text_of c.self.inside.bytes.items c.in-Waits.pass) c.in-Waits.pass.room = looked c.args.self.now _ c.self.inside.bytes.items c.self.inside.pass c.self.inside.given (Waits c.in-Waits.pass.state (text_of c.self.inside.bytes.items c.in-Waits.pass) c.in-Waits.pass.room) c.requires c.self.view_is refl refl refl refl refl found in
    let none : c.self.inside.given ≡ false = not_given c.self.inside.bytes.items c.self.inside.pass c.self.inside.given (ap (λ (x : View). x.given) c.self.view_is ∙ c.requires) in
    let all : c.in-Waits.pass.at ≡ length c.self.inside.bytes.items = rw (← c.as_slice.ensures.value) c.in-Waits.ensures.1 in
    c.wait.ensures.result ∙ sym (ap (λ (a : Answer). a.item) (ap (shows c.args.self.now) shown ∙ waited c.args.self.now _ _ c.self.inside.bytes.items c.in-Waits.pass c.self.inside.given c.self.view_is none all refl))

pub returns-in-Top-clause-state : goal.returns-in-Top-clause-state
returns-in-Top-clause-state c =
    let found : scan_from c.self.inside.bytes.items c.self.inside.pass ≡ Top (text_of c.self.inside.bytes.items c.in-Top.pass) c.in-Top.line c.in-Top.pass.state c.in-Top.pass.room (drop c.in-Top.pass.at c.self.inside.bytes.items) = rw (← c.as_slice.ensures.value) c.in-Top.ensures.0 in
    let shown : scan_of c.args.self.now ≡ Top (text_of c.self.inside.bytes.items c.in-Top.pass) c.in-Top.line c.in-Top.pass.state c.in-Top.pass.room (drop c.in-Top.pass.at c.self.inside.bytes.items) = looked c.args.self.now _ c.self.inside.bytes.items c.self.inside.pass c.self.inside.given (Top (text_of c.self.inside.bytes.items c.in-Top.pass) c.in-Top.line c.in-Top.pass.state c.in-Top.pass.room (drop c.in-Top.pass.at c.self.inside.bytes.items)) c.requires c.self.view_is refl refl refl refl refl found in
    ap (λ (x : View). keeping (length c.self.inside.bytes.items) (shows x (Top (text_of c.self.inside.bytes.items c.in-Top.pass) c.in-Top.line c.in-Top.pass.state c.in-Top.pass.room (drop c.in-Top.pass.at c.self.inside.bytes.items))).view) c.self.view_is
    ∙ sym (ap (λ r. keeping (length c.self.inside.bytes.items) (shows c.args.self.now r).view) shown)

pub returns-in-Full-clause-state : goal.returns-in-Full-clause-state
returns-in-Full-clause-state c =
    let found : scan_from c.self.inside.bytes.items c.self.inside.pass ≡ Full c.in-Full.line = rw (← c.as_slice.ensures.value) c.in-Full.ensures in
    let shown : scan_of c.args.self.now ≡ Full c.in-Full.line = looked c.args.self.now _ c.self.inside.bytes.items c.self.inside.pass c.self.inside.given (Full c.in-Full.line) c.requires c.self.view_is refl refl refl refl refl found in
    c.stop.ensures.state ∙ ap (λ (x : View). keeping c.stop.new.self.kept (stopped c.args.self.now (last.Bad (Limit c.in-Full.line x.limit))).view) c.self.view_is ∙ sym (ap (λ r. keeping c.stop.new.self.kept (shows c.args.self.now r).view) shown)

pub returns-in-Bad-clause-state : goal.returns-in-Bad-clause-state
returns-in-Bad-clause-state c =
    let found : scan_from c.self.inside.bytes.items c.self.inside.pass ≡ Bad c.in-Bad.fault = rw (← c.as_slice.ensures.value) c.in-Bad.ensures in
    let shown : scan_of c.args.self.now ≡ Bad c.in-Bad.fault = looked c.args.self.now _ c.self.inside.bytes.items c.self.inside.pass c.self.inside.given (Bad c.in-Bad.fault) c.requires c.self.view_is refl refl refl refl refl found in
    c.stop-in-Bad.ensures.state ∙ sym (ap (λ r. keeping c.stop-in-Bad.new.self.kept (shows c.args.self.now r).view) shown)

pub returns-in-Waits-clause-state : goal.returns-in-Waits-clause-state
returns-in-Waits-clause-state c =
    let found : scan_from c.self.inside.bytes.items c.self.inside.pass ≡ Waits c.in-Waits.pass.state (text_of c.self.inside.bytes.items c.in-Waits.pass) c.in-Waits.pass.room = rw (← c.as_slice.ensures.value) c.in-Waits.ensures.0 in
    let shown : scan_of c.args.self.now ≡ Waits c.in-Waits.pass.state (text_of c.self.inside.bytes.items c.in-Waits.pass) c.in-Waits.pass.room = looked c.args.self.now _ c.self.inside.bytes.items c.self.inside.pass c.self.inside.given (Waits c.in-Waits.pass.state (text_of c.self.inside.bytes.items c.in-Waits.pass) c.in-Waits.pass.room) c.requires c.self.view_is refl refl refl refl refl found in
    let none : c.self.inside.given ≡ false = not_given c.self.inside.bytes.items c.self.inside.pass c.self.inside.given (ap (λ (x : View). x.given) c.self.view_is ∙ c.requires) in
    let all : c.in-Waits.pass.at ≡ length c.self.inside.bytes.items = rw (← c.as_slice.ensures.value) c.in-Waits.ensures.1 in
    c.wait.ensures.state ∙ sym (ap (λ (a : Answer). keeping c.wait.new.self.kept a.view) (ap (shows c.args.self.now) shown ∙ waited c.args.self.now _ _ c.self.inside.bytes.items c.in-Waits.pass c.self.inside.given c.self.view_is none all refl))

pub invariant_of-self : goal.invariant_of-self
invariant_of-self c =
    let none : c.self.inside.given ≡ false = not_given c.self.inside.bytes.items c.self.inside.pass c.self.inside.given (ap (λ (x : View). x.given) c.self.view_is ∙ c.requires) in
    let found : scan_from c.self.inside.bytes.items c.self.inside.pass ≡ Waits c.in-Waits.pass.state (text_of c.self.inside.bytes.items c.in-Waits.pass) c.in-Waits.pass.room = rw (← c.as_slice.ensures.value) c.in-Waits.ensures.0 in
    let follows : Follows c.self.inside.bytes.items c.self.inside.pass c.in-Waits.pass = rw (← c.as_slice.ensures.value) c.in-Waits.ensures.3 in
    waits_holds c.self.inside.bytes.items c.self.inside.pass c.in-Waits.pass c.self.inside.given c.self.inside.piece c.self.inside.waiting c.self.inside.granted none c.self.invariant found c.in-Waits.ensures.2 follows

pub invariant_of-self-in-Top : goal.invariant_of-self-in-Top
invariant_of-self-in-Top c =
    let none : c.self.inside.given ≡ false = not_given c.self.inside.bytes.items c.self.inside.pass c.self.inside.given (ap (λ (x : View). x.given) c.self.view_is ∙ c.requires) in
    let found : scan_from c.self.inside.bytes.items c.self.inside.pass ≡ Top (text_of c.self.inside.bytes.items c.in-Top.pass) c.in-Top.line c.in-Top.pass.state c.in-Top.pass.room (drop c.in-Top.pass.at c.self.inside.bytes.items) = rw (← c.as_slice.ensures.value) c.in-Top.ensures.0 in
    let follows : Follows c.self.inside.bytes.items c.self.inside.pass c.in-Top.pass = rw (← c.as_slice.ensures.value) c.in-Top.ensures.1 in
    top_holds c.self.inside.bytes.items c.self.inside.pass c.in-Top.pass c.self.inside.given c.self.inside.piece c.self.inside.waiting c.self.inside.granted c.in-Top.line none c.self.invariant found follows

pub returns-in-Top-clause-given : goal.returns-in-Top-clause-given
returns-in-Top-clause-given c =
    let none : c.self.inside.given ≡ false = not_given c.self.inside.bytes.items c.self.inside.pass c.self.inside.given (ap (λ (x : View). x.given) c.self.view_is ∙ c.requires) in
    let found : scan_from c.self.inside.bytes.items c.self.inside.pass ≡ Top (text_of c.self.inside.bytes.items c.in-Top.pass) c.in-Top.line c.in-Top.pass.state c.in-Top.pass.room (drop c.in-Top.pass.at c.self.inside.bytes.items) = rw (← c.as_slice.ensures.value) c.in-Top.ensures.0 in
    let follows : Follows c.self.inside.bytes.items c.self.inside.pass c.in-Top.pass = rw (← c.as_slice.ensures.value) c.in-Top.ensures.1 in
    top_ready c.self.inside.bytes.items c.self.inside.pass c.in-Top.pass c.self.inside.given c.self.inside.piece c.self.inside.waiting c.self.inside.granted c.in-Top.line none c.self.invariant found follows c.in-Top.ensures.2
