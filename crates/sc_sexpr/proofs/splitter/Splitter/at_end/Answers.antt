use Rattle.std.proofs.Common.{◌≡◌, false, refl, sym, ap, ◌∙◌}
use Rattle.sc_sexpr.specs.declared.state.Ending.TheVariants as ending
use Rattle.sc_sexpr.specs.Moves.{ending_of}
use Rattle.sc_sexpr.specs.View.{View}
use Rattle.sc_sexpr.proofs.Showing.{not_given, ended_whole}
use Rattle.sc_sexpr.proofs.Holding.{end_ready}
use Rattle.sc_sexpr.proofs.splitter.Splitter.at_end.Goals as goal

pub returns-in-Whole-clause-state : goal.returns-in-Whole-clause-state
returns-in-Whole-clause-state c =
    let whole : ending_of c.args.self.now.state ≡ ending.Whole = rw (← c.self.view_is) (sym c.ending.ensures ∙ c.in-Whole.is) in
    ended_whole c.args.self.now _ c.self.inside.bytes.items c.self.inside.pass c.self.inside.given c.closed-self-inside.result c.self.view_is refl refl c.requires whole c.closed-self-inside.ensures

pub returns-in-Whole-clause-given : goal.returns-in-Whole-clause-given
returns-in-Whole-clause-given c =
    let none : c.self.inside.given ≡ false = not_given c.self.inside.bytes.items c.self.inside.pass c.self.inside.given (ap (λ (x : View). x.given) c.self.view_is ∙ c.requires) in
    end_ready c.self.inside.bytes.items c.self.inside.pass c.self.inside.given c.self.inside.piece c.self.inside.waiting c.self.inside.granted none c.self.invariant (sym c.ending.ensures ∙ c.in-Whole.is)
