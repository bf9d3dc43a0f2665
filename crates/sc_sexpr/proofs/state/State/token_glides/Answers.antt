use Rattle.std.proofs.Common.{sym, subst, ℕ}
use Rattle.sc_sexpr.specs.declared.state.State.{State}
use Rattle.sc_sexpr.specs.Passes.{Glides}
use Rattle.sc_sexpr.proofs.Through.{token_glides}
use Rattle.sc_sexpr.proofs.state.State.token_glides.Goals as goal

pub returns : goal.returns
returns c =
    let there : State = record c.args.self { token_line = c.args.self.line } in
    subst (λ (k : ℕ). Glides c.args.rest.now c.args.self c.args.at (there, k)) (sym c.behind_space.ensures)
    (token_glides c.args.rest.now c.args.self c.args.at c.in_ok-end.end c.requires.between c.in_ok-end.ensures)
