use Rattle.std.proofs.Common.{◌∷◌, [], refl}
use Rattle.sc_deriv_text.specs.Sexpr.{bytes_of}
use Rattle.sc_deriv_text.specs.Spelling.{node_expr}
use Rattle.sc_deriv_text.proofs.Puts.{then_last}
use Rattle.sc_deriv_text.proofs.writing.put_line.Goals as goal

pub returns-clause-put : goal.returns-clause-put
returns-clause-put g c = then_last _ _ _ _ (bytes_of (node_expr c.args.node.now)) (10 ∷ []) c.put_all.result refl c.in_default.ensures.put c.put_all.ensures
