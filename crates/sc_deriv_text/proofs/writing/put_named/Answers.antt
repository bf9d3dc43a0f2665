use Rattle.std.proofs.Common.{◌∷◌, [], ◌++◌}
use Rattle.sc_deriv_text.specs.Sexpr.{bytes_of}
use Rattle.sc_deriv_text.specs.Spelling.{name_expr}
use Rattle.sc_deriv_text.specs.Text.{before_name}
use Rattle.sc_deriv_text.proofs.Puts.{named_parts, first_stops, second_stops, then_then_last}
use Rattle.sc_deriv_text.proofs.writing.put_named.Goals as goal

pub returns-in-Err-clause-put : goal.returns-in-Err-clause-put
returns-in-Err-clause-put g c = first_stops _ _ _ (before_name c.args.word.now) (bytes_of (name_expr c.args.name.now) ++ (41 ∷ [])) c.in-Err.error (named_parts c.args.word.now (bytes_of (name_expr c.args.name.now))) c.in-Err.ensures

pub returns-in-Err-put_name-clause-put : goal.returns-in-Err-put_name-clause-put
returns-in-Err-put_name-clause-put g c =
    second_stops _ _ _ _ (before_name c.args.word.now) (bytes_of (name_expr c.args.name.now)) (41 ∷ []) c.in-Err-put_name.error (named_parts c.args.word.now (bytes_of (name_expr c.args.name.now))) c.in_default.ensures c.in-Err-put_name.ensures.put

pub returns-clause-put : goal.returns-clause-put
returns-clause-put g c =
    then_then_last _ _ _ _ _ (before_name c.args.word.now) (bytes_of (name_expr c.args.name.now)) (41 ∷ []) c.put_all.result (named_parts c.args.word.now (bytes_of (name_expr c.args.name.now))) c.in_default.ensures c.in_default-put_name.ensures.put c.put_all.ensures
