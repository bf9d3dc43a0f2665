use Rattle.std.proofs.Common.{◌∷◌, [], Err}
use Rattle.std.specs.Prelude.{decimal}
use Rattle.sc_deriv_text.specs.Spelling.{cube_bytes}
use Rattle.sc_deriv_text.specs.Text.{before_cube}
use Rattle.sc_deriv_text.proofs.Puts.{cube_parts, first_stops, same_put, second_stops, then_then_last}
use Rattle.sc_deriv_text.proofs.writing.put_empty.Goals as goal

pub returns-in-Err-clause-put : goal.returns-in-Err-clause-put
returns-in-Err-clause-put g c = first_stops _ _ _ (before_cube c.args.cube.now.component) _ c.in-Err.error (cube_parts (decimal c.args.cube.now.component) (cube_bytes c.args.cube.now.signs)) c.in-Err.ensures.put

pub returns-in-Err-put_signs-clause-put : goal.returns-in-Err-put_signs-clause-put
returns-in-Err-put_signs-clause-put g c =
    second_stops _ _ _ _ (before_cube c.args.cube.now.component) (cube_bytes c.args.cube.now.signs) (41 ∷ []) c.in-Err-put_signs.error (cube_parts (decimal c.args.cube.now.component) (cube_bytes c.args.cube.now.signs)) c.in_default.ensures.put (same_put cube_bytes _ _ _ _ (Err c.in-Err-put_signs.error) c.as_slice.ensures c.in-Err-put_signs.ensures)

pub returns-clause-put : goal.returns-clause-put
returns-clause-put g c =
    then_then_last _ _ _ _ _ (before_cube c.args.cube.now.component) (cube_bytes c.args.cube.now.signs) (41 ∷ []) c.put_all.result (cube_parts (decimal c.args.cube.now.component) (cube_bytes c.args.cube.now.signs)) c.in_default.ensures.put (rw c.as_slice.ensures at c.in_default-put_signs.ensures) c.put_all.ensures
