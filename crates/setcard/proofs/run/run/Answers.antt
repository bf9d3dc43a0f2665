use Rattle.std.proofs.Common.{map, sym, ◌∙◌}
use Rattle.std.specs.Prelude.{string_bytes}
use Rattle.setcard.proofs.Reading.{within}
use Rattle.setcard.proofs.run.run.Goals as goal

pub solve_run-requires-clause-budget : goal.solve_run-requires-clause-budget
solve_run-requires-clause-budget g c κs inside = within (map string_bytes c.args.words.now) c.in-Some.steps (sym c.steps_of.ensures.steps ∙ c.in-Some.is)
