-- The small problem of the tests.
use Rattle.sc_rules.specs.Example.{ExampleIsProblem}
use Rattle.sc_rules.proofs.Example as rules

pub example_is_problem : ExampleIsProblem
example_is_problem = rules.example_is_problem
