use Rattle.std.proofs.Common.{◌++◌}
use Rattle.std.specs.Prelude.{not}
use Rattle.sc_base.specs.Integers.{has_element, without}
use Rattle.sc_base.proofs.Integers.{IsAscending-in_order, IsAscending-filter}
use Rattle.sc_runs.proofs.laws.results_are_ascending.Goals as goal

pub returns-clause-union : goal.returns-clause-union
returns-clause-union c = λ xs ys. IsAscending-in_order (xs ++ without ys xs)

pub returns-clause-inter : goal.returns-clause-inter
returns-clause-inter c = λ xs ys h. IsAscending-filter (has_element ys) xs h

pub returns-clause-minus : goal.returns-clause-minus
returns-clause-minus c = λ xs ys h. IsAscending-filter (λ x. not (has_element ys x)) xs h
