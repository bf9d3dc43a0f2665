use Rattle.sc_stack.proofs.Found.{sorts_have_numbers, constants_have_numbers, constants_have_own_sorts}
use Rattle.sc_stack.proofs.laws.names_have_numbers.Goals as goal

pub returns-clause-sorts : goal.returns-clause-sorts
returns-clause-sorts c = sorts_have_numbers

pub returns-clause-constants : goal.returns-clause-constants
returns-clause-constants c = constants_have_numbers

pub returns-clause-sorts_of_constants : goal.returns-clause-sorts_of_constants
returns-clause-sorts_of_constants c = constants_have_own_sorts
