use Rattle.sc_stack.proofs.Found.{own_sorts, own_constants}
use Rattle.sc_stack.proofs.laws.own_names_are_found.Goals as goal

pub returns-clause-sorts : goal.returns-clause-sorts
returns-clause-sorts c = own_sorts

pub returns-clause-constants : goal.returns-clause-constants
returns-clause-constants c = own_constants
