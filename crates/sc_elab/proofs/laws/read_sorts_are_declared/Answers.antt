use Rattle.sc_elab.proofs.DeclaredSorts.{read_sorts_are_declared}
use Rattle.sc_elab.proofs.laws.read_sorts_are_declared.Goals as goal

pub returns : goal.returns
returns c = read_sorts_are_declared c.names_have_numbers.ensures.sorts
