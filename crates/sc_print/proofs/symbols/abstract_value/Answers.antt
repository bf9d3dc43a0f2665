use Rattle.std.proofs.Common.{rules}
use Rattle.sc_print.proofs.Values.{bare_value, half_value, barred_value}
use Rattle.sc_print.proofs.symbols.abstract_value.Goals as goal

pub returns-then-is_bare : goal.returns-then-is_bare
returns-then-is_bare c = search (rules, bare_value)

pub returns-then-are_symbol_bytes : goal.returns-then-are_symbol_bytes
returns-then-are_symbol_bytes c = search (rules, half_value)

pub returns-else-are_symbol_bytes : goal.returns-else-are_symbol_bytes
returns-else-are_symbol_bytes c = search (rules, barred_value)
