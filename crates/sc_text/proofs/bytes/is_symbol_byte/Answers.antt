use Rattle.std.proofs.Common.{arith}
use Rattle.sc_text.specs.Bytes.{is_symbol_byte}
use Rattle.sc_text.proofs.SymbolBytes.{symbol_byte_at}
use Rattle.sc_text.proofs.bytes.is_symbol_byte.Goals as goal

pub returns : goal.returns
unfolding is_symbol_byte
returns c = symbol_byte_at c.args.byte (omega (arith, c.ranges.byte.fits))
