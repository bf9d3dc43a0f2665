-- What is said to a command.
use Rattle.std.specs.Prelude.{ℕ, List}

-- the bytes that are written for it: the script goes on behind them, or ends with an error, or ends
pub data Said : Type 0 where
  Text : List ℕ → Said
  Error : List ℕ → Said
  Exit : List ℕ → Said
