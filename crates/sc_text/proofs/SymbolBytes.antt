-- The table of symbol bytes.
use Rattle.std.proofs.Common.{◌≡◌, ℕ, zero, suc, ◌+◌, ◌<◌, Bool, false, List, [], ◌∷◌, get_or, ap, ◌∙◌, arith}
use Rattle.sc_text.specs.Bytes.{is_symbol_byte}

-- what the function gives for so many numbers from one on
abbrev pub each_from : (ℕ → Bool) → ℕ → ℕ → List Bool
each_from f n zero = []
each_from f n (suc k) = f n ∷ each_from f (n + 1) k

at : (f : ℕ → Bool) (n k i : ℕ) → i < k → get_or (each_from f n k) i false ≡ f (n + i)
at f n zero i lt = absurd (omega (arith, lt))
at f n (suc k) zero lt = ap f (omega arith)
at f n (suc k) (suc i) lt = at f (n + 1) k i (omega (arith, lt)) ∙ ap f (omega arith)

pub symbol_byte_at : (b : ℕ) → b < 256 → get_or (each_from is_symbol_byte 0 256) b false ≡ is_symbol_byte b
symbol_byte_at b lt = at is_symbol_byte 0 256 b lt ∙ ap is_symbol_byte (omega arith)
