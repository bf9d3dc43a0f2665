-- Look-ups by numbers that count from 1.
use Rattle.std.specs.Prelude.{ℕ, zero, suc, Option, None, List, slice_get}

-- the item with a number that counts from 1
abbrev pub item_at : {X : Type 0} → List X → ℕ → Option X
item_at xs zero = None
item_at xs (suc n) = slice_get xs n
