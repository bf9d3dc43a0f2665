-- What a call of a source or a sink in memory answers and takes.
use Rattle.std.proofs.Common.{◌≡◌, ◌==◌, ℕ, ◌+◌, Bool, List, ◌++◌, length, take, drop, sym, subst}
use Rattle.std.proofs.lemmas.List.{take-append-drop, take_at, drop-drop}
use Rattle.std.specs.List.{list_any}

-- whether a number is listed, under another name of the number
pub listed_as : (failing : List ℕ) (call next : ℕ) (b : Bool) → call ≡ next → list_any (λ k. k == call) failing ≡ b → list_any (λ k. k == next) failing ≡ b
listed_as failing call next b e p = subst (λ n. list_any (λ k. k == n) failing ≡ b) e p

-- the bytes that were left are those in the front of the buffer, and then those that are left now
pub taken : (at n : ℕ) (bytes copied rest : List ℕ) → length copied ≡ n → copied ≡ take n (drop at bytes) → drop at bytes ≡ take n (copied ++ rest) ++ drop (at + n) bytes
taken at n bytes copied rest len e =
    rw (take_at copied rest n len, e, ← drop-drop n at bytes) (sym (take-append-drop n (drop at bytes)))
