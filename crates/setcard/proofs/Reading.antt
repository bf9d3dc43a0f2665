-- The numbers that words give are 1 to 2^40.
use Rattle.std.proofs.Common.{◌≡◌, ◌==◌, if◌then◌else◌, ℕ, ◌+◌, ◌*◌, ◌-◌, ◌≤◌, ◌^◌, nat_le, nat_lt, Bool, true, false, ◌&&◌, List, [], ◌∷◌, length, take, drop, Option, Some, None, refl, arith}
use Rattle.std.specs.Prelude.{codes}
use Rattle.std.specs.Str.{bytes_eq}
use Rattle.sc_text.specs.Bytes.{is_digit}
use Rattle.setcard.specs.Words.{most_steps, default_steps, number_after, number, joined, apart, if_solve, steps_of}

abbrev IsWithin : ℕ → Type 0
IsWithin n = (1 ≤ n) × (n ≤ 2 ^ 40)

both : (a b : Bool) → (a && b) ≡ true → (a ≡ true) × (b ≡ true)
both true true e = (refl, refl)
both true false e = absurd cc
both false b e = absurd cc

at_most : (x y : ℕ) → nat_le x y ≡ true → x ≤ y
at_most x y e = grind (arith, e)

above : (b : ℕ) → is_digit b ≡ true → (b == 48) ≡ false → 1 ≤ b - 48
above b d e = grind (arith, d, e)

either : {A : Type 0} (m : ℕ) (c : Bool) (x y : Option ℕ) → (c ≡ true → x ≡ Some m → A) → (c ≡ false → y ≡ Some m → A) → (if c then x else y) ≡ Some m → A
either m true x y f g e = f refl e
either m false x y f g e = g refl e

abbrev no_number : Option ℕ
no_number = None

nothing : {A : Type 0} (m : ℕ) → no_number ≡ Some m → A
nothing m e = absurd cc

after : (n : ℕ) (bs : List ℕ) (m : ℕ) → n ≤ 2 ^ 40 → number_after n bs ≡ Some m → (n ≤ m) × (m ≤ 2 ^ 40)
after n [] m le e = let same : n ≡ m = cc in (omega (arith, same), omega (arith, same, le))
after n (b ∷ bs) m le e =
    either m (is_digit b && nat_le (n * 10 + (b - 48)) most_steps) (number_after (n * 10 + (b - 48)) bs) None
    (λ c q. let h = after (n * 10 + (b - 48)) bs m (at_most (n * 10 + (b - 48)) most_steps (both (is_digit b) (nat_le (n * 10 + (b - 48)) most_steps) c).1) q in (omega (arith, h.0), h.1))
    (λ c q. nothing m q)
    e

number_within : (bs : List ℕ) (m : ℕ) → number bs ≡ Some m → IsWithin m
number_within [] m e = nothing m e
number_within (b ∷ bs) m e =
    either m (b == 48) None (number_after 0 (b ∷ bs)) (λ c q. nothing m q)
    (λ zero q. either m (is_digit b && nat_le (0 * 10 + (b - 48)) most_steps) (number_after (0 * 10 + (b - 48)) bs) None
    (λ c p.
    let digit = both (is_digit b) (nat_le (0 * 10 + (b - 48)) most_steps) c in
    let h = after (0 * 10 + (b - 48)) bs m (at_most (0 * 10 + (b - 48)) most_steps digit.1) p in
    (omega (arith, h.0, above b digit.0 zero), h.1))
    (λ c p. nothing m p)
    q)
    e

joined_within : (word : List ℕ) (m : ℕ) → joined word ≡ Some m → IsWithin m
joined_within word m e =
    either m (nat_lt (length word) 9) None (if bytes_eq (codes "--budget=") (take 9 word) then number (drop 9 word) else None) (λ c q. nothing m q)
    (λ c q. either m (bytes_eq (codes "--budget=") (take 9 word)) (number (drop 9 word)) None (λ d p. number_within (drop 9 word) m p) (λ d p. nothing m p) q)
    e

apart_within : (option value : List ℕ) (m : ℕ) → apart option value ≡ Some m → IsWithin m
apart_within option value m e = either m (bytes_eq (codes "--budget") option) (number value) None (λ c q. number_within value m q) (λ c q. nothing m q) e

solve_within : (command : List ℕ) (steps : Option ℕ) (m : ℕ) → (steps ≡ Some m → IsWithin m) → if_solve command steps ≡ Some m → IsWithin m
solve_within command steps m f e = either m (bytes_eq (codes "solve") command) steps None (λ c q. f q) (λ c q. nothing m q) e

default_within : (m : ℕ) → Some default_steps ≡ Some m → IsWithin m
default_within m e = let same : default_steps ≡ m = cc in (omega (arith, same), omega (arith, same))

pub within : (words : List (List ℕ)) (m : ℕ) → steps_of words ≡ Some m → (1 ≤ m) × (m ≤ 2 ^ 40)
within [] m e = nothing m e
within (command ∷ []) m e = solve_within command (Some default_steps) m (default_within m) e
within (command ∷ option ∷ []) m e = solve_within command (joined option) m (joined_within option m) e
within (command ∷ option ∷ value ∷ []) m e = solve_within command (apart option value) m (apart_within option value m) e
within (command ∷ option ∷ value ∷ more ∷ others) m e = nothing m e
