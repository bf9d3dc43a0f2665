-- Only a parenthesis is given as one, and the bytes of a token are those that it takes.
use Rattle.std.proofs.Common.{◌≡◌, ℕ, Bool, true, false, ◌&&◌, ◌==◌, if◌then◌else◌, List, [], ◌∷◌, take, Option, Some, None, refl, sym, subst}
use Rattle.std.specs.Prelude.{IfSome}
use Rattle.std.proofs.lemmas.Bool.{eqb-true}
use Rattle.sc_text.specs.declared.token.Kind.{Kind}
use Rattle.sc_text.specs.declared.token.Kind.TheVariants as kind
use Rattle.sc_text.specs.declared.mode.Mode.{Mode}
use Rattle.sc_text.specs.declared.mode.Mode.TheVariants as mode
use Rattle.sc_text.specs.declared.mode.Step.{Step}
use Rattle.sc_text.specs.declared.mode.Step.TheVariants as step
use Rattle.sc_text.specs.declared.front.Front.TheVariants.{Token, Open}
use Rattle.sc_text.specs.declared.front.Run.{Run}
use Rattle.sc_text.specs.declared.front.Run.TheVariants.{Takes, Ends, Fails}
use Rattle.sc_text.specs.Bytes.{is_digit, is_hex_digit, is_binary_digit, is_symbol_byte}
use Rattle.sc_text.specs.Modes.{IsBegun, first_mode, next_mode, closing, whole, is_number, stopped, going, closed, step_of, longer, after_step, run}
use Rattle.sc_text.specs.Fronts.{ended, front_of}
use Rattle.sc_text.specs.Readings.{named, text_of}

abbrev IsPlain : Kind → Type 0
IsPlain kind.Left = ⊥
IsPlain kind.Right = ⊥
IsPlain k = Unit {0}

plain_text : (k : Kind) (text : List ℕ) → IsPlain k → text_of (named k text) ≡ text
plain_text kind.Left text p = absurd p
plain_text kind.Right text p = absurd p
plain_text kind.Numeral text p = refl
plain_text kind.Foreign text p = refl
plain_text kind.Literal text p = refl
plain_text kind.Word text p = refl
plain_text kind.Quoted text p = refl
plain_text kind.Keyword text p = refl

-- ---- a token that has begun is no parenthesis

begun_or : (c : Bool) (m : Mode) (o : Option Mode) → IsBegun m → IfSome o IsBegun → IfSome (if c then Some m else o) IsBegun
begun_or true m o p q = p
begun_or false m o p q = q

first_begun : (b : ℕ) → IfSome (first_mode b) IsBegun
first_begun b =
    begun_or (b == 34) mode.Literal _ refl (begun_or (b == 124) mode.Quoted _ refl (begun_or (b == 58) mode.Colon _ refl (begun_or (b == 35) mode.Hash _ refl (begun_or (b == 48) mode.Zero _ refl (begun_or (is_digit b) mode.Digits _ refl (begun_or (is_symbol_byte b) mode.Symbol None refl tt))))))

next_begun : (m : Mode) (b : ℕ) → IfSome (next_mode m b) IsBegun
next_begun mode.Start b = first_begun b
next_begun mode.Symbol b = begun_or (is_symbol_byte b) mode.Symbol None refl tt
next_begun mode.Zero b = begun_or (b == 46) mode.Dot None refl tt
next_begun mode.Digits b = begun_or (is_digit b) mode.Digits _ refl (begun_or (b == 46) mode.Dot None refl tt)
next_begun mode.Dot b = begun_or (is_digit b) mode.Decimal None refl tt
next_begun mode.Decimal b = begun_or (is_digit b) mode.Decimal None refl tt
next_begun mode.Hash b = begun_or (b == 120) mode.HexStart _ refl (begun_or (b == 98) mode.BinaryStart None refl tt)
next_begun mode.HexStart b = begun_or (is_hex_digit b) mode.Hex None refl tt
next_begun mode.Hex b = begun_or (is_hex_digit b) mode.Hex None refl tt
next_begun mode.BinaryStart b = begun_or (is_binary_digit b) mode.Binary None refl tt
next_begun mode.Binary b = begun_or (is_binary_digit b) mode.Binary None refl tt
next_begun mode.Colon b = begun_or (is_symbol_byte b) mode.Keyword None refl tt
next_begun mode.Keyword b = begun_or (is_symbol_byte b) mode.Keyword None refl tt
next_begun mode.Literal b = begun_or (b == 34) mode.LiteralQuote (Some mode.Literal) refl refl
next_begun mode.LiteralQuote b = begun_or (b == 34) mode.Literal None refl tt
next_begun mode.Quoted b = quoted (b == 92)
  where
    quoted : (c : Bool) → IfSome (if c then None else Some mode.Quoted) IsBegun
    quoted true = tt
    quoted false = refl

whole_plain : (m : Mode) → IfSome (whole m) IsPlain
whole_plain mode.Start = tt
whole_plain mode.Symbol = tt
whole_plain mode.Zero = tt
whole_plain mode.Digits = tt
whole_plain mode.Dot = tt
whole_plain mode.Decimal = tt
whole_plain mode.Hash = tt
whole_plain mode.HexStart = tt
whole_plain mode.Hex = tt
whole_plain mode.BinaryStart = tt
whole_plain mode.Binary = tt
whole_plain mode.Colon = tt
whole_plain mode.Keyword = tt
whole_plain mode.Literal = tt
whole_plain mode.LiteralQuote = tt
whole_plain mode.Quoted = tt

closing_plain : (m : Mode) (b : ℕ) → IsBegun m → IfSome (closing m b) IsPlain
closing_plain mode.Start b p = absurd cc
closing_plain mode.Quoted b p = bar (b == 124)
  where
    bar : (c : Bool) → IfSome (if c then Some kind.Quoted else None) IsPlain
    bar true = tt
    bar false = tt
closing_plain mode.Symbol b p = tt
closing_plain mode.Zero b p = tt
closing_plain mode.Digits b p = tt
closing_plain mode.Dot b p = tt
closing_plain mode.Decimal b p = tt
closing_plain mode.Hash b p = tt
closing_plain mode.HexStart b p = tt
closing_plain mode.Hex b p = tt
closing_plain mode.BinaryStart b p = tt
closing_plain mode.Binary b p = tt
closing_plain mode.Colon b p = tt
closing_plain mode.Keyword b p = tt
closing_plain mode.Literal b p = tt
closing_plain mode.LiteralQuote b p = tt

abbrev IsPlainStep : Step → Type 0
IsPlainStep (step.Go m) = IsBegun m
IsPlainStep (step.Close k) = IsPlain k
IsPlainStep (step.Stop k) = IsPlain k
IsPlainStep step.Fault = Unit {0}

step_plain_by : (c : Option Kind) (n : Option Mode) (x : Bool) (w : Option Kind) → IfSome c IsPlain → IfSome n IsBegun → IfSome w IsPlain → IsPlainStep (closed c (going n (stopped x w)))
step_plain_by (Some k) n x w p q r = p
step_plain_by None (Some m) x w p q r = q
step_plain_by None None x None p q r = tt
step_plain_by None None true (Some k) p q r = tt
step_plain_by None None false (Some k) p q r = r

step_plain : (m : Mode) (b : ℕ) → IsBegun m → IsPlainStep (step_of m b)
unfolding step_of
step_plain m b p = step_plain_by (closing m b) (next_mode m b) (is_number m && is_symbol_byte b) (whole m) (closing_plain m b p) (next_begun m b) (whole_plain m)

abbrev IsPlainRun : Run → Type 0
IsPlainRun (Takes n k) = IsPlain k
IsPlainRun (Ends n m) = IsBegun m
IsPlainRun Fails = Unit {0}

longer_plain : (r : Run) → IsPlainRun r → IsPlainRun (longer r)
longer_plain (Takes n k) p = p
longer_plain (Ends n m) p = p
longer_plain Fails p = tt

after_plain : (s : Step) (bs : List ℕ) → IsPlainStep s → ((n : Mode) → IsBegun n → IsPlainRun (run n bs)) → IsPlainRun (after_step s (λ n. run n bs))
after_plain (step.Go m) bs p ih = longer_plain (run m bs) (ih m p)
after_plain (step.Close k) bs p ih = p
after_plain (step.Stop k) bs p ih = p
after_plain step.Fault bs p ih = tt

run_plain : (m : Mode) (bytes : List ℕ) → IsBegun m → IsPlainRun (run m bytes)
unfolding run
run_plain m [] p = p
run_plain m (b ∷ bs) p = after_plain (step_of m b) bs (step_plain m b p) (λ n. run_plain n bs)

-- ---- the first token

ended_plain : (n i : ℕ) (w : Option Kind) (k : Kind) → IfSome w IsPlain → ended i w ≡ Token k n → IsPlain k
ended_plain n i None k p e = absurd cc
ended_plain n i (Some j) k p e = let same : j ≡ k = cc in subst IsPlain same p

ends_plain : (last : Bool) (n i : ℕ) (w : Option Kind) (k : Kind) → IfSome w IsPlain → (if last then ended i w else Open) ≡ Token k n → IsPlain k
ends_plain true n i w k p e = ended_plain n i w k p e
ends_plain false n i w k p e = absurd cc

front_plain : (last : Bool) (r : Run) (k : Kind) (n : ℕ) → IsPlainRun r → front_of last r ≡ Token k n → IsPlain k
front_plain last (Takes i j) k n p e = let same : j ≡ k = cc in subst IsPlain same p
front_plain last (Ends i m) k n p e = ends_plain last n i (whole m) k (whole_plain m) e
front_plain last Fails k n p e = absurd cc

-- a parenthesis
paren_text : (p k : Kind) (c b n : ℕ) (bs : List ℕ) → text_of (named p (b ∷ [])) ≡ c ∷ [] → b ≡ c → Token p 1 ≡ Token k n → text_of (named k (take n (b ∷ bs))) ≡ take n (b ∷ bs)
paren_text p k c b n bs is at e =
    let same : p ≡ k = cc in
    let len : 1 ≡ n = cc in
    subst (λ (j : Kind). text_of (named j (take n (b ∷ bs))) ≡ take n (b ∷ bs)) same (subst (λ (i : ℕ). text_of (named p (take i (b ∷ bs))) ≡ take i (b ∷ bs)) len (subst (λ (d : ℕ). text_of (named p (b ∷ [])) ≡ d ∷ []) (sym at) is))

other_text : (last s : Bool) (o : Option Mode) (b : ℕ) (bs : List ℕ) (k : Kind) (n : ℕ) → IfSome o IsBegun → front_of last (after_step (going o (stopped s None)) (λ m. run m bs)) ≡ Token k n → text_of (named k (take n (b ∷ bs))) ≡ take n (b ∷ bs)
other_text last s None b bs k n p e = absurd cc
other_text last s (Some m) b bs k n p e = plain_text k (take n (b ∷ bs)) (front_plain last (longer (run m bs)) k n (longer_plain (run m bs) (run_plain m bs p)) e)

start_text : (x y : Bool) (last s : Bool) (o : Option Mode) (b : ℕ) (bs : List ℕ) (k : Kind) (n : ℕ) → (x ≡ true → b ≡ 40) → (y ≡ true → b ≡ 41) → IfSome o IsBegun
    → front_of last (after_step (closed (if x then Some kind.Left else if y then Some kind.Right else None) (going o (stopped s None))) (λ m. run m bs)) ≡ Token k n
    → text_of (named k (take n (b ∷ bs))) ≡ take n (b ∷ bs)
start_text true y last s o b bs k n at40 at41 p e = paren_text kind.Left k 40 b n bs refl (at40 refl) e
start_text false true last s o b bs k n at40 at41 p e = paren_text kind.Right k 41 b n bs refl (at41 refl) e
start_text false false last s o b bs k n at40 at41 p e = other_text last s o b bs k n p e

-- the bytes of the token that begins with this byte are those that it takes
pub text_taken : (last : Bool) (b : ℕ) (bs : List ℕ) (k : Kind) (n : ℕ) → front_of last (run mode.Start (b ∷ bs)) ≡ Token k n → text_of (named k (take n (b ∷ bs))) ≡ take n (b ∷ bs)
unfolding run step_of
text_taken last b bs k n e = start_text (b == 40) (b == 41) last (is_number mode.Start && is_symbol_byte b) (first_mode b) b bs k n (eqb-true b 40) (eqb-true b 41) (first_begun b) e
