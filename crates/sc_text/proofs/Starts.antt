-- Symbols and numerals, by the byte that begins them and the byte behind them.
use Rattle.std.proofs.Common.{◌≡◌, ℕ, suc, ◌+◌, ◌<◌, ◌≤◌, Bool, true, false, ◌==◌, cond, List, [], ◌∷◌, length, drop, get_or, slice_get, Some, refl, sym, ap, ◌∙◌, arith, subst}
use Rattle.std.specs.List.{prefix_len}
use Rattle.std.proofs.lemmas.Bool.{eqb-true}
use Rattle.std.proofs.lemmas.List.Sums.{prefix_len_stops, prefix_len-le-length}
use Rattle.sc_text.specs.declared.token.Kind.TheVariants as kind
use Rattle.sc_text.specs.declared.mode.Mode.{Mode}
use Rattle.sc_text.specs.declared.mode.Mode.TheVariants as mode
use Rattle.sc_text.specs.declared.mode.Step.TheVariants as step
use Rattle.sc_text.specs.declared.front.Run.TheVariants.{Takes, Ends}
use Rattle.sc_text.specs.Bytes.{is_digit, is_symbol_byte}
use Rattle.sc_text.specs.Modes.{step_of, run, stays}
use Rattle.sc_text.proofs.Walks.{further, run_begins, run_goes, run_spans, run_stops, run_ends, passes}

-- a byte with a property that another lacks is not that one
pub other : (p : ℕ → Bool) (b k : ℕ) → p b ≡ true → p k ≡ false → (b == k) ≡ false
other p b k here there = by (b == k) refl
  where
    by : (t : Bool) → (b == k) ≡ t → t ≡ false
    by true e = let same : b ≡ k = eqb-true b k e in let h : true ≡ false = sym here ∙ ap p same ∙ there in absurd cc
    by false e = refl

-- no symbol begins otherwise than with one of its bytes
pub record IsNoOther (b : ℕ) : Type 0 where
  pub left : (b == 40) ≡ false
  pub right : (b == 41) ≡ false
  pub literal : (b == 34) ≡ false
  pub bar : (b == 124) ≡ false
  pub colon : (b == 58) ≡ false
  pub hash : (b == 35) ≡ false

symbol_no_other : (b : ℕ) → is_symbol_byte b ≡ true → IsNoOther b
unfolding is_symbol_byte
symbol_no_other b s = record {
  left = other is_symbol_byte b 40 s refl;
  right = other is_symbol_byte b 41 s refl;
  literal = other is_symbol_byte b 34 s refl;
  bar = other is_symbol_byte b 124 s refl;
  colon = other is_symbol_byte b 58 s refl;
  hash = other is_symbol_byte b 35 s refl;
}

no_zero : (b : ℕ) → is_digit b ≡ false → (b == 48) ≡ false
no_zero b d = by (b == 48) refl
  where
    by : (t : Bool) → (b == 48) ≡ t → t ≡ false
    by true e = let h : true ≡ false = ap is_digit (sym (eqb-true b 48 e)) ∙ d in absurd cc
    by false e = refl

-- a symbol byte that is no digit begins a symbol
pub begins_symbol : (b : ℕ) → is_symbol_byte b ≡ true → is_digit b ≡ false → step_of mode.Start b ≡ step.Go mode.Symbol
unfolding step_of
begins_symbol b s d =
    let n : IsNoOther b = symbol_no_other b s in
    rw (n.left, n.right, n.literal, n.bar, n.colon, n.hash, no_zero b d, d, s) refl

-- a digit but 0 begins a numeral
pub begins_digits : (b : ℕ) → is_digit b ≡ true → (b == 48) ≡ false → step_of mode.Start b ≡ step.Go mode.Digits
unfolding step_of
begins_digits b d z =
    rw (other is_digit b 40 d refl, other is_digit b 41 d refl, other is_digit b 34 d refl, other is_digit b 124 d refl, other is_digit b 58 d refl, other is_digit b 35 d refl, z, d) refl

-- behind the first byte
behind_first : (m : Mode) (bytes : List ℕ) (b : ℕ) → slice_get bytes 0 ≡ Some b → step_of mode.Start b ≡ step.Go m → run mode.Start bytes ≡ further 1 (run m (drop 1 bytes))
behind_first m [] b is goes = cc
behind_first m (x ∷ xs) b is goes =
    let same : x ≡ b = cc in
    run_goes _ mode.Start m (x ∷ xs) 0 (omega arith) (run_begins (x ∷ xs)) (ap (step_of mode.Start) same ∙ goes)

pub symbol_stops : (b : ℕ) → is_symbol_byte b ≡ false → step_of mode.Symbol b ≡ step.Stop kind.Word
unfolding step_of
symbol_stops b e = rw e refl

stops_at : (p : ℕ → Bool) (bytes : List ℕ) (len : ℕ) → len ≡ 1 + prefix_len p (drop 1 bytes) → len < length bytes → p (get_or bytes len 0) ≡ false
stops_at p [] len is lt = absurd (omega arith)
stops_at p (x ∷ xs) len is lt =
    let short : prefix_len p xs < length xs = omega (arith, is, lt) in
    let at : len ≡ suc (prefix_len p xs) = omega (arith, is) in
    ap (λ (k : ℕ). p (get_or (x ∷ xs) k 0)) at ∙ prefix_len_stops p xs 0 short

symbol_run : (bytes : List ℕ) (b len : ℕ) → slice_get bytes 0 ≡ Some b → is_symbol_byte b ≡ true → is_digit b ≡ false → len ≡ 1 + prefix_len (stays mode.Symbol) (drop 1 bytes) → run mode.Start bytes ≡ further len (run mode.Symbol (drop len bytes))
symbol_run bytes b len first s d is = run_spans _ mode.Symbol bytes 1 len is (behind_first mode.Symbol bytes b first (begins_symbol b s d))

pub word_takes : (bytes : List ℕ) (b len : ℕ) → slice_get bytes 0 ≡ Some b → is_symbol_byte b ≡ true → is_digit b ≡ false → len ≡ 1 + prefix_len (stays mode.Symbol) (drop 1 bytes) → len < length bytes → Takes len kind.Word ≡ run mode.Start bytes
word_takes bytes b len first s d is lt =
    sym (run_stops _ mode.Symbol kind.Word bytes len lt (symbol_run bytes b len first s d is) (symbol_stops _ (stops_at is_symbol_byte bytes len is lt)))

pub word_ends : (bytes : List ℕ) (b len : ℕ) → slice_get bytes 0 ≡ Some b → is_symbol_byte b ≡ true → is_digit b ≡ false → len ≡ 1 + prefix_len (stays mode.Symbol) (drop 1 bytes) → len ≡ length bytes → Ends (length bytes) mode.Symbol ≡ run mode.Start bytes
word_ends bytes b len first s d is all = sym (run_ends _ mode.Symbol bytes len all (symbol_run bytes b len first s d is))

pub digit_goes : (b : ℕ) → is_digit b ≡ true → step_of mode.Digits b ≡ step.Go mode.Digits
unfolding step_of
digit_goes b d = rw d refl

no_dot : (b : ℕ) → is_symbol_byte b ≡ false → (b == 46) ≡ false
unfolding is_symbol_byte
no_dot b s = by (b == 46) refl
  where
    by : (t : Bool) → (b == 46) ≡ t → t ≡ false
    by true e = let h : true ≡ false = ap is_symbol_byte (sym (eqb-true b 46 e)) ∙ s in absurd cc
    by false e = refl

-- a byte behind digits that no symbol may hold ends the numeral
pub digits_stop : (b : ℕ) → is_digit b ≡ false → is_symbol_byte b ≡ false → step_of mode.Digits b ≡ step.Stop kind.Numeral
unfolding step_of
digits_stop b d s = rw (d, no_dot b s, s) refl

first_counts : (bytes : List ℕ) (b len : ℕ) → slice_get bytes 0 ≡ Some b → is_digit b ≡ true → len ≡ prefix_len is_digit bytes → len ≡ 1 + prefix_len is_digit (drop 1 bytes)
first_counts [] b len first d is = cc
first_counts (x ∷ xs) b len first d is =
    let same : x ≡ b = cc in
    is ∙ ap (λ (t : Bool). cond t (1 + prefix_len is_digit xs) 0) (ap is_digit same ∙ d)

digits_run : (bytes : List ℕ) (b len : ℕ) → slice_get bytes 0 ≡ Some b → is_digit b ≡ true → (b == 48) ≡ false → len ≡ prefix_len is_digit bytes → run mode.Start bytes ≡ further len (run mode.Digits (drop len bytes))
digits_run bytes b len first d z is =
    let count : len ≡ 1 + prefix_len is_digit (drop 1 bytes) = first_counts bytes b len first d is in
    passes is_digit _ mode.Digits bytes 1 (prefix_len is_digit (drop 1 bytes)) digit_goes (omega arith) (behind_first mode.Digits bytes b first (begins_digits b d z))
    ∙ ap (λ (k : ℕ). further k (run mode.Digits (drop k bytes))) (sym count)

pub number_ends : (bytes : List ℕ) (b len : ℕ) → slice_get bytes 0 ≡ Some b → is_digit b ≡ true → (b == 48) ≡ false → len ≡ prefix_len is_digit bytes → length bytes ≤ len → Ends (length bytes) mode.Digits ≡ run mode.Start bytes
number_ends bytes b len first d z is past =
    let within : len ≤ length bytes = omega (arith, is, prefix_len-le-length is_digit bytes) in
    sym (run_ends _ mode.Digits bytes len (omega (arith, within, past)) (digits_run bytes b len first d z is))

pub number_takes : (bytes : List ℕ) (b c len : ℕ) → slice_get bytes 0 ≡ Some b → is_digit b ≡ true → (b == 48) ≡ false → len ≡ prefix_len is_digit bytes → len < length bytes → get_or bytes len 0 ≡ c → is_symbol_byte c ≡ false → Takes len kind.Numeral ≡ run mode.Start bytes
number_takes bytes b c len first d z is lt at s =
    let none : is_digit (get_or bytes len 0) ≡ false = ap (λ (k : ℕ). is_digit (get_or bytes k 0)) is ∙ prefix_len_stops is_digit bytes 0 (subst (λ (k : ℕ). k < length bytes) is lt) in
    sym (run_stops _ mode.Digits kind.Numeral bytes len lt (digits_run bytes b len first d z is) (digits_stop (get_or bytes len 0) none (ap is_symbol_byte at ∙ s)))
