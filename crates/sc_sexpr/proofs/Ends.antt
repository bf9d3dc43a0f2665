-- Where symbols and numerals end.
use Rattle.std.proofs.Common.{◌≡◌, ℕ, zero, suc, ◌+◌, ◌-◌, ◌<◌, ◌≤◌, Bool, true, false, ◌||◌, ◌==◌, List, drop, length, get_or, refl, sym, ap, ◌∙◌, arith, subst}
use Rattle.std.specs.List.{prefix_len}
use Rattle.std.proofs.lemmas.List.{get_or-drop, length-drop}
use Rattle.std.proofs.lemmas.List.Sums.{prefix_len_passes, prefix_len_stops}
use Rattle.sc_text.specs.declared.token.Kind.TheVariants as kind
use Rattle.sc_text.specs.declared.mode.Mode.TheVariants as mode
use Rattle.sc_text.specs.Bytes.{is_letter, is_digit, is_mark, is_symbol_byte}
use Rattle.sc_text.proofs.Starts.{begins_symbol, begins_digits, symbol_stops, digit_goes, digits_stop}
use Rattle.sc_text.proofs.Walks.{stays_goes}
use Rattle.sc_sexpr.specs.Passes.{IsToken}

-- bytes of one kind from a place on, and one behind them that is none
record Span (p : ℕ → Bool) (bytes : List ℕ) (at count : ℕ) : Type 0 where
  pub some : 0 < count
  pub within : at + count < length bytes
  pub each : (i : ℕ) → at ≤ i → i < at + count → p (get_or bytes i 0) ≡ true
  pub behind : p (get_or bytes (at + count) 0) ≡ false

some_of : (p : ℕ → Bool) (bytes : List ℕ) (at count : ℕ) → at + count < length bytes → p (get_or bytes at 0) ≡ true → p (get_or bytes (at + count) 0) ≡ false → 0 < count
some_of p bytes at zero lt first behind =
    let same : at + 0 ≡ at = omega arith in
    let h : true ≡ false = sym first ∙ ap (λ (k : ℕ). p (get_or bytes k 0)) (sym same) ∙ behind in
    absurd cc
some_of p bytes at (suc count) lt first behind = omega arith

span_of : (p : ℕ → Bool) (bytes : List ℕ) (at count : ℕ) → at < length bytes → count ≡ prefix_len p (drop at bytes) → count < length (drop at bytes) → p (get_or bytes at 0) ≡ true → Span p bytes at count
span_of p bytes at count lt is short first =
    let within : at + count < length bytes = omega (arith, short, length-drop at bytes, lt) in
    let stop : p (get_or (drop at bytes) count 0) ≡ false = ap (λ (k : ℕ). p (get_or (drop at bytes) k 0)) is ∙ prefix_len_stops p (drop at bytes) 0 (subst (λ (k : ℕ). k < length (drop at bytes)) is short) in
    let behind : p (get_or bytes (at + count) 0) ≡ false = ap p (sym (get_or-drop at bytes count 0)) ∙ stop in
    record {
      some = some_of p bytes at count within first behind;
      within = within;
      each = λ i le less.
          let there : at + (i - at) ≡ i = omega (arith, le) in
          let before : i - at < prefix_len p (drop at bytes) = omega (arith, is, le, less) in
          ap (λ (k : ℕ). p (get_or bytes k 0)) (sym there) ∙ ap p (sym (get_or-drop at bytes (i - at) 0)) ∙ prefix_len_passes p (drop at bytes) (i - at) 0 before;
      behind = behind;
    }

pub word_ends_at : (bytes : List ℕ) (at count : ℕ) → at < length bytes → is_symbol_byte (get_or bytes at 0) ≡ true → is_digit (get_or bytes at 0) ≡ false → count ≡ prefix_len is_symbol_byte (drop at bytes) → count < length (drop at bytes) → IsToken bytes at (at + count)
word_ends_at bytes at count lt symbol letter is short =
    let s : Span is_symbol_byte bytes at count = span_of is_symbol_byte bytes at count lt is short symbol in
    record {
      reached = mode.Symbol;
      made = kind.Word;
      order = omega (arith, s.some);
      within = s.within;
      begun = refl;
      begins = begins_symbol (get_or bytes at 0) symbol letter;
      goes = λ i le less. stays_goes mode.Symbol (get_or bytes i 0) (s.each i (omega (arith, le)) less);
      stops = symbol_stops (get_or bytes (at + count) 0) s.behind;
      symbols = s.each;
    }

digit_symbol_by : (letter digit mark : Bool) → digit ≡ true → (letter || digit || mark) ≡ true
digit_symbol_by true digit mark e = refl
digit_symbol_by false true mark e = refl
digit_symbol_by false false mark e = cc

digit_symbol : (b : ℕ) → is_digit b ≡ true → is_symbol_byte b ≡ true
unfolding is_symbol_byte
digit_symbol b e = digit_symbol_by (is_letter b) (is_digit b) (is_mark b) e

pub numeral_ends_at : (bytes : List ℕ) (at count : ℕ) → at < length bytes → is_digit (get_or bytes at 0) ≡ true → (get_or bytes at 0 == 48) ≡ false → count ≡ prefix_len is_digit (drop at bytes) → count < length (drop at bytes) → is_symbol_byte (get_or (drop at bytes) count 0) ≡ false → IsToken bytes at (at + count)
numeral_ends_at bytes at count lt digit some is short none =
    let s : Span is_digit bytes at count = span_of is_digit bytes at count lt is short digit in
    record {
      reached = mode.Digits;
      made = kind.Numeral;
      order = omega (arith, s.some);
      within = s.within;
      begun = refl;
      begins = begins_digits (get_or bytes at 0) digit some;
      goes = λ i le less. digit_goes (get_or bytes i 0) (s.each i (omega (arith, le)) less);
      stops = digits_stop (get_or bytes (at + count) 0) s.behind (ap is_symbol_byte (sym (get_or-drop at bytes count 0)) ∙ none);
      symbols = λ i le less. digit_symbol (get_or bytes i 0) (s.each i le less);
    }
