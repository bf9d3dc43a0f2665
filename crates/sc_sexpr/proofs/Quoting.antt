-- Which tokens are quoted.
use Rattle.std.proofs.Common.{◌≡◌, ℕ, Bool, true, false, ◌||◌, ◌==◌, if◌then◌else◌, List, [], ◌∷◌, Option, Some, None, refl, sym, ap, ◌∙◌}
use Rattle.sc_text.specs.declared.mode.Mode.{Mode}
use Rattle.sc_text.specs.declared.mode.Mode.TheVariants as mode
use Rattle.sc_text.specs.declared.mode.Step.{Step}
use Rattle.sc_text.specs.declared.mode.Step.TheVariants as step
use Rattle.sc_text.specs.declared.front.Run.TheVariants.{Ends}
use Rattle.sc_text.specs.Bytes.{is_digit, is_hex_digit, is_binary_digit, is_symbol_byte}
use Rattle.sc_text.specs.Modes.{is_start, is_unclosed, whole, next_mode, step_of, after_step, run}
use Rattle.sc_sexpr.proofs.AtHand.{step_goes, step_next}
use Rattle.sc_sexpr.proofs.Running.{run_cons, run_empty, longer_ends}

abbrev quoting : Mode → Bool
quoting mode.Literal = true
quoting mode.LiteralQuote = true
quoting mode.Quoted = true
quoting m = false

first_by : (n : Mode) (a c d e f g h : Bool) → (if a then Some mode.Literal else if c then Some mode.Quoted else if d then Some mode.Colon else if e then Some mode.Hash else if f then Some mode.Zero else if g then Some mode.Digits else if h then Some mode.Symbol else None) ≡ Some n → quoting n ≡ (a || c)
first_by n true c d e f g h is = let same : mode.Literal ≡ n = cc in sym (ap quoting same)
first_by n false true d e f g h is = let same : mode.Quoted ≡ n = cc in sym (ap quoting same)
first_by n false false true e f g h is = let same : mode.Colon ≡ n = cc in sym (ap quoting same)
first_by n false false false true f g h is = let same : mode.Hash ≡ n = cc in sym (ap quoting same)
first_by n false false false false true g h is = let same : mode.Zero ≡ n = cc in sym (ap quoting same)
first_by n false false false false false true h is = let same : mode.Digits ≡ n = cc in sym (ap quoting same)
first_by n false false false false false false true is = let same : mode.Symbol ≡ n = cc in sym (ap quoting same)
first_by n false false false false false false false is = cc

one_of : (n : Mode) (v c : Bool) (x y : Option Mode) → (x ≡ Some n → quoting n ≡ v) → (y ≡ Some n → quoting n ≡ v) → (if c then x else y) ≡ Some n → quoting n ≡ v
one_of n v true x y p q e = p e
one_of n v false x y p q e = q e

is_mode : (n m : Mode) (v : Bool) → quoting m ≡ v → Some m ≡ Some n → quoting n ≡ v
is_mode n m v q e = let same : m ≡ n = cc in sym (ap quoting same) ∙ q

never : (n : Mode) (v : Bool) → None ≡ Some n → quoting n ≡ v
never n v e = cc

next_keeps : (m : Mode) (b : ℕ) (n : Mode) → is_start m ≡ false → next_mode m b ≡ Some n → quoting n ≡ quoting m
next_keeps mode.Start b n s = cc
next_keeps mode.Symbol b n s = one_of n false (is_symbol_byte b) _ _ (is_mode n mode.Symbol false refl) (never n false)
next_keeps mode.Zero b n s = one_of n false (b == 46) _ _ (is_mode n mode.Dot false refl) (never n false)
next_keeps mode.Digits b n s = one_of n false (is_digit b) _ _ (is_mode n mode.Digits false refl) (one_of n false (b == 46) _ _ (is_mode n mode.Dot false refl) (never n false))
next_keeps mode.Dot b n s = one_of n false (is_digit b) _ _ (is_mode n mode.Decimal false refl) (never n false)
next_keeps mode.Decimal b n s = one_of n false (is_digit b) _ _ (is_mode n mode.Decimal false refl) (never n false)
next_keeps mode.Hash b n s = one_of n false (b == 120) _ _ (is_mode n mode.HexStart false refl) (one_of n false (b == 98) _ _ (is_mode n mode.BinaryStart false refl) (never n false))
next_keeps mode.HexStart b n s = one_of n false (is_hex_digit b) _ _ (is_mode n mode.Hex false refl) (never n false)
next_keeps mode.Hex b n s = one_of n false (is_hex_digit b) _ _ (is_mode n mode.Hex false refl) (never n false)
next_keeps mode.BinaryStart b n s = one_of n false (is_binary_digit b) _ _ (is_mode n mode.Binary false refl) (never n false)
next_keeps mode.Binary b n s = one_of n false (is_binary_digit b) _ _ (is_mode n mode.Binary false refl) (never n false)
next_keeps mode.Colon b n s = one_of n false (is_symbol_byte b) _ _ (is_mode n mode.Keyword false refl) (never n false)
next_keeps mode.Keyword b n s = one_of n false (is_symbol_byte b) _ _ (is_mode n mode.Keyword false refl) (never n false)
next_keeps mode.Literal b n s = one_of n true (b == 34) _ _ (is_mode n mode.LiteralQuote true refl) (is_mode n mode.Literal true refl)
next_keeps mode.LiteralQuote b n s = one_of n true (b == 34) _ _ (is_mode n mode.Literal true refl) (never n true)
next_keeps mode.Quoted b n s = one_of n true (b == 92) _ _ (never n true) (is_mode n mode.Quoted true refl)

keeps_by : (s : Step) (m : Mode) (b : ℕ) (bs : List ℕ) (n : ℕ) (m' : Mode) → is_start m ≡ false → step_of m b ≡ s → after_step s (λ x. run x bs) ≡ Ends n m' → ((m'' : Mode) (j : ℕ) → is_start m'' ≡ false → run m'' bs ≡ Ends j m' → quoting m' ≡ quoting m'') → quoting m' ≡ quoting m
keeps_by (step.Go m'') m b bs n m' st e f ih =
    let one : (j : ℕ) × (run m'' bs ≡ Ends j m') = longer_ends (run m'' bs) n m' f in
    ih m'' one.0 (step_goes m b m'' e) one.1 ∙ next_keeps m b m'' st (step_next m b m'' e)
keeps_by (step.Close k) m b bs n m' st e f ih = cc
keeps_by (step.Stop k) m b bs n m' st e f ih = cc
keeps_by step.Fault m b bs n m' st e f ih = cc

run_keeps : (xs : List ℕ) (m : Mode) (n : ℕ) (m' : Mode) → is_start m ≡ false → run m xs ≡ Ends n m' → quoting m' ≡ quoting m
run_keeps [] m n m' st f = same_mode (sym (run_empty m) ∙ f)
  where
    same_mode : Ends 0 m ≡ Ends n m' → quoting m' ≡ quoting m
    same_mode e = let same : m ≡ m' = cc in sym (ap quoting same)
run_keeps (b ∷ bs) m n m' st f = keeps_by (step_of m b) m b bs n m' st refl (sym (run_cons m b bs (step_of m b) refl) ∙ f) (λ m'' j st' f'. run_keeps bs m'' j m' st' f')

cut_quoting : (m : Mode) → whole m ≡ None → is_unclosed m ≡ quoting m
cut_quoting mode.Start e = refl
cut_quoting mode.Symbol e = refl
cut_quoting mode.Zero e = refl
cut_quoting mode.Digits e = refl
cut_quoting mode.Dot e = refl
cut_quoting mode.Decimal e = refl
cut_quoting mode.Hash e = refl
cut_quoting mode.HexStart e = refl
cut_quoting mode.Hex e = refl
cut_quoting mode.BinaryStart e = refl
cut_quoting mode.Binary e = refl
cut_quoting mode.Colon e = refl
cut_quoting mode.Keyword e = refl
cut_quoting mode.Literal e = refl
cut_quoting mode.LiteralQuote e = cc
cut_quoting mode.Quoted e = refl

-- a token that the text leaves open is quoted where its first byte is a quote
pub open_quote : (b : ℕ) (bs : List ℕ) (m : Mode) (n : ℕ) (m' : Mode) → step_of mode.Start b ≡ step.Go m → run m bs ≡ Ends n m' → whole m' ≡ None → is_unclosed m' ≡ (b == 34 || b == 124)
open_quote b bs m n m' e f w =
    cut_quoting m' w ∙ run_keeps bs m n m' (step_goes mode.Start b m e) f
    ∙ first_by m (b == 34) (b == 124) (b == 58) (b == 35) (b == 48) (is_digit b) (is_symbol_byte b) (step_next mode.Start b m e)
