-- What stands at the front, by the parts that a lexer cuts a text into.
use Rattle.std.proofs.Common.{◌≡◌, ℕ, ◌+◌, ◌<◌, ◌≤◌, Bool, true, false, not, ◌&&◌, if◌then◌else◌, Option, Some, None, List, [], ◌∷◌, suc, length, drop, refl, sym, ap, ◌∙◌, arith}
use Rattle.sc_text.specs.declared.front.Gap.{Gap}
use Rattle.sc_text.specs.declared.front.Front.{Front}
use Rattle.sc_text.specs.declared.front.Front.TheVariants.{Nothing, Token, Open}
use Rattle.sc_text.specs.declared.front.Run.{Run}
use Rattle.sc_text.specs.declared.front.Run.TheVariants.{Takes, Ends, Fails}
use Rattle.sc_text.specs.declared.token.Kind.{Kind}
use Rattle.sc_text.specs.declared.mode.Mode.{Mode}
use Rattle.sc_text.specs.declared.mode.Mode.TheVariants as mode
use Rattle.sc_text.specs.declared.mode.Step.{Step}
use Rattle.sc_text.specs.declared.mode.Step.TheVariants as step
use Rattle.sc_text.specs.Modes.{closing, next_mode, whole, closed, going, stopped, step_of, longer, after_step, run}
use Rattle.sc_text.specs.Fronts.{gap, after_gap, ended, front_of, front_at, front, run_fits}

pub front_found : (last : Bool) (bytes rest : List ℕ) (g : Gap) {f : Front} → g ≡ gap false bytes → rest ≡ drop g.len bytes → front_at last g.comment rest ≡ f → front last bytes ≡ f
unfolding front
front_found last bytes rest g is cut at =
    ap (λ (h : Gap). front_at last h.comment (drop h.len bytes)) (sym is) ∙ ap (front_at last g.comment) (sym cut) ∙ at

-- A token has bytes.

no_stop : (c : Option Kind) (n : Option Mode) (x : Bool) (k : Kind) → closed c (going n (stopped x None)) ≡ step.Stop k → ⊥
no_stop None None x k e = cc
no_stop None (Some m) x k e = cc
no_stop (Some j) n x k e = cc

never_stops : (b : ℕ) (k : Kind) → step_of mode.Start b ≡ step.Stop k → ⊥
unfolding step_of
never_stops b k e = no_stop (closing mode.Start b) (next_mode mode.Start b) false k e

takes_some_longer : (r : Run) (n : ℕ) (k : Kind) → longer r ≡ Takes n k → 0 < n
takes_some_longer (Takes i j) n k e = let same : i + 1 ≡ n = cc in omega arith
takes_some_longer (Ends i m) n k e = cc
takes_some_longer Fails n k e = cc

takes_some_step : (s : Step) (rest : Mode → Run) (n : ℕ) (k : Kind) → ((j : Kind) → s ≡ step.Stop j → ⊥) → after_step s rest ≡ Takes n k → 0 < n
takes_some_step (step.Go m) rest n k p e = takes_some_longer (rest m) n k e
takes_some_step (step.Close j) rest n k p e = let same : 1 ≡ n = cc in omega arith
takes_some_step (step.Stop j) rest n k p e = absurd (p j refl)
takes_some_step step.Fault rest n k p e = cc

takes_some : (b : ℕ) (bs : List ℕ) (n : ℕ) (k : Kind) → run mode.Start (b ∷ bs) ≡ Takes n k → 0 < n
unfolding run
takes_some b bs n k e = takes_some_step (step_of mode.Start b) (λ m. run m bs) n k (λ j. never_stops b j) e

ends_all_longer : (r : Run) (i : ℕ) (m : Mode) (bs : List ℕ) → ((i' : ℕ) (m' : Mode) → r ≡ Ends i' m' → i' ≡ length bs) → longer r ≡ Ends i m → i ≡ suc (length bs)
ends_all_longer (Takes j k) i m bs ih e = cc
ends_all_longer (Ends j n) i m bs ih e = let same : j + 1 ≡ i = cc in let all : j ≡ length bs = ih j n refl in omega arith
ends_all_longer Fails i m bs ih e = cc

ends_all_step : (s : Step) (bs : List ℕ) (i : ℕ) (m : Mode) → ((n : Mode) (i' : ℕ) (m' : Mode) → run n bs ≡ Ends i' m' → i' ≡ length bs) → after_step s (λ n. run n bs) ≡ Ends i m → i ≡ suc (length bs)
ends_all_step (step.Go n) bs i m ih e = ends_all_longer (run n bs) i m bs (ih n) e
ends_all_step (step.Close j) bs i m ih e = cc
ends_all_step (step.Stop j) bs i m ih e = cc
ends_all_step step.Fault bs i m ih e = cc

pub ends_all : (m : Mode) (bytes : List ℕ) (i : ℕ) (n : Mode) → run m bytes ≡ Ends i n → i ≡ length bytes
unfolding run
ends_all m [] i n e = let same : 0 ≡ i = cc in omega arith
ends_all m (b ∷ bs) i n e = ends_all_step (step_of m b) bs i n (λ m' i' n'. ends_all m' bs i' n') e

ended_some : (i : ℕ) (w : Option Kind) (k : Kind) (n : ℕ) → 0 < i → ended i w ≡ Token k n → 0 < n
ended_some i None k n lt e = cc
ended_some i (Some j) k n lt e = let same : i ≡ n = cc in omega arith

open_some : (last : Bool) (i : ℕ) (w : Option Kind) (k : Kind) (n : ℕ) → 0 < i → (if last then ended i w else Open) ≡ Token k n → 0 < n
open_some true i w k n lt e = ended_some i w k n lt e
open_some false i w k n lt e = cc

token_some_by : (r : Run) (last : Bool) (k : Kind) (n : ℕ) → ((i : ℕ) (j : Kind) → r ≡ Takes i j → 0 < i) → ((i : ℕ) (m : Mode) → r ≡ Ends i m → 0 < i) → front_of last r ≡ Token k n → 0 < n
token_some_by (Takes i j) last k n p q e = let same : i ≡ n = cc in let some : 0 < i = p i j refl in omega arith
token_some_by (Ends i m) last k n p q e = open_some last i (whole m) k n (q i m refl) e
token_some_by Fails last k n p q e = cc

pub comment_no_token : (c last : Bool) (k : Kind) (n : ℕ) → (if c && not last then Open else Nothing) ≡ Token k n → ⊥
comment_no_token true true k n e = cc
comment_no_token true false k n e = cc
comment_no_token false last k n e = cc

token_some_at : (last comment : Bool) (bytes : List ℕ) (k : Kind) (n : ℕ) → front_at last comment bytes ≡ Token k n → 0 < n
token_some_at last comment [] k n e = absurd (comment_no_token comment last k n e)
token_some_at last comment (b ∷ bs) k n e =
    token_some_by (run mode.Start (b ∷ bs)) last k n (λ i j. takes_some b bs i j) (λ i m h. let all : i ≡ suc (length bs) = ends_all mode.Start (b ∷ bs) i m h in omega arith) e

-- a token has bytes
pub token_some : (last : Bool) (bytes : List ℕ) (k : Kind) (n : ℕ) → front last bytes ≡ Token k n → 0 < n
unfolding front
token_some last bytes k n e = token_some_at last (gap false bytes).comment (after_gap bytes) k n e

-- A token is no longer than what is left.

fits_longer : (r : Run) (n : ℕ) → run_fits n r → run_fits (suc n) (longer r)
fits_longer (Takes i k) n le = omega (arith, le)
fits_longer (Ends i m) n le = omega (arith, le)
fits_longer Fails n le = tt

fits_step : (s : Step) (bs : List ℕ) → ((n : Mode) → run_fits (length bs) (run n bs)) → run_fits (suc (length bs)) (after_step s (λ n. run n bs))
fits_step (step.Go m) bs ih = fits_longer (run m bs) (length bs) (ih m)
fits_step (step.Close k) bs ih = omega arith
fits_step (step.Stop k) bs ih = omega arith
fits_step step.Fault bs ih = tt

run_within : (m : Mode) (bytes : List ℕ) → run_fits (length bytes) (run m bytes)
unfolding run
run_within m [] = omega arith
run_within m (b ∷ bs) = fits_step (step_of m b) bs (λ n. run_within n bs)

ended_fits : (i most : ℕ) (w : Option Kind) (k : Kind) (n : ℕ) → i ≤ most → ended i w ≡ Token k n → n ≤ most
ended_fits i most None k n le e = cc
ended_fits i most (Some j) k n le e = let same : i ≡ n = cc in omega (arith, le, same)

open_fits : (last : Bool) (i most : ℕ) (w : Option Kind) (k : Kind) (n : ℕ) → i ≤ most → (if last then ended i w else Open) ≡ Token k n → n ≤ most
open_fits true i most w k n le e = ended_fits i most w k n le e
open_fits false i most w k n le e = cc

front_fits : (last : Bool) (r : Run) (most : ℕ) (k : Kind) (n : ℕ) → run_fits most r → front_of last r ≡ Token k n → n ≤ most
front_fits last (Takes i j) most k n le e = let same : i ≡ n = cc in omega (arith, le, same)
front_fits last (Ends i m) most k n le e = open_fits last i most (whole m) k n le e
front_fits last Fails most k n le e = cc

token_fits_at : (last comment : Bool) (bytes : List ℕ) (k : Kind) (n : ℕ) → front_at last comment bytes ≡ Token k n → n ≤ length bytes
token_fits_at last comment [] k n e = absurd (comment_no_token comment last k n e)
token_fits_at last comment (b ∷ bs) k n e = front_fits last (run mode.Start (b ∷ bs)) (length (b ∷ bs)) k n (run_within mode.Start (b ∷ bs)) e

pub token_fits : (last : Bool) (bytes : List ℕ) (k : Kind) (n : ℕ) → front last bytes ≡ Token k n → n ≤ length (after_gap bytes)
unfolding front
token_fits last bytes k n e = token_fits_at last (gap false bytes).comment (after_gap bytes) k n e
