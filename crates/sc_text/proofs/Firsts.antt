-- What the first byte of a text tells.
use Rattle.std.proofs.Common.{◌≡◌, ℕ, ◌≤◌, Bool, true, false, ◌==◌, if◌then◌else◌, List, [], ◌∷◌, length, get_or, Option, Some, None, is_none, slice_get, refl, sym, ap, ◌∙◌, arith}
use Rattle.sc_text.specs.Bytes.{is_white}
use Rattle.sc_text.proofs.Walks.{gap_begins, gap_goes, gap_stops}
use Rattle.sc_text.specs.declared.front.Gap.{Gap}
use Rattle.sc_text.specs.declared.front.Run.TheVariants.{Takes}
use Rattle.sc_text.specs.declared.token.Kind.{Kind}
use Rattle.sc_text.specs.declared.token.Kind.TheVariants as kind
use Rattle.sc_text.specs.declared.mode.Mode.TheVariants as mode
use Rattle.sc_text.specs.declared.mode.Step.TheVariants as step
use Rattle.sc_text.specs.Fronts.{gap_step, gap}
use Rattle.sc_text.specs.Modes.{run, step_of, after_step}

is_missing : {X : Type 0} (x : Option X) → is_none x ≡ true → x ≡ None
is_missing (Some x) e = cc
is_missing None e = refl

-- the first byte belongs to no gap
pub no_gap : (bytes : List ℕ) → 1 ≤ length bytes → is_none (gap_step false (get_or bytes 0 0)) ≡ true → (let g : Gap = record { len = 0; comment = false } in g) ≡ gap false bytes
no_gap bytes some none = sym (gap_stops (gap false bytes) false bytes 0 (omega (arith, some)) (gap_begins bytes) (is_missing (gap_step false (get_or bytes 0 0)) none))

white_goes : (b : ℕ) → is_white b ≡ true → gap_step false b ≡ Some false
white_goes b e = ap (λ (t : Bool). if t then Some false else if b == 59 then Some true else None) e

-- the first byte is white space, and the second belongs to no gap
pub one_white : (bytes : List ℕ) → 2 ≤ length bytes → is_white (get_or bytes 0 0) ≡ true → is_none (gap_step false (get_or bytes 1 0)) ≡ true → (let g : Gap = record { len = 1; comment = false } in g) ≡ gap false bytes
one_white bytes two white none =
    sym (gap_stops (gap false bytes) false bytes 1 (omega (arith, two))
    (gap_goes (gap false bytes) false false bytes 0 (omega (arith, two)) (gap_begins bytes) (white_goes (get_or bytes 0 0) white))
    (is_missing (gap_step false (get_or bytes 1 0)) none))

pub closes : (bytes : List ℕ) (b : ℕ) (k : Kind) → slice_get bytes 0 ≡ Some b → step_of mode.Start b ≡ step.Close k → Takes 1 k ≡ run mode.Start bytes
unfolding run
closes [] b k e closing = cc
closes (x ∷ xs) b k e closing =
    let same : x ≡ b = cc in
    sym (ap (λ s. after_step s (λ n. run n xs)) (ap (step_of mode.Start) same ∙ closing))

pub opens : step_of mode.Start 40 ≡ step.Close kind.Left
unfolding step_of
opens = refl

pub shuts : step_of mode.Start 41 ≡ step.Close kind.Right
unfolding step_of
shuts = refl
