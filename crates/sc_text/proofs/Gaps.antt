-- White space and comments.
use Rattle.std.proofs.Common.{◌≡◌, ◌≢◌, ℕ, ◌+◌, Bool, true, false, ◌&&◌, ◌==◌, not, if◌then◌else◌, List, [], ◌∷◌, ◌++◌, length, drop, Some, None, suc, refl, sym, ap, subst, ◌∙◌, arith, append_assoc}
use Rattle.std.specs.List.{list_all}
use Rattle.std.proofs.lemmas.Bool.{ne_eqb}
use Rattle.std.proofs.lemmas.List.{append-nil, drop_all}
use Rattle.std.proofs.Math.Seq.{drop-append-add}
use Rattle.sc_text.specs.declared.front.Front.{Front}
use Rattle.sc_text.specs.declared.front.Front.TheVariants.{Nothing, Open}
use Rattle.sc_text.specs.declared.front.Gap.{Gap}
use Rattle.sc_text.specs.Bytes.{is_white, is_break}
use Rattle.sc_text.specs.Fronts.{wider, after_gap_step, gap, gap_len, after_gap, front_at, front}
use Rattle.sc_text.specs.Readings.{Whole, Unfinished, End, first_of, first, taken, rest_of}
use Rattle.sc_text.specs.Runs.{ArePassedOver}
use Rattle.sc_text.proofs.Walks.{gap_further, gap-further-zero}

wider-further : (n : ℕ) (g : Gap) → wider (gap_further n g) ≡ gap_further (suc n) g
wider-further n g = let e : n + g.len + 1 ≡ suc n + g.len = omega arith in ap (λ (x : ℕ). let h : Gap = record { len = x; comment = g.comment } in h) e

further-wider : (n : ℕ) (g : Gap) → gap_further n (wider g) ≡ gap_further (n + 1) g
further-wider n g = let e : n + (g.len + 1) ≡ n + 1 + g.len = omega arith in ap (λ (x : ℕ). let h : Gap = record { len = x; comment = g.comment } in h) e

-- ---- what is first behind a gap

passes : (ahead text : List ℕ) → gap false (ahead ++ text) ≡ gap_further (length ahead) (gap false text) → after_gap (ahead ++ text) ≡ after_gap text
passes ahead text e = ap (λ (g : Gap). drop g.len (ahead ++ text)) e ∙ drop-append-add ahead text (gap false text).len

front_same : (last : Bool) (ahead text : List ℕ) → gap false (ahead ++ text) ≡ gap_further (length ahead) (gap false text) → front last (ahead ++ text) ≡ front last text
unfolding front
front_same last ahead text e = ap (λ (g : Gap). front_at last g.comment (after_gap (ahead ++ text))) e ∙ ap (front_at last (gap false text).comment) (passes ahead text e)

passed_over : (last : Bool) (ahead text : List ℕ) → gap false (ahead ++ text) ≡ gap_further (length ahead) (gap false text) → (first last (ahead ++ text) ≡ first last text) × (rest_of last (ahead ++ text) ≡ rest_of last text)
unfolding first rest_of
passed_over last ahead text e =
    let fronts : front last (ahead ++ text) ≡ front last text = front_same last ahead text e in
    let rests : after_gap (ahead ++ text) ≡ after_gap text = passes ahead text e in
    (ap (λ (f : Front). first_of f (after_gap (ahead ++ text))) fronts ∙ ap (first_of (front last text)) rests, ap (λ (f : Front). drop (taken f) (after_gap (ahead ++ text))) fronts ∙ ap (drop (taken (front last text))) rests)

-- ---- white space

white_gap : (b : ℕ) (text : List ℕ) → is_white b ≡ true → gap false (b ∷ text) ≡ wider (gap false text)
unfolding gap
white_gap b text e = ap (λ (x : Bool). after_gap_step false (if x then Some false else if b == 59 then Some true else None) (λ c. gap c text)) e

white : (last : Bool) (b : ℕ) (text : List ℕ) → is_white b ≡ true → (first last (b ∷ text) ≡ first last text) × (rest_of last (b ∷ text) ≡ rest_of last text)
white last b text e = passed_over last (b ∷ []) text (white_gap b text e ∙ ap wider (gap-further-zero (gap false text)) ∙ wider-further 0 (gap false text))

-- ---- comments

and_both : (x y : Bool) → (x && y) ≡ true → (x ≡ true) × (y ≡ true)
and_both true y e = (refl, e)
and_both false y e = absurd cc

comment_step : (c : Bool) (b : ℕ) (text : List ℕ) → not (is_break b) ≡ c → gap true (b ∷ text) ≡ wider (gap c text)
unfolding gap
comment_step c b text e = ap (λ (x : Bool). wider (gap x text)) e

body_gap : (body more : List ℕ) → list_all (λ c. not (is_break c)) body ≡ true → gap true (body ++ more) ≡ gap_further (length body) (gap true more)
body_gap [] more e = gap-further-zero (gap true more)
body_gap (b ∷ bs) more e =
    let both = and_both (not (is_break b)) (list_all (λ c. not (is_break c)) bs) e in
    comment_step true b (bs ++ more) both.0 ∙ ap wider (body_gap bs more both.1) ∙ wider-further (length bs) (gap true more)

begins_comment : (text : List ℕ) → gap false (59 ∷ text) ≡ wider (gap true text)
unfolding gap
begins_comment text = refl

length_more : (body : List ℕ) (b : ℕ) → length (body ++ b ∷ []) ≡ length body + 1
length_more [] b = refl
length_more (x ∷ body) b = let e : length (body ++ b ∷ []) ≡ length body + 1 = length_more body b in omega (arith, e)

comment_gap : (body text : List ℕ) (b : ℕ) → list_all (λ c. not (is_break c)) body ≡ true → is_break b ≡ true → gap false (59 ∷ body ++ b ∷ text) ≡ gap_further (length (59 ∷ body ++ b ∷ [])) (gap false text)
comment_gap body text b e h =
    begins_comment (body ++ b ∷ text) ∙ ap wider (body_gap body (b ∷ text) e ∙ ap (gap_further (length body)) (comment_step false b text (ap not h)) ∙ further-wider (length body) (gap false text)) ∙ wider-further (length body + 1) (gap false text)
    ∙ ap (λ (n : ℕ). gap_further (suc n) (gap false text)) (sym (length_more body b))

comment : (last : Bool) (body text : List ℕ) (b : ℕ) → list_all (λ c. not (is_break c)) body ≡ true → is_break b ≡ true → (first last (59 ∷ body ++ b ∷ text) ≡ first last text) × (rest_of last (59 ∷ body ++ b ∷ text) ≡ rest_of last text)
comment last body text b e h =
    let same : (59 ∷ body ++ b ∷ []) ++ text ≡ 59 ∷ body ++ b ∷ text = ap (λ (xs : List ℕ). 59 ∷ xs) (append_assoc body (b ∷ []) text) in
    subst (λ (xs : List ℕ). (first last xs ≡ first last text) × (rest_of last xs ≡ rest_of last text)) same (passed_over last (59 ∷ body ++ b ∷ []) text (ap (gap false) same ∙ comment_gap body text b e h))

nothing_true : gap true [] ≡ record { len = 0; comment = true }
unfolding gap
nothing_true = refl

open_gap : (body : List ℕ) → list_all (λ c. not (is_break c)) body ≡ true → gap false (59 ∷ body) ≡ record { len = suc (length body) + 0; comment = true }
open_gap body e =
    begins_comment body ∙ ap (λ (xs : List ℕ). wider (gap true xs)) (sym (append-nil body)) ∙ ap wider (body_gap body [] e) ∙ wider-further (length body) (gap true []) ∙ ap (gap_further (suc (length body))) nothing_true

open_front : (last : Bool) → (if true && not last then Open else Nothing) ≡ (if last then Nothing else Open)
open_front true = refl
open_front false = refl

open_first : (last : Bool) (rest : List ℕ) → first_of (if last then Nothing else Open) rest ≡ End (if last then Whole else Unfinished)
open_first true rest = refl
open_first false rest = refl

front_open : (last : Bool) (body : List ℕ) → list_all (λ c. not (is_break c)) body ≡ true → front last (59 ∷ body) ≡ (if last then Nothing else Open)
unfolding front
front_open last body e =
    ap (λ (g : Gap). front_at last g.comment (drop g.len (59 ∷ body))) (open_gap body e) ∙ ap (front_at last true) (drop_all (suc (length body) + 0) (59 ∷ body) (omega arith)) ∙ open_front last

comment_open : (last : Bool) (body : List ℕ) → list_all (λ c. not (is_break c)) body ≡ true → first last (59 ∷ body) ≡ End (if last then Whole else Unfinished)
unfolding first
comment_open last body e = ap (λ (f : Front). first_of f (after_gap (59 ∷ body))) (front_open last body e) ∙ open_first last (after_gap (59 ∷ body))

-- ---- nothing and the rest

nothing : (last : Bool) → first last [] ≡ End Whole
unfolding first front gap
nothing last = refl

others_by : (x y : Bool) (b : ℕ) (text : List ℕ) → x ≡ false → y ≡ false → (after_gap_step false (if x then Some false else if y then Some true else None) (λ c. gap c text)).len ≡ 0
others_by false false b text e h = refl
others_by true y b text e h = absurd cc
others_by false true b text e h = absurd cc

others : (b : ℕ) (text : List ℕ) → is_white b ≡ false → b ≢ 59 → gap_len (b ∷ text) ≡ 0
unfolding gap
others b text e h = others_by (is_white b) (b == 59) b text e (ne_eqb b 59 h)

pub are_passed_over : ArePassedOver
are_passed_over = record { nothing = nothing; white = white; comment = comment; comment_open = comment_open; others = others }
