-- With each item there is less to do.
use Rattle.std.proofs.Common.{◌≡◌, ℕ, ◌+◌, ◌-◌, ◌*◌, ◌<◌, ◌≤◌, Bool, true, false, ◌==◌, if◌then◌else◌, List, [], ◌∷◌, length, Option, Some, None, refl, sym, ap, ◌∙◌, arith, subst}
use Rattle.sc_text.specs.Modes.{is_start, step_of}
use Rattle.sc_sexpr.specs.declared.item.Last.{Last}
use Rattle.sc_sexpr.specs.declared.item.Last.TheVariants as last
use Rattle.sc_sexpr.specs.declared.item.Item.{Item}
use Rattle.sc_sexpr.specs.declared.item.Item.TheVariants as item
use Rattle.sc_sexpr.specs.declared.state.State.{State}
use Rattle.sc_sexpr.specs.declared.state.Move.{Move}
use Rattle.sc_sexpr.specs.declared.state.Move.TheVariants as move
use Rattle.sc_sexpr.specs.declared.state.Ending.{Ending}
use Rattle.sc_sexpr.specs.declared.state.Ending.TheVariants as ending
use Rattle.sc_sexpr.specs.Moves.{is_idle, closed, move_of, ending_of}
use Rattle.sc_sexpr.specs.Scans.{Scan, Waits, Top, Full, Bad, text_after, scan_after, scan_past, scan}
use Rattle.sc_sexpr.specs.View.{View, keeping, Answer, item_of, at_end, shows, scan_of, answer}
use Rattle.sc_sexpr.specs.Laws.{reading_of, behind, busy, work_of, Works, IsGiven, IsReader}
use Rattle.sc_sexpr.proofs.Reading.{and_false, and_true, before_is, continues_outside, whole_is, answer_over, answer_none, answers_by, fed_reads, keeps_reads, keeps_behind}

abbrev LessWork : Scan → ℕ → Type 0
LessWork (Waits s text room) n = busy s ≤ n
LessWork (Top text line s room rest) n = 2 * length rest + busy s < n
LessWork (Full line) n = Unit {0}
LessWork (Bad f) n = Unit {0}

more_work : (r : Scan) (m n : ℕ) → LessWork r m → m ≤ n → LessWork r n
more_work (Waits s text room) m n h le = omega arith
more_work (Top text line s room rest) m n h le = omega arith
more_work (Full line) m n h le = tt
more_work (Bad f) m n h le = tt

busy_by : (c : Bool) → (if c then 0 else 1) ≤ 1
busy_by true = omega arith
busy_by false = omega arith

busy_one : (s : State) → busy s ≤ 1
busy_one s = busy_by (is_idle s)

is_busy : (s : State) → is_idle s ≡ false → busy s ≡ 1
is_busy s e = ap (λ c. if c then 0 else 1) e

is_not_busy : (s : State) → is_idle s ≡ true → busy s ≡ 0
is_not_busy s e = ap (λ c. if c then 0 else 1) e

before_works : (s : State) (b : ℕ) (bs : List ℕ) → move_of s b ≡ move.Before → 2 * length (b ∷ bs) + busy (closed s) < 2 * length (b ∷ bs) + busy s
before_works s b bs e =
    let there : busy s ≡ 1 = is_busy s (and_false (s.depth == 0) (is_start s.mode) (before_is s b e).1) in
    let gone : busy (closed s) ≡ 0 = is_not_busy (closed s) (and_true (s.depth == 0) (continues_outside s b (step_of s.mode b) (before_is s b e).2)) in
    omega arith

past_works : (m : Move) (s : State) (text : List ℕ) (b : ℕ) (bs : List ℕ) → move_of s b ≡ m → LessWork (scan_past m s text b bs) (2 * length (b ∷ bs) + busy s)
past_works (move.Go s') s text b bs e = tt
past_works (move.Done s') s text b bs e = tt
past_works move.Before s text b bs e = before_works s b bs e
past_works (move.Fail f) s text b bs e = tt

step_works : (m : Move) (s : State) (text : List ℕ) (room b : ℕ) (bs : List ℕ) → move_of s b ≡ m →
    ((s' : State) (text' : List ℕ) (room' : ℕ) → LessWork (scan s' text' room' bs) (2 * length bs + busy s')) →
    LessWork (scan_after m s text room b bs (λ s' text'. scan s' text' (room - 1) bs)) (2 * length (b ∷ bs) + busy s)
step_works (move.Go s') s text room b bs e ih =
    more_work (scan s' (text_after s' text b) (room - 1) bs) (2 * length bs + busy s') _ (ih s' (text_after s' text b) (room - 1)) (omega (arith, busy_one s'))
step_works (move.Done s') s text room b bs e ih = omega (arith, busy_one s')
step_works move.Before s text room b bs e ih = before_works s b bs e
step_works (move.Fail f) s text room b bs e ih = tt

room_works : (c : Bool) (s : State) (text : List ℕ) (room b : ℕ) (bs : List ℕ) →
    ((s' : State) (text' : List ℕ) (room' : ℕ) → LessWork (scan s' text' room' bs) (2 * length bs + busy s')) →
    LessWork (if c then scan_past (move_of s b) s text b bs else scan_after (move_of s b) s text room b bs (λ s' text'. scan s' text' (room - 1) bs)) (2 * length (b ∷ bs) + busy s)
room_works true s text room b bs ih = past_works (move_of s b) s text b bs refl
room_works false s text room b bs ih = step_works (move_of s b) s text room b bs refl ih

scan_works : (bytes : List ℕ) (s : State) (text : List ℕ) (room : ℕ) → LessWork (scan s text room bytes) (2 * length bytes + busy s)
unfolding scan
scan_works [] s text room = omega arith
scan_works (b ∷ bs) s text room = room_works (room == 0) s text room b bs (λ s' text' room'. scan_works bs s' text' room')

-- the work behind an answer is below this
abbrev Below : ℕ → Item → View → Type 0
Below n (item.Top line) v = work_of v < n
Below n i v = Unit {0}

end_works : (e : Ending) (v : View) (n : ℕ) → ending_of v.state ≡ e → v.unread ≡ [] → busy v.state ≤ n → Below n (at_end v e).item (at_end v e).view
end_works ending.Nothing v n e none le = tt
end_works ending.Whole v n e none le =
    let there : busy v.state ≡ 1 = is_busy v.state (whole_is v.state e).0 in
    let gone : busy (closed v.state) ≡ 0 = is_not_busy (closed v.state) (and_true (v.state.depth == 0) (whole_is v.state e).1) in
    omega (arith, ap (length {A = ℕ}) none)
end_works (ending.Bad f) v n e none le = tt

wait_works : (c : Bool) (v : View) (n : ℕ) → v.unread ≡ [] → busy v.state ≤ n → Below n (if c then at_end v (ending_of v.state) else record { item = item.More; view = v }).item (if c then at_end v (ending_of v.state) else record { item = item.More; view = v }).view
wait_works true v n none le = end_works (ending_of v.state) v n refl none le
wait_works false v n none le = tt

shows_works : (r : Scan) (v : View) (n : ℕ) → LessWork r n → Below n (shows v r).item (shows v r).view
shows_works (Waits s text room) v n h = wait_works v.last (record v { state = s; text = text; unread = []; room = room; given = None }) n refl h
shows_works (Top text line s room rest) v n h = h
shows_works (Full line) v n h = tt
shows_works (Bad f) v n h = tt

over_works : (l : Last) (v : View) → Works (item_of l) v v
over_works last.End v = tt
over_works (last.Bad f) v = tt

works_of : (i : Item) (v w : View) → Below (work_of v) i w → Works i v w
works_of (item.Top line) v w h = h
works_of item.More v w h = tt
works_of item.End v w h = tt
works_of (item.Bad f) v w h = tt

answer_works : (o : Option Last) (v : View) → v.over ≡ o → Works (answer v).item v (answer v).view
answer_works None v e =
    works_of (answer v).item v (answer v).view
    (subst (λ (a : Answer). Below (work_of v) a.item a.view) (sym (answer_none v e)) (shows_works (scan_of v) v (work_of v) (scan_works v.unread v.state v.text v.room)))
answer_works (Some l) v e = subst (λ (a : Answer). Works a.item v a.view) (sym (answer_over v l e)) (over_works l v)

end_not_more : (e : Ending) (v : View) → (at_end v e).item ≡ item.More → ⊥
end_not_more ending.Nothing v e = cc
end_not_more ending.Whole v e = cc
end_not_more (ending.Bad f) v e = cc

wait_more : (c : Bool) (v : View) → (if c then at_end v (ending_of v.state) else record { item = item.More; view = v }).item ≡ item.More → c ≡ false
wait_more true v e = absurd (end_not_more (ending_of v.state) v e)
wait_more false v e = refl

shows_more : (r : Scan) (v : View) → (shows v r).item ≡ item.More → v.last ≡ false
shows_more (Waits s text room) v e = wait_more v.last (record v { state = s; text = text; unread = []; room = room; given = None }) e
shows_more (Top text line s room rest) v e = cc
shows_more (Full line) v e = cc
shows_more (Bad f) v e = cc

over_more : (l : Last) → item_of l ≡ item.More → ⊥
over_more last.End e = cc
over_more (last.Bad f) e = cc

answer_more : (o : Option Last) (v : View) → v.over ≡ o → (answer v).item ≡ item.More → v.last ≡ false
answer_more None v e m = shows_more (scan_of v) v (ap (λ (a : Answer). a.item) (sym (answer_none v e)) ∙ m)
answer_more (Some l) v e m = absurd (over_more l (ap (λ (a : Answer). a.item) (sym (answer_over v l e)) ∙ m))

wait_read : (c : Bool) (v : View) → v.unread ≡ [] → (if c then at_end v (ending_of v.state) else record { item = item.More; view = v }).item ≡ item.More →
    (if c then at_end v (ending_of v.state) else record { item = item.More; view = v }).view.unread ≡ []
wait_read true v none e = absurd (end_not_more (ending_of v.state) v e)
wait_read false v none e = none

shows_read : (r : Scan) (v : View) → (shows v r).item ≡ item.More → (shows v r).view.unread ≡ []
shows_read (Waits s text room) v e = wait_read v.last (record v { state = s; text = text; unread = []; room = room; given = None }) refl e
shows_read (Top text line s room rest) v e = cc
shows_read (Full line) v e = cc
shows_read (Bad f) v e = cc

answer_read : (o : Option Last) (v : View) → v.over ≡ o → (answer v).item ≡ item.More → (answer v).view.unread ≡ []
answer_read None v e m = ap (λ (a : Answer). a.view.unread) (answer_none v e) ∙ shows_read (scan_of v) v (ap (λ (a : Answer). a.item) (sym (answer_none v e)) ∙ m)
answer_read (Some l) v e m = absurd (over_more l (ap (λ (a : Answer). a.item) (sym (answer_over v l e)) ∙ m))

pub reader : IsReader
reader = record {
  begins = λ limit bytes. refl;
  feeds = λ v piece more. fed_reads v.over v piece more;
  keeps = λ v n more. keeps_reads v.over n v more;
  answers = λ v more p. answers_by v.over v more refl p;
  waits = λ v m. answer_more v.over v refl m;
  ends = λ v m. answer_read v.over v refl m;
  works = λ v. answer_works v.over v refl;
}

-- what is told of an answer, in parts

pub told : (v w : View) (i : Item) → i ≡ (answer v).item → w ≡ keeping w.kept (answer v).view → (more : List ℕ) → (v.last ≡ true → more ≡ []) → reading_of v more ≡ behind i w more
told v w i e f more p =
    answers_by v.over v more refl p ∙ ap (λ (x : Item). behind x (answer v).view more) (sym e) ∙ keeps_behind i w.kept (answer v).view more ∙ ap (λ (x : View). behind i x more) (sym f)

pub told_more : (v : View) (i : Item) → i ≡ (answer v).item → i ≡ item.More → v.last ≡ false
told_more v i e m = answer_more v.over v refl (sym e ∙ m)

keeps_works : (i : Item) (n : ℕ) (v w : View) → Works i v w → Works i v (keeping n w)
keeps_works (item.Top line) n v w h = h
keeps_works item.More n v w h = tt
keeps_works item.End n v w h = tt
keeps_works (item.Bad f) n v w h = tt

pub told_work : (v w : View) (i : Item) → i ≡ (answer v).item → w ≡ keeping w.kept (answer v).view → Works i v w
told_work v w i e f =
    subst (λ (x : View). Works i v x) (sym f) (keeps_works i w.kept v (answer v).view (subst (λ (x : Item). Works x v (answer v).view) (sym e) (answer_works v.over v refl)))

pub told_read : (v w : View) (i : Item) → i ≡ (answer v).item → w ≡ keeping w.kept (answer v).view → i ≡ item.More → w.unread ≡ []
told_read v w i e f m = ap (λ (x : View). x.unread) f ∙ answer_read v.over v refl (sym e ∙ m)

-- where an end was found, no item is given
pub no_item : (l : Last) (i : Item) (v : View) → i ≡ item_of l → IsGiven i v
no_item last.End i v e = subst (λ (x : Item). IsGiven x v) (sym e) tt
no_item (last.Bad f) i v e = subst (λ (x : Item). IsGiven x v) (sym e) tt
