-- The items of an input, and what the first bytes show.
use Rattle.std.proofs.Common.{◌≡◌, ℕ, ◌-◌, Bool, true, false, ◌&&◌, ◌==◌, nat_le, if◌then◌else◌, List, [], ◌∷◌, ◌++◌, Option, Some, None, unwrap_or, refl, sym, ap, ◌∙◌, append_assoc}
use Rattle.sc_text.specs.declared.token.Kind.{Kind}
use Rattle.sc_text.specs.declared.token.Kind.TheVariants as kind
use Rattle.sc_text.specs.declared.mode.Mode.TheVariants as mode
use Rattle.sc_text.specs.declared.mode.Step.{Step}
use Rattle.sc_text.specs.declared.mode.Step.TheVariants as step
use Rattle.sc_text.specs.Bytes.{is_white}
use Rattle.sc_text.specs.Modes.{is_start, is_unclosed, whole, step_of}
use Rattle.sc_sexpr.specs.declared.item.Fault.{Fault}
use Rattle.sc_sexpr.specs.declared.item.Fault.TheVariants.{Limit}
use Rattle.sc_sexpr.specs.declared.item.Last.{Last}
use Rattle.sc_sexpr.specs.declared.item.Last.TheVariants as last
use Rattle.sc_sexpr.specs.declared.item.Item.{Item}
use Rattle.sc_sexpr.specs.declared.item.Item.TheVariants as item
use Rattle.sc_sexpr.specs.declared.state.State.{State}
use Rattle.sc_sexpr.specs.declared.state.Move.{Move}
use Rattle.sc_sexpr.specs.declared.state.Move.TheVariants as move
use Rattle.sc_sexpr.specs.declared.state.Ending.{Ending}
use Rattle.sc_sexpr.specs.declared.state.Ending.TheVariants as ending
use Rattle.sc_sexpr.specs.Moves.{is_idle, here, ends_token, closed, parenthesis, begins, fresh, continues, move_of, ending_of}
use Rattle.sc_sexpr.specs.Scans.{Scan, Waits, Top, Full, Bad, text_after, scan_after, scan_past, scan, Reading, with_top, stops, ends_with, reads_fresh, reads_after, reads_past, reads}
use Rattle.sc_sexpr.specs.View.{View, keeping, Answer, item_of, fed, gives, at_end, waits, shows, repeats, scan_of, answer}
use Rattle.sc_sexpr.specs.Laws.{reading_by, behind}

-- Between tokens nothing ends before a byte.

choose_not_before : (c : Bool) (x y : Move) → (x ≡ move.Before → ⊥) → (y ≡ move.Before → ⊥) → (if c then x else y) ≡ move.Before → ⊥
choose_not_before true x y p q e = p e
choose_not_before false x y p q e = q e

parenthesis_not_before : (s : State) (k : Kind) → parenthesis s k ≡ move.Before → ⊥
parenthesis_not_before s kind.Left = choose_not_before (nat_le 1000 s.depth) _ _ (λ e. cc) (λ e. cc)
parenthesis_not_before s kind.Right = choose_not_before (s.depth == 0) _ _ (λ e. cc) (choose_not_before (s.depth == 1) _ _ (λ e. cc) (λ e. cc))
parenthesis_not_before s kind.Numeral = λ e. cc
parenthesis_not_before s kind.Foreign = λ e. cc
parenthesis_not_before s kind.Literal = λ e. cc
parenthesis_not_before s kind.Word = λ e. cc
parenthesis_not_before s kind.Quoted = λ e. cc
parenthesis_not_before s kind.Keyword = λ e. cc

begins_not_before : (s : State) (b : ℕ) (t : Step) → begins s b t ≡ move.Before → ⊥
begins_not_before s b (step.Go m) e = cc
begins_not_before s b (step.Close k) e = parenthesis_not_before s k e
begins_not_before s b (step.Stop k) e = cc
begins_not_before s b step.Fault e = cc

pub fresh_not_before : (s : State) (b : ℕ) → fresh s b ≡ move.Before → ⊥
unfolding fresh
fresh_not_before s b = choose_not_before (is_white b) _ _ (λ e. cc) (choose_not_before (b == 59) _ _ (λ e. cc) (begins_not_before s b (step_of mode.Start b)))

-- where an item ends before a byte, a token is at hand and no comment

outside_comment : (c : Bool) (x y : Move) → (x ≡ move.Before → ⊥) → (if c then x else y) ≡ move.Before → (c ≡ false) × (y ≡ move.Before)
outside_comment true x y p e = absurd (p e)
outside_comment false x y p e = (refl, e)

pub before_is : (s : State) (b : ℕ) → move_of s b ≡ move.Before → (s.comment ≡ false) × (is_start s.mode ≡ false) × (continues s b (step_of s.mode b) ≡ move.Before)
unfolding move_of
before_is s b e =
    let first : (s.comment ≡ false) × ((if is_start s.mode then fresh s b else continues s b (step_of s.mode b)) ≡ move.Before) = outside_comment s.comment _ _ (λ e'. cc) e in
    let second : (is_start s.mode ≡ false) × (continues s b (step_of s.mode b) ≡ move.Before) = outside_comment (is_start s.mode) _ _ (fresh_not_before s b) first.1 in
    (first.0, second.0, second.1)

pub skip : {A : Type 0} (c : Bool) (x y : A) → c ≡ false → (if c then x else y) ≡ y
skip true x y e = cc
skip false x y e = refl

pub closed_moves : (s : State) (b : ℕ) → s.comment ≡ false → move_of (closed s) b ≡ fresh (closed s) b
unfolding move_of
closed_moves s b c = skip s.comment _ _ c

pub and_false : (c d : Bool) → d ≡ false → (c && d) ≡ false
and_false true d e = e
and_false false d e = refl

pub and_true : (c : Bool) → c ≡ true → (c && true) ≡ true
and_true true e = refl
and_true false e = cc

outside_by : (c : Bool) (x y : Move) → (y ≡ move.Before → ⊥) → (if c then x else y) ≡ move.Before → c ≡ true
outside_by true x y p e = refl
outside_by false x y p e = absurd (p e)

go_by : (c : Bool) (x y : State) → (if c then move.Done x else move.Go y) ≡ move.Before → ⊥
go_by true x y e = cc
go_by false x y e = cc

pub continues_outside : (s : State) (b : ℕ) (t : Step) → continues s b t ≡ move.Before → (s.depth == 0) ≡ true
continues_outside s b (step.Go m) e = cc
continues_outside s b (step.Close k) e = absurd (go_by (s.depth == 0) _ _ e)
continues_outside s b (step.Stop k) e = outside_by (s.depth == 0) _ _ (fresh_not_before (closed s) b) e
continues_outside s b step.Fault e = cc

-- what the first bytes show, and then more bytes
abbrev pub reads_by : Scan → ℕ → List ℕ → Reading
reads_by (Waits s text room) limit more = reads limit s text room more
reads_by (Top text line s room rest) limit more = with_top text line (reads limit s [] room (rest ++ more))
reads_by (Full line) limit more = stops (Limit line limit)
reads_by (Bad f) limit more = stops f

-- a byte behind an item that ended before it
again : (m : Move) (s : State) (b : ℕ) (rest : State → List ℕ → Reading) → (m ≡ move.Before → ⊥) → reads_fresh m s b rest ≡ reads_after m s [] b rest
again (move.Go s') s b rest p = refl
again (move.Done s') s b rest p = refl
again move.Before s b rest p = absurd (p refl)
again (move.Fail f) s b rest p = refl

pub reads_room : (limit : ℕ) (s : State) (text : List ℕ) (room b : ℕ) (bs : List ℕ) → (room == 0) ≡ false → reads limit s text room (b ∷ bs) ≡ reads_after (move_of s b) s text b (λ s' text'. reads limit s' text' (room - 1) bs)
unfolding reads
reads_room limit s text room b bs some = skip (room == 0) _ _ some

pub closed_again : (limit : ℕ) (s : State) (room b : ℕ) (bs : List ℕ) → (room == 0) ≡ false → move_of s b ≡ move.Before → reads_fresh (move_of (closed s) b) (closed s) b (λ s' text'. reads limit s' text' (room - 1) bs) ≡ reads limit (closed s) [] room (b ∷ bs)
closed_again limit s room b bs some e =
    again (move_of (closed s) b) (closed s) b (λ s' text'. reads limit s' text' (room - 1) bs) (λ e'. fresh_not_before (closed s) b (sym (closed_moves s b (before_is s b e).0) ∙ e'))
    ∙ sym (reads_room limit (closed s) [] room b bs some)

step_shows : (m : Move) (limit : ℕ) (s : State) (text : List ℕ) (room b : ℕ) (bs more : List ℕ) → (room == 0) ≡ false → move_of s b ≡ m →
    ((s' : State) (text' : List ℕ) (room' : ℕ) → reads limit s' text' room' (bs ++ more) ≡ reads_by (scan s' text' room' bs) limit more) →
    reads_after m s text b (λ s' text'. reads limit s' text' (room - 1) (bs ++ more)) ≡ reads_by (scan_after m s text room b bs (λ s' text'. scan s' text' (room - 1) bs)) limit more
step_shows (move.Go s') limit s text room b bs more some e ih = ih s' (text_after s' text b) (room - 1)
step_shows (move.Done s') limit s text room b bs more some e ih = refl
step_shows move.Before limit s text room b bs more some e ih = ap (with_top text s.item_line) (closed_again limit s room b (bs ++ more) some e)
step_shows (move.Fail f) limit s text room b bs more some e ih = refl

-- a byte past the limit

pub past_by : (limit : ℕ) (s : State) (text : List ℕ) (m : Move) → (m ≡ move.Before → ⊥) → reads_past m limit s text ≡ stops (Limit (here s) limit)
past_by limit s text (move.Go s') p = refl
past_by limit s text (move.Done s') p = refl
past_by limit s text move.Before p = absurd (p refl)
past_by limit s text (move.Fail f) p = refl

pub reads_none : (limit : ℕ) (s : State) (text : List ℕ) (b : ℕ) (bs : List ℕ) → reads limit s text 0 (b ∷ bs) ≡ reads_past (move_of s b) limit s text
unfolding reads
reads_none limit s text b bs = refl

pub here_closed : (c : Bool) (x y : ℕ) → c ≡ true → (if c && true then x else y) ≡ x
here_closed true x y e = refl
here_closed false x y e = cc

pub past_again : (limit : ℕ) (s : State) (b : ℕ) (bs : List ℕ) → move_of s b ≡ move.Before → stops (Limit s.line limit) ≡ reads limit (closed s) [] 0 (b ∷ bs)
past_again limit s b bs e =
    ap (λ l. stops (Limit l limit)) (sym (here_closed (s.depth == 0) s.line s.item_line (continues_outside s b (step_of s.mode b) (before_is s b e).2)))
    ∙ sym (past_by limit (closed s) [] (move_of (closed s) b) (λ e'. fresh_not_before (closed s) b (sym (closed_moves s b (before_is s b e).0) ∙ e')))
    ∙ sym (reads_none limit (closed s) [] b bs)

past_shows : (m : Move) (limit : ℕ) (s : State) (text : List ℕ) (b : ℕ) (bs more : List ℕ) → move_of s b ≡ m → reads_past m limit s text ≡ reads_by (scan_past m s text b bs) limit more
past_shows (move.Go s') limit s text b bs more e = refl
past_shows (move.Done s') limit s text b bs more e = refl
past_shows move.Before limit s text b bs more e = ap (with_top text s.item_line) (past_again limit s b (bs ++ more) e)
past_shows (move.Fail f) limit s text b bs more e = refl

room_shows : (c : Bool) (limit : ℕ) (s : State) (text : List ℕ) (room b : ℕ) (bs more : List ℕ) → (room == 0) ≡ c →
    ((s' : State) (text' : List ℕ) (room' : ℕ) → reads limit s' text' room' (bs ++ more) ≡ reads_by (scan s' text' room' bs) limit more) →
    (if c then reads_past (move_of s b) limit s text else reads_after (move_of s b) s text b (λ s' text'. reads limit s' text' (room - 1) (bs ++ more)))
    ≡ reads_by (if c then scan_past (move_of s b) s text b bs else scan_after (move_of s b) s text room b bs (λ s' text'. scan s' text' (room - 1) bs)) limit more
room_shows true limit s text room b bs more e ih = past_shows (move_of s b) limit s text b bs more refl
room_shows false limit s text room b bs more e ih = step_shows (move_of s b) limit s text room b bs more e refl ih

pub reads_scan : (limit : ℕ) (bytes more : List ℕ) (s : State) (text : List ℕ) (room : ℕ) → reads limit s text room (bytes ++ more) ≡ reads_by (scan s text room bytes) limit more
unfolding reads scan
reads_scan limit [] more s text room = refl
reads_scan limit (b ∷ bs) more s text room = room_shows (room == 0) limit s text room b bs more refl (λ s' text' room'. reads_scan limit bs more s' text' room')

-- the answers

pub fed_reads : (o : Option Last) (v : View) (piece more : List ℕ) → reading_by o (fed v piece) more ≡ reading_by o v (piece ++ more)
fed_reads None v piece more = ap (reads v.limit v.state v.text v.room) (append_assoc v.unread piece more)
fed_reads (Some l) v piece more = refl

pub keeps_reads : (o : Option Last) (n : ℕ) (v : View) (more : List ℕ) → reading_by o (keeping n v) more ≡ reading_by o v more
keeps_reads None n v more = refl
keeps_reads (Some l) n v more = refl

pub keeps_behind : (i : Item) (n : ℕ) (v : View) (more : List ℕ) → behind i v more ≡ behind i (keeping n v) more
keeps_behind (item.Top line) n v more = ap (with_top (unwrap_or v.given []) line) (sym (keeps_reads v.over n v more))
keeps_behind item.More n v more = sym (keeps_reads v.over n v more)
keeps_behind item.End n v more = refl
keeps_behind (item.Bad f) n v more = refl

over_reads : (l : Last) (v : View) (more : List ℕ) → record { tops = []; last = l } ≡ behind (item_of l) v more
over_reads last.End v more = refl
over_reads (last.Bad f) v more = refl

-- the end of the input

not_whole : (c d : Bool) (f g h : Fault) → (if c then ending.Bad f else if d then ending.Bad g else ending.Bad h) ≡ ending.Whole → ⊥
not_whole true d f g h e = cc
not_whole false true f g h e = cc
not_whole false false f g h e = cc

whole_outside : (c : Bool) (f : Fault) → (if c then ending.Whole else ending.Bad f) ≡ ending.Whole → c ≡ true
whole_outside true f e = refl
whole_outside false f e = cc

token_whole : (s : State) (k : Option Kind) → ends_token s k ≡ ending.Whole → (s.depth == 0) ≡ true
token_whole s None e = absurd (not_whole (is_start s.mode) (is_unclosed s.mode) _ _ _ e)
token_whole s (Some k) e = whole_outside (s.depth == 0) _ e

idle_or : (c : Bool) (x : Ending) → (if c then ending.Nothing else x) ≡ ending.Whole → (c ≡ false) × (x ≡ ending.Whole)
idle_or true x e = cc
idle_or false x e = (refl, e)

pub whole_is : (s : State) → ending_of s ≡ ending.Whole → (is_idle s ≡ false) × ((s.depth == 0) ≡ true)
whole_is s e =
    let busy_there : (is_idle s ≡ false) × (ends_token s (whole s.mode) ≡ ending.Whole) = idle_or (is_idle s) _ e in
    (busy_there.0, token_whole s (whole s.mode) busy_there.1)

idle_there : (c : Bool) (x : Ending) → c ≡ true → (if c && true then ending.Nothing else x) ≡ ending.Nothing
idle_there true x e = refl
idle_there false x e = cc

closed_ends : (s : State) → (s.depth == 0) ≡ true → ending_of (closed s) ≡ ending.Nothing
closed_ends s e = idle_there (s.depth == 0) _ e

reads_nothing : (limit : ℕ) (s : State) (text : List ℕ) (room : ℕ) → ending_of s ≡ ending.Nothing → reads limit s text room [] ≡ record { tops = []; last = last.End }
unfolding reads
reads_nothing limit s text room e = ap (λ x. ends_with x s text) e

end_reads : (e : Ending) (v : View) → v.over ≡ None → v.unread ≡ [] → ending_of v.state ≡ e → ends_with e v.state v.text ≡ behind (at_end v e).item (at_end v e).view []
end_reads ending.Nothing v over none e = refl
end_reads ending.Whole v over none e =
    ap (with_top v.text v.state.item_line)
    (sym (reads_nothing v.limit (closed v.state) [] v.room (closed_ends v.state (whole_is v.state e).1))
    ∙ ap (reads v.limit (closed v.state) [] v.room) (sym (ap (λ x. x ++ []) none))
    ∙ ap (λ o. reading_by o (gives v v.text v.state.item_line (closed v.state) v.room v.unread).view []) (sym over))
end_reads (ending.Bad f) v over none e = refl

wait_reads : (c : Bool) (v : View) (more : List ℕ) → v.over ≡ None → v.unread ≡ [] → v.last ≡ c → (v.last ≡ true → more ≡ []) →
    reads v.limit v.state v.text v.room more ≡ behind (waits v).item (waits v).view more
unfolding reads
wait_reads true v more over none e p =
    ap (reads v.limit v.state v.text v.room) (p e) ∙ end_reads (ending_of v.state) v over none refl
    ∙ ap (λ b. behind (if b then at_end v (ending_of v.state) else record { item = item.More; view = v }).item (if b then at_end v (ending_of v.state) else record { item = item.More; view = v }).view []) (sym e)
    ∙ ap (λ m. behind (waits v).item (waits v).view m) (sym (p e))
wait_reads false v more over none e p =
    ap (λ x. reads v.limit v.state v.text v.room (x ++ more)) (sym none) ∙ ap (λ o. reading_by o v more) (sym over)
    ∙ ap (λ b. behind (if b then at_end v (ending_of v.state) else record { item = item.More; view = v }).item (if b then at_end v (ending_of v.state) else record { item = item.More; view = v }).view more) (sym e)

shown_reads : (r : Scan) (v : View) (more : List ℕ) → v.over ≡ None → (v.last ≡ true → more ≡ []) → reads_by r v.limit more ≡ behind (shows v r).item (shows v r).view more
shown_reads (Waits s text room) v more over p = wait_reads v.last (record v { state = s; text = text; unread = []; room = room; given = None }) more over refl refl p
shown_reads (Top text line s room rest) v more over p =
    ap (with_top text line) (ap (λ o. reading_by o (gives v text line s room rest).view more) (sym over))
shown_reads (Full line) v more over p = refl
shown_reads (Bad f) v more over p = refl

pub answer_over : (v : View) (l : Last) → v.over ≡ Some l → answer v ≡ record { item = item_of l; view = v }
unfolding answer
answer_over v l e = ap (λ o. repeats o v (shows v (scan_of v))) e

pub answer_none : (v : View) → v.over ≡ None → answer v ≡ shows v (scan_of v)
unfolding answer
answer_none v e = ap (λ o. repeats o v (shows v (scan_of v))) e

pub answers_by : (o : Option Last) (v : View) (more : List ℕ) → v.over ≡ o → (v.last ≡ true → more ≡ []) → reading_by o v more ≡ behind (answer v).item (answer v).view more
answers_by None v more e p =
    reads_scan v.limit v.unread more v.state v.text v.room ∙ shown_reads (scan_of v) v more e p
    ∙ ap (λ (a : Answer). behind a.item a.view more) (sym (answer_none v e))
answers_by (Some l) v more e p = over_reads l v more ∙ ap (λ (a : Answer). behind a.item a.view more) (sym (answer_over v l e))
