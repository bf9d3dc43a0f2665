-- What a splitter answers.
use Rattle.std.proofs.Common.{◌≡◌, ℕ, Bool, true, false, List, [], length, drop, Some, None, if◌then◌else◌, refl, sym, ap, ◌∙◌, arith, subst}
use Rattle.std.proofs.lemmas.List.{drop_all}
use Rattle.sc_sexpr.specs.declared.state.State.{State}
use Rattle.sc_sexpr.specs.declared.state.Ending.{Ending}
use Rattle.sc_sexpr.specs.declared.state.Ending.TheVariants as ending
use Rattle.sc_sexpr.specs.Moves.{closed, ending_of}
use Rattle.sc_sexpr.specs.declared.item.Last.{Last}
use Rattle.sc_sexpr.specs.declared.item.Item.TheVariants as item
use Rattle.sc_sexpr.specs.declared.scan.Pass.{Pass}
use Rattle.sc_sexpr.specs.Scans.{Scan, Waits, Top, Full, Bad, scan}
use Rattle.sc_sexpr.specs.Passes.{text_of, scan_from}
use Rattle.sc_sexpr.specs.View.{View, keeping, Answer, item_of, given_of, text_at_hand, at_end, waits, shows, repeats, scan_of, answer}

pub not_given : (bytes : List ℕ) (p : Pass) (g : Bool) → given_of bytes p g ≡ None → g ≡ false
not_given bytes p true e = cc
not_given bytes p false e = refl

shows_forgotten : (v : View) (r : Scan) → shows (record v { given = None }) r ≡ shows v r
shows_forgotten v (Waits s text room) = refl
shows_forgotten v (Top text line s room rest) = refl
shows_forgotten v (Full line) = refl
shows_forgotten v (Bad f) = refl

pub repeated : (v : View) (i : Last) → v.over ≡ Some i → answer v ≡ record { item = item_of i; view = v }
unfolding answer
repeated v i e = ap (λ o. repeats o v (shows v (scan_of v))) e

-- two answers that differ in what is kept
pub record Alike (a b : Answer) : Type 0 where
  pub item : a.item ≡ b.item
  pub view : (n : ℕ) → keeping n a.view ≡ keeping n b.view

alike_end : (e : Ending) (n : ℕ) (v : View) → Alike (at_end (keeping n v) e) (at_end v e)
alike_end ending.Nothing n v = record { item = refl; view = λ m. refl }
alike_end ending.Whole n v = record { item = refl; view = λ m. refl }
alike_end (ending.Bad f) n v = record { item = refl; view = λ m. refl }

alike_waits : (c : Bool) (n : ℕ) (v : View) →
    Alike (if c then at_end (keeping n v) (ending_of v.state) else record { item = item.More; view = keeping n v }) (if c then at_end v (ending_of v.state) else record { item = item.More; view = v })
alike_waits true n v = alike_end (ending_of v.state) n v
alike_waits false n v = record { item = refl; view = λ m. refl }

alike_shows : (r : Scan) (n : ℕ) (v : View) → Alike (shows (keeping n v) r) (shows v r)
alike_shows (Waits s text room) n v = alike_waits v.last n (record v { state = s; text = text; unread = []; room = room; given = None })
alike_shows (Top text line s room rest) n v = record { item = refl; view = λ m. refl }
alike_shows (Full line) n v = record { item = refl; view = λ m. refl }
alike_shows (Bad f) n v = record { item = refl; view = λ m. refl }

forgotten : (v : View) → v.over ≡ None → answer v ≡ shows (record v { given = None }) (scan_of v)
unfolding answer
forgotten v over = ap (λ o. repeats o v (shows v (scan_of v))) over ∙ sym (shows_forgotten v (scan_of v))

-- w is v without the item given last
pub forgot : (v w : View) → v.over ≡ None → w ≡ keeping w.kept (record v { given = None }) → Alike (shows w (scan_of w)) (answer v)
forgot v w over e =
    subst (λ (a : Answer). Alike (shows w (scan_of w)) a) (sym (forgotten v over))
    (subst (λ (x : View). Alike (shows x (scan_of x)) (shows (record v { given = None }) (scan_of v))) (sym e) (alike_shows (scan_of v) w.kept (record v { given = None })))

-- what a pass over the bytes that are held shows
pub looked : (v u : View) (bytes : List ℕ) (p : Pass) (g : Bool) (r : Scan) → v.given ≡ None → u ≡ v → u.state ≡ p.state → u.text ≡ text_at_hand bytes p g → u.room ≡ p.room → u.unread ≡ drop p.at bytes → u.given ≡ given_of bytes p g → scan_from bytes p ≡ r → scan_of v ≡ r
looked v u bytes p g r not e state text room unread given found =
    let none : g ≡ false = not_given bytes p g (sym given ∙ ap (λ (x : View). x.given) e ∙ not) in
    let at : u.text ≡ text_of bytes p = text ∙ ap (text_at_hand bytes p) none in
    let same : scan u.state u.text u.room u.unread ≡ r = rw (state, at, room, unread) found in
    ap (λ (x : View). scan_of x) (sym e) ∙ same

no_rest : (bytes : List ℕ) (n : ℕ) → n ≡ length bytes → drop n bytes ≡ []
no_rest bytes n e = drop_all n bytes (omega arith)

-- all the bytes are read
pub waited : (v u w : View) (bytes : List ℕ) (q : Pass) (g : Bool) → u ≡ v → g ≡ false → q.at ≡ length bytes → w ≡ record u { state = q.state; text = text_at_hand bytes q g; unread = drop q.at bytes; room = q.room; given = given_of bytes q g } → shows v (Waits q.state (text_of bytes q) q.room) ≡ waits w
waited v u w bytes q g same none all e =
    sym (ap waits (e ∙ ap (λ (b : Bool). let x : View = record u { state = q.state; text = text_at_hand bytes q b; unread = drop q.at bytes; room = q.room; given = given_of bytes q b } in x) none
    ∙ ap (λ (xs : List ℕ). let x : View = record u { state = q.state; text = text_of bytes q; unread = xs; room = q.room; given = None } in x) (no_rest bytes q.at all))
    ∙ ap (λ (x : View). shows x (Waits q.state (text_of bytes q) q.room)) same)

text_given : (bytes : List ℕ) (p : Pass) (g : Bool) → g ≡ false → text_at_hand bytes p g ≡ text_of bytes p
text_given bytes p g e = ap (text_at_hand bytes p) e

-- an item ends with the input
pub ended_whole : (v u : View) (bytes : List ℕ) (p : Pass) (g : Bool) (s : State) → u ≡ v → u.text ≡ text_at_hand bytes p g → u.given ≡ given_of bytes p g → v.given ≡ None → ending_of v.state ≡ ending.Whole → s ≡ closed u.state → record u { state = s; text = []; given = Some (text_of bytes p) } ≡ keeping u.kept (at_end v (ending_of v.state)).view
ended_whole v u bytes p g s same text given none whole closes =
    let false_given : g ≡ false = not_given bytes p g (sym given ∙ ap (λ (x : View). x.given) same ∙ none) in
    let at : text_of bytes p ≡ u.text = sym (text ∙ text_given bytes p g false_given) in
    ap (λ (t : List ℕ). let x : View = record u { state = s; text = []; given = Some t } in x) at
    ∙ ap (λ (t : State). let x : View = record u { state = t; text = []; given = Some u.text } in x) closes
    ∙ ap (λ (x : View). keeping u.kept (at_end x ending.Whole).view) same
    ∙ ap (λ e. keeping u.kept (at_end v e).view) (sym whole)
