-- What a splitter's fields keep.
use Rattle.std.proofs.Common.{◌≡◌, ℕ, ◌+◌, ◌-◌, ◌≤◌, Bool, true, false, List, ◌++◌, length, take, drop, Option, Some, refl, sym, ap, ◌∙◌, arith, subst, drop-drop}
use Rattle.std.proofs.lemmas.List.{length-take, length-drop, drop-append-le, take-append-le}
use Rattle.sc_sexpr.specs.declared.state.State.{State}
use Rattle.sc_sexpr.specs.declared.state.Ending.TheVariants as ending
use Rattle.sc_sexpr.specs.declared.scan.Pass.{Pass}
use Rattle.sc_sexpr.specs.declared.item.Item.{Item}
use Rattle.sc_sexpr.specs.declared.item.Item.TheVariants as item
use Rattle.sc_sexpr.specs.Moves.{ending_of, IsAhead}
use Rattle.sc_sexpr.specs.Scans.{Scan, Waits, Top}
use Rattle.sc_sexpr.specs.Passes.{text_of, IsPlaced, IsResting, Follows, scan_from, moved}
use Rattle.sc_sexpr.specs.Spots.{AtHand}
use Rattle.sc_sexpr.specs.View.{View, keeping, fed, answer, given_of, text_at_hand, Holds}
use Rattle.sc_sexpr.specs.Laws.{IsReady, StandsBetween, GivesItem}
use Rattle.sc_sexpr.proofs.AtHand.{Shown, scan_shown, idle_hand, end_item, items}

hand_of : (bytes : List ℕ) (p : Pass) (g : Bool) (piece waiting granted : ℕ) → g ≡ false → Holds bytes p g piece waiting granted → AtHand p.state (text_of bytes p)
hand_of bytes p g piece waiting granted none h = subst (λ (b : Bool). AtHand p.state (text_at_hand bytes p b)) none h.hand

shown_of : (bytes : List ℕ) (p : Pass) (g : Bool) (piece waiting granted : ℕ) (r : Scan) → g ≡ false → Holds bytes p g piece waiting granted → scan_from bytes p ≡ r → Shown r
shown_of bytes p g piece waiting granted r none h e = subst (λ (x : Scan). Shown x) e (scan_shown (drop p.at bytes) p.state (text_of bytes p) p.room (hand_of bytes p g piece waiting granted none h))

-- all bytes are read
pub waits_holds : (bytes : List ℕ) (p q : Pass) (g : Bool) (piece waiting granted : ℕ) → g ≡ false → Holds bytes p g piece waiting granted → scan_from bytes p ≡ Waits q.state (text_of bytes q) q.room → IsResting q → Follows bytes p q → Holds bytes q g piece waiting granted
waits_holds bytes p q g piece waiting granted none h e rests f = record {
  placed = f.placed;
  rests = λ given. rests;
  kept = omega (arith, h.kept, f.grows);
  lines = omega (arith, h.lines, f.lines);
  ahead = f.ahead h.ahead;
  span = omega (arith, h.span, f.span);
  granted_fits = h.granted_fits;
  hand = subst (λ (b : Bool). AtHand q.state (text_at_hand bytes q b)) (sym none) (shown_of bytes p g piece waiting granted _ none h e);
}

-- an item is found
pub top_holds : (bytes : List ℕ) (p q : Pass) (g : Bool) (piece waiting granted line : ℕ) → g ≡ false → Holds bytes p g piece waiting granted → scan_from bytes p ≡ Top (text_of bytes q) line q.state q.room (drop q.at bytes) → Follows bytes p q → Holds bytes q true piece waiting granted
top_holds bytes p q g piece waiting granted line none h e f = record {
  placed = f.placed;
  rests = λ given. absurd (never given);
  kept = omega (arith, h.kept, f.grows);
  lines = omega (arith, h.lines, f.lines);
  ahead = f.ahead h.ahead;
  span = omega (arith, h.span, f.span);
  granted_fits = h.granted_fits;
  hand = idle_hand q.state (shown_of bytes p g piece waiting granted _ none h e).1;
}
  where
    never : true ≡ false → ⊥
    never x = cc

pub top_ready : (bytes : List ℕ) (p q : Pass) (g : Bool) (piece waiting granted line : ℕ) → g ≡ false → Holds bytes p g piece waiting granted → scan_from bytes p ≡ Top (text_of bytes q) line q.state q.room (drop q.at bytes) → Follows bytes p q → (IsAhead p.state → line ≤ q.state.line) → IsReady line (Some (text_of bytes q))
top_ready bytes p q g piece waiting granted line none h e f l = record {
  some = refl;
  item = (shown_of bytes p g piece waiting granted _ none h e).0;
  lines = omega (arith, l h.ahead, f.lines, h.lines, f.span, h.span, h.granted_fits, length-take (q.at - q.from) (drop q.from bytes));
}

-- an item ends with the input
pub end_ready : (bytes : List ℕ) (p : Pass) (g : Bool) (piece waiting granted : ℕ) → g ≡ false → Holds bytes p g piece waiting granted → ending_of p.state ≡ ending.Whole → IsReady p.state.item_line (Some (text_of bytes p))
end_ready bytes p g piece waiting granted none h e = record {
  some = refl;
  item = end_item p.state (text_of bytes p) e (hand_of bytes p g piece waiting granted none h);
  lines = omega (arith, h.ahead, h.lines, h.span, h.granted_fits, length-take (p.at - p.from) (drop p.from bytes));
}

-- a piece is put behind the bytes, and some of the bytes before the item are removed

kept_rest : (bytes piece : List ℕ) (n i : ℕ) → n ≤ i → i ≤ length bytes → drop (i - n) (drop n (bytes ++ piece)) ≡ drop i bytes ++ piece
kept_rest bytes piece n i le within =
    let there : n + (i - n) ≡ i = omega arith in
    drop-drop (i - n) n (bytes ++ piece) ∙ ap (λ k. drop k (bytes ++ piece)) there ∙ drop-append-le i bytes piece within

kept_text : (bytes piece : List ℕ) (p : Pass) (n : ℕ) → IsPlaced bytes p → n ≤ p.from → text_of (drop n (bytes ++ piece)) (moved p n) ≡ text_of bytes p
kept_text bytes piece p n placed le =
    let order : p.from ≤ p.at = placed.order in
    let within : p.at ≤ length bytes = placed.within in
    let span : (p.at - n) - (p.from - n) ≡ p.at - p.from = omega arith in
    ap (λ k. take k (drop (p.from - n) (drop n (bytes ++ piece)))) span
    ∙ ap (take (p.at - p.from)) (kept_rest bytes piece n p.from le (omega arith))
    ∙ take-append-le (p.at - p.from) (drop p.from bytes) piece (omega (arith, length-drop p.from bytes))

kept_given : (g : Bool) (bytes piece : List ℕ) (p : Pass) (n : ℕ) → IsPlaced bytes p → n ≤ p.from → given_of (drop n (bytes ++ piece)) (moved p n) g ≡ given_of bytes p g
kept_given true bytes piece p n placed le = ap Some (kept_text bytes piece p n placed le)
kept_given false bytes piece p n placed le = refl

kept_hand : (g : Bool) (bytes piece : List ℕ) (p : Pass) (n : ℕ) → IsPlaced bytes p → n ≤ p.from → text_at_hand (drop n (bytes ++ piece)) (moved p n) g ≡ text_at_hand bytes p g
kept_hand true bytes piece p n placed le = refl
kept_hand false bytes piece p n placed le = kept_text bytes piece p n placed le

-- u is what the fields showed before, and v the same
pub feeds : (v u : View) (bytes new piece : List ℕ) (p q : Pass) (g : Bool) (n w : ℕ) → u ≡ v → u.state ≡ p.state → u.room ≡ p.room → u.text ≡ text_at_hand bytes p g → u.unread ≡ drop p.at bytes → u.given ≡ given_of bytes p g →
    IsPlaced bytes p → n ≤ p.from → new ≡ drop n (bytes ++ piece) → q ≡ moved p n → w ≡ length (drop p.at bytes) →
    record u { state = q.state; text = text_at_hand new q g; unread = drop q.at new; room = q.room; given = given_of new q g; piece = length piece; waiting = w; kept = length new } ≡ keeping (length new) (fed v piece)
feeds v u bytes new piece p q g n w same state room text unread given placed le news moves many =
    let order : p.from ≤ p.at = placed.order in
    ap (λ (x : Pass). let y : View = record u { state = x.state; text = text_at_hand new x g; unread = drop x.at new; room = x.room; given = given_of new x g; piece = length piece; waiting = w; kept = length new } in y) moves
    ∙ ap (λ (x : List ℕ). let y : View = record u { state = p.state; text = text_at_hand x (moved p n) g; unread = drop (p.at - n) x; room = p.room; given = given_of x (moved p n) g; piece = length piece; waiting = w; kept = length new } in y) news
    ∙ ap (λ (x : List ℕ). let y : View = record u { state = p.state; text = x; unread = drop (p.at - n) (drop n (bytes ++ piece)); room = p.room; given = given_of (drop n (bytes ++ piece)) (moved p n) g; piece = length piece; waiting = w; kept = length new } in y) (kept_hand g bytes piece p n placed le ∙ sym text)
    ∙ ap (λ (x : List ℕ). let y : View = record u { state = p.state; text = u.text; unread = x; room = p.room; given = given_of (drop n (bytes ++ piece)) (moved p n) g; piece = length piece; waiting = w; kept = length new } in y) (kept_rest bytes piece n p.at (omega arith) placed.within ∙ ap (λ xs. xs ++ piece) (sym unread))
    ∙ ap (λ (x : Option (List ℕ)). let y : View = record u { state = p.state; text = u.text; unread = u.unread ++ piece; room = p.room; given = x; piece = length piece; waiting = w; kept = length new } in y) (kept_given g bytes piece p n placed le ∙ sym given)
    ∙ ap (λ (x : ℕ). let y : View = record u { state = p.state; text = u.text; unread = u.unread ++ piece; room = p.room; piece = length piece; waiting = x; kept = length new } in y) (many ∙ ap (length {A = ℕ}) (sym unread))
    ∙ ap (λ (x : State). let y : View = record u { state = x; text = u.text; unread = u.unread ++ piece; room = p.room; piece = length piece; waiting = length u.unread; kept = length new } in y) (sym state)
    ∙ ap (λ (x : ℕ). let y : View = record u { state = u.state; text = u.text; unread = u.unread ++ piece; room = x; piece = length piece; waiting = length u.unread; kept = length new } in y) (sym room)
    ∙ ap (λ (x : View). keeping (length new) (fed x piece)) same

-- behind an item

gives_between : (i : Item) (n : ℕ) (v : View) → GivesItem i v → StandsBetween i (keeping n v)
gives_between (item.Top line) n v h = (h.2, h.3)
gives_between item.More n v h = tt
gives_between item.End n v h = tt
gives_between (item.Bad f) n v h = tt

pub stands_between : (v w : View) (i : Item) → AtHand v.state v.text → i ≡ (answer v).item → w ≡ keeping w.kept (answer v).view → StandsBetween i w
stands_between v w i h e f =
    subst (λ (x : View). StandsBetween i x) (sym f) (gives_between i w.kept (answer v).view (subst (λ (x : Item). GivesItem x (answer v).view) (sym e) (items.gives v h)))
