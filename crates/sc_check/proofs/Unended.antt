-- A splitter that gives an item has not found its end.
use Rattle.std.proofs.Common.{◌≡◌, ℕ, Bool, true, false, ◌==◌, if◌then◌else◌, [], Option, Some, None, refl}
use Rattle.sc_text.specs.declared.token.Kind.{Kind}
use Rattle.sc_text.specs.Modes.{is_start, is_unclosed, whole}
use Rattle.sc_sexpr.specs.declared.item.Last.{Last}
use Rattle.sc_sexpr.specs.declared.item.Last.TheVariants as last
use Rattle.sc_sexpr.specs.declared.item.Item.TheVariants as item
use Rattle.sc_sexpr.specs.declared.state.State.{State}
use Rattle.sc_sexpr.specs.Moves.{is_idle, ends_token, ending_of}
use Rattle.sc_sexpr.specs.Scans.{Scan, Waits, Top, Full, Bad}
use Rattle.sc_sexpr.specs.View.{View, Answer, item_of, at_end, shows, repeats, scan_of, answer}

not_given : (l : Last) (line : ℕ) → item_of l ≡ item.Top line → ⊥
not_given last.End line e = cc
not_given (last.Bad f) line e = cc

-- an answer gives an item only where nothing was found that ends the text
abbrev StaysOpen : Answer → Type 0
StaysOpen a = (line : ℕ) → a.item ≡ item.Top line → a.view.over ≡ None

either : {E : Type 0} (P : E → Type 0) (b : Bool) (x y : E) → P x → P y → P (if b then x else y)
either P true x y p q = p
either P false x y p q = q

token_end_open : (v : View) (s : State) (o : Option Kind) → v.over ≡ None → StaysOpen (at_end v (ends_token s o))
token_end_open v s (Some k) none = either (λ e. StaysOpen (at_end v e)) (s.depth == 0) _ _ (λ line e. none) (λ line e. absurd (not_given (last.Bad _) line e))
token_end_open v s None none =
    either (λ e. StaysOpen (at_end v e)) (is_start s.mode) _ _ (λ line e. absurd (not_given (last.Bad _) line e))
    (either (λ e. StaysOpen (at_end v e)) (is_unclosed s.mode) _ _ (λ line e. absurd (not_given (last.Bad _) line e)) (λ line e. absurd (not_given (last.Bad _) line e)))

at_end_open : (v : View) → v.over ≡ None → StaysOpen (at_end v (ending_of v.state))
at_end_open v none =
    either (λ e. StaysOpen (at_end v e)) (is_idle v.state) _ _ (λ line e. absurd (not_given last.End line e)) (token_end_open v v.state (whole v.state.mode) none)

waits_open : (b : Bool) (v : View) → v.over ≡ None → StaysOpen (if b then at_end v (ending_of v.state) else record { item = item.More; view = v })
waits_open true v none line e = at_end_open v none line e
waits_open false v none line e = none

shows_open : (v : View) (s : Scan) → v.over ≡ None → StaysOpen (shows v s)
shows_open v (Waits s text room) none line e = waits_open v.last (record v { state = s; text = text; unread = []; room = room; given = None }) none line e
shows_open v (Top text l s room rest) none line e = none
shows_open v (Full l) none line e = absurd (not_given (last.Bad _) line e)
shows_open v (Bad f) none line e = absurd (not_given (last.Bad f) line e)

repeats_open : (o : Option Last) (v : View) → v.over ≡ o → StaysOpen (repeats o v (shows v (scan_of v)))
repeats_open None v is line e = shows_open v (scan_of v) is line e
repeats_open (Some l) v is line e = absurd (not_given l line e)

pub not_over : (v : View) (line : ℕ) → (answer v).item ≡ item.Top line → (answer v).view.over ≡ None
unfolding answer
not_over v line e = repeats_open v.over v refl line e
