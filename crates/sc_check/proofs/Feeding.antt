-- What a splitter has that was filled with the input.
use Rattle.std.proofs.Common.{◌≡◌, ℕ, true, List, ◌++◌, arith, refl, ap, ◌∙◌, subst, sym}
use Rattle.sc_io.specs.Moments.{SourceMoment}
use Rattle.sc_sexpr.specs.View.{View, fresh_view}
use Rattle.sc_session.specs.Scripts.{most_bytes}
use Rattle.sc_input.specs.declared.gathering.Reach.TheVariants as reach
use Rattle.sc_input.specs.Gathering.{IsReadInPart, IsFilled, Gathered}
use Rattle.sc_check.specs.Gathering.{IsGathered, most_input}
use Rattle.sc_check.specs.Reports.{IsWhole}

abbrev filled : View → View → List ℕ → View
filled old new text = record old { unread = old.unread ++ text; last = true; piece = new.piece; waiting = new.waiting; kept = new.kept }

-- the input was read to its end, and the splitter has it
pub is_whole : (a b : SourceMoment) (old new : View) → old ≡ fresh_view most_bytes → Gathered a b (IsFilled old new) most_input reach.End → (text : List ℕ) × IsGathered a b text × IsWhole new text
is_whole a b old new fresh g = (
  g.text,
  record { read = g.read; at_end = g.reaches.0 },
  subst (λ v. IsWhole v g.text) (sym (g.fed ∙ ap (λ v. filled v new g.text) fresh)) (record { state = refl; at_hand = refl; unread = refl; room = refl; limit = refl; granted = refl; last = refl; over = refl }),
)

-- more bytes than are kept
pub too_long : (a b : SourceMoment) (old new : View) → Gathered a b (IsFilled old new) most_input reach.Most → IsReadInPart a b most_input
too_long a b old new g = record { bytes = g.text; at_most = omega (arith, g.reaches); read = g.read }
