-- What a splitter has that was filled with the input.
use Rattle.std.proofs.Common.{◌≡◌, ℕ, ◌+◌, true, List, [], ◌++◌, arith, inl, inr, ap, ◌∙◌, append-nil}
use Rattle.sc_io.specs.Moments.{SourceMoment}
use Rattle.sc_sexpr.specs.Scans.{start, reads}
use Rattle.sc_sexpr.specs.View.{View, fresh_view}
use Rattle.sc_sexpr.specs.Laws.{reading_of}
use Rattle.sc_session.specs.Scripts.{most_bytes}
use Rattle.sc_input.specs.declared.gathering.Reach.{Reach}
use Rattle.sc_input.specs.declared.gathering.Reach.TheVariants as reach
use Rattle.sc_input.specs.Gathering as input
use Rattle.sc_solve.specs.Gathering.{IsCutOff, IsGathered, IsSplit}

module _ (a b : SourceMoment) (old new : View) where
  gathered : (r : Reach) → input.Gathered a b (input.IsFilled old new) (most_bytes + 1) r → (text : List ℕ) × IsGathered a b text × input.IsFilled old new text
  gathered reach.End g = (g.text, record { read = g.read; whole = inl g.reaches.0; most = omega (arith, g.reaches.1) }, g.fed)
  gathered reach.Most g = (g.text, record { read = g.read; whole = inr (omega (arith, g.reaches)); most = omega (arith, g.reaches) }, g.fed)

  split : (text : List ℕ) → old ≡ fresh_view most_bytes → input.IsFilled old new text → IsSplit new text
  split text fresh e =
      let fed : new ≡ record (fresh_view most_bytes) { unread = text; last = true; piece = new.piece; waiting = new.waiting; kept = new.kept } =
      e ∙ ap (λ (v : View). let w : View = record v { unread = v.unread ++ text; last = true; piece = new.piece; waiting = new.waiting; kept = new.kept } in w) fresh in
      record {
        items = ap (λ (v : View). reading_of v []) fed ∙ ap (λ bytes. reads most_bytes start [] most_bytes bytes) (append-nil text);
        finished = ap (λ (v : View). v.last) fed;
      }

  -- the input was read, and the splitter has it
  pub is_split : (r : Reach) → old ≡ fresh_view most_bytes → input.Gathered a b (input.IsFilled old new) (most_bytes + 1) r → (text : List ℕ) × IsGathered a b text × IsSplit new text
  is_split r fresh g = let t = gathered r g in (t.0, t.1, split t.0 fresh t.2)

  -- behind one byte more than a script may have no read comes, and so no fault
  pub is_cut_off : input.IsCutOff a b (most_bytes + 1) → IsCutOff a b most_bytes
  is_cut_off c = record { bytes = c.bytes; at_most = omega (arith, c.fewer); read = c.read }
