-- Bytes that are read and fed piece by piece.
use Rattle.std.proofs.Common.{◌≡◌, ℕ, ◌+◌, ◌-◌, ◌<◌, false, true, List, [], ◌++◌, length, arith, sym, ap, ◌∙◌, append_assoc, append-nil, subst}
use Rattle.std.proofs.lemmas.List.{length-append}
use Rattle.sc_io.specs.Moments.{SourceMoment}
use Rattle.sc_io.specs.Reading.{IsRead}
use Rattle.sc_io.proofs.Readings.{nothing_read, then_read, then_read_to_fault}
use Rattle.sc_sexpr.specs.View.{View, keeping, fed}
use Rattle.sc_input.specs.declared.gathering.GatherError.{GatherError}
use Rattle.sc_input.specs.declared.gathering.GatherError.TheVariants as errors
use Rattle.sc_input.specs.declared.gathering.Reach.{Reach}
use Rattle.sc_input.specs.declared.gathering.Reach.TheVariants as reach
use Rattle.sc_input.specs.Gathering.{IsFed, IsFilled, FeedsPiece, IsOver, Gathered, StopsPiece, Stops}

-- ---- what a splitter has
abbrev with_bytes : View → List ℕ → ℕ → ℕ → ℕ → View
with_bytes v bytes piece waiting kept = record v { unread = v.unread ++ bytes; piece = piece; waiting = waiting; kept = kept }

fed_none : (v : View) → IsFed v v []
fed_none v = ap (λ xs. let w : View = record v { unread = xs } in w) (sym (append-nil v.unread))

fed_more : (old v w : View) (bytes piece : List ℕ) → IsFed old v bytes → w ≡ keeping w.kept (fed v piece) → IsFed old w (bytes ++ piece)
fed_more old v w bytes piece a b =
    let pieces : w.piece ≡ length piece = ap (λ (x : View). x.piece) b in
    let waits : w.waiting ≡ length v.unread = ap (λ (x : View). x.waiting) b in
    b
    ∙ ap (λ (x : View). keeping w.kept (record x { unread = x.unread ++ piece; piece = length piece; waiting = length v.unread })) a
    ∙ ap (λ xs. let x : View = record old { unread = xs; piece = length piece; waiting = length v.unread; kept = w.kept } in x) (append_assoc old.unread bytes piece)
    ∙ ap (λ n. with_bytes old (bytes ++ piece) n (length v.unread) w.kept) (sym pieces)
    ∙ ap (λ n. with_bytes old (bytes ++ piece) w.piece n w.kept) (sym waits)

pub unfinished : (old v : View) (bytes : List ℕ) → old.last ≡ false → IsFed old v bytes → v.last ≡ false
unfinished old v bytes e f = ap (λ (x : View). x.last) f ∙ e

-- ---- all pieces
-- so much of the text was read and fed, and so many more bytes may be
pub record IsFilling (before after : SourceMoment) (old v : View) (most left : ℕ) : Type 0 where
  pub text : List ℕ
  pub read : IsRead before after text
  pub size : length text + left ≡ most
  pub fed : IsFed old v text
  pub unfinished : v.last ≡ false

pub fills : (a : SourceMoment) (v : View) (most : ℕ) → v.last ≡ false → IsFilling a a v v most most
fills a v most e = record { text = []; read = nothing_read a; size = omega arith; fed = fed_none v; unfinished = e }

module _ (a b c : SourceMoment) (old v w : View) (most left : ℕ) (so_far : IsFilling a b old v most left) where
  -- a piece more
  pub grows : (count : ℕ) → FeedsPiece b c v w left count → IsFilling a c old w most (left - count)
  grows count g = record {
    text = so_far.text ++ g.piece;
    read = then_read a b c so_far.text g.piece so_far.read g.read;
    size = omega (arith, length-append so_far.text g.piece, g.size, so_far.size, g.at_most);
    fed = fed_more old v w so_far.text g.piece so_far.fed g.fed;
    unfinished = ap (λ (x : View). x.last) g.fed ∙ so_far.unfinished;
  }

  -- no piece more
  pub ends : 0 < left → IsOver b c v w → Gathered a c (IsFed old w) most reach.End
  ends some o = record {
    text = so_far.text;
    read = subst (IsRead a c) (append-nil so_far.text) (then_read a b c so_far.text [] so_far.read o.read);
    reaches = (o.at_end, omega (arith, so_far.size, some));
    fed = subst (λ x. IsFed old x so_far.text) (sym o.same) so_far.fed;
  }

  -- a fault, or want of memory
  pub stops : 0 < left → (e : GatherError) → StopsPiece b c left e → Stops a c most e
  stops some errors.Failed s = record { bytes = so_far.text ++ []; fewer = omega (arith, length-append so_far.text [], so_far.size, some); read = then_read_to_fault a b c so_far.text [] so_far.read s }
  stops some errors.Memory s = record { bytes = so_far.text ++ s.bytes; at_most = omega (arith, length-append so_far.text s.bytes, so_far.size, s.at_most); read = then_read a b c so_far.text s.bytes so_far.read s.read }

-- as many as may be
pub full : (a b : SourceMoment) (old v : View) (most left : ℕ) → left ≡ 0 → IsFilling a b old v most left → Gathered a b (IsFed old v) most reach.Most
full a b old v most left none f = record { text = f.text; read = f.read; reaches = omega (arith, f.size, none); fed = f.fed }

-- ---- no more come
filled_by : (old v w : View) (bytes : List ℕ) → IsFed old v bytes → w ≡ record v { last = true } → IsFilled old w bytes
filled_by old v w bytes f e =
    let pieces : w.piece ≡ v.piece = ap (λ (x : View). x.piece) e in
    let waits : w.waiting ≡ v.waiting = ap (λ (x : View). x.waiting) e in
    let keeps : w.kept ≡ v.kept = ap (λ (x : View). x.kept) e in
    e
    ∙ ap (λ (x : View). let y : View = record x { last = true } in y) f
    ∙ ap (λ n. let y : View = record old { unread = old.unread ++ bytes; last = true; piece = n; waiting = v.waiting; kept = v.kept } in y) (sym pieces)
    ∙ ap (λ n. let y : View = record old { unread = old.unread ++ bytes; last = true; piece = w.piece; waiting = n; kept = v.kept } in y) (sym waits)
    ∙ ap (λ n. let y : View = record old { unread = old.unread ++ bytes; last = true; piece = w.piece; waiting = w.waiting; kept = n } in y) (sym keeps)

pub filled : (a b : SourceMoment) (old v w : View) (most : ℕ) (r : Reach) → Gathered a b (IsFed old v) most r → w ≡ record v { last = true } → Gathered a b (IsFilled old w) most r
filled a b old v w most r g e = record { text = g.text; read = g.read; reaches = g.reaches; fed = filled_by old v w g.text g.fed e }
