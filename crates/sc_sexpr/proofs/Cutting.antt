-- What follows a byte past the limit does not matter.
use Rattle.std.proofs.Common.{◌≡◌, ℕ, ◌-◌, ◌<◌, Bool, true, false, ◌==◌, if◌then◌else◌, List, [], ◌∷◌, ◌++◌, length, refl, ap, arith}
use Rattle.sc_sexpr.specs.declared.state.State.{State}
use Rattle.sc_sexpr.specs.declared.state.Move.{Move}
use Rattle.sc_sexpr.specs.declared.state.Move.TheVariants as move
use Rattle.sc_sexpr.specs.Moves.{closed, move_of}
use Rattle.sc_sexpr.specs.Scans.{text_after, Reading, with_top, reads_fresh, reads_after, reads_past, reads}
use Rattle.sc_sexpr.proofs.ReadTree.{not_zero}

fresh_same : (m : Move) (s : State) (b : ℕ) (f g : State → List ℕ → Reading) → ((s' : State) (t : List ℕ) → f s' t ≡ g s' t) → reads_fresh m s b f ≡ reads_fresh m s b g
fresh_same (move.Go s') s b f g h = h s' (text_after s' [] b)
fresh_same (move.Done s') s b f g h = ap (with_top (b ∷ []) s.item_line) (h s' [])
fresh_same move.Before s b f g h = refl
fresh_same (move.Fail x) s b f g h = refl

after_same : (m : Move) (s : State) (text : List ℕ) (b : ℕ) (f g : State → List ℕ → Reading) → ((s' : State) (t : List ℕ) → f s' t ≡ g s' t) → reads_after m s text b f ≡ reads_after m s text b g
after_same (move.Go s') s text b f g h = h s' (text_after s' text b)
after_same (move.Done s') s text b f g h = ap (with_top (text ++ b ∷ []) s.item_line) (h s' [])
after_same move.Before s text b f g h = ap (with_top text s.item_line) (fresh_same (move_of (closed s) b) (closed s) b f g h)
after_same (move.Fail x) s text b f g h = refl

cut_by : (c : Bool) (past : Reading) (m : Move) (s : State) (text : List ℕ) (b : ℕ) (f g : State → List ℕ → Reading) → (c ≡ false → (s' : State) (t : List ℕ) → f s' t ≡ g s' t) →
    (if c then past else reads_after m s text b f) ≡ (if c then past else reads_after m s text b g)
cut_by true past m s text b f g h = refl
cut_by false past m s text b f g h = after_same m s text b f g (h refl)

pub reads_cut : (limit : ℕ) (bytes more : List ℕ) (s : State) (text : List ℕ) (room : ℕ) → room < length bytes → reads limit s text room (bytes ++ more) ≡ reads limit s text room bytes
unfolding reads
reads_cut limit [] more s text room lt = let no : ⊥ = omega arith in absurd no
reads_cut limit (b ∷ bs) more s text room lt =
    cut_by (room == 0) (reads_past (move_of s b) limit s text) (move_of s b) s text b _ _
    (λ e s' t. let some : 0 < room = not_zero room e in reads_cut limit bs more s' t (room - 1) (omega arith))
