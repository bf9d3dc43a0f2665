-- Going along with an item at hand.
use Rattle.std.proofs.Common.{◌≡◌, ℕ, ◌+◌, ◌-◌, ◌<◌, ◌≤◌, false, List, take, drop, length, get_or, refl, ap, ◌∙◌, arith}
use Rattle.sc_sexpr.specs.declared.state.State.{State}
use Rattle.sc_sexpr.specs.declared.state.Move.TheVariants as move
use Rattle.sc_sexpr.specs.declared.scan.Pass.{Pass}
use Rattle.sc_sexpr.specs.Moves.{is_idle, move_of, Keeps}
use Rattle.sc_sexpr.specs.Passes.{text_of, IsPlaced, Skips, along}
use Rattle.sc_sexpr.specs.Scans.{text_after}
use Rattle.sc_sexpr.proofs.Going.{scan_goes, text_busy}

pub starts : (bytes : List ℕ) (p : Pass) → IsPlaced bytes p → is_idle p.state ≡ false → Skips bytes p (along p p.state 0)
starts bytes p placed busy =
    let at : p.at + 0 ≡ p.at = omega arith in
    let room : p.room - 0 ≡ p.room = omega arith in
    rw (at, room) (record {
      same = refl;
      resting = λ h. cc;
      follows = record { placed = record { order = placed.order; within = placed.within }; grows = omega arith; lines = omega arith; ahead = λ h. h; span = omega arith };
      order = omega arith;
    })

pub goes : (bytes : List ℕ) (p : Pass) (s t : State) (n : ℕ) → IsPlaced bytes p → is_idle s ≡ false → p.at + n < length bytes → n < p.room → move_of s (get_or bytes (p.at + n) 0) ≡ move.Go t → Keeps s (move.Go t) → Skips bytes p (along p s n) → Skips bytes p (along p t (n + 1))
goes bytes p s t n placed busy lt some e keeps k =
    let going : is_idle t ≡ false = keeps.1 busy in
    let order : p.from ≤ p.at = placed.order in
    let before : p.from ≤ p.at + n = omega arith in
    let line : t.line ≤ s.line + 1 = keeps.0 in
    let next : p.at + (n + 1) ≡ p.at + n + 1 = omega arith in
    let left : p.room - (n + 1) + 1 ≡ p.room - n = omega arith in
    let more : 0 < p.room - n = omega arith in
    let text : text_of bytes (along p t (n + 1)) ≡ text_after t (text_of bytes (along p s n)) (get_or bytes (p.at + n) 0) = ap (λ k. take (k - p.from) (drop p.from bytes)) next ∙ text_busy t bytes p.from (p.at + n) going before lt in
    let lines : s.line + (p.room - n) ≤ p.state.line + p.room = k.follows.lines in
    record {
      same = k.same ∙ scan_goes bytes (along p s n) (along p t (n + 1)) t lt more e refl text left next;
      resting = λ h. cc;
      follows = record {
        placed = record { order = omega arith; within = omega arith };
        grows = omega arith;
        lines = omega arith;
        ahead = λ h. keeps.2 (k.follows.ahead h);
        span = omega arith;
      };
      order = omega arith;
    }
