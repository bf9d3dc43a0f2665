use Rattle.std.proofs.Common.{length, drop, ◌≡◌, ◌==◌, min, ℕ, List, take, true, false, arith, refl, rules}
use Rattle.std.proofs.lemmas.List.{length-append, length-drop}
use Rattle.sc_io.specs.Memory.{fails_next}
use Rattle.sc_io.proofs.Memories.{listed_as, taken}
use Rattle.sc_io.proofs.memory_source.MemorySourceSource.read.Goals as goal

pub returns-then-self-clause-answer : goal.returns-then-self-clause-answer
returns-then-self-clause-answer c =
    let failing : fails_next c.self.inside.failing.items c.self.inside.calls ≡ true =
    listed_as c.self.inside.failing.items c.saturating_add-self-inside.result _ true c.saturating_add-self-inside.ensures (search rules) in
    rw (← c.self.view_is, failing) refl

pub returns-then-left-eq0-clause-answer : goal.returns-then-left-eq0-clause-answer
returns-then-left-eq0-clause-answer c =
    let going : fails_next c.self.inside.failing.items c.self.inside.calls ≡ false =
    listed_as c.self.inside.failing.items c.saturating_add-self-inside.result _ false c.saturating_add-self-inside.ensures (search rules) in
    let none : (length (drop c.self.inside.at c.self.inside.bytes.items) == 0) ≡ true = grind (arith, length-drop) in
    rw (← c.self.view_is, going, none) refl

pub returns-clause-answer : goal.returns-clause-answer
returns-clause-answer c =
    let going : fails_next c.self.inside.failing.items c.self.inside.calls ≡ false =
    listed_as c.self.inside.failing.items c.saturating_add-self-inside.result _ false c.saturating_add-self-inside.ensures (search rules) in
    let some : (length (drop c.self.inside.at c.self.inside.bytes.items) == 0) ≡ false = grind (arith, length-drop) in
    let least : c.min-count.result ≡ min c.self.inside.most (min (length c.args.buf.now) (length (drop c.self.inside.at c.self.inside.bytes.items))) = grind (arith, length-drop) in
    rw (← c.self.view_is, going, some, least) refl

pub returns-clause-gives : goal.returns-clause-gives
returns-clause-gives c =
    let copied : List ℕ = c.copy_from_slice.new.self in
    let n : ℕ = c.min-count.result in
    let len : length copied ≡ n = search rules in
    let same : copied ≡ take n (drop c.self.inside.at c.self.inside.bytes.items) = search rules in
    let going : c.contains-self-inside.result ≡ false = search rules in (
      omega arith,
      omega (arith, length-append copied (drop n c.args.buf.now)),
      going,
      rw (← c.self.view_is) (record {
        consumed = taken c.self.inside.at n c.self.inside.bytes.items copied (drop n c.args.buf.now) len same;
        later = omega arith;
        unfailed = refl;
        steady = λ s. refl;
        same = refl;
      }),
    )
