-- Reads one after another.
use Rattle.std.proofs.Common.{ℕ, List, [], ◌++◌, refl, sym, ap, ◌∙◌, arith}
use Rattle.sc_io.specs.Counts.{next_count}
use Rattle.sc_io.specs.Moments.{SourceMoment}
use Rattle.sc_io.specs.Reading.{IsRead, IsReadToFault}
use Rattle.sc_io.proofs.Known.{Consumes-none, Consumes-then}

-- nothing was read yet
pub nothing_read : (a : SourceMoment) → IsRead a a []
nothing_read a = record { consumed = Consumes-none a.left; later = omega arith; unfailed = refl; steady = λ s. refl; same = refl }

-- some bytes were read, and then some more
pub then_read : (a b c : SourceMoment) (x y : List ℕ) → IsRead a b x → IsRead b c y → IsRead a c (x ++ y)
then_read a b c x y p q = record {
  consumed = Consumes-then a.left b.left c.left x y p.consumed q.consumed;
  later = omega (arith, p.later, q.later);
  unfailed = q.unfailed ∙ p.unfailed;
  steady = λ s. q.steady (p.same ∙ s) ∙ p.steady s;
  same = q.same ∙ p.same;
}

-- some bytes were read, and then some more up to a fault
pub then_read_to_fault : (a b c : SourceMoment) (x y : List ℕ) → IsRead a b x → IsReadToFault b c y → IsReadToFault a c (x ++ y)
then_read_to_fault a b c x y p q = record {
  consumed = Consumes-then a.left b.left c.left x y p.consumed q.consumed;
  later = omega (arith, p.later, q.later);
  rose = omega (arith, p.later, q.rose);
  failed = q.failed ∙ ap (λ (n : ℕ). next_count n) p.unfailed;
  last = q.last;
  may_fail = sym p.same ∙ q.may_fail;
  same = q.same ∙ p.same;
}
