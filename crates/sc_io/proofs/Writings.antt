-- Writes one after another.
use Rattle.std.proofs.Common.{◌≡◌, ◌<◌, ℕ, ◌-◌, List, [], ◌∷◌, ◌++◌, length, take, drop, refl, sym, ap, ◌∙◌, subst, append_assoc, Result, Ok, Err, arith}
use Rattle.std.proofs.lemmas.List.{take-append-drop, append-nil, length-append}
use Rattle.std.proofs.lemmas.Grind.{common_steps}
use Rattle.sc_io.specs.Counts.{next_count}
use Rattle.sc_io.specs.Moments.{SinkMoment}
use Rattle.sc_io.specs.Writing.{IsSameSink, IsWritten, IsWrittenToFault, IsWrittenToWant, IsCutByMemory, IsCutByFault, PutGives}
use Rattle.sc_io.specs.declared.put.PutError.{PutError}
use Rattle.sc_io.specs.declared.put.PutError.TheVariants as errors
use Rattle.sc_io.proofs.Known.{Appends-none, Appends-then}

-- nothing was written yet
pub nothing_written : (a : SinkMoment) → IsWritten a a []
nothing_written a = record { appended = Appends-none a.written; later = omega arith; unfailed = refl; unwanting = refl; steady = λ s. refl; same = record { failing = refl; memory = refl } }

then_same : (a b c : SinkMoment) → IsSameSink a b → IsSameSink b c → IsSameSink a c
then_same a b c p q = record { failing = q.failing ∙ p.failing; memory = q.memory ∙ p.memory }

-- some bytes were written, and then some more
pub then_written : (a b c : SinkMoment) (x y : List ℕ) → IsWritten a b x → IsWritten b c y → IsWritten a c (x ++ y)
then_written a b c x y p q = record {
  appended = Appends-then a.written b.written c.written x y p.appended q.appended;
  later = omega (arith, p.later, q.later);
  unfailed = q.unfailed ∙ p.unfailed;
  unwanting = q.unwanting ∙ p.unwanting;
  steady = λ s. q.steady (p.same.failing ∙ s) ∙ p.steady s;
  same = then_same a b c p.same q.same;
}

-- some bytes were written, and then some more up to a fault
pub then_written_to_fault : (a b c : SinkMoment) (x y : List ℕ) → IsWritten a b x → IsWrittenToFault b c y → IsWrittenToFault a c (x ++ y)
then_written_to_fault a b c x y p q = record {
  appended = Appends-then a.written b.written c.written x y p.appended q.appended;
  later = omega (arith, p.later, q.later);
  rose = omega (arith, p.later, q.rose);
  failed = q.failed ∙ ap (λ (n : ℕ). next_count n) p.unfailed;
  last = q.last;
  unwanting = q.unwanting ∙ p.unwanting;
  may_fail = sym p.same.failing ∙ q.may_fail;
  same = then_same a b c p.same q.same;
}

-- some bytes were written, and then some more up to want of memory
pub then_written_to_want : (a b c : SinkMoment) (x y : List ℕ) → IsWritten a b x → IsWrittenToWant b c y → IsWrittenToWant a c (x ++ y)
then_written_to_want a b c x y p q = record {
  appended = Appends-then a.written b.written c.written x y p.appended q.appended;
  later = omega (arith, p.later, q.later);
  unfailed = q.unfailed ∙ p.unfailed;
  wanted = q.wanted ∙ ap (λ (n : ℕ). next_count n) p.unwanting;
  last = q.last;
  steady = λ s. q.steady (p.same.failing ∙ s) ∙ p.steady s;
  may_want = sym p.same.memory ∙ q.may_want;
  same = then_same a b c p.same q.same;
}

-- a front of some bytes, put behind others
parts_after : (x y front rest : List ℕ) → y ≡ front ++ rest → x ++ y ≡ (x ++ front) ++ rest
parts_after x y front rest e = ap (λ (z : List ℕ). x ++ z) e ∙ sym (append_assoc x front rest)

-- a front of some bytes is one of more bytes
parts_before : (x y front rest : List ℕ) → x ≡ front ++ rest → x ++ y ≡ front ++ (rest ++ y)
parts_before x y front rest e = ap (λ (z : List ℕ). z ++ y) e ∙ append_assoc front rest y

-- what is left stays left before more bytes
left_before : (rest y : List ℕ) → 0 < length rest → 0 < length (rest ++ y)
left_before rest y p = omega (arith, length-append rest y, p)

-- some bytes were written, and then a front of others
pub then_cut_by_memory : (a b c : SinkMoment) (x y : List ℕ) → IsWritten a b x → IsCutByMemory b c y → IsCutByMemory a c (x ++ y)
then_cut_by_memory a b c x y p q = record {
  front = x ++ q.front;
  rest = q.rest;
  parts = parts_after x y q.front q.rest q.parts;
  left = q.left;
  written = then_written_to_want a b c x q.front p q.written;
}

pub then_cut_by_fault : (a b c : SinkMoment) (x y : List ℕ) → IsWritten a b x → IsCutByFault b c y → IsCutByFault a c (x ++ y)
then_cut_by_fault a b c x y p q = record {
  front = x ++ q.front;
  rest = q.rest;
  parts = parts_after x y q.front q.rest q.parts;
  left = q.left;
  written = then_written_to_fault a b c x q.front p q.written;
}

-- what was cut within some bytes was cut within more
pub cut_by_memory_within : (a b : SinkMoment) (x y : List ℕ) → IsCutByMemory a b x → IsCutByMemory a b (x ++ y)
cut_by_memory_within a b x y p = record {
  front = p.front;
  rest = p.rest ++ y;
  parts = parts_before x y p.front p.rest p.parts;
  left = left_before p.rest y p.left;
  written = p.written;
}

pub cut_by_fault_within : (a b : SinkMoment) (x y : List ℕ) → IsCutByFault a b x → IsCutByFault a b (x ++ y)
cut_by_fault_within a b x y p = record {
  front = p.front;
  rest = p.rest ++ y;
  parts = parts_before x y p.front p.rest p.parts;
  left = left_before p.rest y p.left;
  written = p.written;
}

-- some bytes were written, and then a piece was put
pub then_put : (a b c : SinkMoment) (x y : List ℕ) (r : Result (Unit {0}) PutError) → IsWritten a b x → PutGives b c y r → PutGives a c (x ++ y) r
then_put a b c x y (Ok z) p q = then_written a b c x y p q
then_put a b c x y (Err errors.Sink) p q = then_cut_by_fault a b c x y p q
then_put a b c x y (Err errors.Memory) p q = then_cut_by_memory a b c x y p q

-- a piece that was put in part is one of more bytes
pub put_within : (a b : SinkMoment) (x y : List ℕ) (e : PutError) → PutGives a b x (Err e) → PutGives a b (x ++ y) (Err e)
put_within a b x y errors.Sink p = cut_by_fault_within a b x y p
put_within a b x y errors.Memory p = cut_by_memory_within a b x y p

-- A front of the piece was written, and this is the rest.
pub record IsPutting (before now : SinkMoment) (piece rest : List ℕ) : Type 0 where
  pub front : List ℕ
  pub parts : piece ≡ front ++ rest
  pub written : IsWritten before now front

pub starts : (a : SinkMoment) (piece : List ℕ) → IsPutting a a piece piece
starts a piece = record { front = []; parts = refl; written = nothing_written a }

-- what `&rest[n..]` is
slice_from : (n : ℕ) (rest : List ℕ) → take (length rest - n) (drop n rest) ≡ drop n rest
slice_from n rest = grind (arith, common_steps)

pub goes_on : (a b c : SinkMoment) (piece rest : List ℕ) (n : ℕ) → IsPutting a b piece rest → IsWritten b c (take n rest) → IsPutting a c piece (take (length rest - n) (drop n rest))
goes_on a b c piece rest n w p = rw slice_from (record {
  front = w.front ++ take n rest;
  parts = w.parts ∙ ap (λ (t : List ℕ). w.front ++ t) (sym (take-append-drop n rest)) ∙ sym (append_assoc w.front (take n rest) (drop n rest));
  written = then_written a b c w.front (take n rest) w.written p;
})

pub ends : (a b : SinkMoment) (piece rest : List ℕ) → length rest ≡ 0 → IsPutting a b piece rest → IsWritten a b piece
ends a b piece [] e w = rw (w.parts, append-nil) w.written
ends a b piece (x ∷ rest) e w = absurd (omega arith)

pub stops_by_fault : (a b c : SinkMoment) (piece rest : List ℕ) → 0 < length rest → IsPutting a b piece rest → IsWrittenToFault b c [] → IsCutByFault a c piece
stops_by_fault a b c piece rest left w f = record {
  front = w.front;
  rest = rest;
  parts = w.parts;
  left = left;
  written = subst (IsWrittenToFault a c) (append-nil w.front) (then_written_to_fault a b c w.front [] w.written f);
}

pub stops_by_memory : (a b c : SinkMoment) (piece rest : List ℕ) → 0 < length rest → IsPutting a b piece rest → IsWrittenToWant b c [] → IsCutByMemory a c piece
stops_by_memory a b c piece rest left w f = record {
  front = w.front;
  rest = rest;
  parts = w.parts;
  left = left;
  written = subst (IsWrittenToWant a c) (append-nil w.front) (then_written_to_want a b c w.front [] w.written f);
}
