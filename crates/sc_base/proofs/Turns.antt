-- Sums with one turn more or less.
use Rattle.std.proofs.Common.{◌≡◌, ◌^◌, zero, suc, ℤ, pos, negsuc, ◌+ℤ◌, ◌-ℤ◌, ◌*ℤ◌, arith, refl, ap, ◌∙◌}
use Rattle.std.proofs.lemmas.Int.{ints}
use Rattle.std.proofs.Math.IntN.{suc_ℤ, pred_ℤ, suc_ℤ-*ℤ, pred_ℤ-*ℤ}
use Rattle.sc_base.specs.declared.total.Total.{Total}
use Rattle.sc_base.specs.Totals.{amount}

plus_one : (m : ℤ) → m +ℤ pos 1 ≡ suc_ℤ m
plus_one (pos n) = omega (arith, ints)
plus_one (negsuc zero) = refl
plus_one (negsuc (suc n)) = omega (arith, ints)

minus_one : (m : ℤ) → m -ℤ pos 1 ≡ pred_ℤ m
minus_one (pos zero) = refl
minus_one (pos (suc n)) = omega (arith, ints)
minus_one (negsuc n) = omega (arith, ints)

up : (r z p c : ℤ) → ((r +ℤ z) -ℤ c) +ℤ (p +ℤ c) ≡ (r +ℤ p) +ℤ z
up r z p c = omega (arith, ints)

down : (r z p c : ℤ) → ((r +ℤ z) +ℤ c) +ℤ (p -ℤ c) ≡ (r +ℤ p) +ℤ z
down r z p c = omega (arith, ints)

pub one_more : (t u : Total) (z : ℤ) → u.rest ≡ (t.rest +ℤ z) -ℤ pos (2 ^ 128) → u.turns ≡ t.turns +ℤ pos 1 → amount u ≡ amount t +ℤ z
one_more t u z e f =
    (λ i. e i +ℤ ((f ∙ plus_one t.turns) i *ℤ pos (2 ^ 128)))
    ∙ ap (λ p. ((t.rest +ℤ z) -ℤ pos (2 ^ 128)) +ℤ p) (suc_ℤ-*ℤ t.turns (pos (2 ^ 128)))
    ∙ up t.rest z (t.turns *ℤ pos (2 ^ 128)) (pos (2 ^ 128))

pub one_less : (t u : Total) (z : ℤ) → u.rest ≡ (t.rest +ℤ z) +ℤ pos (2 ^ 128) → u.turns ≡ t.turns -ℤ pos 1 → amount u ≡ amount t +ℤ z
one_less t u z e f =
    (λ i. e i +ℤ ((f ∙ minus_one t.turns) i *ℤ pos (2 ^ 128)))
    ∙ ap (λ p. ((t.rest +ℤ z) +ℤ pos (2 ^ 128)) +ℤ p) (pred_ℤ-*ℤ t.turns (pos (2 ^ 128)))
    ∙ down t.rest z (t.turns *ℤ pos (2 ^ 128)) (pos (2 ^ 128))
