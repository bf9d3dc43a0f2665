-- Items by numbers that count from 1.
use Rattle.std.proofs.Common.{◌≡◌, ℕ, zero, suc, ◌-◌, Bool, true, false, List, take, drop, Some, subst, arith}
use Rattle.std.specs.Prelude.{slice_get}
use Rattle.std.specs.List.{list_any, list_all}
use Rattle.sc_base.specs.Numbered.{item_at}
use Rattle.sc_base.proofs.Bools.{all_at, none_at, all_but, none_but}

-- an item with a number that counts from 1 stands one place before
pub item_place : {X : Type 0} (xs : List X) (p : ℕ) (x : X) → item_at xs p ≡ Some x → (p ≡ suc (p - 1)) × (slice_get xs (p - 1) ≡ Some x)
item_place xs zero x e = absurd cc
item_place xs (suc i) x e =
    let back : i ≡ suc i - 1 = omega arith in (omega arith, subst (λ k. slice_get xs k ≡ Some x) back e)

module _ {X : Type 0} (t : X → Bool) (xs : List X) (p : ℕ) (x : X) (e : item_at xs p ≡ Some x) where
  pub all_at_item : list_all t xs ≡ true → t x ≡ true
  all_at_item = all_at t xs (p - 1) x (item_place xs p x e).1

  pub none_at_item : list_any t xs ≡ false → t x ≡ false
  none_at_item = none_at t xs (p - 1) x (item_place xs p x e).1

  pub all_but_item : list_all t (take (p - 1) xs) ≡ true → list_all t (drop p xs) ≡ true → list_all t xs ≡ t x
  all_but_item a b =
      let place = item_place xs p x e in
      all_but t xs (p - 1) x place.1 a (subst (λ n. list_all t (drop n xs) ≡ true) place.0 b)

  pub none_but_item : list_any t (take (p - 1) xs) ≡ false → list_any t (drop p xs) ≡ false → list_any t xs ≡ t x
  none_but_item a b =
      let place = item_place xs p x e in
      none_but t xs (p - 1) x place.1 a (subst (λ n. list_any t (drop n xs) ≡ false) place.0 b)
