-- The least number of a class is the least that is joined.
use Rattle.std.proofs.Common.{◌≡◌, ℕ, zero, suc, ◌<◌, ◌≤◌, length, List, [], ◌∷◌, ◌++◌, inl, inr, refl, sym, ap, subst, ◌∙◌, arith}
use Rattle.std.specs.Prelude.{fold, slice_index_or}
use Rattle.std.proofs.Common.{length-append}
use Rattle.std.proofs.Math.Seq.{get_or-append_seam}
use Rattle.std.proofs.lemmas.List.{append_assoc}
use Rattle.std.specs.List.{AllByRecursion}
use Rattle.sc_classes.specs.Classes.{Joined, IsLeastJoined, united, least_of, lesser, greater}
use Rattle.sc_classes.specs.Classes.Joined.{paired, itself, turned, chained}
use Rattle.sc_classes.proofs.Leasts.{lesser_cases, united_cases, fold_together, least_low}

module _ (pairs : List (ℕ × ℕ)) where
  -- what holds of each pair's two holds along the class
  joined_same : (f : ℕ → ℕ) → AllByRecursion (λ p. f p.0 ≡ f p.1) pairs → {m n : ℕ} → Joined pairs m n → f m ≡ f n
  joined_same f all (paired m n c) = along pairs all c.0 c.1 c.2
    where
      along : (ps : List (ℕ × ℕ)) → AllByRecursion (λ p. f p.0 ≡ f p.1) ps → (k : ℕ) → k < length ps → slice_index_or ps k (m, n) ≡ (m, n) → f m ≡ f n
      along [] all k h e = absurd (omega (arith, h))
      along (p ∷ ps) all zero h e = sym (ap (λ (q : ℕ × ℕ). f q.0) e) ∙ (all.0 ∙ ap (λ (q : ℕ × ℕ). f q.1) e)
      along (p ∷ ps) all (suc k) h e = along ps all.1 k (omega (arith, h)) e
  joined_same f all (itself n) = refl
  joined_same f all (turned m n j) = sym (joined_same f all j)
  joined_same f all (chained l m n j k) = joined_same f all j ∙ joined_same f all k

  back : {m n : ℕ} → Joined pairs m n → Joined pairs n m
  back {m} {n} j = turned m n j

  on : {l m n : ℕ} → Joined pairs l m → Joined pairs m n → Joined pairs l n
  on {l} {m} {n} j k = chained l m n j k

  to : {m n k : ℕ} → Joined pairs m n → n ≡ k → Joined pairs m k
  to {m} {n} {k} j e = subst (Joined pairs m) e j

  -- the leasts stay in their classes
  united_joined : (least : ℕ → ℕ) (p : ℕ × ℕ) → Joined pairs p.0 p.1 → ((n : ℕ) → Joined pairs n (least n)) → (n : ℕ) → Joined pairs n (united least p n)
  united_joined least p j h n =
      elim (united_cases least p n) [
        | inl x ↦ to (on (to (h n) x.0) greater_lesser) (sym x.1)
        | inr x ↦ to (h n) (sym x.1)
      ]
    where
      ends : Joined pairs (least p.0) (least p.1)
      ends = on (back (h p.0)) (on j (h p.1))

      greater_lesser : Joined pairs (greater (least p.0) (least p.1)) (lesser (least p.0) (least p.1))
      greater_lesser =
          elim (lesser_cases (least p.0) (least p.1)) [
            | inl z ↦ to (back (to ends (sym z.1))) (sym z.0)
            | inr z ↦ to (back (to (back ends) (sym z.1))) (sym z.0)
          ]

  fold_joined : (ps : List (ℕ × ℕ)) (least : ℕ → ℕ) → AllByRecursion (λ p. Joined pairs p.0 p.1) ps → ((n : ℕ) → Joined pairs n (least n)) → (n : ℕ) → Joined pairs n (fold united least ps n)
  fold_joined [] least all h n = h n
  fold_joined (p ∷ ps) least all h n = fold_joined ps (united least p) all.1 (united_joined least p all.0 h) n

  all_joined : (front ps : List (ℕ × ℕ)) → pairs ≡ front ++ ps → AllByRecursion (λ p. Joined pairs p.0 p.1) ps
  all_joined front [] e = tt
  all_joined front (p ∷ ps) e = (
    paired p.0 p.1 (length front, subst (λ qs. length front < length qs) (sym e) (omega (arith, length-append front (p ∷ ps))), ap (λ qs. slice_index_or qs (length front) p) e ∙ get_or-append_seam front p ps p),
    all_joined (front ++ p ∷ []) ps (e ∙ sym (append_assoc front (p ∷ []) ps)),
  )

  pub is_least : (n : ℕ) → IsLeastJoined pairs n (least_of pairs n)
  is_least n = record {
    joined = fold_joined pairs (λ n. n) (all_joined [] pairs refl) (λ n. itself n) n;
    lowest = λ m j. subst (λ k. k ≤ m) (sym (joined_same (least_of pairs) (fold_together pairs (λ n. n)) j)) (least_low pairs m);
  }

pub least_at : (pairs : List (ℕ × ℕ)) (n least : ℕ) → least ≡ least_of pairs n → IsLeastJoined pairs n least
least_at pairs n least e = subst (IsLeastJoined pairs n) (sym e) (is_least pairs n)

pub least_within : (pairs : List (ℕ × ℕ)) (n least : ℕ) → least ≡ least_of pairs n → least ≤ n
least_within pairs n least e = subst (λ k. k ≤ n) (sym e) (least_low pairs n)
