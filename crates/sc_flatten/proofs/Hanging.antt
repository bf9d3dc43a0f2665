-- A number of a forest is hung below another one.
use Rattle.std.proofs.Common.{◌≡◌, ℕ, ◌<◌, ◌≤◌, Bool, true, false, List, length, inl, inr, refl, sym, ap, subst, ◌∙◌, arith}
use Rattle.std.specs.Prelude.{nat_eq, slice_index, slice_set}
use Rattle.std.proofs.lemmas.List.{get_or-set_same, get_or-set_other, length-set}
use Rattle.sc_flatten.specs.Classes.{lesser, greater, joined}
use Rattle.sc_flatten.specs.Forests.{IsLow, IsForest, Finds}
use Rattle.sc_flatten.proofs.Lists.{same_number}
use Rattle.sc_flatten.proofs.Leasts.{lesser_cases, joined_cases, joined_same, link_same}

-- what holds of the old parent of each other number, and of the new one of this, holds of all
module _ (ps : List ℕ) (x v : ℕ) (within : x < length ps) (P : ℕ → ℕ → Type 0) where
  at_number : (b : Bool) (n : ℕ) → nat_eq n x ≡ b → P x v → (nat_eq n x ≡ false → P n (slice_index ps n)) → P n (slice_index (slice_set ps x v) n)
  at_number true n e own others =
      let same = same_number n x e in
      subst (λ k. P k (slice_index (slice_set ps x v) k)) (sym same) (subst (P x) (sym (get_or-set_same ps x v 0 within)) own)
  at_number false n e own others =
      let apart : n ≡ x → ⊥ = λ s. absurd (grind arith) in
      subst (P n) (sym (get_or-set_other ps x n v 0 apart)) (others e)

  pub each_parent : (n : ℕ) → P x v → (nat_eq n x ≡ false → P n (slice_index ps n)) → P n (slice_index (slice_set ps x v) n)
  each_parent n own others = at_number (nat_eq n x) n refl own others

pub hung_low : (ps : List ℕ) (x v : ℕ) → IsLow ps → x < length ps → v ≤ x → IsLow (slice_set ps x v)
hung_low ps x v low within le n h =
    each_parent ps x v within (λ m p. p ≤ m) n le (λ e. low n (subst (λ k. n < k) (length-set ps x v) h))

pub hung : (least : ℕ → ℕ) (ps : List ℕ) (x v : ℕ) → x < length ps → least v ≡ least x → (v ≡ x → least x ≡ x) → IsForest least ps → IsForest least (slice_set ps x v)
hung least ps x v within e top f = record {
  same = λ n h. each_parent ps x v within (λ m p. least p ≡ least m) n e (λ g. f.same n (subst (λ k. n < k) (length-set ps x v) h));
  tops = λ n h. each_parent ps x v within (λ m p. p ≡ m → least m ≡ m) n top (λ g. f.tops n (subst (λ k. n < k) (length-set ps x v) h));
}

-- a number is hung below its parent's parent
pub halved : (least : ℕ → ℕ) (ps : List ℕ) (x : ℕ) → IsLow ps → x < length ps → (slice_index ps x ≡ x → ⊥) → IsForest least ps → IsForest least (slice_set ps x (slice_index ps (slice_index ps x))) × (least (slice_index ps (slice_index ps x)) ≡ least x)
halved least ps x low within apart f =
    let first = low x within in
    let inside : slice_index ps x < length ps = omega (arith, first, within) in
    let second = low (slice_index ps x) inside in
    let same : least (slice_index ps (slice_index ps x)) ≡ least x = f.same (slice_index ps x) inside ∙ f.same x within in
    (hung least ps x (slice_index ps (slice_index ps x)) within same (λ e. absurd (apart (omega (arith, first, second, e)))) f, same)

module _ (least : ℕ → ℕ) (own : (n : ℕ) → least (least n) ≡ least n) (p : ℕ × ℕ) where
  ends_same : (m n : ℕ) → m ≡ least p.0 → n ≡ least p.1 → joined least p m ≡ joined least p n
  ends_same m n e g =
      joined_same least p m p.0 (ap least e ∙ own p.0) ∙ (link_same least p ∙ joined_same least p p.1 n (sym (ap least g ∙ own p.1)))

  greater_own : least (greater (least p.0) (least p.1)) ≡ greater (least p.0) (least p.1)
  greater_own =
      elim (lesser_cases (least p.0) (least p.1)) [
        | inl z ↦ ap least z.1 ∙ (own p.1 ∙ sym z.1)
        | inr z ↦ ap least z.1 ∙ (own p.0 ∙ sym z.1)
      ]

  ends_joined : joined least p (lesser (least p.0) (least p.1)) ≡ joined least p (greater (least p.0) (least p.1))
  ends_joined =
      elim (lesser_cases (least p.0) (least p.1)) [
        | inl z ↦ ends_same (lesser (least p.0) (least p.1)) (greater (least p.0) (least p.1)) z.0 z.1
        | inr z ↦ sym (ends_same (greater (least p.0) (least p.1)) (lesser (least p.0) (least p.1)) z.1 z.0)
      ]

  -- the greater of the leasts of two classes is hung below the lesser
  pub hung_joined : (ps : List ℕ) (x v : ℕ) → x < length ps → x ≡ greater (least p.0) (least p.1) → v ≡ lesser (least p.0) (least p.1) → IsForest least ps → IsForest (joined least p) (slice_set ps x v)
  hung_joined ps x v within xs vs f = record {
    same = λ n h. each_parent ps x v within (λ m q. joined least p q ≡ joined least p m) n
        (ap (joined least p) vs ∙ (ends_joined ∙ ap (joined least p) (sym xs)))
        (λ g. joined_same least p (slice_index ps n) n (f.same n (subst (λ k. n < k) (length-set ps x v) h)));
    tops = λ n h. each_parent ps x v within (λ m q. q ≡ m → joined least p m ≡ m) n
        (λ e. elim (joined_cases least p x) [
          | inl y ↦ y.1 ∙ (sym vs ∙ e)
          | inr y ↦ y.1 ∙ (ap least xs ∙ (greater_own ∙ sym xs))
        ])
        (λ g e.
        let top = f.tops n (subst (λ k. n < k) (length-set ps x v) h) e in
        elim (joined_cases least p n) [
          | inl y ↦ absurd (apart n x g (sym top ∙ (y.0 ∙ sym xs)))
          | inr y ↦ y.1 ∙ top
        ]);
  }
    where
      apart : (m k : ℕ) → nat_eq m k ≡ false → m ≡ k → ⊥
      apart m k g e = grind arith

-- ---- on the way to the least of a number's class
pub record FindStands (start : List ℕ) (number : ℕ) (ps : List ℕ) (at : ℕ) : Type 0 where
  pub low : IsLow ps
  pub within : at ≤ number
  pub range : at < length ps
  pub count : length ps ≡ length start
  pub finds : (least : ℕ → ℕ) → IsForest least start → IsForest least ps × (least at ≡ least number)

pub find_step : (start : List ℕ) (number : ℕ) (ps : List ℕ) (at : ℕ) → (slice_index ps at ≡ at → ⊥) → FindStands start number ps at → FindStands start number (slice_set ps at (slice_index ps (slice_index ps at))) (slice_index ps (slice_index ps at))
find_step start number ps at apart f =
    let first = f.low at f.range in
    let inside : slice_index ps at < length ps = omega (arith, first, f.range) in
    let second = f.low (slice_index ps at) inside in
    record {
      low = hung_low ps at (slice_index ps (slice_index ps at)) f.low f.range (omega (arith, first, second));
      within = omega (arith, first, second, f.within);
      range = omega (arith, first, second, f.range, length-set ps at (slice_index ps (slice_index ps at)));
      count = length-set ps at (slice_index ps (slice_index ps at)) ∙ f.count;
      finds = λ least g.
          let old = f.finds least g in
          let h = halved least ps at f.low f.range apart old.0 in
          (h.0, h.1 ∙ old.1);
    }

-- ---- two classes become one
module _ (old one two : List ℕ) (first second a b : ℕ) (finds : Finds old one first a) (finds-b : Finds one two second b) (least : ℕ → ℕ) (own : (n : ℕ) → least (least n) ≡ least n) (f : IsForest least old) where
  after_first : IsForest least one × (a ≡ least first)
  after_first = finds least f

  after_second : IsForest least two × (b ≡ least second)
  after_second = finds-b least after_first.0

  pub joins_less : b < length two → a < b → IsForest (joined least (first, second)) (slice_set two b a)
  joins_less within lt =
      hung_joined least own (first, second) two b a within
      (after_second.1 ∙ elim (lesser_cases (least first) (least second)) [ inl z ↦ sym z.1 | inr z ↦ absurd (omega (arith, z.2, lt, after_first.1, after_second.1)) ])
      (after_first.1 ∙ elim (lesser_cases (least first) (least second)) [ inl z ↦ sym z.0 | inr z ↦ absurd (omega (arith, z.2, lt, after_first.1, after_second.1)) ])
      after_second.0

  pub joins_more : a < length two → b ≤ a → IsForest (joined least (first, second)) (slice_set two a b)
  joins_more within le =
      hung_joined least own (first, second) two a b within
      (after_first.1 ∙ elim (lesser_cases (least first) (least second)) [ inl z ↦ omega (arith, z.1, z.2, le, after_first.1, after_second.1) | inr z ↦ sym z.1 ])
      (after_second.1 ∙ elim (lesser_cases (least first) (least second)) [ inl z ↦ omega (arith, z.0, z.2, le, after_first.1, after_second.1) | inr z ↦ sym z.0 ])
      after_second.0
