-- The least numbers of the classes of the smallest equivalence that holds some pairs.
use Rattle.std.proofs.Common.{◌≡◌, ℕ, ◌≤◌, true, false, cond, List, [], ◌∷◌, ◌⊎◌, inl, inr, refl, sym, ap, subst, ◌∙◌, arith}
use Rattle.std.specs.Prelude.{nat_eq, nat_lt, fold}
use Rattle.std.specs.List.{AllByRecursion}
use Rattle.sc_classes.specs.Classes.{lesser, greater, united, least_of}
use Rattle.std.specs.Cmp.{unsigned_Decides}

pub same_number : (m n : ℕ) → nat_eq m n ≡ true → m ≡ n
same_number m n e = (unsigned_Decides m n).0 e

pub lesser_cases : (m n : ℕ) → ((lesser m n ≡ m) × (greater m n ≡ n) × (m ≤ n)) ⊎ ((lesser m n ≡ n) × (greater m n ≡ m) × (n ≤ m))
lesser_cases m n =
    elim (nat_lt m n) as (λ b. nat_lt m n ≡ b → ((cond b m n ≡ m) × (cond b n m ≡ n) × (m ≤ n)) ⊎ ((cond b m n ≡ n) × (cond b n m ≡ m) × (n ≤ m))) [
      | true ↦ λ e. inl (refl, refl, grind arith)
      | false ↦ λ e. inr (refl, refl, grind arith)
    ] refl

pub united_cases : (least : ℕ → ℕ) (p : ℕ × ℕ) (n : ℕ) → ((least n ≡ greater (least p.0) (least p.1)) × (united least p n ≡ lesser (least p.0) (least p.1))) ⊎ ((nat_eq (least n) (greater (least p.0) (least p.1)) ≡ false) × (united least p n ≡ least n))
united_cases least p n =
    elim (nat_eq (least n) (greater (least p.0) (least p.1))) as (λ b. nat_eq (least n) (greater (least p.0) (least p.1)) ≡ b → ((least n ≡ greater (least p.0) (least p.1)) × (cond b (lesser (least p.0) (least p.1)) (least n) ≡ lesser (least p.0) (least p.1))) ⊎ ((nat_eq (least n) (greater (least p.0) (least p.1)) ≡ false) × (cond b (lesser (least p.0) (least p.1)) (least n) ≡ least n))) [
      | true ↦ λ e. inl (same_number (least n) (greater (least p.0) (least p.1)) e, refl)
      | false ↦ λ e. inr (e, refl)
    ] refl

-- ---- equal ones stay equal
pub united_same : (least : ℕ → ℕ) (p : ℕ × ℕ) (m n : ℕ) → least m ≡ least n → united least p m ≡ united least p n
united_same least p m n e =
    ap (λ k. cond (nat_eq k (greater (least p.0) (least p.1))) (lesser (least p.0) (least p.1)) k) e

pub fold_same : (pairs : List (ℕ × ℕ)) (least : ℕ → ℕ) (m n : ℕ) → least m ≡ least n → fold united least pairs m ≡ fold united least pairs n
fold_same [] least m n e = e
fold_same (p ∷ ps) least m n e = fold_same ps (united least p) m n (united_same least p m n e)

-- the two of a pair are united
pub pair_same : (least : ℕ → ℕ) (p : ℕ × ℕ) → united least p p.0 ≡ united least p p.1
pair_same least p =
    let a = united_cases least p p.0 in
    let b = united_cases least p p.1 in
    let c = lesser_cases (least p.0) (least p.1) in
    elim a [
      | inl x ↦ elim b [
        | inl y ↦ x.1 ∙ sym y.1
        | inr y ↦ elim c [
          | inl z ↦ absurd (apart_from (least p.1) (greater (least p.0) (least p.1)) y.0 (sym z.1))
          | inr z ↦ x.1 ∙ (z.0 ∙ sym y.1)
        ]
      ]
      | inr x ↦ elim b [
        | inl y ↦ elim c [
          | inl z ↦ x.1 ∙ (sym z.0 ∙ sym y.1)
          | inr z ↦ absurd (apart_from (least p.0) (greater (least p.0) (least p.1)) x.0 (sym z.1))
        ]
        | inr y ↦ elim c [
          | inl z ↦ absurd (apart_from (least p.1) (greater (least p.0) (least p.1)) y.0 (sym z.1))
          | inr z ↦ absurd (apart_from (least p.0) (greater (least p.0) (least p.1)) x.0 (sym z.1))
        ]
      ]
    ]
  where
    apart_from : (m n : ℕ) → nat_eq m n ≡ false → m ≡ n → ⊥
    apart_from m n e s = grind arith

pub fold_together : (pairs : List (ℕ × ℕ)) (least : ℕ → ℕ) → AllByRecursion (λ p. fold united least pairs p.0 ≡ fold united least pairs p.1) pairs
fold_together [] least = tt
fold_together (p ∷ ps) least = (fold_same ps (united least p) p.0 p.1 (pair_same least p), fold_together ps (united least p))

-- ---- a class is what the pairs make it
module _ {X : Type 0} (f : ℕ → X) where
  lesser_of : (least : ℕ → ℕ) (p : ℕ × ℕ) → f p.0 ≡ f p.1 → ((n : ℕ) → f (least n) ≡ f n) → f (lesser (least p.0) (least p.1)) ≡ f (greater (least p.0) (least p.1))
  lesser_of least p e h =
      elim (lesser_cases (least p.0) (least p.1)) [
        | inl z ↦ ap f z.0 ∙ (h p.0 ∙ (e ∙ (sym (h p.1) ∙ ap f (sym z.1))))
        | inr z ↦ ap f z.0 ∙ (h p.1 ∙ (sym e ∙ (sym (h p.0) ∙ ap f (sym z.1))))
      ]

  united_apart : (least : ℕ → ℕ) (p : ℕ × ℕ) → f p.0 ≡ f p.1 → ((n : ℕ) → f (least n) ≡ f n) → (n : ℕ) → f (united least p n) ≡ f n
  united_apart least p e h n =
      elim (united_cases least p n) [
        | inl x ↦ ap f x.1 ∙ (lesser_of least p e h ∙ (ap f (sym x.0) ∙ h n))
        | inr x ↦ ap f x.1 ∙ h n
      ]

  pub fold_apart : (pairs : List (ℕ × ℕ)) (least : ℕ → ℕ) → AllByRecursion (λ p. f p.0 ≡ f p.1) pairs → ((n : ℕ) → f (least n) ≡ f n) → (n : ℕ) → f (fold united least pairs n) ≡ f n
  fold_apart [] least e h n = h n
  fold_apart (p ∷ ps) least e h n = fold_apart ps (united least p) e.1 (united_apart least p e.0 h) n

-- ---- the least of a class is at most each of it, and is its own least
abbrev IsBelow : (ℕ → ℕ) → Type 0
IsBelow least = (n : ℕ) → least n ≤ n

abbrev pub IsOwn : (ℕ → ℕ) → Type 0
IsOwn least = (n : ℕ) → least (least n) ≡ least n

united_low : (least : ℕ → ℕ) (p : ℕ × ℕ) → IsBelow least → IsBelow (united least p)
united_low least p h n =
    elim (united_cases least p n) [
      | inl x ↦ elim (lesser_cases (least p.0) (least p.1)) [
        | inl z ↦ bound (h n) x.0 x.1 z.0 z.1 z.2
        | inr z ↦ bound (h n) x.0 x.1 z.0 z.1 z.2
      ]
      | inr x ↦ subst (λ k. k ≤ n) (sym x.1) (h n)
    ]
  where
    bound : {a b c d e g : ℕ} → a ≤ n → a ≡ b → c ≡ d → d ≡ e → b ≡ g → e ≤ g → c ≤ n
    bound p q r s t u = omega arith

lesser_own : (least : ℕ → ℕ) (p : ℕ × ℕ) → IsOwn least → least (lesser (least p.0) (least p.1)) ≡ lesser (least p.0) (least p.1)
lesser_own least p h =
    elim (lesser_cases (least p.0) (least p.1)) [
      | inl z ↦ ap least z.0 ∙ (h p.0 ∙ sym z.0)
      | inr z ↦ ap least z.0 ∙ (h p.1 ∙ sym z.0)
    ]

pub united_own : (least : ℕ → ℕ) (p : ℕ × ℕ) → IsOwn least → IsOwn (united least p)
united_own least p h n =
    elim (united_cases least p n) [
      | inl x ↦
          let low = lesser (least p.0) (least p.1) in
          let own : united least p low ≡ low = elim (united_cases least p low) [ inl y ↦ y.1 | inr y ↦ y.1 ∙ lesser_own least p h ] in
          ap (united least p) x.1 ∙ (own ∙ sym x.1)
      | inr x ↦ ap (united least p) x.1 ∙ (united_same least p (least n) n (h n))
    ]

pub fold_low : (pairs : List (ℕ × ℕ)) (least : ℕ → ℕ) → IsBelow least → IsBelow (fold united least pairs)
fold_low [] least h = h
fold_low (p ∷ ps) least h = fold_low ps (united least p) (united_low least p h)

pub least_low : (pairs : List (ℕ × ℕ)) (n : ℕ) → least_of pairs n ≤ n
least_low pairs n = fold_low pairs (λ n. n) (λ n. omega arith) n

fold_own : (pairs : List (ℕ × ℕ)) (least : ℕ → ℕ) → IsOwn least → IsOwn (fold united least pairs)
fold_own [] least h = h
fold_own (p ∷ ps) least h = fold_own ps (united least p) (united_own least p h)

pub least_own : (pairs : List (ℕ × ℕ)) (n : ℕ) → least_of pairs (least_of pairs n) ≡ least_of pairs n
least_own pairs n = fold_own pairs (λ n. n) (λ n. refl) n
