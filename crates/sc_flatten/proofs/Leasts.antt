-- The least numbers of the classes of the smallest equivalence that holds some links.
use Rattle.std.proofs.Common.{◌≡◌, ℕ, ◌≤◌, true, false, cond, List, [], ◌∷◌, ◌⊎◌, inl, inr, refl, sym, ap, subst, ◌∙◌, arith}
use Rattle.std.specs.Prelude.{nat_eq, nat_lt, fold}
use Rattle.std.specs.List.{AllByRecursion}
use Rattle.sc_flatten.specs.Classes.{lesser, greater, joined, least_of}
use Rattle.sc_flatten.specs.Laws.{LeastsAreOfClasses}
use Rattle.sc_flatten.proofs.Lists.{same_number}

pub lesser_cases : (m n : ℕ) → ((lesser m n ≡ m) × (greater m n ≡ n) × (m ≤ n)) ⊎ ((lesser m n ≡ n) × (greater m n ≡ m) × (n ≤ m))
lesser_cases m n =
    elim (nat_lt m n) as (λ b. nat_lt m n ≡ b → ((cond b m n ≡ m) × (cond b n m ≡ n) × (m ≤ n)) ⊎ ((cond b m n ≡ n) × (cond b n m ≡ m) × (n ≤ m))) [
      | true ↦ λ e. inl (refl, refl, grind arith)
      | false ↦ λ e. inr (refl, refl, grind arith)
    ] refl

pub joined_cases : (least : ℕ → ℕ) (p : ℕ × ℕ) (n : ℕ) → ((least n ≡ greater (least p.0) (least p.1)) × (joined least p n ≡ lesser (least p.0) (least p.1))) ⊎ ((nat_eq (least n) (greater (least p.0) (least p.1)) ≡ false) × (joined least p n ≡ least n))
joined_cases least p n =
    elim (nat_eq (least n) (greater (least p.0) (least p.1))) as (λ b. nat_eq (least n) (greater (least p.0) (least p.1)) ≡ b → ((least n ≡ greater (least p.0) (least p.1)) × (cond b (lesser (least p.0) (least p.1)) (least n) ≡ lesser (least p.0) (least p.1))) ⊎ ((nat_eq (least n) (greater (least p.0) (least p.1)) ≡ false) × (cond b (lesser (least p.0) (least p.1)) (least n) ≡ least n))) [
      | true ↦ λ e. inl (same_number (least n) (greater (least p.0) (least p.1)) e, refl)
      | false ↦ λ e. inr (e, refl)
    ] refl

-- ---- equal ones stay equal
pub joined_same : (least : ℕ → ℕ) (p : ℕ × ℕ) (m n : ℕ) → least m ≡ least n → joined least p m ≡ joined least p n
joined_same least p m n e =
    ap (λ k. cond (nat_eq k (greater (least p.0) (least p.1))) (lesser (least p.0) (least p.1)) k) e

pub fold_same : (links : List (ℕ × ℕ)) (least : ℕ → ℕ) (m n : ℕ) → least m ≡ least n → fold joined least links m ≡ fold joined least links n
fold_same [] least m n e = e
fold_same (p ∷ ps) least m n e = fold_same ps (joined least p) m n (joined_same least p m n e)

-- the two of a link are joined
pub link_same : (least : ℕ → ℕ) (p : ℕ × ℕ) → joined least p p.0 ≡ joined least p p.1
link_same least p =
    let a = joined_cases least p p.0 in
    let b = joined_cases least p p.1 in
    let c = lesser_cases (least p.0) (least p.1) in
    elim a [
      | inl x ↦ elim b [
        | inl y ↦ x.1 ∙ sym y.1
        | inr y ↦ elim c [
          | inl z ↦ absurd (apart_from (least p.1) (greater (least p.0) (least p.1)) y.0 (sym z.1))
          | inr z ↦ x.1 ∙ (z.0 ∙ sym y.1)
        ]
      ]
      | inr x ↦ elim b [
        | inl y ↦ elim c [
          | inl z ↦ x.1 ∙ (sym z.0 ∙ sym y.1)
          | inr z ↦ absurd (apart_from (least p.0) (greater (least p.0) (least p.1)) x.0 (sym z.1))
        ]
        | inr y ↦ elim c [
          | inl z ↦ absurd (apart_from (least p.1) (greater (least p.0) (least p.1)) y.0 (sym z.1))
          | inr z ↦ absurd (apart_from (least p.0) (greater (least p.0) (least p.1)) x.0 (sym z.1))
        ]
      ]
    ]
  where
    apart_from : (m n : ℕ) → nat_eq m n ≡ false → m ≡ n → ⊥
    apart_from m n e s = grind arith

fold_together : (links : List (ℕ × ℕ)) (least : ℕ → ℕ) → AllByRecursion (λ p. fold joined least links p.0 ≡ fold joined least links p.1) links
fold_together [] least = tt
fold_together (p ∷ ps) least = (fold_same ps (joined least p) p.0 p.1 (link_same least p), fold_together ps (joined least p))

-- ---- a class is what the links make it
module _ {X : Type 0} (f : ℕ → X) where
  lesser_of : (least : ℕ → ℕ) (p : ℕ × ℕ) → f p.0 ≡ f p.1 → ((n : ℕ) → f (least n) ≡ f n) → f (lesser (least p.0) (least p.1)) ≡ f (greater (least p.0) (least p.1))
  lesser_of least p e h =
      elim (lesser_cases (least p.0) (least p.1)) [
        | inl z ↦ ap f z.0 ∙ (h p.0 ∙ (e ∙ (sym (h p.1) ∙ ap f (sym z.1))))
        | inr z ↦ ap f z.0 ∙ (h p.1 ∙ (sym e ∙ (sym (h p.0) ∙ ap f (sym z.1))))
      ]

  joined_apart : (least : ℕ → ℕ) (p : ℕ × ℕ) → f p.0 ≡ f p.1 → ((n : ℕ) → f (least n) ≡ f n) → (n : ℕ) → f (joined least p n) ≡ f n
  joined_apart least p e h n =
      elim (joined_cases least p n) [
        | inl x ↦ ap f x.1 ∙ (lesser_of least p e h ∙ (ap f (sym x.0) ∙ h n))
        | inr x ↦ ap f x.1 ∙ h n
      ]

  pub fold_apart : (links : List (ℕ × ℕ)) (least : ℕ → ℕ) → AllByRecursion (λ p. f p.0 ≡ f p.1) links → ((n : ℕ) → f (least n) ≡ f n) → (n : ℕ) → f (fold joined least links n) ≡ f n
  fold_apart [] least e h n = h n
  fold_apart (p ∷ ps) least e h n = fold_apart ps (joined least p) e.1 (joined_apart least p e.0 h) n

-- ---- the least of a class is at most each of it, and is its own least
abbrev IsBelow : (ℕ → ℕ) → Type 0
IsBelow least = (n : ℕ) → least n ≤ n

abbrev pub IsOwn : (ℕ → ℕ) → Type 0
IsOwn least = (n : ℕ) → least (least n) ≡ least n

joined_low : (least : ℕ → ℕ) (p : ℕ × ℕ) → IsBelow least → IsBelow (joined least p)
joined_low least p h n =
    elim (joined_cases least p n) [
      | inl x ↦ elim (lesser_cases (least p.0) (least p.1)) [
        | inl z ↦ bound (h n) x.0 x.1 z.0 z.1 z.2
        | inr z ↦ bound (h n) x.0 x.1 z.0 z.1 z.2
      ]
      | inr x ↦ subst (λ k. k ≤ n) (sym x.1) (h n)
    ]
  where
    bound : {a b c d e g : ℕ} → a ≤ n → a ≡ b → c ≡ d → d ≡ e → b ≡ g → e ≤ g → c ≤ n
    bound p q r s t u = omega arith

lesser_own : (least : ℕ → ℕ) (p : ℕ × ℕ) → IsOwn least → least (lesser (least p.0) (least p.1)) ≡ lesser (least p.0) (least p.1)
lesser_own least p h =
    elim (lesser_cases (least p.0) (least p.1)) [
      | inl z ↦ ap least z.0 ∙ (h p.0 ∙ sym z.0)
      | inr z ↦ ap least z.0 ∙ (h p.1 ∙ sym z.0)
    ]

pub joined_own : (least : ℕ → ℕ) (p : ℕ × ℕ) → IsOwn least → IsOwn (joined least p)
joined_own least p h n =
    elim (joined_cases least p n) [
      | inl x ↦
          let low = lesser (least p.0) (least p.1) in
          let own : joined least p low ≡ low = elim (joined_cases least p low) [ inl y ↦ y.1 | inr y ↦ y.1 ∙ lesser_own least p h ] in
          ap (joined least p) x.1 ∙ (own ∙ sym x.1)
      | inr x ↦ ap (joined least p) x.1 ∙ (joined_same least p (least n) n (h n))
    ]

pub fold_low : (links : List (ℕ × ℕ)) (least : ℕ → ℕ) → IsBelow least → IsBelow (fold joined least links)
fold_low [] least h = h
fold_low (p ∷ ps) least h = fold_low ps (joined least p) (joined_low least p h)

pub least_low : (links : List (ℕ × ℕ)) (n : ℕ) → least_of links n ≤ n
least_low links n = fold_low links (λ n. n) (λ n. omega arith) n

fold_own : (links : List (ℕ × ℕ)) (least : ℕ → ℕ) → IsOwn least → IsOwn (fold joined least links)
fold_own [] least h = h
fold_own (p ∷ ps) least h = fold_own ps (joined least p) (joined_own least p h)

pub least_own : (links : List (ℕ × ℕ)) (n : ℕ) → least_of links (least_of links n) ≡ least_of links n
least_own links n = fold_own links (λ n. n) (λ n. refl) n

pub leasts_are_of_classes : LeastsAreOfClasses
leasts_are_of_classes links = record {
  together = fold_together links (λ n. n);
  apart = λ f e n. fold_apart f links (λ n. n) e (λ n. refl) n;
  lowest = λ m n e. subst (λ k. k ≤ n) (sym e) (least_low links n);
}
