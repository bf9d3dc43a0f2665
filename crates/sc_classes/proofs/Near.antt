-- The lists of neighbours.
use Rattle.std.proofs.Common.{◌≡◌, ◌≢◌, ℕ, zero, suc, ◌<◌, ◌≤◌, Bool, true, false, cond, List, [], ◌∷◌, ◌++◌, length, inl, inr, refl, sym, ap, subst, ◌∙◌}
use Rattle.std.specs.Prelude.{nat_eq, slice_set}
use Rattle.std.specs.List.{AllByRecursion}
use Rattle.std.specs.Cmp.{unsigned_Decides}
use Rattle.std.proofs.lemmas.List.{get_or-set_same, get_or-set_other, length-set, set-set, set-get_or, append_assoc}
use Rattle.std.proofs.lemmas.Grind.{flat_map-append}
use Rattle.sc_classes.specs.Classes.{other_of, neighbours_of}
use Rattle.sc_classes.specs.Forests.{held_at, IsConnected, HasNeighbours, PairIn}
use Rattle.sc_classes.proofs.Hung.{alike}

none_back : {X : Type 0} (xs : List X) → xs ++ [] ≡ xs
none_back [] = refl
none_back (x ∷ xs) = ap (λ ys. x ∷ ys) (none_back xs)

equal_here : (m n : ℕ) → m ≡ n → nat_eq m n ≡ true
equal_here m n e = (unsigned_Decides m n).1 e

unequal : (m n : ℕ) → m ≢ n → nat_eq m n ≡ false
unequal m n ne = by (nat_eq m n) refl
  where
    by : (b : Bool) → nat_eq m n ≡ b → nat_eq m n ≡ false
    by true e = absurd (ne ((unsigned_Decides m n).0 e))
    by false e = e

-- one more number behind the list of k
pub held_pushed : (lists : List (List ℕ)) (k v n : ℕ) → k < length lists → held_at (slice_set lists k (held_at lists k ++ v ∷ [])) n ≡ held_at lists n ++ cond (nat_eq k n) (v ∷ []) []
held_pushed lists k v n h =
    elim (alike k n) [
      | inl e ↦ subst (λ m. held_at (slice_set lists k (held_at lists k ++ v ∷ [])) m ≡ held_at lists m ++ cond (nat_eq k m) (v ∷ []) []) e
          (get_or-set_same lists k (held_at lists k ++ v ∷ []) [] h ∙ ap (λ b. held_at lists k ++ cond b (v ∷ []) []) (sym (equal_here k k refl)))
      | inr ne ↦ get_or-set_other lists k n (held_at lists k ++ v ∷ []) [] (λ e. ne (sym e))
          ∙ (sym (none_back (held_at lists n)) ∙ ap (λ b. held_at lists n ++ cond b (v ∷ []) []) (sym (unequal k n ne)))
    ]

pub connected : (old one two : List (List ℕ)) (first second : ℕ) → first < length old → second < length old → one ≡ slice_set old first (held_at old first ++ second ∷ []) → two ≡ slice_set one second (held_at one second ++ first ∷ []) → IsConnected old (first, second) two
connected old one two first second h k is_one is_two =
    let one_count : length one ≡ length old = ap length is_one ∙ length-set old first (held_at old first ++ second ∷ []) in
    record {
      count = ap length is_two ∙ (length-set one second (held_at one second ++ first ∷ []) ∙ one_count);
      near = λ n.
          ap (λ ls. held_at ls n) is_two
          ∙ (held_pushed one second first n (subst (λ m. second < m) (sym one_count) k)
          ∙ (ap (λ ls. held_at ls n ++ cond (nat_eq second n) (first ∷ []) []) is_one
          ∙ (ap (λ xs. xs ++ cond (nat_eq second n) (first ∷ []) []) (held_pushed old first second n h)
          ∙ append_assoc (held_at old n) (cond (nat_eq first n) (second ∷ []) []) (cond (nat_eq second n) (first ∷ []) []))));
    }

-- what was added is taken back
pub taken_back : (old one two : List (List ℕ)) (first second : ℕ) → first < length old → one ≡ slice_set old first (held_at old first ++ second ∷ []) → ((front : List ℕ) (number : ℕ) → held_at one first ≡ front ++ number ∷ [] → two ≡ slice_set one first front) → two ≡ old
taken_back old one two first second h is_one undone =
    let there : held_at one first ≡ held_at old first ++ second ∷ [] = ap (λ ls. held_at ls first) is_one ∙ get_or-set_same old first (held_at old first ++ second ∷ []) [] h in
    undone (held_at old first) second there
    ∙ (ap (λ ls. slice_set ls first (held_at old first)) is_one
    ∙ (set-set old first (held_at old first ++ second ∷ []) (held_at old first)
    ∙ set-get_or old first []))

-- so many lists of nothing
pub held_none : (lists : List (List ℕ)) → ((n : ℕ) → held_at lists n ≡ []) → (n : ℕ) → held_at (lists ++ [] ∷ []) n ≡ []
held_none [] h zero = refl
held_none [] h (suc n) = refl
held_none (x ∷ xs) h zero = h zero
held_none (x ∷ xs) h (suc n) = held_none xs (λ m. h (suc m)) n

pub has_more : (last : ℕ) (pairs : List (ℕ × ℕ)) (p : ℕ × ℕ) (old new : List (List ℕ)) → HasNeighbours last pairs old → PairIn last p → IsConnected old p new → HasNeighbours last (pairs ++ p ∷ []) new
has_more last pairs p old new h within c = record {
  count = c.count ∙ h.count;
  near = λ n. c.near n ∙ (ap (λ xs. xs ++ other_of n p) (h.near n) ∙ (ap (λ xs. neighbours_of pairs n ++ xs) (sym (none_back (other_of n p))) ∙ sym (flat_map-append (other_of n) pairs (p ∷ []))));
  inside = all_more pairs h.inside;
}
  where
    all_more : (ps : List (ℕ × ℕ)) → AllByRecursion (PairIn last) ps → AllByRecursion (PairIn last) (ps ++ p ∷ [])
    all_more [] all = (within, tt)
    all_more (q ∷ qs) all = (all.0, all_more qs all.1)

-- ---- neighbours are within
all_append : {X : Type 0} (P : X → Type 0) (xs ys : List X) → AllByRecursion P xs → AllByRecursion P ys → AllByRecursion P (xs ++ ys)
all_append P [] ys h k = k
all_append P (x ∷ xs) ys h k = (h.0, all_append P xs ys h.1 k)

all_under : {X : Type 0} (P : X → Type 0) (b : Bool) (x : X) → P x → AllByRecursion P (cond b (x ∷ []) [])
all_under P true x h = (h, tt)
all_under P false x h = tt

pub near_within : (last : ℕ) (pairs : List (ℕ × ℕ)) (lists : List (List ℕ)) (n : ℕ) (found : List ℕ) → HasNeighbours last pairs lists → found ≡ held_at lists n → AllByRecursion (λ m. m ≤ last) found
near_within last pairs lists n found h e = subst (AllByRecursion (λ m. m ≤ last)) (sym (e ∙ h.near n)) (by pairs h.inside)
  where
    by : (ps : List (ℕ × ℕ)) → AllByRecursion (PairIn last) ps → AllByRecursion (λ m. m ≤ last) (neighbours_of ps n)
    by [] all = tt
    by (p ∷ ps) all =
        all_append (λ m. m ≤ last) (other_of n p) (neighbours_of ps n)
        (all_append (λ m. m ≤ last) (cond (nat_eq p.0 n) (p.1 ∷ []) []) (cond (nat_eq p.1 n) (p.0 ∷ []) []) (all_under (λ m. m ≤ last) (nat_eq p.0 n) p.1 all.0.1) (all_under (λ m. m ≤ last) (nat_eq p.1 n) p.0 all.0.0))
        (by ps all.1)
