-- Steps that are added one after another.
use Rattle.std.proofs.Common.{◌≡◌, ℕ, zero, suc, ◌+◌, ◌<◌, ◌≤◌, List, [], ◌∷◌, ◌++◌, length, drop, get_or, refl, sym, ap, ◌∙◌, arith}
use Rattle.std.proofs.lemmas.List.{append_assoc}
use Rattle.sc_rules.specs.declared.step.PlainStep.{PlainStep}
use Rattle.sc_rules.specs.declared.step.PlainStep.TheVariants as steps
use Rattle.sc_member.specs.Candidates.{operation_steps, operations_steps, carry_steps, move_steps, single_steps}

drop_suc : (xs : List ℕ) (i : ℕ) → i < length xs → drop i xs ≡ get_or xs i 0 ∷ drop (suc i) xs
drop_suc [] i h = absurd (omega (arith, h))
drop_suc (x ∷ xs) zero h = refl
drop_suc (x ∷ xs) (suc i) h = drop_suc xs i (omega (arith, h))

drop_next : (xs : List ℕ) (i : ℕ) → i < length xs → drop i xs ≡ get_or xs i 0 ∷ drop (i + 1) xs
drop_next xs i h = let on : suc i ≡ i + 1 = omega arith in drop_suc xs i h ∙ ap (λ n. get_or xs i 0 ∷ drop n xs) on

drop_past : (xs : List ℕ) (i : ℕ) → length xs ≤ i → drop i xs ≡ []
drop_past [] zero h = refl
drop_past [] (suc i) h = refl
drop_past (x ∷ xs) zero h = absurd (omega (arith, h))
drop_past (x ∷ xs) (suc i) h = drop_past xs i (omega (arith, h))

none_back : {X : Type 0} (xs : List X) → xs ++ [] ≡ xs
none_back [] = refl
none_back (x ∷ xs) = ap (λ ys. x ∷ ys) (none_back xs)

module _ (all : List ℕ → List PlainStep) (one : ℕ → List PlainStep) (more : (x : ℕ) (xs : List ℕ) → all (x ∷ xs) ≡ one x ++ all xs) (xs : List ℕ) (i : ℕ) where
  added_next : (old new whole : List PlainStep) → i < length xs → new ≡ old ++ one (get_or xs i 0) → old ++ all (drop i xs) ≡ whole → new ++ all (drop (i + 1) xs) ≡ whole
  added_next old new whole h is e =
      ap (λ ys. ys ++ all (drop (i + 1) xs)) is
      ∙ (append_assoc old (one (get_or xs i 0)) (all (drop (i + 1) xs))
      ∙ (ap (λ ys. old ++ ys) (sym (more (get_or xs i 0) (drop (i + 1) xs)))
      ∙ (ap (λ ys. old ++ all ys) (sym (drop_next xs i h)) ∙ e)))

  added_all : (old whole : List PlainStep) → all [] ≡ [] → length xs ≤ i → old ++ all (drop i xs) ≡ whole → old ≡ whole
  added_all old whole none h e = sym (none_back old) ∙ (ap (λ ys. old ++ ys) (sym none) ∙ (ap (λ ys. old ++ all ys) (sym (drop_past xs i h)) ∙ e))

module _ (e s : ℕ) (xs : List ℕ) (i : ℕ) (old new whole : List PlainStep) (h : i < length xs) where
  pub carries_next : new ≡ old ++ steps.Carry e (get_or xs i 0) s ∷ [] → old ++ carry_steps e s (drop i xs) ≡ whole → new ++ carry_steps e s (drop (i + 1) xs) ≡ whole
  unfolding carry_steps
  carries_next = added_next (carry_steps e s) (λ f. steps.Carry e f s ∷ []) (λ x ys. refl) xs i old new whole h

  pub moves_next : new ≡ old ++ steps.Move e s (get_or xs i 0) ∷ [] → old ++ move_steps e s (drop i xs) ≡ whole → new ++ move_steps e s (drop (i + 1) xs) ≡ whole
  unfolding move_steps
  moves_next = added_next (move_steps e s) (λ t. steps.Move e s t ∷ []) (λ x ys. refl) xs i old new whole h

module _ (e : ℕ) (xs : List ℕ) (i : ℕ) (old new whole : List PlainStep) (h : i < length xs) where
  pub singles_next : new ≡ old ++ steps.Single e (get_or xs i 0) ∷ [] → old ++ single_steps e (drop i xs) ≡ whole → new ++ single_steps e (drop (i + 1) xs) ≡ whole
  unfolding single_steps
  singles_next = added_next (single_steps e) (λ s. steps.Single e s ∷ []) (λ x ys. refl) xs i old new whole h

  pub operations_next : new ≡ old ++ operation_steps e (get_or xs i 0) → old ++ operations_steps e (drop i xs) ≡ whole → new ++ operations_steps e (drop (i + 1) xs) ≡ whole
  unfolding operations_steps
  operations_next = added_next (operations_steps e) (operation_steps e) (λ x ys. refl) xs i old new whole h

module _ (e s : ℕ) (xs : List ℕ) (i : ℕ) (old whole : List PlainStep) (h : length xs ≤ i) where
  pub carries_all : old ++ carry_steps e s (drop i xs) ≡ whole → old ≡ whole
  unfolding carry_steps
  carries_all = added_all (carry_steps e s) (λ f. steps.Carry e f s ∷ []) (λ x ys. refl) xs i old whole refl h

  pub moves_all : old ++ move_steps e s (drop i xs) ≡ whole → old ≡ whole
  unfolding move_steps
  moves_all = added_all (move_steps e s) (λ t. steps.Move e s t ∷ []) (λ x ys. refl) xs i old whole refl h

module _ (e : ℕ) (xs : List ℕ) (i : ℕ) (old whole : List PlainStep) (h : length xs ≤ i) where
  pub singles_all : old ++ single_steps e (drop i xs) ≡ whole → old ≡ whole
  unfolding single_steps
  singles_all = added_all (single_steps e) (λ s. steps.Single e s ∷ []) (λ x ys. refl) xs i old whole refl h

  pub operations_all : old ++ operations_steps e (drop i xs) ≡ whole → old ≡ whole
  unfolding operations_steps
  operations_all = added_all (operations_steps e) (operation_steps e) (λ x ys. refl) xs i old whole refl h
