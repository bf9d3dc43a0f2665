-- How many steps lead to a leaf.
use Rattle.std.proofs.Common.{◌≡◌, ℕ, zero, suc, ◌+◌, ◌<◌, ◌≤◌, true, ◌↔◌, List, ◌∷◌, length, length-append, map, ◌⊎◌, inl, inr, Option, Some, None, refl, sym, ap, ◌∙◌, subst, arith}
use Rattle.sc_base.specs.Numbered.{item_at}
use Rattle.sc_deriv.specs.declared.derivation.Step.{Step}
use Rattle.sc_deriv.specs.declared.derivation.Taken.{Taken}
use Rattle.sc_tree.specs.declared.machine.Place.{Place}
use Rattle.sc_tree.specs.declared.seats.Holding.{Holding}
use Rattle.sc_tree.specs.Chains.{taken, firsts}
use Rattle.sc_tree.specs.Machine.{Cell, Kept, state, IsLegal}
use Rattle.sc_tree.specs.Keeping.{place_of, is_spent, IsKept}
use Rattle.sc_tree.specs.Descent.{ComesFrom}
use Rattle.sc_tree.specs.Climbing.{own_count, step_count, steps_or, IsClimbed}
use Rattle.sc_tree.specs.Verdicts.{IsOutAt, IsOutOfBudget}
use Rattle.sc_tree.proofs.Cells.{item-within}
use Rattle.sc_tree.proofs.Comes.{all_come}
use Rattle.sc_tree.proofs.Tried.{leaves_are_tried}
use Rattle.sc_tree.proofs.Kept.{length-map, place-at}
use Rattle.sc_tree.proofs.Climbing.{lower_by}
use Rattle.sc_tree.proofs.Deciding.{place-back, spent-mark}

-- a leaf's steps are as many as those of the leaf of whose split it came, and its own
count_by : (cells : List Cell) (n parent branch : ℕ) (own : List Step) (steps : List Taken) → ComesFrom cells n parent branch own steps → own_count parent own + step_count cells parent ≡ length steps
count_by cells n zero branch own steps h =
    let long : length steps ≡ length own = ap length h ∙ length-map (λ s. taken s 1) own in
    omega (arith, long)
count_by cells n (suc p) branch own steps h =
    let above : step_count cells (suc p) ≡ length h.before.steps = ap (λ o. length (steps_or o)) h.is in
    let long : length steps ≡ length h.before.steps + suc (length own) = ap length h.steps_are ∙ (length-append h.before.steps (taken h.step branch ∷ firsts own) ∙ ap (λ k. length h.before.steps + suc k) (length-map (λ s. taken s 1) own)) in
    omega (arith, above, long)

-- what the place with a number is of
cell_of : (places : List Place) (cells : List Cell) (n : ℕ) (p : Place) → IsClimbed places cells → item_at places n ≡ Some p → (c : Cell) × (item_at cells n ≡ Some c) × (p ≡ place_of c)
cell_of places cells n p climbed e = place-back cells n p (sym (ap (λ l. item_at l n) climbed.places_are) ∙ e)

-- one place further up
pub counted : (places : List Place) (cells : List Cell) (n : ℕ) (p : Place) → IsClimbed places cells → item_at places n ≡ Some p → own_count p.parent p.chain + step_count cells p.parent ≡ step_count cells n
counted places cells n p climbed e =
    let c = cell_of places cells n p climbed e in
    let whole : step_count cells n ≡ length c.0.steps = ap (λ o. length (steps_or o)) c.1 in
    let own = count_by cells n c.0.parent c.0.branch c.0.chain c.0.steps (climbed.come n c.0 c.1) in
    subst (λ (q : Place). own_count q.parent q.chain + step_count cells q.parent ≡ step_count cells n) (sym c.2) (own ∙ sym whole)

pub lower_place : (places : List Place) (cells : List Cell) (n : ℕ) (p : Place) → IsClimbed places cells → item_at places n ≡ Some p → p.parent < n
lower_place places cells zero p climbed e = absurd cc
lower_place places cells (suc n) p climbed e =
    let c = cell_of places cells (suc n) p climbed e in
    let less = lower_by cells (suc n) c.0.parent c.0.branch c.0.chain c.0.steps (omega arith) (climbed.come (suc n) c.0 c.1) in
    subst (λ (q : Place). q.parent < suc n) (sym c.2) less

-- where no place has the number no step leads there
pub none_counted : (places : List Place) (cells : List Cell) (n : ℕ) → IsClimbed places cells → item_at places n ≡ None → step_count cells n ≡ 0
none_counted places cells n climbed e = by_cell (item_at cells n) refl where
  by_cell : (o : Option Cell) → item_at cells n ≡ o → step_count cells n ≡ 0
  by_cell None is = ap (λ k. length (steps_or k)) is
  by_cell (Some c) is = absurd (let at : None ≡ Some (place_of c) = sym e ∙ (ap (λ l. item_at l n) climbed.places_are ∙ place-at cells n c is) in cc)

-- the places that a tree keeps
pub climbed_by : (t : Kept) (places : List Place) (opened : List ℕ) (held : List Holding) (found : Option ℕ) → IsKept t.problem t.budget places opened held found t.journal → IsClimbed places (state t).cells
climbed_by t places opened held found k = record { places_are = k.places_are; come = all_come t.problem t.journal }

-- no leaf has more steps than the budget allows
pub few_steps : (t : Kept) (n : ℕ) → IsLegal t.problem t.budget t.journal → step_count (state t).cells n ≤ t.budget
few_steps t n legal = by_cell (item_at (state t).cells n) refl where
  by_cell : (o : Option Cell) → item_at (state t).cells n ≡ o → step_count (state t).cells n ≤ t.budget
  by_cell None is = let none : step_count (state t).cells n ≡ 0 = ap (λ k. length (steps_or k)) is in omega (arith, none)
  by_cell (Some c) is =
      let whole : step_count (state t).cells n ≡ length c.steps = ap (λ k. length (steps_or k)) is in
      let few = (leaves_are_tried t.problem t.budget t.journal legal n c is).within.few in
      omega (arith, whole, few)

-- whether a leaf was given up on a full path its steps tell
pub out_by_count : (t : Kept) (places : List Place) (n : ℕ) (p : Place) → IsClimbed places (state t).cells → item_at places n ≡ Some p → is_spent p.mark ≡ true → (step_count (state t).cells n ≡ t.budget) ↔ IsOutAt t n
out_by_count t places n p climbed e spent = (there, back) where
  c : (c : Cell) × (item_at (state t).cells n ≡ Some c) × (p ≡ place_of c)
  c = cell_of places (state t).cells n p climbed e

  there : step_count (state t).cells n ≡ t.budget → IsOutAt t n
  there full =
      let m = spent-mark c.0.mark (ap (λ (q : Place). is_spent q.mark) (sym c.2) ∙ spent) in
      (c.0, m.0, c.1, m.1, sym (ap (λ o. length (steps_or o)) c.1) ∙ full)

  back : IsOutAt t n → step_count (state t).cells n ≡ t.budget
  back out = ap (λ o. length (steps_or o)) out.2 ∙ out.4

below : (n k : ℕ) → n < k + 1 → (n < k) ⊎ (n ≡ k)
below zero zero less = inr refl
below zero (suc k) less = inl (omega arith)
below (suc n) zero less = absurd (let no_less : 1 ≤ 0 = omega (arith, less) in omega (arith, no_less))
below (suc n) (suc k) less =
    elim (below n k (omega (arith, less))) [ inl a ↦ inl (omega (arith, a)) | inr e ↦ inr (ap suc e) ]

-- none of lower numbers, nor this one
pub none_up : (t : Kept) (k : ℕ) → ((n : ℕ) → n < k → IsOutAt t n → ⊥) → (IsOutAt t k → ⊥) → (n : ℕ) → n < k + 1 → IsOutAt t n → ⊥
none_up t k before apart n less out =
    elim (below n k less) [ inl lower ↦ before n lower out | inr e ↦ apart (subst (λ m. IsOutAt t m) e out) ]

-- none of the places that there are
pub none_at_all : (t : Kept) (places : List Place) (k : ℕ) → places ≡ map place_of (state t).cells → length places < k → ((n : ℕ) → n < k → IsOutAt t n → ⊥) → IsOutOfBudget t → ⊥
none_at_all t places k are long before out =
    let within = item-within (state t).cells out.0 out.1.0 out.1.2 in
    let same : length places ≡ length (state t).cells = ap length are ∙ length-map place_of (state t).cells in
    before out.0 (omega (arith, within, same, long)) out.1

-- none before the first
pub none_first : (t : Kept) (n : ℕ) → n < 1 → IsOutAt t n → ⊥
none_first t zero less out = absurd (let e : None ≡ Some out.0 = out.2 in cc)
none_first t (suc n) less out = absurd (let no_less : 1 ≤ 0 = omega (arith, less) in omega (arith, no_less))
