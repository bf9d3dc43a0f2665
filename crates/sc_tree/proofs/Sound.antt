-- In a legal history each leaf's own steps lead to its path from where it was made, and what became of it holds.
use Rattle.std.proofs.Common.{◌≡◌, ℕ, zero, suc, ◌+◌, ◌<◌, ◌≤◌, Bool, true, false, cond, ◌⊎◌, inl, inr, List, [], ◌∷◌, ◌++◌, length, Option, Some, None, refl, sym, ap, ◌∙◌, subst, arith, append_assoc, length-append}
use Rattle.std.specs.Prelude.{nat_eq, is_some, ⊤}
use Rattle.std.specs.Bool.{MatchBool}
use Rattle.std.specs.Cmp.{unsigned_Decides}
use Rattle.std.specs.List.{AllByRecursion}
use Rattle.std.proofs.lemmas.Bool.{false≢true}
use Rattle.std.proofs.lemmas.Option.{same_Some}
use Rattle.sc_terms.specs.declared.problem.Parts.{Parts}
use Rattle.sc_base.specs.Numbered.{item_at}
use Rattle.sc_base.specs.Options.{◌>>=◌}
use Rattle.sc_facts.specs.declared.fact.Fact.{Fact}
use Rattle.sc_deriv.specs.declared.derivation.Step.{Step}
use Rattle.sc_deriv.specs.declared.derivation.Taken.{Taken}
use Rattle.sc_deriv.specs.Acceptance.{step_branches}
use Rattle.sc_tree.specs.declared.machine.Mark.{Mark}
use Rattle.sc_tree.specs.declared.machine.Mark.TheVariants as marks
use Rattle.sc_tree.specs.declared.machine.Event.{Event}
use Rattle.sc_tree.specs.declared.machine.Event.TheVariants as events
use Rattle.sc_tree.specs.declared.machine.Entry.{Entry}
use Rattle.sc_tree.specs.Chains.{taken, only, grow}
use Rattle.sc_tree.specs.Events.{Closes, AllowsOn}
use Rattle.sc_tree.specs.Trying.{IsBorn}
use Rattle.sc_tree.specs.Machine.{Cell, State, set_cell, leaf, root_cell, root_state, marked, or_else, grown, offspring, changed, is_free_for, touched, next_at, next, state_from, state_of, Goes, IsStep, IsLegalFrom, IsLegal}
use Rattle.sc_tree.proofs.Cells.{item-set_other, item-set_same, item-set_back, item-append, item-append_back, item-within, item-past, length-set_cell}

-- what became of leaf n holds at its path
abbrev pub EndHolds : Parts → List Cell → ℕ → List Fact → Mark → Type 0
EndHolds problem cells n path (marks.Closed closing) = Closes path closing
EndHolds problem cells n path (marks.Parted step left) =
    (pair : List Fact × List Fact) × (step_branches problem path step ≡ Some (pair.0 ∷ pair.1 ∷ [])) × (n < left) × IsBorn cells left n 1 (path ++ pair.0) × IsBorn cells (left + 1) n 2 (path ++ pair.1)
EndHolds problem cells n path _ = ⊤

pub record IsSoundAt (problem : Parts) (cells : List Cell) (n : ℕ) (c : Cell) : Type 0 where
  pub grows : grow problem c.base c.chain ≡ Some c.path
  pub ends : EndHolds problem cells n c.path c.mark

abbrev pub IsSound : Parts → List Cell → Type 0
IsSound problem cells = (n : ℕ) (c : Cell) → item_at cells n ≡ Some c → IsSoundAt problem cells n c

-- the cells were made in the same way
abbrev SameBirth : Cell → Cell → Type 0
SameBirth d c = (d.base ≡ c.base) × (d.parent ≡ c.parent) × (d.branch ≡ c.branch)

module _ (problem : Parts) where
  -- births of the old cells are births of the new ones
  abbrev Keeps : List Cell → List Cell → Type 0
  Keeps old new = (m parent branch : ℕ) (p : List Fact) → IsBorn old m parent branch p → IsBorn new m parent branch p

  abbrev GoesOn : List Cell → List Cell → Type 0
  GoesOn old new = IsSound problem new × Keeps old new

  born-set_by : (cells : List Cell) (n : ℕ) (d c : Cell) → item_at cells n ≡ Some c → SameBirth d c → (m parent branch : ℕ) (p : List Fact) (b : Bool) → nat_eq n m ≡ b → IsBorn cells m parent branch p → IsBorn (set_cell cells n d) m parent branch p
  born-set_by cells n d c is same m parent branch p true test born =
      let here : n ≡ m = (unsigned_Decides n m).0 test in
      let both : c ≡ born.0 = same_Some c born.0 (sym is ∙ (ap (item_at cells) here ∙ born.1)) in
      (d, subst (λ k. item_at (set_cell cells n d) k ≡ Some d) here (item-set_same cells n d c is), same.0 ∙ (ap (λ (x : Cell). x.base) both ∙ born.2), same.1 ∙ (ap (λ (x : Cell). x.parent) both ∙ born.3), same.2 ∙ (ap (λ (x : Cell). x.branch) both ∙ born.4))
  born-set_by cells n d c is same m parent branch p false test born =
      (born.0, item-set_other cells n m d born.0 (λ here. false≢true (sym test ∙ (unsigned_Decides n m).1 here)) born.1, born.2, born.3, born.4)

  born-set : (cells : List Cell) (n : ℕ) (d c : Cell) → item_at cells n ≡ Some c → SameBirth d c → Keeps cells (set_cell cells n d)
  born-set cells n d c is same m parent branch p born = born-set_by cells n d c is same m parent branch p (nat_eq n m) refl born

  ends-keep : (old new : List Cell) (n : ℕ) (path : List Fact) (mark : Mark) → Keeps old new → EndHolds problem old n path mark → EndHolds problem new n path mark
  ends-keep old new n path marks.Open keeps h = tt
  ends-keep old new n path (marks.Held seat) keeps h = tt
  ends-keep old new n path (marks.Closed closing) keeps h = h
  ends-keep old new n path (marks.Spent cause) keeps h = tt
  ends-keep old new n path (marks.Parted step left) keeps h = (h.0, h.1, h.2, keeps _ _ _ _ h.3, keeps _ _ _ _ h.4)

  sound-keeps : (old new : List Cell) (n : ℕ) (c : Cell) → Keeps old new → IsSoundAt problem old n c → IsSoundAt problem new n c
  sound-keeps old new n c keeps h = record { grows = h.grows; ends = ends-keep old new n c.path c.mark keeps h.ends }

  set-sound : (cells : List Cell) (n : ℕ) (d c : Cell) → IsSound problem cells → item_at cells n ≡ Some c → SameBirth d c → IsSoundAt problem (set_cell cells n d) n d → GoesOn cells (set_cell cells n d)
  set-sound cells n d c sound is same good =
      let keeps = born-set cells n d c is same in (
        λ m x at. elim (item-set_back cells n m d x at) [
          | inl here ↦ subst (λ k. IsSoundAt problem (set_cell cells n d) k x) here.0 (subst (IsSoundAt problem (set_cell cells n d) n) (sym here.1) good)
          | inr old ↦ sound-keeps cells (set_cell cells n d) m x keeps (sound m x old)
        ],
        keeps,
      )

  mark-sound : (cells : List Cell) (n : ℕ) (c : Cell) (mark : Mark) → IsSound problem cells → item_at cells n ≡ Some c → EndHolds problem (set_cell cells n (marked c mark)) n c.path mark → GoesOn cells (set_cell cells n (marked c mark))
  mark-sound cells n c mark sound is ends =
      set-sound cells n (marked c mark) c sound is (refl, refl, refl) (record { grows = (sound n c is).grows; ends = ends })

  grow-append_by : (p q r : List Fact) (xs ys : List Step) (o : Option (List (List Fact))) → (only o >>= λ b. grow problem (p ++ b) xs) ≡ Some q → ((b : List Fact) → grow problem (p ++ b) xs ≡ Some q → grow problem (p ++ b) (xs ++ ys) ≡ Some r) → (only o >>= λ b. grow problem (p ++ b) (xs ++ ys)) ≡ Some r
  grow-append_by p q r xs ys None e later = absurd cc
  grow-append_by p q r xs ys (Some []) e later = absurd cc
  grow-append_by p q r xs ys (Some (b ∷ [])) e later = later b e
  grow-append_by p q r xs ys (Some (b ∷ x ∷ more)) e later = absurd cc

  grow-append : (p q r : List Fact) (xs ys : List Step) → grow problem p xs ≡ Some q → grow problem q ys ≡ Some r → grow problem p (xs ++ ys) ≡ Some r
  grow-append p q r [] ys e f = subst (λ x. grow problem x ys ≡ Some r) (sym (same_Some p q e)) f
  grow-append p q r (x ∷ xs) ys e f = grow-append_by p q r xs ys (step_branches problem p x) e (λ b is. grow-append (p ++ b) q r xs ys is f)

  held-ends : (cells : List Cell) (n seat : ℕ) (path : List Fact) (mark : Mark) → mark ≡ marks.Held seat → EndHolds problem cells n path mark
  held-ends cells n seat path mark held = subst (EndHolds problem cells n path) (sym held) tt

  grown-sound : (cells : List Cell) (n seat : ℕ) (c : Cell) (chain : List Step) (o : Option (List Fact)) → IsSound problem cells → item_at cells n ≡ Some c → c.mark ≡ marks.Held seat → grow problem c.path chain ≡ o → is_some o ≡ true → GoesOn cells (set_cell cells n (grown problem c chain))
  grown-sound cells n seat c chain None sound is held e some = absurd cc
  grown-sound cells n seat c chain (Some q) sound is held e some =
      let at = sound n c is in
      let path : (grown problem c chain).path ≡ q = ap (λ o. or_else o c.path) e in
      set-sound cells n (grown problem c chain) c sound is (refl, refl, refl) (record {
        grows = grow-append c.base c.path q c.chain chain at.grows e ∙ ap Some (sym path);
        ends = held-ends _ n seat _ c.mark held;
      })

  fresh-sound : (cells : List Cell) (n parent branch : ℕ) (path : List Fact) (steps : List Taken) → IsSoundAt problem cells n (leaf parent branch path steps)
  fresh-sound cells n parent branch path steps = record { grows = refl; ends = tt }

  split-sound : (cells : List Cell) (n : ℕ) (c : Cell) (step : Step) (pair : List Fact × List Fact) → IsSound problem cells → item_at cells n ≡ Some c → step_branches problem c.path step ≡ Some (pair.0 ∷ pair.1 ∷ []) → GoesOn cells (set_cell cells n (marked c (marks.Parted step (length cells + 1))) ++ offspring n c step (step_branches problem c.path step))
  split-sound cells n c step pair sound is two =
      let d = marked c (marks.Parted step (length cells + 1)) in
      let first = leaf n 1 (c.path ++ pair.0) (c.steps ++ taken step 1 ∷ []) in
      let second = leaf n 2 (c.path ++ pair.1) (c.steps ++ taken step 2 ∷ []) in
      let front = set_cell cells n d in
      let all = front ++ first ∷ second ∷ [] in
      let long : length front ≡ length cells = length-set_cell cells n d in
      let keeps : Keeps cells all = λ m parent branch p born. (let b = born-set cells n d c is (refl, refl, refl) m parent branch p born in (b.0, item-append front (first ∷ second ∷ []) m b.0 b.1, b.2, b.3, b.4)) in
      let within : n ≤ length cells = item-within cells n c is in
      let at_first : item_at all (length cells + 1) ≡ Some first = subst (λ k. item_at all k ≡ Some first) (let e : suc (length front) ≡ length cells + 1 = omega (arith, long) in e) (item-past front first (second ∷ [])) in
      let at_second : item_at all (length cells + 1 + 1) ≡ Some second =
      subst (λ k. item_at all k ≡ Some second) (let e : suc (length (front ++ first ∷ [])) ≡ length cells + 1 + 1 = (let more = length-append front (first ∷ []) in omega (arith, long, more)) in e) (subst (λ l. item_at l (suc (length (front ++ first ∷ []))) ≡ Some second) (append_assoc front (first ∷ []) (second ∷ [])) (item-past (front ++ first ∷ []) second [])) in
      let good : IsSoundAt problem all n d = record {
        grows = (sound n c is).grows;
        ends = (pair, two, omega (arith, within), (first, at_first, refl, refl, refl), (second, at_second, refl, refl, refl));
      } in
      let fresh : AllByRecursion (λ x. (m : ℕ) → IsSoundAt problem all m x) (first ∷ second ∷ []) = (λ m. fresh-sound all m n 1 _ _, (λ m. fresh-sound all m n 2 _ _, tt)) in
      rw two (
        λ m x at. elim (item-append_back (λ x. (m : ℕ) → IsSoundAt problem all m x) front (first ∷ second ∷ []) m x fresh at) [
          | inl old ↦ elim (item-set_back cells n m d x old) [
            | inl here ↦ subst (λ k. IsSoundAt problem all k x) here.0 (subst (IsSoundAt problem all n) (sym here.1) good)
            | inr older ↦ sound-keeps cells all m x keeps (sound m x older)
          ]
          | inr new ↦ new m
        ],
        keeps,
      )

  -- an open leaf is handed out, or a seat's own leaf changes as it may
  abbrev IsGood : ℕ → ℕ → Cell → Event → Type 0
  IsGood budget seat c event = (event ≡ events.Take) ⊎ ((c.mark ≡ marks.Held seat) × AllowsOn problem budget c.path c.steps event)

  changed-sound : (budget : ℕ) (s : State) (seat n : ℕ) (c : Cell) (event : Event) → IsSound problem s.cells → item_at s.cells n ≡ Some c → IsGood budget seat c event → GoesOn s.cells (changed problem s seat n c event).cells
  changed-sound budget s seat n c events.Take sound is good = mark-sound s.cells n c _ sound is tt
  changed-sound budget s seat n c (events.Grow chain) sound is (inl other) = absurd cc
  changed-sound budget s seat n c (events.Grow chain) sound is (inr h) = grown-sound s.cells n seat c chain (grow problem c.path chain) sound is h.0 refl h.1.1
  changed-sound budget s seat n c (events.Split step) sound is (inl other) = absurd cc
  changed-sound budget s seat n c (events.Split step) sound is (inr h) = split-sound s.cells n c step h.1.0.0 sound is h.1.0.1
  changed-sound budget s seat n c (events.Close closing) sound is (inl other) = absurd cc
  changed-sound budget s seat n c (events.Close closing) sound is (inr h) = mark-sound s.cells n c _ sound is h.1
  changed-sound budget s seat n c (events.Spend cause) sound is good = mark-sound s.cells n c _ sound is tt
  changed-sound budget s seat n c (events.Found values) sound is good = mark-sound s.cells n c _ sound is tt

  good_of : (budget : ℕ) (s : State) (e : Entry) (d : Cell) → item_at s.cells e.leaf ≡ Some d → Goes problem budget s e → IsGood budget e.seat d e.event
  good_of budget s e d at (inl h) = inl h.1
  good_of budget s e d at (inr h) =
      let same : h.place ≡ d = same_Some h.place d (sym h.is ∙ at) in
      inr (subst (λ (x : Cell). (x.mark ≡ marks.Held e.seat) × AllowsOn problem budget x.path x.steps e.event) same (h.held, h.suits))

  over-sound : (budget : ℕ) (s : State) (e : Entry) (d : Cell) (over : Bool) (P : Type 0) → IsSound problem s.cells → item_at s.cells e.leaf ≡ Some d → MatchBool over P (IsGood budget e.seat d e.event) → GoesOn s.cells (cond over (record { cells = set_cell s.cells e.leaf (marked d marks.Open); model = s.model }) (changed problem s e.seat e.leaf d e.event)).cells
  over-sound budget s e d true P sound at good = mark-sound s.cells e.leaf d _ sound at tt
  over-sound budget s e d false P sound at good = changed-sound budget s e.seat e.leaf d e.event sound at good

  guarded-sound : (budget : ℕ) (s : State) (e : Entry) (d : Cell) (free : Bool) → IsSound problem s.cells → item_at s.cells e.leaf ≡ Some d → MatchBool e.over (⊤) (IsGood budget e.seat d e.event) → GoesOn s.cells (cond free (touched problem s e d) s).cells
  guarded-sound budget s e d false sound at good = (sound, λ m parent branch p born. born)
  guarded-sound budget s e d true sound at good = over-sound budget s e d e.over (⊤) sound at good

  step_good : (budget : ℕ) (s : State) (e : Entry) (d : Cell) (over : Bool) (P Q : Type 0) → item_at s.cells e.leaf ≡ Some d → MatchBool over P (Q × Goes problem budget s e) → MatchBool over (⊤) (IsGood budget e.seat d e.event)
  step_good budget s e d true P Q at h = tt
  step_good budget s e d false P Q at h = good_of budget s e d at h.1

  at-sound : (budget : ℕ) (s : State) (e : Entry) (o : Option Cell) → item_at s.cells e.leaf ≡ o → IsSound problem s.cells → IsStep problem budget s e → GoesOn s.cells (next_at problem s e o).cells
  at-sound budget s e None at sound h = (sound, λ m parent branch p born. born)
  at-sound budget s e (Some d) at sound h = guarded-sound budget s e d (is_free_for e.seat d.mark) sound at (step_good budget s e d e.over _ _ at h)

  from-sound : (budget : ℕ) (s : State) (es : List Entry) → IsSound problem s.cells → IsLegalFrom problem budget s es → GoesOn s.cells (state_from problem s es).cells
  from-sound budget s [] sound legal = (sound, λ m parent branch p born. born)
  from-sound budget s (e ∷ es) sound legal =
      let first = at-sound budget s e (item_at s.cells e.leaf) refl sound legal.0 in
      let rest = from-sound budget (next problem s e) es first.0 legal.1 in
      (rest.0, λ m parent branch p born. rest.1 m parent branch p (first.1 m parent branch p born))

  root-sound : IsSound problem (root_cell problem ∷ [])
  root-sound zero c at = absurd cc
  root-sound (suc zero) c at = subst (IsSoundAt problem (root_cell problem ∷ []) 1) (same_Some (root_cell problem) c at) (fresh-sound (root_cell problem ∷ []) 1 0 0 _ _)
  root-sound (suc (suc n)) c at = absurd cc

pub sound_is : (problem : Parts) (budget : ℕ) (journal : List Entry) → IsLegal problem budget journal → IsSound problem (state_of problem journal).cells
sound_is problem budget journal legal = (from-sound problem budget (root_state problem) journal (root-sound problem) legal).0

-- the root's leaf is there
pub root_is : (problem : Parts) (budget : ℕ) (journal : List Entry) → IsLegal problem budget journal → IsBorn (state_of problem journal).cells 1 0 0 (root_cell problem).base
root_is problem budget journal legal =
    (from-sound problem budget (root_state problem) journal (root-sound problem) legal).1 1 0 0 (root_cell problem).base (root_cell problem, refl, refl, refl, refl)
