-- Each leaf's path in a legal history is lean, within the budget, and that of its steps.
use Rattle.std.proofs.Common.{◌≡◌, ℕ, zero, suc, ◌+◌, Bool, true, false, cond, ◌⊎◌, inl, inr, List, [], ◌∷◌, ◌++◌, map, length, Option, Some, None, refl, sym, ap, ◌∙◌, subst, arith}
use Rattle.std.specs.Prelude.{is_some, ⊤}
use Rattle.std.specs.Bool.{MatchBool}
use Rattle.std.specs.List.{AllByRecursion}
use Rattle.std.proofs.lemmas.Option.{same_Some}
use Rattle.sc_terms.specs.declared.problem.Parts.{Parts}
use Rattle.sc_base.specs.Numbered.{item_at}
use Rattle.sc_facts.specs.declared.fact.Fact.{Fact}
use Rattle.sc_deriv.specs.declared.derivation.Step.{Step}
use Rattle.sc_base.specs.Options.{◌>>=◌}
use Rattle.sc_facts.specs.Facts.{root_facts}
use Rattle.sc_deriv.specs.Acceptance.{step_branches}
use Rattle.sc_deriv.specs.declared.derivation.Taken.{Taken}
use Rattle.sc_tree.specs.declared.machine.Mark.{Mark}
use Rattle.sc_tree.specs.declared.machine.Mark.TheVariants as marks
use Rattle.sc_tree.specs.declared.machine.Event.{Event}
use Rattle.sc_tree.specs.declared.machine.Event.TheVariants as events
use Rattle.sc_tree.specs.declared.machine.Entry.{Entry}
use Rattle.sc_deriv.specs.Taking.{concluded, path_from, path_after}
use Rattle.sc_tree.specs.Lean.{IsWithin}
use Rattle.sc_tree.specs.Events.{HasNoClash, IsCause, AllowsOn}
use Rattle.sc_tree.specs.Chains.{taken, only, grow}
use Rattle.sc_tree.specs.Machine.{Cell, State, set_cell, leaf, root_cell, root_state, marked, or_else, grown, offspring, changed, is_free_for, touched, next_at, next, state_from, state_of, Goes, IsStep, IsLegalFrom, IsLegal}
use Rattle.sc_tree.proofs.Cells.{item-set_back, item-append_back}

module _ (problem : Parts) (budget : ℕ) where
  -- a leaf that was given up has a cause, and no clash holds on it
  abbrev pub IsSpentWell : Cell → Mark → Type 0
  IsSpentWell c (marks.Spent cause) = IsCause problem budget c.path c.steps cause × HasNoClash c.path
  IsSpentWell c _ = ⊤

  -- the path is that of the steps, which are lean and within the budget
  pub record IsWellTaken (c : Cell) : Type 0 where
    pub within : IsWithin problem budget c.steps
    pub walks : path_after problem c.steps ≡ Some c.path
    pub spent : IsSpentWell c c.mark

  abbrev Good : Cell → Type 0
  Good c = IsWellTaken c

  abbrev AllGood : List Cell → Type 0
  AllGood cells = (n : ℕ) (c : Cell) → item_at cells n ≡ Some c → Good c

  set-good : (cells : List Cell) (n : ℕ) (d : Cell) → AllGood cells → Good d → AllGood (set_cell cells n d)
  set-good cells n d all good m c at =
      elim (item-set_back cells n m d c at) [ inl here ↦ subst Good (sym here.1) good | inr old ↦ all m c old ]

  mark-good : (cells : List Cell) (n : ℕ) (c : Cell) (mark : Mark) → AllGood cells → item_at cells n ≡ Some c → IsSpentWell (marked c mark) mark → AllGood (set_cell cells n (marked c mark))
  mark-good cells n c mark all is spent = set-good cells n (marked c mark) all (record { within = (all n c is).within; walks = (all n c is).walks; spent = spent })

  walk-on_by : (o : Option (List Fact)) (q r : List Fact) (first whole : List Fact → Option (List Fact)) → (o >>= first) ≡ Some q → ((b : List Fact) → first b ≡ Some q → whole b ≡ Some r) → (o >>= whole) ≡ Some r
  walk-on_by None q r first whole e later = absurd cc
  walk-on_by (Some b) q r first whole e later = later b e

  walk-on : (p q r : List Fact) (xs ys : List Taken) → path_from problem p xs ≡ Some q → path_from problem q ys ≡ Some r → path_from problem p (xs ++ ys) ≡ Some r
  walk-on p q r [] ys e f = subst (λ x. path_from problem x ys ≡ Some r) (sym (same_Some p q e)) f
  walk-on p q r (t ∷ ts) ys e f = walk-on_by (concluded problem p t) q r (λ b. path_from problem (p ++ b) ts) (λ b. path_from problem (p ++ b) (ts ++ ys)) e (λ b is. walk-on (p ++ b) q r ts ys is f)

  grow-walks_by : (o : Option (List (List Fact))) (q : List Fact) (first whole : List Fact → Option (List Fact)) → (only o >>= first) ≡ Some q → ((b : List Fact) → first b ≡ Some q → whole b ≡ Some q) → ((o >>= λ bs. item_at bs 1) >>= whole) ≡ Some q
  grow-walks_by None q first whole e later = absurd cc
  grow-walks_by (Some []) q first whole e later = absurd cc
  grow-walks_by (Some (b ∷ [])) q first whole e later = later b e
  grow-walks_by (Some (b ∷ x ∷ xs)) q first whole e later = absurd cc

  grow-walks : (p q : List Fact) (chain : List Step) → grow problem p chain ≡ Some q → path_from problem p (map (λ s. taken s 1) chain) ≡ Some q
  grow-walks p q [] e = e
  grow-walks p q (s ∷ chain) e = grow-walks_by (step_branches problem p s) q (λ b. grow problem (p ++ b) chain) (λ b. path_from problem (p ++ b) (map (λ s. taken s 1) chain)) e (λ b is. grow-walks (p ++ b) q chain is)

  held-spent : (c : Cell) (seat : ℕ) (mark : Mark) → mark ≡ marks.Held seat → IsSpentWell c mark
  held-spent c seat mark held = subst (IsSpentWell c) (sym held) tt

  grown-good : (cells : List Cell) (n seat : ℕ) (c : Cell) (chain : List Step) (o : Option (List Fact)) → AllGood cells → item_at cells n ≡ Some c → c.mark ≡ marks.Held seat → grow problem c.path chain ≡ o → is_some o ≡ true → AllowsOn problem budget c.path c.steps (events.Grow chain) → AllGood (set_cell cells n (grown problem c chain))
  grown-good cells n seat c chain None all is held e some suits = absurd cc
  grown-good cells n seat c chain (Some q) all is held e some suits =
      set-good cells n (grown problem c chain) all (record {
        within = suits.2;
        walks = walk-on (root_facts problem.roots) c.path q c.steps (map (λ s. taken s 1) chain) (all n c is).walks (grow-walks c.path q chain e) ∙ sym (ap (λ o. Some (or_else o c.path)) e);
        spent = held-spent (grown problem c chain) seat c.mark held;
      })

  branch-walks : (c : Cell) (step : Step) (number : ℕ) (bs : List (List Fact)) (b : List Fact) → step_branches problem c.path step ≡ Some bs → item_at bs number ≡ Some b → path_from problem c.path (taken step number ∷ []) ≡ Some (c.path ++ b)
  branch-walks c step number bs b two at = rw (two, at) refl

  split-good : (cells : List Cell) (n : ℕ) (c : Cell) (step : Step) → AllGood cells → item_at cells n ≡ Some c → (suits : AllowsOn problem budget c.path c.steps (events.Split step)) → AllGood (set_cell cells n (marked c (marks.Parted step (length cells + 1))) ++ offspring n c step (step_branches problem c.path step))
  split-good cells n c step all is suits =
      let pair = suits.0.0 in
      let two = suits.0.1 in
      let root = root_facts problem.roots in
      let walks = (all n c is).walks in
      let fresh : AllByRecursion Good (leaf n 1 (c.path ++ pair.0) (c.steps ++ taken step 1 ∷ []) ∷ leaf n 2 (c.path ++ pair.1) (c.steps ++ taken step 2 ∷ []) ∷ []) = (
        record { within = suits.1; walks = walk-on root c.path _ c.steps _ walks (branch-walks c step 1 _ pair.0 two refl); spent = tt },
        (record { within = suits.2; walks = walk-on root c.path _ c.steps _ walks (branch-walks c step 2 _ pair.1 two refl); spent = tt }, tt),
      ) in
      rw two (λ m x at. elim (item-append_back Good _ _ m x fresh at) [
        | inl old ↦ mark-good cells n c (marks.Parted step (length cells + 1)) all is tt m x old
        | inr new ↦ new
      ])

  abbrev MayGo : ℕ → Cell → Event → Type 0
  MayGo seat c event = (event ≡ events.Take) ⊎ ((c.mark ≡ marks.Held seat) × AllowsOn problem budget c.path c.steps event)

  changed-good : (s : State) (seat n : ℕ) (c : Cell) (event : Event) → AllGood s.cells → item_at s.cells n ≡ Some c → MayGo seat c event → AllGood (changed problem s seat n c event).cells
  changed-good s seat n c events.Take all is may = mark-good s.cells n c _ all is tt
  changed-good s seat n c (events.Grow chain) all is (inl other) = absurd cc
  changed-good s seat n c (events.Grow chain) all is (inr h) = grown-good s.cells n seat c chain (grow problem c.path chain) all is h.0 refl h.1.1 h.1
  changed-good s seat n c (events.Split step) all is (inl other) = absurd cc
  changed-good s seat n c (events.Split step) all is (inr h) = split-good s.cells n c step all is h.1
  changed-good s seat n c (events.Close closing) all is may = mark-good s.cells n c _ all is tt
  changed-good s seat n c (events.Spend cause) all is (inl other) = absurd cc
  changed-good s seat n c (events.Spend cause) all is (inr h) = mark-good s.cells n c _ all is h.1
  changed-good s seat n c (events.Found values) all is may = mark-good s.cells n c _ all is tt

  may_go : (s : State) (e : Entry) (d : Cell) → item_at s.cells e.leaf ≡ Some d → Goes problem budget s e → MayGo e.seat d e.event
  may_go s e d at (inl h) = inl h.1
  may_go s e d at (inr h) =
      let same : h.place ≡ d = same_Some h.place d (sym h.is ∙ at) in
      inr (subst (λ (x : Cell). (x.mark ≡ marks.Held e.seat) × AllowsOn problem budget x.path x.steps e.event) same (h.held, h.suits))

  over-good : (s : State) (e : Entry) (d : Cell) (over : Bool) (P Q : Type 0) → AllGood s.cells → item_at s.cells e.leaf ≡ Some d → MatchBool over P (Q × Goes problem budget s e) → AllGood (cond over (record { cells = set_cell s.cells e.leaf (marked d marks.Open); model = s.model }) (changed problem s e.seat e.leaf d e.event)).cells
  over-good s e d true P Q all at h = mark-good s.cells e.leaf d _ all at tt
  over-good s e d false P Q all at h = changed-good s e.seat e.leaf d e.event all at (may_go s e d at h.1)

  guarded-good : (s : State) (e : Entry) (d : Cell) (free : Bool) → AllGood s.cells → item_at s.cells e.leaf ≡ Some d → IsStep problem budget s e → AllGood (cond free (touched problem s e d) s).cells
  guarded-good s e d false all at h = all
  guarded-good s e d true all at h = over-good s e d e.over _ _ all at h

  at-good : (s : State) (e : Entry) (o : Option Cell) → item_at s.cells e.leaf ≡ o → AllGood s.cells → IsStep problem budget s e → AllGood (next_at problem s e o).cells
  at-good s e None at all h = all
  at-good s e (Some d) at all h = guarded-good s e d (is_free_for e.seat d.mark) all at h

  from-good : (s : State) (es : List Entry) → AllGood s.cells → IsLegalFrom problem budget s es → AllGood (state_from problem s es).cells
  from-good s [] all legal = all
  from-good s (e ∷ es) all legal = from-good (next problem s e) es (at-good s e (item_at s.cells e.leaf) refl all legal.0) legal.1

  root-good : AllGood (root_cell problem ∷ [])
  root-good zero c at = absurd cc
  root-good (suc zero) c at = subst Good (same_Some (root_cell problem) c at) (record { within = record { lean = tt; few = omega arith }; walks = refl; spent = tt })
  root-good (suc (suc n)) c at = absurd cc

pub leaves_are_well_taken : (problem : Parts) (budget : ℕ) (journal : List Entry) → IsLegal problem budget journal → (n : ℕ) (c : Cell) → item_at (state_of problem journal).cells n ≡ Some c → IsWellTaken problem budget c
leaves_are_well_taken problem budget journal legal = from-good problem budget (root_state problem) journal (root-good problem budget) legal
