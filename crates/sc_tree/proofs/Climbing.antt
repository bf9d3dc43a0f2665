-- From a leaf's place to the root's, and back along its steps.
use Rattle.std.proofs.Common.{◌≡◌, ℕ, zero, suc, ◌+◌, ◌<◌, true, ◌⊎◌, inl, inr, List, [], ◌∷◌, ◌++◌, map, reverse, length, drop, get_or, Option, Some, None, refl, sym, ap, ◌∙◌, subst, arith, append_assoc}
use Rattle.std.specs.Prelude.{is_some}
use Rattle.std.proofs.Math.Seq.{drop-cons}
use Rattle.std.proofs.lemmas.Bool.{false≢true}
use Rattle.std.proofs.lemmas.List.{reverse-append}
use Rattle.sc_base.specs.Numbered.{item_at}
use Rattle.sc_base.specs.Options.{◌>>=◌}
use Rattle.sc_terms.specs.declared.problem.Parts.{Parts}
use Rattle.sc_facts.specs.declared.fact.Fact.{Fact}
use Rattle.sc_facts.specs.Paths.{PathFacts}
use Rattle.sc_deriv.specs.declared.derivation.Step.{Step}
use Rattle.sc_deriv.specs.declared.derivation.Taken.{Taken}
use Rattle.sc_deriv.specs.Taking.{concluded, path_from}
use Rattle.sc_tree.specs.declared.machine.Mark.{Mark}
use Rattle.sc_tree.specs.declared.machine.Mark.TheVariants as marks
use Rattle.sc_tree.specs.declared.machine.Place.{Place}
use Rattle.sc_tree.specs.Chains.{firsts}
use Rattle.sc_tree.specs.Machine.{Cell}
use Rattle.sc_tree.specs.Keeping.{place_of}
use Rattle.sc_tree.specs.Descent.{ComesFrom, AllCome}
use Rattle.sc_tree.specs.Climbing.{turn_of, mark_turn, AddsLast, steps_or, FollowsBranch}
use Rattle.sc_tree.proofs.Kept.{place-at}

followed : (problem : Parts) (path new : PathFacts) (rest : List Taken) (whole : Option (List Fact)) (o : Option (List Fact)) → (o >>= λ b. path_from problem (path.facts ++ b) rest) ≡ whole → is_some whole ≡ true → FollowsBranch path o new → (path_from problem new.facts rest ≡ whole) × (new.roots ≡ path.roots)
followed problem path new rest whole None e some f = absurd (false≢true (ap is_some e ∙ some))
followed problem path new rest whole (Some b) e some f =
    let is = f b refl in
    (ap (λ (p : PathFacts). path_from problem p.facts rest) is ∙ e, ap (λ (p : PathFacts). p.roots) is)

-- the path goes on with the next step
pub follow_on : (problem : Parts) (path new : PathFacts) (steps : List Taken) (i : ℕ) (t : Taken) (whole : Option (List Fact)) → drop i steps ≡ t ∷ drop (i + 1) steps → path_from problem path.facts (drop i steps) ≡ whole → is_some whole ≡ true → FollowsBranch path (concluded problem path.facts t) new → (path_from problem new.facts (drop (i + 1) steps) ≡ whole) × (new.roots ≡ path.roots)
follow_on problem path new steps i t whole front e some f =
    followed problem path new (drop (i + 1) steps) whole (concluded problem path.facts t) (ap (path_from problem path.facts) (sym front) ∙ e) some f

binds : (o : Option (List Fact)) (g : List Fact → Option (List Fact)) → is_some (o >>= g) ≡ true → is_some o ≡ true
binds None g e = absurd (false≢true e)
binds (Some x) g e = refl

-- where steps lead on, the first of them applies
pub applies_next : (problem : Parts) (path : PathFacts) (steps : List Taken) (i : ℕ) (t : Taken) (whole : Option (List Fact)) → drop i steps ≡ t ∷ drop (i + 1) steps → path_from problem path.facts (drop i steps) ≡ whole → is_some whole ≡ true → is_some (concluded problem path.facts t) ≡ true
applies_next problem path steps i t whole front e some =
    binds (concluded problem path.facts t) (λ b. path_from problem (path.facts ++ b) (drop (i + 1) steps)) (ap is_some (sym (ap (path_from problem path.facts) front) ∙ e) ∙ some)

none-at : {X : Type 0} (o : Option X) → o ≡ None → is_some o ≡ true → ⊥
none-at o e some = false≢true (sym (ap is_some e) ∙ some)

turn_reversed : (o : Option Place) (branch : ℕ) → reverse (turn_of o branch) ≡ turn_of o branch
turn_reversed None branch = refl
turn_reversed (Some p) branch = by_mark p.mark where
  by_mark : (mark : Mark) → reverse (mark_turn mark branch) ≡ mark_turn mark branch
  by_mark marks.Open = refl
  by_mark (marks.Held seat) = refl
  by_mark (marks.Closed closing) = refl
  by_mark (marks.Spent cause) = refl
  by_mark (marks.Parted step left) = refl

reverse_twice : {X : Type 0} (xs : List X) → reverse (reverse xs) ≡ xs
reverse_twice [] = refl
reverse_twice (x ∷ xs) = ap reverse (reverse-append (x ∷ []) xs) ∙ (reverse-append (reverse xs) (x ∷ []) ∙ ap (λ l. x ∷ l) (reverse_twice xs))

-- what is added, read in reverse, is the turn and then the place's own steps
added_reversed : (old own turn : List Taken) → reverse turn ≡ turn → reverse (old ++ (reverse own ++ turn)) ≡ turn ++ (own ++ reverse old)
added_reversed old own turn e =
    reverse-append old (reverse own ++ turn) ∙ (ap (λ l. l ++ reverse old) (reverse-append (reverse own) turn ∙ (ap (λ l. l ++ reverse (reverse own)) e ∙ ap (λ l. turn ++ l) (reverse_twice own))) ∙ append_assoc turn own (reverse old))

-- a cell's steps are its parent's, the turn's and its own
cell_steps_by : (cells : List Cell) (n parent branch : ℕ) (own : List Step) (steps : List Taken) → ComesFrom cells n parent branch own steps → (steps ≡ steps_or (item_at cells parent) ++ (turn_of (item_at (map place_of cells) parent) branch ++ firsts own)) × ((parent ≡ 0) ⊎ (is_some (item_at cells parent) ≡ true))
cell_steps_by cells n zero branch own steps h = (h, inl refl)
cell_steps_by cells n (suc p) branch own steps h =
    (h.steps_are ∙ rw (place-at cells (suc p) h.before h.is, h.is, h.parted) refl, inr (ap is_some h.is))

pub lower_by : (cells : List Cell) (n parent branch : ℕ) (own : List Step) (steps : List Taken) → 0 < n → ComesFrom cells n parent branch own steps → parent < n
lower_by cells n zero branch own steps less h = less
lower_by cells n (suc p) branch own steps less h = h.lower

some_of : {X : Type 0} (o : Option X) → is_some o ≡ true → (x : X) × (o ≡ Some x)
some_of None e = absurd (false≢true e)
some_of (Some x) e = (x, refl)

climbed-at : (places : List Place) (cells : List Cell) (n parent : ℕ) (old new whole : List Taken) (c : Cell) → places ≡ map place_of cells → AllCome cells → item_at cells n ≡ Some c → AddsLast places n old parent new → steps_or (item_at cells n) ++ reverse old ≡ whole → (steps_or (item_at cells parent) ++ reverse new ≡ whole) × ((parent ≡ 0) ⊎ (is_some (item_at cells parent) ≡ true))
climbed-at places cells n parent old new whole c are come is adds e =
    let own = adds (place_of c) (ap (λ l. item_at l n) are ∙ place-at cells n c is) in
    let parts = cell_steps_by cells n c.parent c.branch c.chain c.steps (come n c is) in
    let turn = turn_of (item_at places c.parent) c.branch in
    let turn_is : turn_of (item_at (map place_of cells) c.parent) c.branch ≡ turn = ap (λ l. turn_of (item_at l c.parent) c.branch) (sym are) in
    let back : reverse new ≡ turn ++ (firsts c.chain ++ reverse old) = ap reverse own.1 ∙ added_reversed old (firsts c.chain) turn (turn_reversed (item_at places c.parent) c.branch) in
    let above = steps_or (item_at cells c.parent) in
    let all : above ++ reverse new ≡ whole =
    ap (λ l. above ++ l) back
    ∙ (ap (λ l. above ++ l) (sym (append_assoc turn (firsts c.chain) (reverse old)))
    ∙ (sym (append_assoc above (turn ++ firsts c.chain) (reverse old))
    ∙ (ap (λ l. (above ++ (l ++ firsts c.chain)) ++ reverse old) (sym turn_is)
    ∙ (ap (λ l. l ++ reverse old) (sym parts.0)
    ∙ (ap (λ o. steps_or o ++ reverse old) (sym is) ∙ e))))) in
    subst (λ k. (steps_or (item_at cells k) ++ reverse new ≡ whole) × ((k ≡ 0) ⊎ (is_some (item_at cells k) ≡ true))) (sym own.0) (all, parts.1)

abbrev Climbed : List Cell → ℕ → List Taken → List Taken → Type 0
Climbed cells n steps whole = (steps_or (item_at cells n) ++ reverse steps ≡ whole) × ((n ≡ 0) ⊎ (is_some (item_at cells n) ≡ true))

-- one place further up
pub climbed : (places : List Place) (cells : List Cell) (n parent : ℕ) (old new whole : List Taken) → places ≡ map place_of cells → AllCome cells → (n ≡ 0 → ⊥) → AddsLast places n old parent new → Climbed cells n old whole → Climbed cells parent new whole
climbed places cells n parent old new whole are come not_root adds h =
    elim h.1 [
      | inl root ↦ absurd (not_root root)
      | inr some ↦ (let c = some_of (item_at cells n) some in climbed-at places cells n parent old new whole c.0 are come c.1 adds h.0)
    ]

pub lower : (places : List Place) (cells : List Cell) (n parent : ℕ) (old new whole : List Taken) → places ≡ map place_of cells → AllCome cells → (n ≡ 0 → ⊥) → AddsLast places n old parent new → Climbed cells n old whole → parent < n
lower places cells n parent old new whole are come not_root adds h =
    elim h.1 [
      | inl root ↦ absurd (not_root root)
      | inr some ↦ (let c = some_of (item_at cells n) some in
          let own = adds (place_of c.0) (ap (λ l. item_at l n) are ∙ place-at cells n c.0 c.1) in
          let less = lower_by cells n c.0.parent c.0.branch c.0.chain c.0.steps (positive n not_root) (come n c.0 c.1) in
          subst (λ k. k < n) (sym own.0) less)
    ] where
      positive : (k : ℕ) → (k ≡ 0 → ⊥) → 0 < k
      positive zero apart = absurd (apart refl)
      positive (suc k) apart = omega arith

-- the item at an index, and what comes after it
pub front_item : {X : Type 0} (xs : List X) (i : ℕ) (x : X) → i < length xs → x ≡ get_or xs i x → drop i xs ≡ x ∷ drop (i + 1) xs
front_item xs i x less at =
    let one : suc i ≡ i + 1 = omega arith in
    drop-cons xs i x less ∙ (ap (λ y. y ∷ drop (suc i) xs) (sym at) ∙ ap (λ n. x ∷ drop n xs) one)
