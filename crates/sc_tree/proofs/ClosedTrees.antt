-- The tree of a legal history of which each leaf is closed is closed, and can be written down.
use Rattle.std.proofs.Common.{◌≡◌, ℕ, zero, suc, ◌+◌, ◌<◌, ◌≤◌, true, List, [], ◌∷◌, ◌++◌, map, length, Option, Some, None, refl, sym, subst, arith}
use Rattle.std.proofs.lemmas.Bool.{false≢true}
use Rattle.std.proofs.lemmas.Option.{same_Some}
use Rattle.sc_base.specs.Numbered.{item_at}
use Rattle.sc_base.specs.Options.{◌>>=◌}
use Rattle.sc_terms.specs.declared.problem.Parts.{Parts}
use Rattle.sc_facts.specs.declared.fact.Fact.{Fact}
use Rattle.sc_facts.specs.Facts.{root_facts}
use Rattle.sc_deriv.specs.declared.derivation.Step.{Step}
use Rattle.sc_deriv.specs.declared.derivation.Node.{Node}
use Rattle.sc_deriv.specs.declared.derivation.Node.TheVariants as nodes
use Rattle.sc_deriv.specs.Acceptance.{step_branches, Closed, closing, one, two}
use Rattle.sc_tree.specs.declared.machine.Mark.{Mark}
use Rattle.sc_tree.specs.declared.machine.Mark.TheVariants as marks
use Rattle.sc_tree.specs.declared.machine.Entry.{Entry}
use Rattle.sc_tree.specs.Chains.{only, grow}
use Rattle.sc_tree.specs.Machine.{Cell, state_of, IsLegal}
use Rattle.sc_tree.specs.Keeping.{place_of}
use Rattle.sc_tree.specs.Trying.{IsBorn}
use Rattle.sc_tree.specs.Reading.{step_nodes, end_nodes, place_nodes, nodes_at, nodes_from, is_ended}
use Rattle.sc_tree.proofs.Cells.{item-within}
use Rattle.sc_tree.proofs.Kept.{place-at, length-map}
use Rattle.sc_tree.proofs.Sound.{EndHolds, IsSoundAt, IsSound, sound_is, root_is}

module _ (problem : Parts) where
  step-closed : (p q : List Fact) (s : Step) (chain : List Step) (more : List Node) (o : Option (List (List Fact))) → step_branches problem p s ≡ o → (only o >>= λ b. grow problem (p ++ b) chain) ≡ Some q → ((b : List Fact) → grow problem (p ++ b) chain ≡ Some q → Closed problem [] (p ++ b) (step_nodes chain ++ more)) → Closed problem [] p (nodes.Step s ∷ (step_nodes chain ++ more))
  step-closed p q s chain more None is e later = absurd cc
  step-closed p q s chain more (Some []) is e later = absurd cc
  step-closed p q s chain more (Some (b ∷ [])) is e later = one p b s (step_nodes chain ++ more) is (later b e)
  step-closed p q s chain more (Some (b ∷ x ∷ xs)) is e later = absurd cc

  chain-closed : (p q : List Fact) (chain : List Step) (more : List Node) → grow problem p chain ≡ Some q → Closed problem [] q more → Closed problem [] p (step_nodes chain ++ more)
  chain-closed p q [] more e then = subst (λ x. Closed problem [] x more) (sym (same_Some p q e)) then
  chain-closed p q (s ∷ chain) more e then =
      step-closed p q s chain more (step_branches problem p s) refl e (λ b is. chain-closed (p ++ b) q chain more is then)

  module _ (cells : List Cell) (sound : IsSound problem cells) (ended : (n : ℕ) (c : Cell) → item_at cells n ≡ Some c → is_ended c.mark ≡ true) where
    abbrev Reads : (ℕ → List Node) → ℕ → Type 0
    Reads below n = (parent branch : ℕ) (p : List Fact) → IsBorn cells n parent branch p → Closed problem [] p (below n)

    end-closed : (below : ℕ → List Node) (n : ℕ) (path : List Fact) (mark : Mark) → EndHolds problem cells n path mark → is_ended mark ≡ true → ((m : ℕ) → n < m → Reads below m) → Closed problem [] path (end_nodes below mark)
    end-closed below n path marks.Open holds e reads = absurd (false≢true e)
    end-closed below n path (marks.Held seat) holds e reads = absurd (false≢true e)
    end-closed below n path (marks.Spent cause) holds e reads = absurd (false≢true e)
    end-closed below n path (marks.Closed c) holds e reads = closing path c holds
    end-closed below n path (marks.Parted step left) holds e reads =
        let less = holds.2 in
        two path holds.0.0 holds.0.1 step (below left) (below (left + 1)) holds.1 (reads left less n 1 (path ++ holds.0.0) holds.3) (reads (left + 1) (omega (arith, less)) n 2 (path ++ holds.0.1) holds.4)

    cell-closed : (below : ℕ → List Node) (n : ℕ) (p : List Fact) (c : Cell) → IsSoundAt problem cells n c → c.base ≡ p → is_ended c.mark ≡ true → ((m : ℕ) → n < m → Reads below m) → Closed problem [] p (step_nodes c.chain ++ end_nodes below c.mark)
    cell-closed below n p c at is e reads =
        chain-closed p c.path c.chain (end_nodes below c.mark) (subst (λ x. grow problem x c.chain ≡ Some c.path) is at.grows) (end-closed below n c.path c.mark at.ends e reads)

    reads-all : (fuel n : ℕ) → length cells + 1 ≤ fuel + n → Reads (nodes_at fuel (map place_of cells)) n
    reads-all zero n enough parent branch p born = absurd (let within = item-within cells n born.0 born.1 in omega (arith, within, enough))
    reads-all (suc fuel) n enough parent branch p born =
        let c = born.0 in
        subst (λ o. Closed problem [] p (place_nodes (nodes_at fuel (map place_of cells)) o)) (sym (place-at cells n c born.1)) (cell-closed (nodes_at fuel (map place_of cells)) n p c (sound n c born.1) born.2 (ended n c born.1) (λ m less. reads-all fuel m (omega (arith, enough, less))))

    pub cells-closed : (p : List Fact) → IsBorn cells 1 0 0 p → Closed problem [] p (nodes_from (map place_of cells) 1)
    cells-closed p born =
        let long = length-map place_of cells in
        reads-all (length (map place_of cells)) 1 (omega (arith, long)) 0 0 p born

pub tree_closed : (problem : Parts) (budget : ℕ) (journal : List Entry) → IsLegal problem budget journal → ((n : ℕ) (c : Cell) → item_at (state_of problem journal).cells n ≡ Some c → is_ended c.mark ≡ true) → Closed problem [] (root_facts problem.roots) (nodes_from (map place_of (state_of problem journal).cells) 1)
tree_closed problem budget journal legal ended =
    cells-closed problem (state_of problem journal).cells (sound_is problem budget journal legal) ended (root_facts problem.roots) (root_is problem budget journal legal)
