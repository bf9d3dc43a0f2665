-- From which leaf's split a leaf came.
use Rattle.std.specs.Prelude.{◌≡◌, ℕ, zero, suc, ◌<◌, List, ◌∷◌, ◌++◌, Some}
use Rattle.sc_base.specs.Numbered.{item_at}
use Rattle.sc_deriv.specs.declared.derivation.Step.{Step}
use Rattle.sc_deriv.specs.declared.derivation.Taken.{Taken}
use Rattle.sc_tree.specs.declared.machine.Mark.TheVariants as marks
use Rattle.sc_tree.specs.Chains.{taken, firsts}
use Rattle.sc_tree.specs.Machine.{Cell}

-- leaf n, which came by this branch of the split of another leaf, has that leaf's steps, then the split's, then its own
pub record ComesBy (cells : List Cell) (n parent branch : ℕ) (own : List Step) (steps : List Taken) : Type 0 where
  pub before : Cell
  pub step : Step
  pub left : ℕ
  pub is : item_at cells parent ≡ Some before
  pub parted : before.mark ≡ marks.Parted step left
  pub lower : parent < n
  pub steps_are : steps ≡ before.steps ++ taken step branch ∷ firsts own

abbrev pub ComesFrom : List Cell → ℕ → ℕ → ℕ → List Step → List Taken → Type 0
ComesFrom cells n zero branch own steps = steps ≡ firsts own
ComesFrom cells n (suc p) branch own steps = ComesBy cells n (suc p) branch own steps

-- leaf n's steps are those of the leaf by whose split it came, then that split's, then its own
abbrev pub Comes : List Cell → ℕ → Cell → Type 0
Comes cells n c = ComesFrom cells n c.parent c.branch c.chain c.steps

abbrev pub AllCome : List Cell → Type 0
AllCome cells = (n : ℕ) (c : Cell) → item_at cells n ≡ Some c → Comes cells n c
