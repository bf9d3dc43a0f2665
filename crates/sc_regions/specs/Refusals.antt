-- Words that spell no tree that fits a set term, and the tips at which they fail.
use Rattle.std.specs.Prelude.{◌≡◌, ◌⊎◌, ℕ, ◌+◌, ◌<◌, ◌≤◌, false, List, [], ◌∷◌, ◌++◌, length, Err, ⊤}
use Rattle.sc_terms.specs.declared.atoms.Cube.{Cube}
use Rattle.sc_terms.specs.declared.atoms.Sign.{Sign}
use Rattle.sc_terms.specs.declared.atoms.Sign.TheVariants.{Plus, Minus}
use Rattle.sc_terms.specs.declared.problem.Parts.{Parts}
use Rattle.sc_terms.specs.Lookup.{basis_of, component_of}
use Rattle.sc_regions.specs.declared.tree.Side.TheVariants.{Inside, Outside}
use Rattle.sc_regions.specs.declared.tree.Letter.{Letter}
use Rattle.sc_regions.specs.declared.tree.Letter.TheVariants.{Split, Within, Without, Gone}
use Rattle.sc_regions.specs.Sides.{side}
use Rattle.sc_regions.specs.Regions.{cube_at, is_gone, component_or_none, sum_of}
use Rattle.sc_regions.specs.Trees.{Tree, within, without, gone, split, word_of, FitsAt}

-- how many tips a tree has
abbrev pub tips_of : Tree → ℕ
tips_of within = 1
tips_of without = 1
tips_of gone = 1
tips_of (split plus minus) = tips_of plus + tips_of minus

-- a tree that was read in part: nothing of it, or a part of its first half, or that half whole and a part of the second
pub data Start : Type 0 where
  unread : Start
  in_plus : Start → Start
  in_minus : Tree → Start → Start

-- what was read of it, in preorder
abbrev pub start_word : Start → List Letter
start_word unread = []
start_word (in_plus start) = Split ∷ start_word start
start_word (in_minus plus start) = Split ∷ (word_of plus ++ start_word start)

-- how many tips were read of it
abbrev pub start_tips : Start → ℕ
start_tips unread = 0
start_tips (in_plus start) = start_tips start
start_tips (in_minus plus start) = tips_of plus + start_tips start

-- the region that comes next
abbrev pub next_region : List Sign → Start → List Sign
next_region region unread = region
next_region region (in_plus start) = next_region (region ++ Plus ∷ []) start
next_region region (in_minus plus start) = next_region (region ++ Minus ∷ []) start

module _ (problem : Parts) (set component : ℕ) (empties : List Cube) where
  -- what was read is right: no region is split below the last basis set, and each tip is as it says
  abbrev pub StartFits : List Sign → Start → Type 0
  StartFits region unread = ⊤
  StartFits region (in_plus start) = (length region < length (basis_of problem component)) × StartFits (region ++ Plus ∷ []) start
  StartFits region (in_minus plus start) =
      (length region < length (basis_of problem component)) × FitsAt problem set component empties (region ++ Plus ∷ []) plus × StartFits (region ++ Minus ∷ []) start

  -- what is left of the word begins with a letter that is not right at the region, or with none
  abbrev pub Stops : List Sign → List Letter → Type 0
  Stops region [] = ⊤
  Stops region (Split ∷ word) = length (basis_of problem component) ≤ length region
  Stops region (Within ∷ word) = side problem set (cube_at component region) ≡ Inside → ⊥
  Stops region (Without ∷ word) = side problem set (cube_at component region) ≡ Outside → ⊥
  Stops region (Gone ∷ word) = is_gone component region empties ≡ false

  -- the word stops within a tree, and n is the tip that comes after those that were read
  abbrev pub StopsWithin : List Letter → ℕ → Type 0
  StopsWithin word n =
      (start : Start) × (rest : List Letter) × (start_word start ++ rest ≡ word) × StartFits [] start × Stops (next_region [] start) rest × (start_tips start + 1 ≡ n)

  -- the word goes on behind a whole tree that fits, and n is the tip that would come after those of the tree
  abbrev pub GoesOn : List Letter → ℕ → Type 0
  GoesOn word n =
      (tree : Tree) × (letter : Letter) × (rest : List Letter) × (word_of tree ++ letter ∷ rest ≡ word) × FitsAt problem set component empties [] tree × (tips_of tree + 1 ≡ n)

-- a word is refused with n exactly where it stops within a tree, or goes on behind one, and n is the tip there
abbrev pub RefusalsAreFirst : Type 0
RefusalsAreFirst =
    (problem : Parts) (set : ℕ) (empties : List Cube) (word : List Letter) (n : ℕ) →
    (sum_of problem set empties word ≡ Err n → StopsWithin problem set (component_or_none (component_of problem set)) empties word n ⊎ GoesOn problem set (component_or_none (component_of problem set)) empties word n)
    × (StopsWithin problem set (component_or_none (component_of problem set)) empties word n ⊎ GoesOn problem set (component_or_none (component_of problem set)) empties word n → sum_of problem set empties word ≡ Err n)
