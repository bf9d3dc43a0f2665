-- A word is refused exactly where it stops within a tree, or goes on behind one.
use Rattle.std.proofs.Common.{◌≡◌, ℕ, ◌+◌, ◌<◌, true, false, cond, nat_lt, ℤ, List, [], ◌∷◌, ◌++◌, length, Result, Ok, Err, ◌⊎◌, inl, inr, refl, sym, ap, subst, ◌∙◌, append_assoc, arith}
use Rattle.std.proofs.lemmas.Bool.{false≢true}
use borrow.Author.Tests.{ltb-true, ltb-false}
use Rattle.sc_terms.specs.declared.atoms.Atom.{Atom}
use Rattle.sc_terms.specs.declared.atoms.Cube.{Cube}
use Rattle.sc_terms.specs.declared.atoms.Sign.{Sign}
use Rattle.sc_terms.specs.declared.atoms.Sign.TheVariants.{Plus, Minus}
use Rattle.sc_terms.specs.declared.problem.Parts.{Parts}
use Rattle.sc_terms.specs.Lookup.{basis_of, component_of}
use Rattle.sc_regions.specs.declared.tree.Side.{Side}
use Rattle.sc_regions.specs.declared.tree.Side.TheVariants.{Inside, Outside, Undecided}
use Rattle.sc_regions.specs.declared.tree.Letter.{Letter}
use Rattle.sc_regions.specs.declared.tree.Letter.TheVariants.{Split, Within, Without, Gone}
use Rattle.sc_regions.specs.Sides.{side}
use Rattle.sc_regions.specs.Regions.{is_inside_side, is_outside_side, cube_at, is_gone, with_size, sum_from, component_or_none}
use Rattle.sc_regions.specs.Reading.{after}
use Rattle.sc_regions.specs.Trees.{Tree, within, without, gone, split, word_of, FitsAt, sizes}
use Rattle.sc_regions.specs.Refusals.{tips_of, Start, unread, in_plus, in_minus, start_word, start_tips, next_region, StartFits, Stops, StopsWithin, GoesOn, RefusalsAreFirst}
use Rattle.sc_base.proofs.Bools.{cond_cases}
use Rattle.sc_regions.proofs.LeafSums.{inside-is, outside-is}
use Rattle.sc_regions.proofs.TreeSums.{read-tree}

not-inside : (s : Side) → (s ≡ Inside → ⊥) → is_inside_side s ≡ false
not-inside Inside h = absurd (h refl)
not-inside Outside h = refl
not-inside Undecided h = refl

not-outside : (s : Side) → (s ≡ Outside → ⊥) → is_outside_side s ≡ false
not-outside Inside h = refl
not-outside Outside h = absurd (h refl)
not-outside Undecided h = refl

with_size-err : (cube : Cube) (r : Result (List (ℤ × Atom)) ℕ) (n : ℕ) → with_size cube r ≡ Err n → r ≡ Err n
with_size-err cube (Ok form) n e = absurd cc
with_size-err cube (Err place) n e = e

err-is : (m n : ℕ) → ◌≡◌ {A = Result (List (ℤ × Atom)) ℕ} (Err m) (Err n) → m ≡ n
err-is m n e = cc

module _ (problem : Parts) (set component : ℕ) (empties : List Cube) where
  abbrev read : List Letter → List (List Sign) → ℕ → Result (List (ℤ × Atom)) ℕ
  read word regions tips = sum_from problem set component empties word regions tips

  no-region : (letter : Letter) (word : List Letter) (tips n : ℕ) → tips + 1 ≡ n → read (letter ∷ word) [] tips ≡ Err n
  no-region Split word tips n e = ap Err e
  no-region Within word tips n e = ap Err e
  no-region Without word tips n e = ap Err e
  no-region Gone word tips n e = ap Err e

  -- a letter that is not right, or none
  stops-there : (region : List Sign) (rest : List Letter) (regions : List (List Sign)) (tips n : ℕ) → Stops problem set component empties region rest → tips + 1 ≡ n → read rest (region ∷ regions) tips ≡ Err n
  stops-there region [] regions tips n stops e = ap Err e
  stops-there region (Split ∷ word) regions tips n stops e =
      let none : nat_lt (length region) (length (basis_of problem component)) ≡ false = grind arith in
      ap (λ b. cond b (read word ((region ++ Plus ∷ []) ∷ (region ++ Minus ∷ []) ∷ regions) tips) (Err (tips + 1))) none ∙ ap Err e
  stops-there region (Within ∷ word) regions tips n stops e =
      ap (λ b. cond b (with_size (cube_at component region) (read word regions (tips + 1))) (Err (tips + 1))) (not-inside _ stops) ∙ ap Err e
  stops-there region (Without ∷ word) regions tips n stops e = ap (λ b. cond b (read word regions (tips + 1)) (Err (tips + 1))) (not-outside _ stops) ∙ ap Err e
  stops-there region (Gone ∷ word) regions tips n stops e = ap (λ b. cond b (read word regions (tips + 1)) (Err (tips + 1))) stops ∙ ap Err e

  read-start : (start : Start) (region : List Sign) (rest : List Letter) (regions : List (List Sign)) (tips n : ℕ) → StartFits problem set component empties region start → Stops problem set component empties (next_region region start) rest → tips + start_tips start + 1 ≡ n → read (start_word start ++ rest) (region ∷ regions) tips ≡ Err n
  read-start unread region rest regions tips n fits stops e = stops-there region rest regions tips n stops (omega (arith, e))
  read-start (in_plus start) region rest regions tips n fits stops e =
      let less = fits.0 in
      let more : nat_lt (length region) (length (basis_of problem component)) ≡ true = grind arith in
      ap (λ b. cond b (read (start_word start ++ rest) ((region ++ Plus ∷ []) ∷ (region ++ Minus ∷ []) ∷ regions) tips) (Err (tips + 1))) more
      ∙ read-start start (region ++ Plus ∷ []) rest ((region ++ Minus ∷ []) ∷ regions) tips n fits.1 stops e
  read-start (in_minus plus start) region rest regions tips n fits stops e =
      let less = fits.0 in
      let more : nat_lt (length region) (length (basis_of problem component)) ≡ true = grind arith in
      let second = read-start start (region ++ Minus ∷ []) rest regions (tips + tips_of plus) n fits.2 stops (omega (arith, e)) in
      ap (λ b. cond b (read ((word_of plus ++ start_word start) ++ rest) ((region ++ Plus ∷ []) ∷ (region ++ Minus ∷ []) ∷ regions) tips) (Err (tips + 1))) more
      ∙ ap (λ w. read w ((region ++ Plus ∷ []) ∷ (region ++ Minus ∷ []) ∷ regions) tips) (append_assoc (word_of plus) (start_word start) rest)
      ∙ read-tree problem set component empties plus (region ++ Plus ∷ []) (start_word start ++ rest) ((region ++ Minus ∷ []) ∷ regions) tips fits.1
      ∙ ap (after (sizes component (region ++ Plus ∷ []) plus)) second

  -- a tree in which the word stops, after whole ones, or what goes on behind them
  abbrev Stopped : List Sign → List Letter → ℕ → ℕ → Type 0
  Stopped region word tips n =
      (start : Start) × (rest : List Letter) × (start_word start ++ rest ≡ word) × StartFits problem set component empties region start × Stops problem set component empties (next_region region start) rest × (tips + start_tips start + 1 ≡ n)

  abbrev Refused : List (List Sign) → List Letter → ℕ → ℕ → Type 0
  Refused [] word tips n = (letter : Letter) × (rest : List Letter) × (letter ∷ rest ≡ word) × (tips + 1 ≡ n)
  Refused (region ∷ regions) word tips n =
      Stopped region word tips n
      ⊎ ((tree : Tree) × (w : List Letter) × FitsAt problem set component empties region tree × (word_of tree ++ w ≡ word) × Refused regions w (tips + tips_of tree) n)

  -- a split of a region whose halves were refused
  split-second : (region : List Sign) (regions : List (List Sign)) (word w : List Letter) (plus : Tree) (tips n : ℕ) → length region < length (basis_of problem component) → FitsAt problem set component empties (region ++ Plus ∷ []) plus → word_of plus ++ w ≡ word
      → Refused ((region ++ Minus ∷ []) ∷ regions) w (tips + tips_of plus) n → Refused (region ∷ regions) (Split ∷ word) tips n
  split-second region regions word w plus tips n less fit spelt (inl (start, rest, is, fits, stops, count)) =
      inl (in_minus plus start, rest, ap (λ w. Split ∷ w) (append_assoc (word_of plus) (start_word start) rest ∙ ap (λ w. word_of plus ++ w) is ∙ spelt), (less, fit, fits), stops, omega (arith, count))
  split-second region regions word w plus tips n less fit spelt (inr (minus, v, fits, is, more)) =
      inr (split plus minus, v, (less, fit, fits), ap (λ w. Split ∷ w) (append_assoc (word_of plus) (word_of minus) v ∙ ap (λ w. word_of plus ++ w) is ∙ spelt), subst (λ k. Refused regions v k n) (omega arith) more)

  split-first : (region : List Sign) (regions : List (List Sign)) (word : List Letter) (tips n : ℕ) → length region < length (basis_of problem component)
      → Refused ((region ++ Plus ∷ []) ∷ (region ++ Minus ∷ []) ∷ regions) word tips n → Refused (region ∷ regions) (Split ∷ word) tips n
  split-first region regions word tips n less (inl (start, rest, is, fits, stops, count)) =
      inl (in_plus start, rest, ap (λ w. Split ∷ w) is, (less, fits), stops, count)
  split-first region regions word tips n less (inr (plus, w, fit, is, more)) = split-second region regions word w plus tips n less fit is more

  refused : (word : List Letter) (regions : List (List Sign)) (tips n : ℕ) → read word regions tips ≡ Err n → Refused regions word tips n
  refused [] [] tips n e = absurd cc
  refused [] (region ∷ regions) tips n e = inl (unread, [], refl, tt, tt, let is = err-is (tips + 1) n e in omega (arith, is))
  refused (Split ∷ word) [] tips n e = (Split, word, refl, err-is (tips + 1) n e)
  refused (Within ∷ word) [] tips n e = (Within, word, refl, err-is (tips + 1) n e)
  refused (Without ∷ word) [] tips n e = (Without, word, refl, err-is (tips + 1) n e)
  refused (Gone ∷ word) [] tips n e = (Gone, word, refl, err-is (tips + 1) n e)
  refused (Split ∷ word) (region ∷ regions) tips n e =
      elim (cond_cases (nat_lt (length region) (length (basis_of problem component))) _ _ (Err n) e) [
        | inl a ↦ split-first region regions word tips n (ltb-true (length region) (length (basis_of problem component)) a.0) (refused word ((region ++ Plus ∷ []) ∷ (region ++ Minus ∷ []) ∷ regions) tips n a.1)
        | inr a ↦ inl (unread, Split ∷ word, refl, tt, ltb-false (length region) (length (basis_of problem component)) a.0, let is = err-is (tips + 1) n a.1 in omega (arith, is))
      ]
  refused (Within ∷ word) (region ∷ regions) tips n e =
      elim (cond_cases (is_inside_side (side problem set (cube_at component region))) _ _ (Err n) e) [
        | inl a ↦ inr (within, word, inside-is _ a.0, refl, refused word regions (tips + 1) n (with_size-err (cube_at component region) (read word regions (tips + 1)) n a.1))
        | inr a ↦ inl (unread, Within ∷ word, refl, tt, (λ is. false≢true (sym a.0 ∙ ap is_inside_side is)), let is = err-is (tips + 1) n a.1 in omega (arith, is))
      ]
  refused (Without ∷ word) (region ∷ regions) tips n e =
      elim (cond_cases (is_outside_side (side problem set (cube_at component region))) _ _ (Err n) e) [
        | inl a ↦ inr (without, word, outside-is _ a.0, refl, refused word regions (tips + 1) n a.1)
        | inr a ↦ inl (unread, Without ∷ word, refl, tt, (λ is. false≢true (sym a.0 ∙ ap is_outside_side is)), let is = err-is (tips + 1) n a.1 in omega (arith, is))
      ]
  refused (Gone ∷ word) (region ∷ regions) tips n e =
      elim (cond_cases (is_gone component region empties) _ _ (Err n) e) [
        | inl a ↦ inr (gone, word, a.0, refl, refused word regions (tips + 1) n a.1)
        | inr a ↦ inl (unread, Gone ∷ word, refl, tt, a.0, let is = err-is (tips + 1) n a.1 in omega (arith, is))
      ]

  at-root : (word : List Letter) (n : ℕ) → Refused ([] ∷ []) word 0 n → StopsWithin problem set component empties word n ⊎ GoesOn problem set component empties word n
  at-root word n (inl (start, rest, is, fits, stops, count)) = inl (start, rest, is, fits, stops, omega (arith, count))
  at-root word n (inr (tree, w, fit, spelt, (letter, rest, is, count))) =
      inr (tree, letter, rest, ap (λ w. word_of tree ++ w) is ∙ spelt, fit, omega (arith, count))

  from-root : (word : List Letter) (n : ℕ) → StopsWithin problem set component empties word n ⊎ GoesOn problem set component empties word n → read word ([] ∷ []) 0 ≡ Err n
  from-root word n (inl (start, rest, is, fits, stops, count)) =
      ap (λ w. read w ([] ∷ []) 0) (sym is) ∙ read-start start [] rest [] 0 n fits stops (omega (arith, count))
  from-root word n (inr (tree, letter, rest, spelt, fit, count)) =
      ap (λ w. read w ([] ∷ []) 0) (sym spelt) ∙ read-tree problem set component empties tree [] (letter ∷ rest) [] 0 fit
      ∙ ap (after (sizes component [] tree)) (no-region letter rest (0 + tips_of tree) n (omega (arith, count)))

pub refusals_are_first : RefusalsAreFirst
refusals_are_first problem set empties word n =
    (λ e. at-root problem set (component_or_none (component_of problem set)) empties word n (refused problem set (component_or_none (component_of problem set)) empties word ([] ∷ []) 0 n e), λ h. from-root problem set (component_or_none (component_of problem set)) empties word n h)
