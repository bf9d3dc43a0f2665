-- Regions of one component are ordered as their words are.
use Rattle.std.proofs.Common.{◌≡◌, List, [], ◌∷◌, map, refl, ap, subst, ◌∙◌}
use Rattle.std.specs.declared.cmp.Ordering.TheVariants.{Equal}
use Rattle.std.specs.Ordering.{nat_cmp, ordering_then}
use Rattle.std.specs.Cmp.{nat_cmp_total, tied_itself}
use Rattle.std.specs.Cmp.Lexicographic.{slice_cmp}
use Rattle.sc_terms.specs.declared.atoms.Sign.{Sign}
use Rattle.sc_terms.specs.Forms.{sign_cmp, sign_byte, CubesAscendAsWords}
use Rattle.sc_terms.specs.Orders.{sign_number}

word_cmp : (xs ys : List Sign) → slice_cmp sign_cmp xs ys ≡ slice_cmp nat_cmp (map sign_byte xs) (map sign_byte ys)
word_cmp [] [] = refl
word_cmp [] (y ∷ ys) = refl
word_cmp (x ∷ xs) [] = refl
word_cmp (x ∷ xs) (y ∷ ys) = λ i. ordering_then (sign_number x y i) (word_cmp xs ys i)

pub cubes_ascend_as_words : CubesAscendAsWords
cubes_ascend_as_words a b e =
    let same : nat_cmp a.component b.component ≡ Equal = subst (λ n. nat_cmp a.component n ≡ Equal) e (tied_itself nat_cmp_total a.component) in
    ap (λ o. ordering_then o (slice_cmp sign_cmp a.signs b.signs)) same ∙ word_cmp a.signs b.signs
