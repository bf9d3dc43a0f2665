-- Lists whose items are clones.
use Rattle.std.proofs.Common.{◌≡◌, List, [], ◌∷◌, refl}
use Rattle.std.specs.List.{AllZip}

-- where a clone is equal to what it was made of, so is a list of clones
pub same_items : {X : Type 0} (R : X → X → Type 0) → ((x y : X) → R x y → y ≡ x) → (xs ys : List X) → AllZip R xs ys → ys ≡ xs
same_items R same [] [] h = refl
same_items R same [] (y ∷ ys) h = absurd h
same_items R same (x ∷ xs) [] h = absurd h
same_items R same (x ∷ xs) (y ∷ ys) h = λ i. same x y h.0 i ∷ same_items R same xs ys h.1 i
