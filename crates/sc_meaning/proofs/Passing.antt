-- Steps of the pass.
use Rattle.std.proofs.Common.{◌≡◌, ℕ, zero, suc, ◌+◌, ◌-◌, ◌<◌, Bool, List, [], ◌∷◌, ◌++◌, sym, ap, ◌∙◌, subst, arith}
use Rattle.sc_base.specs.Numbered.{item_at}
use Rattle.sc_terms.specs.declared.nodes.Node.{Node}
use Rattle.sc_terms.specs.Meaning.{Interpretation}
use Rattle.sc_meaning.specs.declared.values.Worth.{Worth}
use Rattle.sc_meaning.specs.Marks.{marked}
use Rattle.sc_meaning.specs.Worths.{found}
use Rattle.sc_meaning.specs.Pass.{worth_if, FitsIf, worths_up, FitsUp}

module _ (i : Interpretation) (bank : List Node) (marks : List Bool) where
  pub worths_next : (n : ℕ) (old new : List Worth) (w : Worth) → old ≡ worths_up i bank marks n → w ≡ worth_if (marked marks (n + 1)) i (found i old) (item_at bank (n + 1)) → new ≡ old ++ w ∷ [] → new ≡ worths_up i bank marks (n + 1)
  worths_next n old new w e f g =
      let up : n + 1 ≡ suc n = omega arith in
      g
      ∙ ap (λ z. old ++ z ∷ []) (f ∙ ap (λ k. worth_if (marked marks k) i (found i old) (item_at bank k)) up)
      ∙ ap (λ ws. ws ++ worth_if (marked marks (suc n)) i (found i ws) (item_at bank (suc n)) ∷ []) e
      ∙ ap (worths_up i bank marks) (sym up)

  pub fits_next : (n : ℕ) (old : List Worth) → old ≡ worths_up i bank marks n → FitsUp i bank marks n → FitsIf (marked marks (n + 1)) (found i old) (item_at bank (n + 1)) → FitsUp i bank marks (n + 1)
  fits_next n old e h g =
      let up : n + 1 ≡ suc n = omega arith in
      subst (FitsUp i bank marks) (sym up)
      (h, subst (λ ws. FitsIf (marked marks (suc n)) (found i ws) (item_at bank (suc n))) e (subst (λ k. FitsIf (marked marks k) (found i old) (item_at bank k)) up g))

  pub fits_before : (more k n : ℕ) → n ≡ more + k → FitsUp i bank marks n → FitsUp i bank marks k
  fits_before zero k n e h = (let same : n ≡ k = omega arith in subst (FitsUp i bank marks) same h)
  fits_before (suc more) k zero e h = absurd (omega arith)
  fits_before (suc more) k (suc n) e h = fits_before more k n (omega arith) h.0

  pub wide_there : (n last : ℕ) (old : List Worth) → n < last → old ≡ worths_up i bank marks n → (FitsIf (marked marks (n + 1)) (found i old) (item_at bank (n + 1)) → ⊥) → FitsUp i bank marks last → ⊥
  wide_there n last old lt e wide h =
      let up : n + 1 ≡ suc n = omega arith in
      let here : FitsUp i bank marks (suc n) = fits_before (last - suc n) (suc n) last (omega arith) h in
      wide (subst (λ k. FitsIf (marked marks k) (found i old) (item_at bank k)) (sym up) (subst (λ ws. FitsIf (marked marks (suc n)) (found i ws) (item_at bank (suc n))) (sym e) here.1))
