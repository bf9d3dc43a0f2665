-- The sides of an equation of sets in order.
use Rattle.std.proofs.Common.{◌≡◌, ℕ, ◌<◌, true, false, Bool, cond, List, [], ◌∷◌, ap, ◌∙◌, arith}
use Rattle.std.specs.Prelude.{nat_lt}
use Rattle.sc_terms.specs.declared.nodes.Formula.TheVariants as formulas
use Rattle.sc_flatten.specs.Classes.{sides_of}

abbrev sides : ℕ → ℕ → Bool → Bool → List (ℕ × ℕ)
sides s t a b = cond a ((s, t) ∷ []) (cond b ((t, s) ∷ []) [])

pub sides_less : (s t : ℕ) → s < t → sides_of (formulas.EqSet s t) ≡ (s, t) ∷ []
sides_less s t h = let yes : nat_lt s t ≡ true = grind arith in ap (λ b. sides s t b (nat_lt t s)) yes

pub sides_greater : (s t : ℕ) → t < s → sides_of (formulas.EqSet s t) ≡ (t, s) ∷ []
sides_greater s t h =
    let no : nat_lt s t ≡ false = grind arith in
    let yes : nat_lt t s ≡ true = grind arith in
    ap (λ b. sides s t b (nat_lt t s)) no ∙ ap (λ b. sides s t false b) yes
