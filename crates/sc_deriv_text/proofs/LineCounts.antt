-- How long some lines are together.
use Rattle.std.proofs.Common.{◌≡◌, ℕ, ◌+◌, ◌-◌, ◌^◌, ◌≤◌, List, [], ◌∷◌, length, drop, zero, suc, refl, sym, ap, subst, ◌∙◌, arith, length-append}
use Rattle.std.specs.Prelude.{min}
use Rattle.std.specs.List.{AllByRecursion}
use Rattle.sc_deriv.specs.declared.derivation.Node.{Node}
use Rattle.sc_deriv_text.specs.Sexpr.{bytes_of}
use Rattle.sc_deriv_text.specs.Spelling.{node_expr, NodeFits}
use Rattle.sc_deriv_text.specs.Text.{node_line, node_lines}

-- so many bytes were counted, and these lines are left
pub record Counts (all rest : List Node) (total : ℕ) : Type 0 where
  pub sum : min (2 ^ 128 - 1) (total + length (node_lines rest)) ≡ min (2 ^ 128 - 1) (length (node_lines all))
  pub small : total ≤ 2 ^ 128 - 1
  pub fits : AllByRecursion NodeFits rest → AllByRecursion NodeFits all

capped : (m a b : ℕ) → min m (min m a + b) ≡ min m (a + b)
capped m a b = grind arith

pub begins : (all : List Node) → Counts all all 0
begins all =
    let same : 0 + length (node_lines all) ≡ length (node_lines all) = omega arith in
    record { sum = ap (λ (t : ℕ). min (2 ^ 128 - 1) t) same; small = omega arith; fits = λ f. f }

pub counts_on : (all rest others : List Node) (n : Node) (total k : ℕ) → Counts all rest total → rest ≡ n ∷ others → k ≡ length (bytes_of (node_expr n)) → NodeFits n → Counts all others (min (2 ^ 128 - 1) (total + (k + 1)))
counts_on all rest others n total k c is e f =
    let line : length (node_line n) ≡ k + 1 = omega (arith, e, length-append (bytes_of (node_expr n)) (10 ∷ [])) in
    let both : length (node_lines rest) ≡ length (node_line n) + length (node_lines others) = ap (λ (r : List Node). length (node_lines r)) is ∙ length-append (node_line n) (node_lines others) in
    let whole : total + (k + 1) + length (node_lines others) ≡ total + length (node_lines rest) = omega (arith, line, both) in
    record {
      sum = capped (2 ^ 128 - 1) (total + (k + 1)) (length (node_lines others)) ∙ (ap (λ (t : ℕ). min (2 ^ 128 - 1) t) whole ∙ c.sum);
      small = grind arith;
      fits = λ g. c.fits (subst (AllByRecursion NodeFits) (sym is) (f, g));
    }

pub ends : (all rest : List Node) (total : ℕ) → Counts all rest total → rest ≡ [] → total ≡ min (2 ^ 128 - 1) (length (node_lines all))
ends all rest total c is =
    let none : length (node_lines rest) ≡ 0 = ap (λ (r : List Node). length (node_lines r)) is in
    let small = c.small in
    let same : total ≡ min (2 ^ 128 - 1) (total + length (node_lines rest)) = grind (arith, none, small) in
    same ∙ c.sum

pub gone : {X : Type 0} (xs : List X) (i : ℕ) → length xs ≤ i → drop i xs ≡ []
gone [] zero le = refl
gone [] (suc i) le = refl
gone (x ∷ xs) zero le = absurd (omega (arith, le))
gone (x ∷ xs) (suc i) le = gone xs i (omega (arith, le))
