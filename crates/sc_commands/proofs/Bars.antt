-- What stands between bars.
use Rattle.std.proofs.Common.{◌≡◌, ℕ, suc, ◌-◌, List, [], ◌∷◌, ◌++◌, length, take, drop, Some, None, if◌then◌else◌, ap, ◌∙◌, arith, rules, length-append}
use Rattle.sc_text.specs.Names.{between}
use Rattle.sc_commands.specs.Laws.{AreNames}

front : (name rest : List ℕ) → take (length name) (name ++ rest) ≡ name
front [] rest = search rules
front (x ∷ xs) rest = ap (λ ys. x ∷ ys) (front xs rest)

pub between_bars : (name : List ℕ) → between (124 ∷ name ++ 124 ∷ []) ≡ name
between_bars name =
    let n : length (124 ∷ name ++ 124 ∷ []) - 1 ≡ suc (length name) = omega (arith, length-append name (124 ∷ [])) in
    ap (λ k. drop 1 (take k (124 ∷ name ++ 124 ∷ []))) n ∙ front name (124 ∷ [])

pub are_names : AreNames
are_names = record {
  bare = λ name start line h. ap (λ b. if b then None else Some name) h;
  reserved = λ name start line h. ap (λ b. if b then None else Some name) h;
  quoted = λ name start line. ap (λ n. Some n) (between_bars name);
}
