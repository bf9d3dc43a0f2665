-- What an evaluation answers.
use Rattle.std.specs.Prelude.{◌≡◌, Result, Ok, Err, ⊤}
use Rattle.sc_meaning.specs.declared.error.EvalError.{EvalError}
use Rattle.sc_meaning.specs.declared.error.EvalError.TheVariants.{Wide, Memory}

-- a value of which P holds, where every number that counts fits 128 bits; wide, where one doesn't
abbrev pub EvaluatesTo : {X : Type 0} → Type 0 → (X → Type 0) → Result X EvalError → Type 0
EvaluatesTo fits P (Ok x) = fits × P x
EvaluatesTo fits P (Err Wide) = fits → ⊥
EvaluatesTo fits P (Err Memory) = ⊤

-- the value, or wide
abbrev pub Evaluates : {X : Type 0} → Type 0 → X → Result X EvalError → Type 0
Evaluates fits value result = EvaluatesTo fits (λ x. x ≡ value) result
