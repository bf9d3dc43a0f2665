-- Operations on integers, and the first whose exact result passes 128 bits.
use Rattle.std.specs.Prelude.{◌≡◌, ℤ, ◌+ℤ◌, ◌*ℤ◌, int_le, Bool, ◌&&◌, if◌then◌else◌, List, [], ◌∷◌, Ok, Err, ⊤}
use Rattle.std.specs.declared.result.Result.{Result}
use Rattle.sc_base.specs.Integers.{lowest, highest}
use Rattle.sc_linear.specs.declared.exact.Op.{Op}
use Rattle.sc_linear.specs.declared.exact.Op.TheVariants.{Add, Multiply}
use Rattle.sc_linear.specs.declared.exact.LinearError.{LinearError}
use Rattle.sc_linear.specs.declared.exact.LinearError.TheVariants.{Wide, Memory}

-- whether the number has at most 128 bits
abbrev pub fits : ℤ → Bool
fits z = int_le lowest z && int_le z highest

-- an operation and its two numbers
pub record Operation : Type 0 where
  pub op : Op
  pub a : ℤ
  pub b : ℤ

abbrev pub product : ℤ → ℤ → Operation
product a b = record { op = Multiply; a = a; b = b }

abbrev pub addition : ℤ → ℤ → Operation
addition a b = record { op = Add; a = a; b = b }

abbrev pub value_by : Op → ℤ → ℤ → ℤ
value_by Add a b = a +ℤ b
value_by Multiply a b = a *ℤ b

abbrev pub exact_value : Operation → ℤ
exact_value o = value_by o.op o.a o.b

-- x, or the first operation of the list whose exact value passes 128 bits
abbrev pub unless_wide : {A : Type 0} → List Operation → A → Result A LinearError
unless_wide [] x = Ok x
unless_wide (o ∷ os) x = if fits (exact_value o) then unless_wide os x else Err (Wide o.op o.a o.b)

-- the exact value of one operation
abbrev pub computed : Operation → Result ℤ LinearError
computed o = unless_wide (o ∷ []) (exact_value o)

-- the answer is what is expected, or there was no memory
abbrev pub IsExact : {A : Type 0} → Result A LinearError → Result A LinearError → Type 0
IsExact (Ok x) expected = expected ≡ Ok x
IsExact (Err (Wide op a b)) expected = expected ≡ Err (Wide op a b)
IsExact (Err Memory) expected = ⊤
