-- The steps on members and equalities: what each concludes from the facts of a path, or nothing where its condition fails.
use Rattle.std.specs.Prelude.{ℕ, Bool, true, false, ◌&&◌, ◌||◌, nat_eq, if◌then◌else◌, List, [], ◌∷◌, Option, Some, None, slice_get}
use Rattle.sc_base.specs.Options.{◌>>=◌}
use Rattle.sc_terms.specs.declared.nodes.SetTerm.{SetTerm}
use Rattle.sc_terms.specs.declared.nodes.SetTerm.TheVariants as sets
use Rattle.sc_terms.specs.declared.problem.Parts.{Parts}
use Rattle.sc_terms.specs.Lookup.{set_at, element_at, diff_of}
use Rattle.sc_facts.specs.declared.fact.Fact.{Fact}
use Rattle.sc_facts.specs.declared.fact.Fact.TheVariants as facts
use Rattle.sc_facts.specs.Facts.{has}
use Rattle.sc_sorts.specs.Sorts.{may_hold}
use Rattle.sc_rules.specs.Pairs.{first_sign, ordered, equal_fact, equal, equal_of, same_set_fact, same_set}

-- whether the path has element e in set s (b is true) or outside it
abbrev pub within : List Fact → ℕ → ℕ → Bool → Bool
within path e s b = has path (facts.Member e s b)

-- whether the path says that e is in s
abbrev pub within_of : List Fact → ℕ → ℕ → Option Bool
within_of path e s = first_sign (within path e s true) (within path e s false)

-- the sign that e in n and in its arguments a and b forces in n (p = 0), in a (p = 1) or in b (p = 2)
abbrev pub union_sign : List Fact → ℕ → ℕ → ℕ → ℕ → ℕ → Option Bool
union_sign path e n a b p =
    if nat_eq p 0 then first_sign (within path e a true || within path e b true) (within path e a false && within path e b false)
    else if nat_eq p 1 then first_sign (within path e n true && within path e b false) (within path e n false)
    else if nat_eq p 2 then first_sign (within path e n true && within path e a false) (within path e n false)
    else None

abbrev pub inter_sign : List Fact → ℕ → ℕ → ℕ → ℕ → ℕ → Option Bool
inter_sign path e n a b p =
    if nat_eq p 0 then first_sign (within path e a true && within path e b true) (within path e a false || within path e b false)
    else if nat_eq p 1 then first_sign (within path e n true) (within path e n false && within path e b true)
    else if nat_eq p 2 then first_sign (within path e n true) (within path e n false && within path e a true)
    else None

abbrev pub minus_sign : List Fact → ℕ → ℕ → ℕ → ℕ → ℕ → Option Bool
minus_sign path e n a b p =
    if nat_eq p 0 then first_sign (within path e a true && within path e b false) (within path e a false || within path e b true)
    else if nat_eq p 1 then first_sign (within path e n true) (within path e n false && within path e b false)
    else if nat_eq p 2 then first_sign (within path e n false && within path e a true) (within path e n true)
    else None

-- the sign that is forced on e at place p of set term n, which is this term; nothing but what could be a member is outside the empty set
abbrev pub op_sign : Parts → List Fact → ℕ → ℕ → SetTerm → ℕ → Option Bool
op_sign problem path e n (sets.Empty sort) p = if nat_eq p 0 && may_hold problem n e then Some false else None
op_sign problem path e n (sets.Union a b) p = union_sign path e n a b p
op_sign problem path e n (sets.Inter a b) p = inter_sign path e n a b p
op_sign problem path e n (sets.Minus a b) p = minus_sign path e n a b p
op_sign problem path e n _ p = None

-- set term n itself, which is this term, or one of its arguments
abbrev pub argument : ℕ → SetTerm → ℕ → Option ℕ
argument n (sets.Union a b) p = slice_get (n ∷ a ∷ b ∷ []) p
argument n (sets.Inter a b) p = slice_get (n ∷ a ∷ b ∷ []) p
argument n (sets.Minus a b) p = slice_get (n ∷ a ∷ b ∷ []) p
argument n _ p = slice_get (n ∷ []) p

-- op e n p
abbrev pub op_of : Parts → List Fact → ℕ → ℕ → ℕ → Option Fact
op_of problem path e n p = do
  node ← set_at problem n
  s ← argument n node p
  b ← op_sign problem path e n node p
  Some (facts.Member e s b)

-- the element of a set of one
abbrev pub single_of : Option SetTerm → Option ℕ
single_of (Some (sets.Single f)) = Some f
single_of _ = None

-- single e s
abbrev pub into_single : Parts → List Fact → ℕ → ℕ → Option Fact
into_single problem path e s = do
  f ← single_of (set_at problem s)
  b ← equal_of path e f
  Some (facts.Member e s b)

-- unsingle e s
abbrev pub from_single : Parts → List Fact → ℕ → ℕ → Option Fact
from_single problem path e s = do
  f ← single_of (set_at problem s)
  b ← within_of path e s
  Some (equal_fact e f b)

-- carry e f s
abbrev pub carry_of : List Fact → ℕ → ℕ → ℕ → Option Fact
carry_of path e f s = if equal path e f true then (within_of path e s >>= λ b. Some (facts.Member f s b)) else None

-- apart e f s
abbrev pub apart_of : List Fact → ℕ → ℕ → ℕ → Option Fact
apart_of path e f s =
    if (within path e s true && within path f s false) || (within path e s false && within path f s true) then Some (equal_fact e f false) else None

-- move e s t
abbrev pub move_of : List Fact → ℕ → ℕ → ℕ → Option Fact
move_of path e s t = if same_set path s t true then (within_of path e s >>= λ b. Some (facts.Member e t b)) else None

-- setapart e s t
abbrev pub set_apart_of : List Fact → ℕ → ℕ → ℕ → Option Fact
set_apart_of path e s t =
    if (within path e s true && within path e t false) || (within path e s false && within path e t true) then Some (same_set_fact s t false) else None

-- eqrefl e
abbrev pub reflexive_of : Parts → ℕ → Option Fact
reflexive_of problem e = element_at problem e >>= λ node. Some (facts.Eq e e true)

-- seqrefl s
abbrev pub set_reflexive_of : Parts → ℕ → Option Fact
set_reflexive_of problem s = set_at problem s >>= λ node. Some (facts.EqSet s s true)

-- the sign of the first and the last of three things by the signs of the two pairs: equal where both are, different where one is
abbrev pub chained : (Bool → Bool) → (Bool → Bool) → Option Bool
chained first second =
    if first true && second true then Some true
    else if (first true && second false) || (first false && second true) then Some false
    else None

-- eqstep e f g
abbrev pub equal_step_of : List Fact → ℕ → ℕ → ℕ → Option Fact
equal_step_of path e f g = chained (equal path e f) (equal path f g) >>= λ b. Some (equal_fact e g b)

-- seqstep s t u
abbrev pub set_step_of : List Fact → ℕ → ℕ → ℕ → Option Fact
set_step_of path s t u = chained (same_set path s t) (same_set path t u) >>= λ b. Some (same_set_fact s u b)

-- that d is in the one of two sets and not in the other
abbrev pub tells_apart : ℕ → ℕ × ℕ → Bool → List Fact
tells_apart d pair b = if b then facts.Member d pair.0 true ∷ facts.Member d pair.1 false ∷ [] else facts.Member d pair.0 false ∷ facts.Member d pair.1 true ∷ []

-- the differing element of two sets that the path has as different
abbrev pub differing : Parts → List Fact → ℕ → ℕ → Option ℕ
differing problem path s t = if same_set path s t false then diff_of problem s t else None

-- differ s t
abbrev pub differ_of : Parts → List Fact → ℕ → ℕ → Option (List (List Fact))
differ_of problem path s t = differing problem path s t >>= λ d. Some (tells_apart d (ordered s t) true ∷ tells_apart d (ordered s t) false ∷ [])
