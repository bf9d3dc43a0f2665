-- The names and assertions of a script, by the levels of SMT-LIB 2.6.
--
-- Names are lists of bytes, without the bars of a quoted symbol.
use Rattle.std.specs.Prelude.{◌≡◌, ℕ, ◌+◌, ◌-◌, ◌^◌, ◌≤◌, nat_le, not, ◌||◌, if◌then◌else◌, ⊤, List, [], ◌∷◌, ◌++◌, length, map, Option, Some, None, is_some, Result, Ok, Err}
use Rattle.std.specs.List.{flat_map, AllByRecursion}
use Rattle.std.specs.Option.{option_or}
use Rattle.std.specs.Str.{bytes_eq}
use Rattle.sc_base.specs.Numbered.{item_at}
use Rattle.sc_base.specs.Options.{◌>>=◌}
use Rattle.sc_text.specs.Names.{is_free_in_bars}
use Rattle.sc_text.specs.declared.code.Code.{Code}
use Rattle.sc_text.specs.declared.code.Code.TheVariants.{E9, E16}
use Rattle.sc_terms.specs.declared.nodes.Sort.{Sort}
use Rattle.sc_terms.specs.declared.nodes.Sort.TheVariants as sorts
use Rattle.sc_stack.specs.declared.stack.Constant.{Constant}
use Rattle.sc_stack.specs.declared.stack.Named.{Named}
use Rattle.sc_stack.specs.declared.stack.Named.TheVariants as named
use Rattle.sc_stack.specs.declared.stack.StackError.{StackError}
use Rattle.sc_stack.specs.declared.stack.StackError.TheVariants as errors

-- what was declared and asserted at one level, by numbers, each in the order in which it came
pub record Level : Type 0 where
  pub sorts : List ℕ
  pub constants : List ℕ
  pub assertions : List ℕ

-- everything that was ever declared, and the levels that stand, the first level first; the n-th sort has the number n, and so for constants
pub record Names : Type 0 where
  pub sorts : List (List ℕ)
  pub constants : List Constant
  pub levels : List Level

abbrev pub new_level : Level
new_level = record { sorts = []; constants = []; assertions = [] }

-- the start: nothing was declared, and the first level stands alone
abbrev pub no_names : Names
no_names = record { sorts = []; constants = []; levels = new_level ∷ [] }

-- the sort of each constant, by its number
abbrev pub sorts_of : Names → List Sort
sorts_of names = map (λ (c : Constant). c.sort) names.constants

-- what is in force is that of all levels that stand, in order
abbrev pub sorts_in_force : Names → List ℕ
sorts_in_force names = flat_map (λ (l : Level). l.sorts) names.levels

abbrev pub constants_in_force : Names → List ℕ
constants_in_force names = flat_map (λ (l : Level). l.constants) names.levels

abbrev pub assertions_in_force : Names → List ℕ
assertions_in_force names = flat_map (λ (l : Level). l.assertions) names.levels

-- the first answer that f gives
abbrev pub first_of : {X Y : Type 0} → (X → Option Y) → List X → Option Y
first_of f [] = None
first_of f (x ∷ xs) = option_or (f x) (first_of f xs)

-- the sort with a number, where this is its name
abbrev pub sort_named : List (List ℕ) → List ℕ → ℕ → Option Named
sort_named all name n = item_at all n >>= λ own. if bytes_eq name own then Some (named.Sort n) else None

-- the constant with a number, where this is its name
abbrev pub constant_named : List Constant → List ℕ → ℕ → Option Named
constant_named all name n = item_at all n >>= λ c. if bytes_eq name c.name then Some (named.Constant n c.sort) else None

-- what a name in force names
abbrev pub look_up : Names → List ℕ → Option Named
look_up names name = option_or (first_of (sort_named names.sorts name) (sorts_in_force names)) (first_of (constant_named names.constants name) (constants_in_force names))

-- the numbers of each kind end here
abbrev pub last_number : ℕ
last_number = 2 ^ 32 - 1

-- why a name can't get the next number of its kind, where count numbers were given: SMT-LIB 2.6 has one name space for what is declared
abbrev pub fault_of : Names → List ℕ → ℕ → Option Code
fault_of names name count =
    if not (is_free_in_bars name) || is_some (look_up names name) then Some E9 else (if nat_le last_number count then Some (E16 last_number) else None)

-- the levels with the last one changed
abbrev pub on_last : (Level → Level) → List Level → List Level
on_last f [] = []
on_last f (l ∷ []) = f l ∷ []
on_last f (l ∷ m ∷ ls) = l ∷ on_last f (m ∷ ls)

-- one more sort, constant or assertion, at the last level
abbrev pub with_sort : Names → List ℕ → Names
with_sort names name =
    let add : Level → Level = λ l. record { sorts = l.sorts ++ (length names.sorts + 1) ∷ []; constants = l.constants; assertions = l.assertions } in
    record { sorts = names.sorts ++ name ∷ []; constants = names.constants; levels = on_last add names.levels }

abbrev pub with_constant : Names → Constant → Names
with_constant names constant =
    let add : Level → Level = λ l. record { sorts = l.sorts; constants = l.constants ++ (length names.constants + 1) ∷ []; assertions = l.assertions } in
    record { sorts = names.sorts; constants = names.constants ++ constant ∷ []; levels = on_last add names.levels }

abbrev pub with_assertion : Names → ℕ → Names
with_assertion names formula =
    let add : Level → Level = λ l. record { sorts = l.sorts; constants = l.constants; assertions = l.assertions ++ formula ∷ [] } in
    record { sorts = names.sorts; constants = names.constants; levels = on_last add names.levels }

-- the answer to a declaration, and the names after it: where there is no fault the next number is given, and with an error all stays
abbrev pub Declares : Names → Option Code → Names → ℕ → Result ℕ StackError → Names → Type 0
Declares old fault made number (Ok n) new = (fault ≡ None) × (n ≡ number) × (new ≡ made)
Declares old fault made number (Err (errors.Fault code)) new = (fault ≡ Some code) × (new ≡ old)
Declares old fault made number (Err errors.Memory) new = new ≡ old

-- the number that a new name gets, or the fault
abbrev pub NumberFor : Result ℕ StackError → Option Code → ℕ → Type 0
NumberFor (Ok n) fault number = (fault ≡ None) × (n ≡ number)
NumberFor (Err (errors.Fault code)) fault number = fault ≡ Some code
NumberFor (Err errors.Memory) fault number = ⊥

abbrev pub DeclaresSort : Names → List ℕ → Result ℕ StackError → Names → Type 0
DeclaresSort old name = Declares old (fault_of old name (length old.sorts)) (with_sort old name) (length old.sorts + 1)

abbrev pub DeclaresConstant : Names → Constant → Result ℕ StackError → Names → Type 0
DeclaresConstant old constant = Declares old (fault_of old constant.name (length old.constants)) (with_constant old constant) (length old.constants + 1)

-- the number is that of an item of the list
abbrev pub IsNumber : {X : Type 0} → List X → ℕ → Type 0
IsNumber all n = (1 ≤ n) × (n ≤ length all)

-- the sort is built in, or made of a sort that was declared
abbrev pub IsSort : Names → Sort → Type 0
IsSort names (sorts.Named n) = IsNumber names.sorts n
IsSort names (sorts.SetNamed n) = IsNumber names.sorts n
IsSort names _ = ⊤

-- a sort's own name names it, and so for a constant
abbrev pub SortIsFound : Names → ℕ → Type 0
SortIsFound names n = (name : List ℕ) → item_at names.sorts n ≡ Some name → look_up names name ≡ Some (named.Sort n)

abbrev pub ConstantIsFound : Names → ℕ → Type 0
ConstantIsFound names n = (c : Constant) → item_at names.constants n ≡ Some c → look_up names c.name ≡ Some (named.Constant n c.sort)

-- what is true of the names of every stack: the first level stands; what is in force was declared and is found by its name, so that no two things in force share a name; the sorts of constants were declared
pub record IsNames (names : Names) : Type 0 where
  pub levels : 1 ≤ length names.levels
  pub sorts : AllByRecursion (IsNumber names.sorts) (sorts_in_force names)
  pub constants : AllByRecursion (IsNumber names.constants) (constants_in_force names)
  pub sorts_found : AllByRecursion (SortIsFound names) (sorts_in_force names)
  pub constants_found : AllByRecursion (ConstantIsFound names) (constants_in_force names)
  pub sorts_declared : AllByRecursion (λ (c : Constant). IsSort names c.sort) names.constants
  pub last_sort : length names.sorts ≤ last_number
  pub last_constant : length names.constants ≤ last_number
