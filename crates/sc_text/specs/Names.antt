-- The names that a script may not give. All are without the bars of a quoted symbol.
use Rattle.std.specs.Prelude.{ℕ, ◌-◌, Bool, false, ◌||◌, ◌&&◌, ◌==◌, not, if◌then◌else◌, List, [], ◌∷◌, codes, length, take, drop, Option, Some, None}
use Rattle.std.specs.List.{list_any}
use Rattle.std.specs.Str.{bytes_eq}
use Rattle.sc_text.specs.declared.token.Kind.{Kind}
use Rattle.sc_text.specs.declared.token.Kind.TheVariants as kind

abbrev pub is_among : List ℕ → List (List ℕ) → Bool
is_among name names = list_any (λ w. bytes_eq w name) names

-- the reserved words that are no commands
abbrev pub general_words : List (List ℕ)
general_words =
    codes "!" ∷ codes "_" ∷ codes "as" ∷ codes "BINARY" ∷ codes "DECIMAL" ∷ codes "exists" ∷ codes "HEXADECIMAL" ∷ codes "forall" ∷ codes "let" ∷ codes "match" ∷ codes "NUMERAL" ∷ codes "par" ∷ codes "STRING" ∷ []

abbrev pub commands : List (List ℕ)
commands =
    codes "set-logic" ∷ codes "set-info" ∷ codes "set-option" ∷ codes "get-option" ∷ codes "get-info" ∷ codes "declare-sort" ∷ codes "declare-const" ∷ codes "declare-fun" ∷ codes "define-fun" ∷ codes "assert" ∷ codes "push" ∷ codes "pop" ∷ codes "check-sat" ∷ codes "check-sat-assuming" ∷ codes "get-model" ∷ codes "get-value" ∷ codes "get-proof" ∷ codes "echo" ∷ codes "reset-assertions" ∷ codes "reset" ∷ codes "exit" ∷ []

abbrev pub left_out_commands : List (List ℕ)
left_out_commands =
    codes "define-sort" ∷ codes "define-fun-rec" ∷ codes "define-funs-rec" ∷ codes "declare-datatype" ∷ codes "declare-datatypes" ∷ codes "get-assertions" ∷ codes "get-assignment" ∷ codes "get-unsat-assumptions" ∷ codes "get-unsat-core" ∷ []

abbrev pub sorts_and_values : List (List ℕ)
sorts_and_values = codes "Bool" ∷ codes "Int" ∷ codes "Set" ∷ codes "true" ∷ codes "false" ∷ []

abbrev pub operators : List (List ℕ)
operators =
    codes "not" ∷ codes "and" ∷ codes "or" ∷ codes "=>" ∷ codes "xor" ∷ codes "=" ∷ codes "distinct" ∷ codes "ite" ∷ codes "<=" ∷ codes "<" ∷ codes ">=" ∷ codes ">" ∷ codes "+" ∷ codes "-" ∷ codes "*"
    ∷ codes "set.card" ∷ codes "set.member" ∷ codes "set.subset" ∷ codes "set.singleton" ∷ codes "set.union" ∷ codes "set.inter" ∷ codes "set.minus" ∷ codes "set.insert" ∷ codes "set.empty" ∷ []

abbrev pub left_out_operators : List (List ℕ)
left_out_operators =
    codes "set.universe" ∷ codes "set.complement" ∷ codes "set.choose" ∷ codes "set.is_empty" ∷ codes "set.is_singleton" ∷ codes "set.comprehension" ∷ codes "set.filter" ∷ codes "set.map" ∷ codes "set.fold" ∷ codes "div" ∷ codes "mod" ∷ codes "abs" ∷ codes "divisible" ∷ []

abbrev pub is_command : List ℕ → Bool
is_command name = is_among name commands

abbrev pub is_left_out_command : List ℕ → Bool
is_left_out_command name = is_among name left_out_commands

-- what is a symbol only between bars
unfoldable pub is_reserved : List ℕ → Bool
is_reserved name = is_among name general_words || (is_command name || is_left_out_command name)

abbrev pub is_operator : List ℕ → Bool
is_operator name = is_among name operators

abbrev pub is_left_out_operator : List ℕ → Bool
is_left_out_operator name = is_among name left_out_operators

unfoldable pub is_built_in : List ℕ → Bool
is_built_in name = is_among name sorts_and_values || (is_operator name || is_left_out_operator name)

-- names that begin with @ or a full stop
abbrev pub is_own : List ℕ → Bool
is_own [] = false
is_own (b ∷ bs) = b == 64 || b == 46

-- what may be declared where it stands between bars
unfoldable pub is_free_in_bars : List ℕ → Bool
is_free_in_bars name = not (is_own name) && not (is_built_in name)

-- what may be declared where it stands without bars
unfoldable pub is_free : List ℕ → Bool
is_free name = not (is_reserved name) && is_free_in_bars name

-- what stands between the first byte and the last one
abbrev pub between : List ℕ → List ℕ
between text = drop 1 (take (length text - 1) text)

-- The name that a token gives as a symbol. A reserved word is a symbol only between bars.
abbrev pub symbol_name : Kind → List ℕ → Option (List ℕ)
symbol_name kind.Word text = if is_reserved text then None else Some text
symbol_name kind.Quoted text = Some (between text)
symbol_name k text = None
