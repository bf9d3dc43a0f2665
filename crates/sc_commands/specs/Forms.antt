-- The forms of the commands of SMT-LIB 2.6 scripts, and the codes of what is none.
use Rattle.std.specs.Prelude.{ℕ, Bool, true, false, ◌&&◌, ◌||◌, if◌then◌else◌, List, codes, Option, Some, None, is_some, ok_or, option_map, option_and_then, Result, Err}
use Rattle.std.specs.Str.{bytes_eq}
use Rattle.sc_text.specs.declared.token.Kind.TheVariants as kind
use Rattle.sc_text.specs.declared.code.Code.{Code}
use Rattle.sc_text.specs.declared.code.Code.TheVariants as code
use Rattle.sc_text.specs.Names.{is_command, is_left_out_command, symbol_name}
use Rattle.sc_sexpr.specs.Shapes.{Shape, Single, Listed, Shapes, Empty, More}
use Rattle.sc_commands.specs.Commands.{CommandShape, SetLogic, SetInfo, DeclareSort, DeclareConst, DeclareFun, Assert, CheckSat, GetProof, Echo, Exit}

-- the name that a symbol gives
abbrev pub symbol : Shape → Option (List ℕ)
symbol (Single k text start line) = symbol_name k text
symbol (Listed line rest) = None

abbrev pub numeral : Shape → Option (List ℕ)
numeral (Single kind.Numeral text start line) = Some text
numeral s = None

abbrev pub literal : Shape → Option (List ℕ)
literal (Single kind.Literal text start line) = Some text
literal s = None

abbrev pub is_keyword : Shape → Bool
is_keyword (Single kind.Keyword text start line) = true
is_keyword s = false

-- A sort is a symbol or a list.
abbrev pub is_sort : Shape → Bool
is_sort (Listed line rest) = true
is_sort (Single k text start line) = is_some (symbol (Single k text start line))

abbrev pub are_sorts : Shapes → Bool
are_sorts Empty = true
are_sorts (More s rest) = is_sort s && are_sorts rest

abbrev pub is_list_of_sorts : Shape → Bool
is_list_of_sorts (Listed line rest) = are_sorts rest
is_list_of_sorts (Single k text start line) = false

-- The forms, each by the parts behind the head.
abbrev pub set_logic : Shapes → Option CommandShape
set_logic (More name Empty) = option_map (λ n. SetLogic) (symbol name)
set_logic parts = None

abbrev pub set_info : Shapes → Option CommandShape
set_info (More keyword (More value Empty)) = if is_keyword keyword then Some SetInfo else None
set_info parts = None

abbrev pub declare_sort : Shapes → Option CommandShape
declare_sort (More name (More arity Empty)) = option_and_then (λ n. option_map (λ digits. DeclareSort n digits) (numeral arity)) (symbol name)
declare_sort parts = None

abbrev pub declare_const : Shapes → Option CommandShape
declare_const (More name (More sort Empty)) = if is_sort sort then option_map (λ n. DeclareConst n sort) (symbol name) else None
declare_const parts = None

abbrev pub declare_fun : Shapes → Option CommandShape
declare_fun (More name (More arguments (More range Empty))) = if is_list_of_sorts arguments && is_sort range then option_map (λ n. DeclareFun n arguments range) (symbol name) else None
declare_fun parts = None

abbrev pub assert : Shapes → Option CommandShape
assert (More term Empty) = Some (Assert term)
assert parts = None

abbrev pub check_sat : Shapes → Option CommandShape
check_sat Empty = Some CheckSat
check_sat parts = None

abbrev pub get_proof : Shapes → Option CommandShape
get_proof Empty = Some GetProof
get_proof parts = None

abbrev pub echo : Shapes → Option CommandShape
echo (More text Empty) = option_map (λ l. Echo l) (literal text)
echo parts = None

abbrev pub exit : Shapes → Option CommandShape
exit Empty = Some Exit
exit parts = None

-- the form of the command with this name, where it is done and declares nothing
abbrev pub action_form_of : List ℕ → Option (Shapes → Option CommandShape)
action_form_of word =
    if bytes_eq (codes "assert") word then Some assert
    else if bytes_eq (codes "check-sat") word then Some check_sat
    else if bytes_eq (codes "get-proof") word then Some get_proof
    else if bytes_eq (codes "echo") word then Some echo
    else if bytes_eq (codes "exit") word then Some exit
    else None

-- the form of the command with this name, where it is done
abbrev pub form_of : List ℕ → Option (Shapes → Option CommandShape)
form_of word =
    if bytes_eq (codes "set-logic") word then Some set_logic
    else if bytes_eq (codes "set-info") word then Some set_info
    else if bytes_eq (codes "declare-sort") word then Some declare_sort
    else if bytes_eq (codes "declare-const") word then Some declare_const
    else if bytes_eq (codes "declare-fun") word then Some declare_fun
    else action_form_of word

-- A word that is a command's name, but has no form here, lies outside the profile.
abbrev pub by_form : Option (Shapes → Option CommandShape) → List ℕ → Shapes → Result CommandShape Code
by_form (Some form) word parts = ok_or (form parts) code.E5
by_form None word parts = Err (if is_command word || is_left_out_command word then code.E8 else code.E4)

-- The head is a bare word: a quoted symbol is no command's name.
abbrev pub by_head : Shape → Shapes → Result CommandShape Code
by_head (Single kind.Word text start line) parts = by_form (form_of text) text parts
by_head head parts = Err code.E4

-- The command that a top item is. What has no head is malformed; then an unknown head comes first, then one outside the profile, then a malformed command.
abbrev pub command_of : Shape → Result CommandShape Code
command_of (Listed line (More head parts)) = by_head head parts
command_of s = Err code.E5
