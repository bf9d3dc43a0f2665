-- What heads a list of a term: an operator with as many arguments as it takes, or the form of an empty set, or the fault that comes before the arguments.
use Rattle.std.specs.Prelude.{ℕ, Bool, true, false, not, ◌&&◌, if◌then◌else◌, List, [], ◌∷◌, codes, Option, Some, None, is_some, Result, Ok, Err}
use Rattle.std.specs.Str.{bytes_eq}
use Rattle.sc_text.specs.declared.code.Code.{Code}
use Rattle.sc_text.specs.declared.code.Code.TheVariants as code
use Rattle.sc_text.specs.declared.token.Kind.{Kind}
use Rattle.sc_text.specs.declared.token.Kind.TheVariants as kind
use Rattle.sc_text.specs.Names.{is_among, is_reserved, is_left_out_operator, between}
use Rattle.sc_sexpr.specs.Shapes.{Shape, Single, Listed, Shapes, Empty, More}
use Rattle.sc_terms.specs.declared.nodes.Sort.{Sort}
use Rattle.sc_stack.specs.declared.stack.Named.{Named}
use Rattle.sc_stack.specs.declared.stack.Named.TheVariants as named
use Rattle.sc_stack.specs.Names.{Names, look_up}
use Rattle.sc_elab.specs.declared.heads.Awaited.{Awaited}
use Rattle.sc_elab.specs.declared.heads.Awaited.TheVariants as awaited
use Rattle.sc_elab.specs.declared.heads.Head.{Head}
use Rattle.sc_elab.specs.declared.heads.Head.TheVariants as heads
use Rattle.sc_elab.specs.declared.words.Operator.{Operator}
use Rattle.sc_elab.specs.declared.words.Word.{Word}
use Rattle.sc_elab.specs.declared.words.Word.TheVariants as word
use Rattle.sc_elab.specs.Counts.{count, is_end, is_one}
use Rattle.sc_elab.specs.Sorts.{list_sort}
use Rattle.sc_elab.specs.Words.{symbol_name, word_of, takes_count}

-- ---- the forms of `let`, `!` and `as`, by what stands behind the word
-- `(x t)` with a symbol x
abbrev pub is_binding : Shape → Bool
is_binding (Listed line (More x rest)) = is_some (symbol_name x) && is_one rest
is_binding s = false

abbrev pub are_bindings : Shapes → Bool
are_bindings Empty = true
are_bindings (More s rest) = is_binding s && are_bindings rest

-- `((x t) ..)`, with at least one binding
abbrev pub is_binding_list : Shape → Bool
is_binding_list (Listed line bindings) = not (is_end bindings) && are_bindings bindings
is_binding_list s = false

-- `(let ((x t) ..) body)`
abbrev pub is_let : Shapes → Bool
is_let (More bindings rest) = is_binding_list bindings && is_one rest
is_let Empty = false

-- what may follow a keyword of an annotation: `:named` needs a symbol, another keyword has one value or none
abbrev pub after_keyword : List ℕ → Awaited
after_keyword text = if bytes_eq (codes ":named") text then awaited.Symbol else awaited.Anything

-- what is awaited behind a tree, where the tree may stand
abbrev pub next_awaited : Awaited → Shape → Option Awaited
next_awaited awaited.Symbol s = if is_some (symbol_name s) then Some awaited.Keyword else None
next_awaited a (Single kind.Keyword text start line) = Some (after_keyword text)
next_awaited awaited.Anything s = Some awaited.Keyword
next_awaited awaited.Keyword s = None

abbrev pub may_end : Awaited → Bool
may_end awaited.Symbol = false
may_end a = true

-- the trees go on from what is awaited to an end
abbrev pub goes_on : Option Awaited → Shapes → Bool
goes_on None rest = false
goes_on (Some a) Empty = may_end a
goes_on (Some a) (More s rest) = goes_on (next_awaited a s) rest

-- keywords, each with its value, if any
abbrev pub are_attributes : Shapes → Bool
are_attributes rest = goes_on (Some awaited.Keyword) rest

-- `(! t :keyword value ..)`, with at least one attribute
abbrev pub is_annotation : Shapes → Bool
is_annotation (More t rest) = not (is_end rest) && are_attributes rest
is_annotation Empty = false

-- whether a form that is not done is well formed, as a code
abbrev pub not_done : Bool → Code
not_done well_formed = if well_formed then code.E8 else code.E5

-- the empty set of a sort that is read
abbrev pub empty_of : Result Sort Code → Result Head Code
empty_of (Ok sort) = Ok (heads.EmptySet sort)
empty_of (Err fault) = Err fault

-- what stands behind `set.empty`: one list, which is the sort
abbrev pub empty_form : Names → Shapes → Result Head Code
empty_form names (More (Listed line inner) rest) = if is_end rest then empty_of (list_sort names inner) else Err code.E5
empty_form names rest = Err code.E5

-- an operator that is left out is so in any form of `as`
abbrev pub as_named : Names → Option (List ℕ) → Shapes → Result Head Code
as_named names None rest = Err code.E5
as_named names (Some name) rest =
    if is_left_out_operator name then Err code.E8
    else if bytes_eq (codes "set.empty") name then empty_form names rest
    else Err code.E5

abbrev pub as_form : Names → Shapes → Result Head Code
as_form names Empty = Err code.E5
as_form names (More s rest) = as_named names (symbol_name s) rest

-- ---- heads
-- the reserved words that head terms which are left out
abbrev pub left_out_heads : List (List ℕ)
left_out_heads = codes "_" ∷ codes "exists" ∷ codes "forall" ∷ codes "match" ∷ codes "par" ∷ []

-- a list headed by a reserved word, by what stands behind it
abbrev pub reserved_head : Names → List ℕ → Shapes → Result Head Code
reserved_head names text rest =
    if is_among text left_out_heads then Err code.E8
    else if bytes_eq (codes "let") text then Err (not_done (is_let rest))
    else if bytes_eq (codes "!") text then Err (not_done (is_annotation rest))
    else if bytes_eq (codes "as") text then as_form names rest
    else Err code.E5

-- a list headed by a list: only one that `_` heads is left out
abbrev pub list_head : Shapes → Code
list_head (More (Single kind.Word text start line) rest) = not_done (bytes_eq (codes "_") text)
list_head inner = code.E5

-- a name in front of arguments that is no operator: a constant takes none
abbrev pub named_head : Option Named → Code
named_head (Some (named.Constant n sort)) = code.E7
named_head (Some (named.Sort n)) = code.E6
named_head None = code.E6

-- a name in front of so many arguments; `set.empty` stands behind `as` alone
abbrev pub word_head : Names → Word → List ℕ → ℕ → Result Head Code
word_head names (word.Operator o) name n = if takes_count o n then Ok (heads.Operator o) else Err code.E7
word_head names word.True name n = Err code.E7
word_head names word.False name n = Err code.E7
word_head names word.EmptySet name n = Err code.E7
word_head names word.Outside name n = Err code.E8
word_head names word.Free name n = Err (named_head (look_up names name))

-- a token in front of the rest
abbrev pub token_head : Names → Kind → List ℕ → Shapes → Result Head Code
token_head names kind.Word text rest = if is_reserved text then reserved_head names text rest else word_head names (word_of text) text (count rest)
token_head names kind.Quoted text rest = word_head names (word_of (between text)) (between text) (count rest)
token_head names kind.Foreign text rest = Err code.E8
token_head names k text rest = Err code.E5

abbrev pub tree_head : Names → Shape → Shapes → Result Head Code
tree_head names (Single k text start line) rest = token_head names k text rest
tree_head names (Listed line inner) rest = Err (list_head inner)

-- the head of a list, or what is wrong before the arguments: the list's own shape, then the name, then the number of arguments
abbrev pub head_of : Names → Shapes → Result Head Code
head_of names Empty = Err code.E5
head_of names (More head rest) = tree_head names head rest
