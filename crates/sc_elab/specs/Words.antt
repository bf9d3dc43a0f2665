-- The words of terms.
--
-- Names are lists of bytes, without the bars of a quoted symbol.
use Rattle.std.specs.Prelude.{ℕ, Bool, ◌||◌, if◌then◌else◌, List, nat_eq, nat_le, codes, Option, Some, None}
use Rattle.std.specs.Str.{bytes_eq}
use Rattle.sc_text.specs.Names.{is_operator, is_left_out_operator}
use Rattle.sc_text.specs.Names as tokens
use Rattle.sc_sexpr.specs.Shapes.{Shape, Single, Listed}
use Rattle.sc_elab.specs.declared.words.Operator.{Operator}
use Rattle.sc_elab.specs.declared.words.Operator.TheVariants as op
use Rattle.sc_elab.specs.declared.words.Word.{Word}
use Rattle.sc_elab.specs.declared.words.Word.TheVariants as word

-- the name that a symbol gives
abbrev pub symbol_name : Shape → Option (List ℕ)
symbol_name (Single k text start line) = tokens.symbol_name k text
symbol_name (Listed line rest) = None

-- the operators that are done
abbrev pub operator_named : List ℕ → Option Operator
operator_named name =
    if bytes_eq (codes "not") name then Some op.Not
    else if bytes_eq (codes "and") name then Some op.And
    else if bytes_eq (codes "or") name then Some op.Or
    else if bytes_eq (codes "=>") name then Some op.Implies
    else if bytes_eq (codes "xor") name then Some op.Xor
    else if bytes_eq (codes "=") name then Some op.Equal
    else if bytes_eq (codes "distinct") name then Some op.Distinct
    else if bytes_eq (codes "ite") name then Some op.Choice
    else if bytes_eq (codes "set.member") name then Some op.Member
    else if bytes_eq (codes "set.subset") name then Some op.Subset
    else if bytes_eq (codes "set.union") name then Some op.Union
    else if bytes_eq (codes "set.inter") name then Some op.Inter
    else if bytes_eq (codes "set.minus") name then Some op.Minus
    else if bytes_eq (codes "set.singleton") name then Some op.Singleton
    else if bytes_eq (codes "set.insert") name then Some op.Insert
    else None

-- an operator that is not done lies outside, whether it is left out for good or not; every other name is free to be declared
abbrev pub other_word : List ℕ → Word
other_word name = if is_operator name || is_left_out_operator name then word.Outside else word.Free

abbrev pub operator_word : Option Operator → List ℕ → Word
operator_word (Some o) name = word.Operator o
operator_word None name = other_word name

-- what a name is by itself
abbrev pub word_of : List ℕ → Word
word_of name =
    if bytes_eq (codes "true") name then word.True
    else if bytes_eq (codes "false") name then word.False
    else if bytes_eq (codes "set.empty") name then word.EmptySet
    else operator_word (operator_named name) name

-- how many arguments an operator takes
abbrev pub takes_count : Operator → ℕ → Bool
takes_count op.Not n = nat_eq n 1
takes_count op.And n = nat_le 1 n
takes_count op.Or n = nat_le 1 n
takes_count op.Implies n = nat_le 2 n
takes_count op.Xor n = nat_le 2 n
takes_count op.Equal n = nat_le 2 n
takes_count op.Distinct n = nat_le 2 n
takes_count op.Choice n = nat_eq n 3
takes_count op.Member n = nat_eq n 2
takes_count op.Subset n = nat_eq n 2
takes_count op.Union n = nat_le 2 n
takes_count op.Inter n = nat_le 2 n
takes_count op.Minus n = nat_eq n 2
takes_count op.Singleton n = nat_eq n 1
takes_count op.Insert n = nat_le 2 n
