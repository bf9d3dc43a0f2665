-- What each byte of an input does.
use Rattle.std.specs.Prelude.{◌≡◌, ◌≤◌, ℕ, ◌+◌, ◌-◌, Bool, true, false, ◌&&◌, ◌==◌, nat_le, not, if◌then◌else◌, Option, Some, None}
use Rattle.sc_text.specs.declared.token.Kind.{Kind}
use Rattle.sc_text.specs.declared.token.Kind.TheVariants as kind
use Rattle.sc_text.specs.declared.mode.Mode.{Mode}
use Rattle.sc_text.specs.declared.mode.Mode.TheVariants as mode
use Rattle.sc_text.specs.declared.mode.Step.{Step}
use Rattle.sc_text.specs.declared.mode.Step.TheVariants as step
use Rattle.sc_text.specs.Bytes.{is_white, is_break}
use Rattle.sc_text.specs.Modes.{is_start, is_unclosed, step_of, whole}
use Rattle.sc_sexpr.specs.declared.item.Fault.TheVariants.{Lexical, Unmatched, Unclosed, Limit}
use Rattle.sc_sexpr.specs.declared.state.State.{State}
use Rattle.sc_sexpr.specs.declared.state.Move.{Move}
use Rattle.sc_sexpr.specs.declared.state.Move.TheVariants as move
use Rattle.sc_sexpr.specs.declared.state.Ending.{Ending}
use Rattle.sc_sexpr.specs.declared.state.Ending.TheVariants as ending

-- the line of the byte behind this one
abbrev pub line_after : State → ℕ → ℕ
line_after s b = if b == 10 then s.line + 1 else s.line

-- the line of the first token of the item that has a token here
abbrev pub line_of_item : State → ℕ
line_of_item s = if s.depth == 0 then s.line else s.item_line

-- no item is at hand
abbrev pub is_idle : State → Bool
is_idle s = s.depth == 0 && is_start s.mode

-- the line of the item at hand, or else of the next byte
abbrev pub here : State → ℕ
here s = if is_idle s then s.line else s.item_line

-- a token ends
abbrev pub closed : State → State
closed s = record s { mode = mode.Start }

abbrev pub begun : State → ℕ → Mode → State
begun s b m = record s { mode = m; token_line = s.line; item_line = line_of_item s; line = line_after s b }

-- a parenthesis: at most 1000 are open at a time
abbrev pub parenthesis : State → Kind → Move
parenthesis s kind.Left =
    if nat_le 1000 s.depth then move.Fail (Limit s.line 1000)
    else move.Go (record s { depth = s.depth + 1; item_line = line_of_item s })
parenthesis s kind.Right =
    if s.depth == 0 then move.Fail (Unmatched s.line)
    else if s.depth == 1 then move.Done (record s { depth = 0 })
    else move.Go (record s { depth = s.depth - 1 })
parenthesis s k = move.Fail (Lexical s.line)

abbrev pub begins : State → ℕ → Step → Move
begins s b (step.Go m) = move.Go (begun s b m)
begins s b (step.Close k) = parenthesis s k
begins s b (step.Stop k) = move.Fail (Lexical s.line)
begins s b step.Fault = move.Fail (Lexical s.line)

-- what a byte does between tokens
unfoldable pub fresh : State → ℕ → Move
fresh s b =
    if is_white b then move.Go (record s { line = line_after s b })
    else if b == 59 then move.Go (record s { comment = true })
    else begins s b (step_of mode.Start b)

abbrev pub continues : State → ℕ → Step → Move
continues s b (step.Go m) = move.Go (record s { mode = m; line = line_after s b })
continues s b (step.Close k) = if s.depth == 0 then move.Done (closed s) else move.Go (closed s)
continues s b (step.Stop k) = if s.depth == 0 then move.Before else fresh (closed s) b
continues s b step.Fault = move.Fail (Lexical s.token_line)

-- What a byte does: the item at hand goes on, it ends with the byte, it ends before the byte, or it's a fault.
unfoldable pub move_of : State → ℕ → Move
move_of s b =
    if s.comment then move.Go (record s { comment = not (is_break b); line = line_after s b })
    else if is_start s.mode then fresh s b
    else continues s b (step_of s.mode b)

abbrev pub ends_token : State → Option Kind → Ending
ends_token s None = if is_start s.mode then ending.Bad (Unclosed s.item_line) else if is_unclosed s.mode then ending.Bad (Unclosed s.item_line) else ending.Bad (Lexical s.token_line)
ends_token s (Some k) = if s.depth == 0 then ending.Whole else ending.Bad (Unclosed s.item_line)

-- what the end of the input does
abbrev pub ending_of : State → Ending
ending_of s = if is_idle s then ending.Nothing else ends_token s (whole s.mode)

-- an item begins before the next byte
abbrev pub IsAhead : State → Type 0
IsAhead s = s.item_line ≤ s.line

-- A line is passed at most, and an item at hand stays at hand until it ends.
abbrev pub Keeps : State → Move → Type 0
Keeps s (move.Go s') = (s'.line ≤ s.line + 1) × (is_idle s ≡ false → is_idle s' ≡ false) × (IsAhead s → IsAhead s')
Keeps s (move.Done s') = (s'.line ≤ s.line + 1) × (s.line ≤ s'.line) × (IsAhead s → IsAhead s')
Keeps s m = Unit {0}
