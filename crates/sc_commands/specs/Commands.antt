-- Commands as plain values, without the addresses of their texts and trees.
use Rattle.std.specs.Prelude.{ℕ, List}
use Rattle.sc_sexpr.specs.declared.tree.Tree.TheVariants as tree
use Rattle.sc_sexpr.specs.Shapes.{Shape, shape}
use Rattle.sc_commands.specs.declared.command.Command.{Command}
use Rattle.sc_commands.specs.declared.command.Command.TheVariants as command

pub data CommandShape : Type 0 where
  SetLogic : CommandShape
  SetInfo : CommandShape
  -- a name and the digits of an arity
  DeclareSort : List ℕ → List ℕ → CommandShape
  -- a name and a sort
  DeclareConst : List ℕ → Shape → CommandShape
  -- a name, the list of the arguments' sorts, and the values' sort
  DeclareFun : List ℕ → Shape → Shape → CommandShape
  Assert : Shape → CommandShape
  CheckSat : CommandShape
  GetProof : CommandShape
  Echo : List ℕ → CommandShape
  Exit : CommandShape

-- what a command is
abbrev pub seen : Command → CommandShape
seen command.SetLogic = SetLogic
seen command.SetInfo = SetInfo
seen (command.DeclareSort name arity) = DeclareSort name.now arity.now
seen (command.DeclareConst name sort) = DeclareConst name.now (shape sort)
seen (command.DeclareFun name arguments range) = DeclareFun name.now (shape (tree.List arguments)) (shape range)
seen (command.Assert term) = Assert (shape term)
seen command.CheckSat = CheckSat
seen command.GetProof = GetProof
seen (command.Echo literal) = Echo literal.now
seen command.Exit = Exit
