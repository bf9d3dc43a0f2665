use Rattle.std.proofs.Common.{◌≡◌, Some, rules}
use Rattle.sc_stack.specs.declared.stack.Named.TheVariants as named
use Rattle.sc_stack.specs.Names.{look_up}
use Rattle.sc_stack.proofs.Found.{constants_have_sorts}
use Rattle.sc_elab.proofs.elab.declared_name.Goals as goal

pub constant-requires : goal.constant-requires
constant-requires c =
    let found : look_up c.args.stack.now c.args.name.now ≡ Some (named.Constant c.in-Some-Constant.number c.in-Some-Constant.sort) = search rules in
    constants_have_sorts c.args.stack.now c.args.name.now c.in-Some-Constant.number c.in-Some-Constant.sort found
