use Rattle.std.proofs.Common.{◌≡◌, subst, sym, rules}
use Rattle.sc_stack.specs.Names.{sorts_of}
use Rattle.sc_elab.specs.declared.words.Word.TheVariants as word
use Rattle.sc_elab.specs.Growth.{Gives, IsMeant}
use Rattle.sc_elab.specs.Words.{word_of}
use Rattle.sc_elab.specs.Elab as spec
use Rattle.sc_elab.proofs.elab.name_term.Goals as goal

pub returns-in-True : goal.returns-in-True
returns-in-True c =
    let is : word_of c.args.name.now ≡ word.True = search rules in
    subst (λ w. Gives (sorts_of c.args.stack.now) IsMeant (spec.word_term c.args.stack.now w c.args.name.now c.args.bank.now) c.args.bank.now c.leaf_formula.result c.leaf_formula.new.bank) (sym is) (c.leaf_formula.ensures (sorts_of c.args.stack.now))

pub returns-in-False : goal.returns-in-False
returns-in-False c =
    let is : word_of c.args.name.now ≡ word.False = search rules in
    subst (λ w. Gives (sorts_of c.args.stack.now) IsMeant (spec.word_term c.args.stack.now w c.args.name.now c.args.bank.now) c.args.bank.now c.leaf_formula-in-False.result c.leaf_formula-in-False.new.bank) (sym is) (c.leaf_formula-in-False.ensures (sorts_of c.args.stack.now))
