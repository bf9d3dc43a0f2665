use Rattle.std.proofs.Common.{◌≡◌, ℕ, List, ◌∷◌, [], subst, sym}
use Rattle.std.specs.Prelude.{Err}
use Rattle.sc_terms.specs.Bank.{IsFormulaOf}
use Rattle.sc_terms.specs.declared.nodes.Node.{Node}
use Rattle.sc_elab.specs.declared.error.ElabError.TheVariants as errors
use Rattle.sc_elab.specs.Builds as spec
use Rattle.sc_elab.specs.States.{Outcome, bind}
use Rattle.sc_elab.specs.Growth.{Builds, AreFormulas}
use Rattle.sc_elab.proofs.Growing.{stop, go_on, still, no_memory}
use Rattle.sc_elab.proofs.build.choice.Goals as goal

-- what is left after each part
abbrev after_second : ℕ → ℕ → List Node → Outcome ℕ
after_second x y b = spec.conjoined (x ∷ y ∷ []) b

abbrev after_first : ℕ → ℕ → ℕ → List Node → Outcome ℕ
after_first c g x b = bind (spec.disjunction c g b) (after_second x)

abbrev after_negation : ℕ → ℕ → ℕ → ℕ → List Node → Outcome ℕ
after_negation c f g n b = bind (spec.disjunction n f b) (after_first c g)

pub put_or-requires-clause-f : goal.put_or-requires-clause-f
put_or-requires-clause-f c = (c.in-Ok.ensures []).stands

pub put_or-requires-clause-g : goal.put_or-requires-clause-g
put_or-requires-clause-g c = still c.args.f c.in-Ok.ensures c.requires.f

pub put_or-requires-2-clause-f : goal.put_or-requires-2-clause-f
put_or-requires-2-clause-f c = still c.args.c c.in-Ok-put_or.ensures (still c.args.c c.in-Ok.ensures c.requires.c)

pub put_or-requires-2-clause-g : goal.put_or-requires-2-clause-g
put_or-requires-2-clause-g c = still c.args.g c.in-Ok-put_or.ensures (still c.args.g c.in-Ok.ensures c.requires.g)

pub put_formula-requires-in-Ok-pair-clause-stands : goal.put_formula-requires-in-Ok-pair-clause-stands
put_formula-requires-in-Ok-pair-clause-stands c =
    subst (AreFormulas c.put_or-2.new.bank) (sym c.in-Ok-pair.ensures.ok) (still c.in-Ok-put_or.number c.in-Ok-put_or-2.ensures (c.in-Ok-put_or.ensures []).stands, ((c.in-Ok-put_or-2.ensures []).stands, tt))

pub returns-in-Err : goal.returns-in-Err
returns-in-Err c = stop (after_negation c.args.c c.args.f c.args.g) c.in-Err.ensures

pub returns-in-Err-put_or : goal.returns-in-Err-put_or
returns-in-Err-put_or c = go_on (after_negation c.args.c c.args.f c.args.g) c.in-Ok.ensures (stop (after_first c.args.c c.args.g) c.in-Err-put_or.ensures)

pub returns-in-Err-put_or-2 : goal.returns-in-Err-put_or-2
returns-in-Err-put_or-2 c =
    go_on (after_negation c.args.c c.args.f c.args.g) c.in-Ok.ensures (go_on (after_first c.args.c c.args.g) c.in-Ok-put_or.ensures (stop (after_second c.in-Ok-put_or.number) c.in-Err-put_or-2.ensures))

pub returns-in-Ok-pair : goal.returns-in-Ok-pair
returns-in-Ok-pair c =
    let last = subst (λ fs. Builds IsFormulaOf (spec.conjoined fs c.put_or-2.new.bank) c.put_or-2.new.bank c.put_formula-in-Ok-pair.result c.put_formula-in-Ok-pair.new.bank) c.in-Ok-pair.ensures.ok c.put_formula-in-Ok-pair.ensures in
    go_on (after_negation c.args.c c.args.f c.args.g) c.in-Ok.ensures (go_on (after_first c.args.c c.args.g) c.in-Ok-put_or.ensures (go_on (after_second c.in-Ok-put_or.number) c.in-Ok-put_or-2.ensures last))

pub returns-in-Err-pair : goal.returns-in-Err-pair
returns-in-Err-pair c =
    let want : c.in-Err-pair.error ≡ errors.Memory = c.in-Err-pair.ensures.err in
    let last = subst (λ e. Builds IsFormulaOf (spec.conjoined (c.in-Ok-put_or.number ∷ c.in-Ok-put_or-2.number ∷ []) c.put_or-2.new.bank) c.put_or-2.new.bank (Err e) c.put_or-2.new.bank) (sym want) (no_memory IsFormulaOf (spec.conjoined (c.in-Ok-put_or.number ∷ c.in-Ok-put_or-2.number ∷ []) c.put_or-2.new.bank) c.put_or-2.new.bank) in
    go_on (after_negation c.args.c c.args.f c.args.g) c.in-Ok.ensures (go_on (after_first c.args.c c.args.g) c.in-Ok-put_or.ensures (go_on (after_second c.in-Ok-put_or.number) c.in-Ok-put_or-2.ensures last))
