-- The steps that facts and set terms lead to are of the four kinds.
use Rattle.std.proofs.Common.{ℕ, zero, suc, List, [], ◌∷◌, ◌++◌, Option, Some}
use Rattle.sc_terms.specs.declared.nodes.SetTerm.{SetTerm}
use Rattle.sc_terms.specs.declared.nodes.SetTerm.TheVariants as sets
use Rattle.sc_terms.specs.declared.problem.Parts.{Parts}
use Rattle.sc_facts.specs.declared.fact.Fact.{Fact}
use Rattle.sc_facts.specs.declared.fact.Fact.TheVariants as facts
use Rattle.sc_rules.specs.declared.step.PlainStep.TheVariants as steps
use Rattle.sc_classes.specs.Classes.{neighbours_of}
use Rattle.sc_member.specs.Memberships.{Carries}
use Rattle.sc_member.specs.Notes.{noted}
use Rattle.sc_member.specs.Candidates.{Around, AllCarry, operation_steps, operations_steps, carry_steps, move_steps, single_steps, outside_steps, fact_steps, set_steps}
use Rattle.sc_member.proofs.Lists.{all_both, all_mapped, all_flat}

operation_kinds : (e n : ℕ) → AllCarry (operation_steps e n)
operation_kinds e n = (tt, (tt, (tt, tt)))

operations_kinds : (e : ℕ) (ns : List ℕ) → AllCarry (operations_steps e ns)
unfolding operations_steps
operations_kinds e ns = all_flat Carries (operation_steps e) (operation_kinds e) ns

carry_kinds : (e s : ℕ) (fs : List ℕ) → AllCarry (carry_steps e s fs)
unfolding carry_steps
carry_kinds e s fs = all_mapped Carries (λ f. steps.Carry e f s) (λ f. tt) fs

move_kinds : (e s : ℕ) (ts : List ℕ) → AllCarry (move_steps e s ts)
unfolding move_steps
move_kinds e s ts = all_mapped Carries (λ t. steps.Move e s t) (λ t. tt) ts

single_kinds : (e : ℕ) (ss : List ℕ) → AllCarry (single_steps e ss)
unfolding single_steps
single_kinds e ss = all_mapped Carries (λ s. steps.Single e s) (λ s. tt) ss

outside_kinds : (n k : ℕ) → AllCarry (outside_steps n k)
unfolding outside_steps
outside_kinds n zero = tt
outside_kinds n (suc k) = all_both Carries (outside_steps n k) (steps.Op (suc k) n 0 ∷ []) (outside_kinds n k) (tt, tt)

pub fact_kinds : (around : Around) (fact : Fact) → AllCarry (fact_steps around fact)
fact_kinds around (facts.Member e s b) =
    all_both Carries (operation_steps e s ++ operations_steps e (noted around.parents s) ++ carry_steps e s (neighbours_of around.pairs e)) (move_steps e s (noted around.partners s))
    (all_both Carries (operation_steps e s ++ operations_steps e (noted around.parents s)) (carry_steps e s (neighbours_of around.pairs e))
    (all_both Carries (operation_steps e s) (operations_steps e (noted around.parents s)) (operation_kinds e s) (operations_kinds e (noted around.parents s)))
    (carry_kinds e s (neighbours_of around.pairs e)))
    (move_kinds e s (noted around.partners s))
fact_kinds around (facts.Eq e f b) =
    all_both Carries (single_steps e (noted around.singles f)) _ (single_kinds e (noted around.singles f)) (single_kinds f (noted around.singles e))
fact_kinds around _ = tt

pub set_kinds : (problem : Parts) (n : ℕ) (node : Option SetTerm) → AllCarry (set_steps problem n node)
set_kinds problem n (Some (sets.Empty sort)) = outside_kinds n _
set_kinds problem n _ = tt
