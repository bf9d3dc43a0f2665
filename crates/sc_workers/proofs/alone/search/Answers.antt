use Rattle.std.proofs.Common.{inl, inr, subst}
use Rattle.sc_tree.specs.declared.machine.Event.TheVariants.{Take}
use Rattle.sc_tree.specs.Answering.{Answers}
use Rattle.sc_workers.proofs.Seats.{takes_at, may_take, over_idle, may_be, stays}
use Rattle.sc_workers.proofs.alone.search.Goals as goal

pub step-requires-clause-may : goal.step-requires-clause-may
step-requires-clause-may c = may_take c.args.tree.now c.requires.idle

pub work-requires-clause-busy : goal.work-requires-clause-busy
work-requires-clause-busy c =
    let s = subst (λ r. Answers c.args.tree.now 1 Take r c.step.new.self) c.in-Leaf.is c.in_ok-path.ensures.ok in
    let of = stays c.args.problem.now c.args.budget 1 c.args.tree.now c.step.new.self Take c.in_ok-path.field-0 c.in_ok-path.ensures.ok c.requires.about in
    takes_at c.leaves_are_tried.ensures c.args.tree.now c.step.new.self c.in-Leaf.leaf c.in-Leaf.path c.in-Leaf.steps c.args.problem.now c.in_ok-branch-in-Leaf.branch of.about c.in_ok-branch-in-Leaf.ensures c.requires.idle s.1 s.2 c.step.ensures.legal

pub returns-in-Over-clause-answer : goal.returns-in-Over-clause-answer
returns-in-Over-clause-answer c =
    let s = subst (λ r. Answers c.args.tree.now 1 Take r c.step.new.self) c.in-Over.is c.in_ok-path.ensures.ok in
    over_idle c.args.tree.now c.step.new.self s.0 c.requires.idle s.1

pub unreachable-requires : goal.unreachable-requires
unreachable-requires c = may_be c.args.tree.now c.step.new.self c.in_ok-path.field-0 c.requires.idle c.in_ok-path.ensures.ok (inl c.in-Done.is)

pub unreachable-requires-in-Idle : goal.unreachable-requires-in-Idle
unreachable-requires-in-Idle c = may_be c.args.tree.now c.step.new.self c.in_ok-path.field-0 c.requires.idle c.in_ok-path.ensures.ok (inr c.in-Idle.is)
