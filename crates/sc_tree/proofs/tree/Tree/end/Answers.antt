use Rattle.std.proofs.Common.{◌≡◌, ◌∙◌, sym, inl, Some, None}
use Rattle.sc_tree.proofs.Kept.{ended-note}
use Rattle.sc_tree.proofs.tree.Tree.end.Goals as goal

pub return_leaf-requires-clause-held : goal.return_leaf-requires-clause-held
return_leaf-requires-clause-held c = (c.leaf_of.ensures c.in-Some.leaf).1 c.in-Some.is

pub note_end-requires-clause-none : goal.note_end-requires-clause-none
note_end-requires-clause-none c n h = let e : None ≡ Some n = sym c.in-None.is ∙ (c.leaf_of.ensures n).0 h in cc

pub returns-in-Some-clause-ok : goal.returns-in-Some-clause-ok
returns-in-Some-clause-ok c = (c.in-Some.leaf, record { step = (c.requires.over, inl ((c.leaf_of.ensures c.in-Some.leaf).1 c.in-Some.is)); new_is = c.return_leaf.ensures })

pub returns-in-None-clause-ok : goal.returns-in-None-clause-ok
returns-in-None-clause-ok c = ended-note _ c.note_end.result _ c.args.seat c.args.event c.requires.over (λ n h. (let e : None ≡ Some n = sym c.in-None.is ∙ (c.leaf_of.ensures n).0 h in cc)) c.note_end.ensures.ok

pub returns-in-None-clause-sure : goal.returns-in-None-clause-sure
returns-in-None-clause-sure c = λ n h. absurd (let e : None ≡ Some n = sym c.in-None.is ∙ (c.leaf_of.ensures n).0 h in cc)
