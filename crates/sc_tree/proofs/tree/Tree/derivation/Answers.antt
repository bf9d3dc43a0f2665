use Rattle.std.proofs.Common.{◌≡◌, ◌∙◌, reverse, ap, subst}
use Rattle.sc_tree.specs.Machine.{Kept}
use Rattle.sc_tree.specs.Keeping.{IsKept}
use Rattle.sc_tree.specs.Reading.{nodes_from, tree_nodes}
use Rattle.sc_tree.proofs.Deciding.{readable, root_there, refutes}
use Rattle.sc_tree.proofs.tree.Tree.derivation.Goals as goal

pub nodes_of-requires-clause-readable : goal.nodes_of-requires-clause-readable
nodes_of-requires-clause-readable c =
    let k = subst (λ (t : Kept). IsKept t.problem t.budget c.self.inside.places.items (reverse c.self.inside.opened.items) c.self.inside.held c.self.inside.found t.journal) c.self.view_is c.self.invariant.0 in
    rw (c.as_slice.ensures.value, k.places_are) (readable c.args.self.now.problem c.args.self.now.budget c.args.self.now.journal k.legal c.requires.closed)

pub nodes_of-requires-clause-some : goal.nodes_of-requires-clause-some
nodes_of-requires-clause-some c =
    let k = subst (λ (t : Kept). IsKept t.problem t.budget c.self.inside.places.items (reverse c.self.inside.opened.items) c.self.inside.held c.self.inside.found t.journal) c.self.view_is c.self.invariant.0 in
    rw (c.as_slice.ensures.value, k.places_are) (root_there c.args.self.now.problem c.args.self.now.budget c.args.self.now.journal k.legal)

pub returns-clause-just : goal.returns-clause-just
returns-clause-just c =
    let k = subst (λ (t : Kept). IsKept t.problem t.budget c.self.inside.places.items (reverse c.self.inside.opened.items) c.self.inside.held c.self.inside.found t.journal) c.self.view_is c.self.invariant.0 in
    let nodes : c.in_ok-nodes.nodes ≡ tree_nodes c.args.self.now = c.in_ok-nodes.ensures ∙ ap (λ l. nodes_from l 1) (c.as_slice.ensures.value ∙ k.places_are) in
    refutes c.args.self.now c.args.problem.now _ _ c.requires.about k.legal c.requires.closed c.roots-roots.ensures.problem c.lemmas_follow.ensures.interpretations nodes c.new.ensures
