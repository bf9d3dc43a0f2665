-- The shapes of lists of trees.
use Rattle.std.proofs.Common.{◌≡◌, ◌≤◌, suc, length, false, arith, List, [], ◌∷◌, map, ◌&&◌, refl, ap, rules}
use Rattle.std.specs.List.{list_all}
use Rattle.sc_sexpr.specs.declared.tree.Tree.{Tree, List as Nested, the_lemmas}
use Rattle.sc_sexpr.specs.declared.tree.Items.{Items}
use Rattle.sc_sexpr.specs.Shapes.{Listed, shape, shapes_of}
use Rattle.sc_elab.specs.Counts.{count, is_end}
use Rattle.sc_elab.specs.Heads.{is_binding, are_bindings}

pub listed : (items : Items) → shape (Nested items) ≡ Listed items.line (shapes_of (map shape items.trees.items))
listed items = search (rules, the_lemmas)

pub all_bindings : (trees : List Tree) → list_all (λ t. is_binding (shape t)) trees ≡ are_bindings (shapes_of (map shape trees))
all_bindings [] = refl
all_bindings (t ∷ rest) = ap (λ b. is_binding (shape t) && b) (all_bindings rest)

pub counted : (trees : List Tree) → count (shapes_of (map shape trees)) ≡ length trees
counted [] = refl
counted (t ∷ rest) = ap suc (counted rest)

pub not_end : (trees : List Tree) → 1 ≤ length trees → false ≡ is_end (shapes_of (map shape trees))
not_end [] h = absurd (omega (h, arith))
not_end (t ∷ rest) h = refl
