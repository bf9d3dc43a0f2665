-- Lists of sorts.
use Rattle.std.proofs.Common.{◌≡◌, List, [], ◌∷◌, map, ◌&&◌, refl, sym, ap, ◌∙◌, rules}
use Rattle.std.specs.List.{list_all}
use Rattle.sc_sexpr.specs.declared.tree.Tree.{Tree, List as Nested, the_lemmas}
use Rattle.sc_sexpr.specs.declared.tree.Items.{Items}
use Rattle.sc_sexpr.specs.Shapes.{Listed, shape, shapes_of}
use Rattle.sc_commands.specs.Forms.{is_sort, are_sorts, is_list_of_sorts}

all_sorts : (trees : List Tree) → list_all (λ t. is_sort (shape t)) trees ≡ are_sorts (shapes_of (map shape trees))
all_sorts [] = refl
all_sorts (t ∷ rest) = ap (λ b. is_sort (shape t) && b) (all_sorts rest)

pub sorts_listed : (items : Items) → list_all (λ t. is_sort (shape t)) items.trees.items ≡ is_list_of_sorts (shape (Nested items))
sorts_listed items =
    let told : shape (Nested items) ≡ Listed items.line (shapes_of (map shape items.trees.items)) = search (rules, the_lemmas) in
    all_sorts items.trees.items ∙ ap is_list_of_sorts (sym told)
