-- Trees as expressions.
use Rattle.std.proofs.Common.{◌≡◌, List, [], ◌∷◌, length, map, None, refl, sym, ap, ◌∙◌, arith, rules}
use Rattle.std.specs.Prelude.{◌==◌}
use Rattle.sc_sexpr.specs.declared.tree.Tree.{Tree, List as Nested, the_lemmas}
use Rattle.sc_sexpr.specs.declared.tree.Items.{Items}
use Rattle.sc_sexpr.specs.Shapes.{Shape, Shapes, Listed, Empty, More, shapes_of, shape}
use Rattle.sc_deriv_text.specs.Sexpr.{plain, plains, expr, exprs}
use Rattle.sc_deriv_text.specs.Reading.{word_of, digits_of, is_end}

pub no_word : (s : Shapes) → word_of (plains s) ≡ None
no_word Empty = refl
no_word (More s rest) = refl

pub no_digits : (s : Shapes) → digits_of (plains s) ≡ None
no_digits Empty = refl
no_digits (More s rest) = refl

pub is_end_exprs : (ts : List Tree) → is_end (exprs ts) ≡ (length ts == 0)
is_end_exprs [] = refl
is_end_exprs (t ∷ ts) = grind arith

list_shape : (items : Items) → shape (Nested items) ≡ Listed items.line (shapes_of (map shape items.trees.items))
list_shape items = search (rules, the_lemmas)

-- a list is no word, and no numeral
pub list_no_word : (t : Tree) (items : Items) → t ≡ Nested items → None ≡ word_of (expr t)
list_no_word t items e =
    let is : shape t ≡ Listed items.line (shapes_of (map shape items.trees.items)) = ap shape e ∙ list_shape items in
    sym (ap (λ (s : Shape). word_of (plain s)) is ∙ no_word (shapes_of (map shape items.trees.items)))

pub list_no_digits : (t : Tree) (items : Items) → t ≡ Nested items → None ≡ digits_of (expr t)
list_no_digits t items e =
    let is : shape t ≡ Listed items.line (shapes_of (map shape items.trees.items)) = ap shape e ∙ list_shape items in
    sym (ap (λ (s : Shape). digits_of (plain s)) is ∙ no_digits (shapes_of (map shape items.trees.items)))
