-- Trees with the same tokens are the same.
use Rattle.std.proofs.Common.{◌≡◌, ℕ, List, [], ◌∷◌, ◌++◌, refl, sym, ap, ◌∙◌, append_assoc, take, subst}
use Rattle.sc_text.specs.declared.token.Kind.{Kind}
use Rattle.sc_text.specs.declared.front.Front.TheVariants.{Nothing, Token as Found}
use Rattle.sc_text.specs.Place.{Place}
use Rattle.sc_text.specs.Fronts.{front, after_gap}
use Rattle.sc_text.specs.Answers.{token_start, token_line}
use Rattle.sc_sexpr.specs.declared.tree.Tree.{Tree}
use Rattle.sc_sexpr.specs.Shapes.{Shape, Single, Listed, Shapes, Empty, More, shape}
use Rattle.sc_sexpr.specs.Trees.{Mark, Opens, Closes, mark, marks_of, marks_within, marks, behind_token, Tokens, AreTold}

tail : {m n : Mark} {xs ys : List Mark} → m ∷ xs ≡ n ∷ ys → xs ≡ ys
tail e = cc

not_closing : (s : Shape) (xs ys : List Mark) → Closes ∷ xs ≡ marks_of s ++ ys → ⊥
not_closing (Single k text start line) xs ys e = cc
not_closing (Listed line rest) xs ys e = cc

within : (rest : Shapes) (xs : List Mark) → (marks_within rest ++ Closes ∷ []) ++ xs ≡ marks_within rest ++ Closes ∷ xs
within rest xs = append_assoc (marks_within rest) (Closes ∷ []) xs

more : (s : Shape) (rest : Shapes) (xs : List Mark) → (marks_of s ++ marks_within rest) ++ Closes ∷ xs ≡ marks_of s ++ (marks_within rest ++ Closes ∷ xs)
more s rest xs = append_assoc (marks_of s) (marks_within rest) (Closes ∷ xs)

opened : {l k : ℕ} {xs ys : List Mark} → Opens l ∷ xs ≡ Opens k ∷ ys → l ≡ k
opened e = cc

-- the tokens at the front of a list of tokens are those of one tree
mutual
  same_shape : (s t : Shape) (xs ys : List Mark) → marks_of s ++ xs ≡ marks_of t ++ ys → (s ≡ t) × (xs ≡ ys)
  same_shape (Single k text start line) (Single k' text' start' line') xs ys e = (cc, tail e)
  same_shape (Single k text start line) (Listed line' rest') xs ys e = absurd cc
  same_shape (Listed line rest) (Single k' text' start' line') xs ys e = absurd cc
  same_shape (Listed line rest) (Listed line' rest') xs ys e =
      let inner : (rest ≡ rest') × (xs ≡ ys) = same_shapes rest rest' xs ys (sym (within rest xs) ∙ tail e ∙ within rest' ys) in
      (ap (λ l. Listed l rest) (opened e) ∙ ap (Listed line') inner.0, inner.1)

  same_shapes : (s t : Shapes) (xs ys : List Mark) → marks_within s ++ Closes ∷ xs ≡ marks_within t ++ Closes ∷ ys → (s ≡ t) × (xs ≡ ys)
  same_shapes Empty Empty xs ys e = (refl, tail e)
  same_shapes Empty (More t rest') xs ys e = absurd (not_closing t xs (marks_within rest' ++ Closes ∷ ys) (e ∙ more t rest' ys))
  same_shapes (More s rest) Empty xs ys e = absurd (not_closing s ys (marks_within rest ++ Closes ∷ xs) (sym e ∙ more s rest xs))
  same_shapes (More s rest) (More t rest') xs ys e =
      let first : (s ≡ t) × (marks_within rest ++ Closes ∷ xs ≡ marks_within rest' ++ Closes ∷ ys) = same_shape s t _ _ (sym (more s rest xs) ∙ e ∙ more t rest' ys) in
      let others : (rest ≡ rest') × (xs ≡ ys) = same_shapes rest rest' xs ys first.1 in
      (ap (λ x. More x rest) first.0 ∙ ap (More t) others.0, others.1)

same_trees : (s t : Tree) → marks s ≡ marks t → shape s ≡ shape t
same_trees s t e = (same_shape (shape s) (shape t) [] [] (ap (λ ms. ms ++ []) e)).0

not_nothing : (k : Kind) (n : ℕ) (p : Place) → front p.last p.left ≡ Nothing → front p.last p.left ≡ Found k n → ⊥
not_nothing k n p e f = cc

same_tokens : (p : Place) (ms ns : List Mark) → Tokens p ms → Tokens p ns → ms ≡ ns
same_tokens p [] [] a b = refl
same_tokens p [] (n ∷ ns) a (k, i, f, is, rest) = absurd (not_nothing k i p a f)
same_tokens p (m ∷ ms) [] (k, i, f, is, rest) b = absurd (not_nothing k i p b f)
same_tokens p (m ∷ ms) (n ∷ ns) (k, i, f, is, rest) (k', i', f', is', rest') =
    let kind : k ≡ k' = cc in
    let len : i ≡ i' = cc in
    let first : m ≡ n = is ∙ ap (λ x. mark x (take i (after_gap p.left)) (token_start p) (token_line p)) kind ∙ ap (λ x. mark k' (take x (after_gap p.left)) (token_start p) (token_line p)) len ∙ sym is' in
    let others : ms ≡ ns = same_tokens (behind_token p i) ms ns rest (subst (λ x. Tokens (behind_token p x) ns) (sym len) rest') in
    ap (λ x. x ∷ ms) first ∙ ap (λ xs. n ∷ xs) others

pub told : AreTold
told = record { trees = same_trees; texts = λ p s t a b. same_trees s t (same_tokens p (marks s) (marks t) a b) }
