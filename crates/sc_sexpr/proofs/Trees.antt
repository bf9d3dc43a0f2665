-- Trees and their tokens.
use Rattle.std.proofs.Common.{◌≡◌, ℕ, List, [], ◌∷◌, ◌++◌, length, map, Option, Some, None, Result, Ok, Err, refl, sym, ap, ◌∙◌, arith, rules, append_assoc, length-append, append-nil, subst}
use Rattle.std.specs.Prelude.{IfOk}
use Rattle.std.proofs.lemmas.List.{nil_from_length}
use Rattle.sc_text.specs.declared.token.Kind.{Kind}
use Rattle.sc_text.specs.declared.token.Kind.TheVariants as kind
use Rattle.sc_text.specs.declared.token.Token.{Token}
use Rattle.sc_sexpr.specs.declared.tree.Tree.{Tree, Leaf, List as Nested, the_lemmas}
use Rattle.sc_sexpr.specs.declared.tree.Items.{Items}
use Rattle.sc_sexpr.specs.Shapes.{Single, Listed, shapes_of, shape}
use Rattle.sc_sexpr.specs.Trees.{Mark, Opens, Closes, Word, mark, mark_of, joined, marks_of, marks_within, marks, marks_of_all, open_marks, all_open_marks, Puts, Takes}

shape-Leaf : (t : Token) → shape (Leaf t) ≡ Single t.kind t.text.now t.start t.line
shape-Leaf t = search (rules, the_lemmas)

shape-List : (items : Items) → shape (Nested items) ≡ Listed items.line (shapes_of (map shape items.trees.items))
shape-List items = search (rules, the_lemmas)

within_all : (ts : List Tree) → marks_within (shapes_of (map shape ts)) ≡ marks_of_all ts
within_all [] = refl
within_all (t ∷ ts) = ap (λ ms. marks t ++ ms) (within_all ts)

marks-Leaf : (t : Token) → marks (Leaf t) ≡ Word t.kind t.text.now t.start t.line ∷ []
marks-Leaf t = ap marks_of (shape-Leaf t)

pub marks-List : (items : Items) → marks (Nested items) ≡ Opens items.line ∷ marks_of_all items.trees.items ++ Closes ∷ []
marks-List items = ap marks_of (shape-List items) ∙ ap (λ ms. Opens items.line ∷ ms ++ Closes ∷ []) (within_all items.trees.items)

joined-push : {X : Type 0} (f : X → List Mark) (xs : List X) (x : X) → joined (map f (xs ++ x ∷ [])) ≡ joined (map f xs) ++ f x
joined-push f [] x = append-nil (f x)
joined-push f (y ∷ ys) x = ap (λ ms. f y ++ ms) (joined-push f ys x) ∙ sym (append_assoc (f y) (joined (map f ys)) (f x))

-- a tree at the end of the innermost list
open-more : (items more : Items) (t : Tree) → more.trees.items ≡ items.trees.items ++ t ∷ [] → more.line ≡ items.line → open_marks more ≡ open_marks items ++ marks t
open-more items more t e line =
    ap (λ ts. Opens more.line ∷ marks_of_all ts) e ∙ ap (λ ms. Opens more.line ∷ ms) (joined-push marks items.trees.items t) ∙ ap (λ l. Opens l ∷ marks_of_all items.trees.items ++ marks t) line

pub puts_more : (old rest new : List Items) (items more : Items) (t : Tree) → old ≡ rest ++ items ∷ [] → new ≡ rest ++ more ∷ [] → more.trees.items ≡ items.trees.items ++ t ∷ [] → more.line ≡ items.line → Puts old (marks t) None new
puts_more old rest new items more t was is e line = (
  ap all_open_marks is ∙ joined-push open_marks rest more ∙ ap (λ ms. all_open_marks rest ++ ms) (open-more items more t e line)
      ∙ sym (append_assoc (all_open_marks rest) (open_marks items) (marks t)) ∙ ap (λ ms. ms ++ marks t) (sym (ap all_open_marks was ∙ joined-push open_marks rest items)),
  omega (arith, ap (length {A = Items}) was, ap (length {A = Items}) is, length-append rest (items ∷ []), length-append rest (more ∷ [])),
  omega (arith, ap (length {A = Items}) was, length-append rest (items ∷ [])),
)

pub if_ok_map : {X E : Type 0} (r : Result X E) (P Q : X → Type 0) → ((x : X) → P x → Q x) → IfOk r P → IfOk r Q
if_ok_map (Ok x) P Q f h = f x h
if_ok_map (Err e) P Q f h = tt

mark-Left : (t : Token) → t.kind ≡ kind.Left → mark_of t ≡ Opens t.line
mark-Left t e = ap (λ k. mark k t.text.now t.start t.line) e

mark-Right : (t : Token) → t.kind ≡ kind.Right → mark_of t ≡ Closes
mark-Right t e = ap (λ k. mark k t.text.now t.start t.line) e

pub mark-other : (k : Kind) (text : List ℕ) (start line : ℕ) → (k ≡ kind.Left → ⊥) → (k ≡ kind.Right → ⊥) → mark k text start line ≡ Word k text start line
mark-other kind.Left text start line l r = absurd (l refl)
mark-other kind.Right text start line l r = absurd (r refl)
mark-other kind.Numeral text start line l r = refl
mark-other kind.Foreign text start line l r = refl
mark-other kind.Literal text start line l r = refl
mark-other kind.Word text start line l r = refl
mark-other kind.Quoted text start line l r = refl
mark-other kind.Keyword text start line l r = refl

-- a list is opened
opens_list : (old new : List Items) (items : Items) (line : ℕ) → new ≡ old ++ items ∷ [] → items.trees.items ≡ [] → items.line ≡ line → Takes old (Opens line) None new
opens_list old new items line e none l = (
  ap all_open_marks e ∙ joined-push open_marks old items ∙ ap (λ ms. all_open_marks old ++ ms) (ap (λ ts. Opens items.line ∷ marks_of_all ts) none ∙ ap (λ x. Opens x ∷ []) l),
  omega (arith, ap (length {A = Items}) e, length-append old (items ∷ [])),
  λ h. absurd (cc),
)

pub takes_opening : (old new : List Items) (items : Items) (t : Token) → t.kind ≡ kind.Left → new ≡ old ++ items ∷ [] → items.trees.items ≡ [] → items.line ≡ t.line → Takes old (mark_of t) None new
takes_opening old new items t k e none l = rw (mark-Left t k) (opens_list old new items t.line e none l)

-- a list is closed
closes_list : (old rest new : List Items) (items : Items) (found : Option Tree) → old ≡ rest ++ items ∷ [] → Puts rest (marks (Nested items)) found new → Takes old Closes found new
closes_list old rest new items None e h =
    let before : all_open_marks old ≡ all_open_marks rest ++ open_marks items = ap all_open_marks e ∙ joined-push open_marks rest items in (
      h.0 ∙ ap (λ ms. all_open_marks rest ++ ms) (marks-List items) ∙ sym (append_assoc (all_open_marks rest) (open_marks items) (Closes ∷ [])) ∙ ap (λ ms. ms ++ Closes ∷ []) (sym before),
      omega (arith, ap (length {A = Items}) e, length-append rest (items ∷ [])),
      λ h'. omega arith,
    )
closes_list old rest new items (Some t) e h =
    let none : rest ≡ [] = nil_from_length rest h.1 in
    let before : all_open_marks old ≡ open_marks items = ap all_open_marks e ∙ joined-push open_marks rest items ∙ ap (λ xs. all_open_marks xs ++ open_marks items) none in
    (h.0 ∙ marks-List items ∙ ap (λ ms. ms ++ Closes ∷ []) (sym before), refl, omega (arith, ap (length {A = Items}) e, length-append rest (items ∷ [])))

pub takes_closing : (old rest new : List Items) (items : Items) (t : Token) (found : Option Tree) → t.kind ≡ kind.Right → old ≡ rest ++ items ∷ [] → Puts rest (marks (Nested items)) found new → Takes old (mark_of t) found new
takes_closing old rest new items t found k e h = rw (mark-Right t k) (closes_list old rest new items found e h)

-- another token
word_takes : (old new : List Items) (k : Kind) (text : List ℕ) (start line : ℕ) (found : Option Tree) → Puts old (Word k text start line ∷ []) found new → Takes old (Word k text start line) found new
word_takes old new k text start line None h = (h.0, h.1, λ e. omega arith)
word_takes old new k text start line (Some t) h = (h.0 ∙ ap (λ xs. all_open_marks xs ++ Word k text start line ∷ []) (sym (nil_from_length old h.1)), refl, h.1)

pub takes_word : (old new : List Items) (t : Token) (found : Option Tree) → (t.kind ≡ kind.Left → ⊥) → (t.kind ≡ kind.Right → ⊥) → Puts old (marks (Leaf t)) found new → Takes old (mark_of t) found new
takes_word old new t found l r h =
    let same : mark_of t ≡ Word t.kind t.text.now t.start t.line = mark-other t.kind t.text.now t.start t.line l r in
    let put : Puts old (Word t.kind t.text.now t.start t.line ∷ []) found new = subst (λ ms. Puts old ms found new) (marks-Leaf t) h in
    rw same (word_takes old new t.kind t.text.now t.start t.line found put)
