-- Every text is exactly one script: the tokens of an item are those of one tree.
use Rattle.std.proofs.Common.{◌≡◌, ◌==◌, if◌then◌else◌, ℕ, zero, suc, ◌+◌, ◌-◌, Bool, true, false, List, [], ◌∷◌, ◌++◌, take, refl, sym, ap, ◌∙◌, append_assoc, append-nil, subst, arith}
use Rattle.sc_text.specs.declared.token.Kind.{Kind}
use Rattle.sc_text.specs.declared.front.Front.TheVariants.{Nothing, Token as Found}
use Rattle.sc_text.specs.Place.{Place}
use Rattle.sc_text.specs.Fronts.{front, after_gap}
use Rattle.sc_text.specs.Answers.{token_start, token_line}
use Rattle.sc_sexpr.specs.Scans.{Piece, Reading}
use Rattle.sc_sexpr.specs.Shapes.{Shape, Single, Listed, Shapes, Empty, More}
use Rattle.sc_sexpr.specs.Trees.{Mark, Opens, Closes, Word, mark, marks_of, marks_within, behind_token, Tokens, place_of, closes, ends_item, is_none, IsItem}
use Rattle.sc_sexpr.proofs.ReadTree.{item_goes_on}
use Rattle.sc_session.specs.Scripts.{Item, Script, IsTold, AreTold, IsScriptOf}

-- ---- the tokens at the front of a list of tokens are those of one tree at most
tail : {m n : Mark} {xs ys : List Mark} → m ∷ xs ≡ n ∷ ys → xs ≡ ys
tail e = cc

not_closing : (s : Shape) (xs ys : List Mark) → Closes ∷ xs ≡ marks_of s ++ ys → ⊥
not_closing (Single k text start line) xs ys e = cc
not_closing (Listed line rest) xs ys e = cc

within : (rest : Shapes) (xs : List Mark) → (marks_within rest ++ Closes ∷ []) ++ xs ≡ marks_within rest ++ Closes ∷ xs
within rest xs = append_assoc (marks_within rest) (Closes ∷ []) xs

more : (s : Shape) (rest : Shapes) (xs : List Mark) → (marks_of s ++ marks_within rest) ++ Closes ∷ xs ≡ marks_of s ++ (marks_within rest ++ Closes ∷ xs)
more s rest xs = append_assoc (marks_of s) (marks_within rest) (Closes ∷ xs)

opened : {l k : ℕ} {xs ys : List Mark} → Opens l ∷ xs ≡ Opens k ∷ ys → l ≡ k
opened e = cc

mutual
  same_shape : (s t : Shape) (xs ys : List Mark) → marks_of s ++ xs ≡ marks_of t ++ ys → (s ≡ t) × (xs ≡ ys)
  same_shape (Single k text start line) (Single k' text' start' line') xs ys e = (cc, tail e)
  same_shape (Single k text start line) (Listed line' rest') xs ys e = absurd cc
  same_shape (Listed line rest) (Single k' text' start' line') xs ys e = absurd cc
  same_shape (Listed line rest) (Listed line' rest') xs ys e =
      let inner : (rest ≡ rest') × (xs ≡ ys) = same_shapes rest rest' xs ys (sym (within rest xs) ∙ tail e ∙ within rest' ys) in
      (ap (λ l. Listed l rest) (opened e) ∙ ap (Listed line') inner.0, inner.1)

  same_shapes : (s t : Shapes) (xs ys : List Mark) → marks_within s ++ Closes ∷ xs ≡ marks_within t ++ Closes ∷ ys → (s ≡ t) × (xs ≡ ys)
  same_shapes Empty Empty xs ys e = (refl, tail e)
  same_shapes Empty (More t rest') xs ys e = absurd (not_closing t xs (marks_within rest' ++ Closes ∷ ys) (e ∙ more t rest' ys))
  same_shapes (More s rest) Empty xs ys e = absurd (not_closing s ys (marks_within rest ++ Closes ∷ xs) (sym e ∙ more s rest xs))
  same_shapes (More s rest) (More t rest') xs ys e =
      let first : (s ≡ t) × (marks_within rest ++ Closes ∷ xs ≡ marks_within rest' ++ Closes ∷ ys) = same_shape s t _ _ (sym (more s rest xs) ∙ e ∙ more t rest' ys) in
      let others : (rest ≡ rest') × (xs ≡ ys) = same_shapes rest rest' xs ys first.1 in
      (ap (λ x. More x rest) first.0 ∙ ap (More t) others.0, others.1)

not_nothing : (k : Kind) (n : ℕ) (p : Place) → front p.last p.left ≡ Nothing → front p.last p.left ≡ Found k n → ⊥
not_nothing k n p e f = cc

same_tokens : (p : Place) (ms ns : List Mark) → Tokens p ms → Tokens p ns → ms ≡ ns
same_tokens p [] [] a b = refl
same_tokens p [] (n ∷ ns) a (k, i, f, is, rest) = absurd (not_nothing k i p a f)
same_tokens p (m ∷ ms) [] (k, i, f, is, rest) b = absurd (not_nothing k i p b f)
same_tokens p (m ∷ ms) (n ∷ ns) (k, i, f, is, rest) (k', i', f', is', rest') =
    let kind : k ≡ k' = cc in
    let len : i ≡ i' = cc in
    let first : m ≡ n = is ∙ ap (λ x. mark x (take i (after_gap p.left)) (token_start p) (token_line p)) kind ∙ ap (λ x. mark k' (take x (after_gap p.left)) (token_start p) (token_line p)) len ∙ sym is' in
    let others : ms ≡ ns = same_tokens (behind_token p i) ms ns rest (subst (λ x. Tokens (behind_token p x) ns) (sym len) rest') in
    ap (λ x. x ∷ ms) first ∙ ap (λ xs. n ∷ xs) others

pub one_shape : (p : Place) (s t : Shape) → Tokens p (marks_of s) → Tokens p (marks_of t) → s ≡ t
one_shape p s t a b = (same_shape s t [] [] (ap (λ ms. ms ++ []) (same_tokens p (marks_of s) (marks_of t) a b))).0

-- ---- tokens that close all that they open are those of a tree
-- a list that is open, with the trees in it so far
record Open : Type 0 where
  line : ℕ
  trees : List Shape

abbrev marks_of_trees : List Shape → List Mark
marks_of_trees [] = []
marks_of_trees (s ∷ ss) = marks_of s ++ marks_of_trees ss

-- the tokens of open lists, the innermost first
abbrev open_marks : List Open → List Mark
open_marks [] = []
open_marks (o ∷ os) = open_marks os ++ Opens o.line ∷ marks_of_trees o.trees

abbrev listed : List Shape → Shapes
listed [] = Empty
listed (s ∷ ss) = More s (listed ss)

marks_listed : (ss : List Shape) → marks_within (listed ss) ≡ marks_of_trees ss
marks_listed [] = refl
marks_listed (s ∷ ss) = ap (λ ms. marks_of s ++ ms) (marks_listed ss)

marks_more : (ss : List Shape) (s : Shape) → marks_of_trees (ss ++ s ∷ []) ≡ marks_of_trees ss ++ marks_of s
marks_more [] s = append-nil (marks_of s)
marks_more (t ∷ ts) s = ap (λ ms. marks_of t ++ ms) (marks_more ts s) ∙ sym (append_assoc (marks_of t) (marks_of_trees ts) (marks_of s))

abbrev depth : List Open → ℕ
depth [] = zero
depth (o ∷ os) = suc (depth os)

-- some tree has these tokens
abbrev IsSome : List Mark → Type 0
IsSome ms = (s : Shape) × (marks_of s ≡ ms)

none_is : (ms : List Mark) → is_none ms ≡ true → ms ≡ []
none_is [] e = refl
none_is (m ∷ ms) e = absurd cc

-- the innermost list with one more tree
abbrev with_tree : Open → Shape → Open
with_tree o s = record { line = o.line; trees = o.trees ++ s ∷ [] }

marks_with_tree : (o : Open) (os : List Open) (s : Shape) → open_marks (with_tree o s ∷ os) ≡ open_marks (o ∷ os) ++ marks_of s
marks_with_tree o os s =
    ap (λ ms. open_marks os ++ Opens o.line ∷ ms) (marks_more o.trees s) ∙ sym (append_assoc (open_marks os) (Opens o.line ∷ marks_of_trees o.trees) (marks_of s))

marks_closed : (o : Open) (os : List Open) → open_marks os ++ marks_of (Listed o.line (listed o.trees)) ≡ open_marks (o ∷ os) ++ Closes ∷ []
marks_closed o os =
    let inner : open_marks os ++ (Opens o.line ∷ (marks_within (listed o.trees) ++ Closes ∷ [])) ≡ open_marks os ++ (Opens o.line ∷ (marks_of_trees o.trees ++ Closes ∷ [])) = ap (λ ms. open_marks os ++ (Opens o.line ∷ (ms ++ Closes ∷ []))) (marks_listed o.trees) in
    let outer : open_marks os ++ (Opens o.line ∷ (marks_of_trees o.trees ++ Closes ∷ [])) ≡ (open_marks os ++ Opens o.line ∷ marks_of_trees o.trees) ++ Closes ∷ [] = sym (append_assoc (open_marks os) (Opens o.line ∷ marks_of_trees o.trees) (Closes ∷ [])) in
    inner ∙ outer

put : (os : List Open) (s : Shape) (ms : List Mark) → ends_item (depth os) (is_none ms) (closes (depth os) ms) ≡ true → ((os' : List Open) → closes (depth os') ms ≡ true → IsSome (open_marks os' ++ ms)) → IsSome ((open_marks os ++ marks_of s) ++ ms)
put [] s ms e go = (s, sym (append-nil (marks_of s)) ∙ ap (λ xs. marks_of s ++ xs) (sym (none_is ms e)))
put (o ∷ os) s ms e go =
    let found = go (with_tree o s ∷ os) (sym (item_goes_on (suc (depth os)) (is_none ms) (closes (suc (depth os)) ms) (omega arith)) ∙ e) in
    (found.0, found.1 ∙ ap (λ xs. xs ++ ms) (marks_with_tree o os s))

suc_not_zero : (d : ℕ) → (suc d == 0) ≡ false
suc_not_zero d = grind arith

one_less : (d : ℕ) → suc d - 1 ≡ d
one_less d = omega arith

skip : (c x y : Bool) → c ≡ false → (if c then x else y) ≡ y
skip true x y e = absurd cc
skip false x y e = refl

closes_one : (d : ℕ) (ms : List Mark) → closes (suc d) (Closes ∷ ms) ≡ ends_item d (is_none ms) (closes d ms)
closes_one d ms =
    skip (suc d == 0) false (ends_item (suc d - 1) (is_none ms) (closes (suc d - 1) ms)) (suc_not_zero d) ∙ ap (λ k. ends_item k (is_none ms) (closes k ms)) (one_less d)

closing : (ms : List Mark) (os : List Open) → closes (depth os) ms ≡ true → IsSome (open_marks os ++ ms)
closing [] os e = absurd cc
closing (Opens line ∷ ms) os e =
    let found = closing ms (record { line = line; trees = [] } ∷ os) (subst (λ d. closes d ms ≡ true) (plus_one (depth os)) e) in
    (found.0, found.1 ∙ append_assoc (open_marks os) (Opens line ∷ []) ms)
  where
    plus_one : (d : ℕ) → d + 1 ≡ suc d
    plus_one d = omega arith
closing (Closes ∷ ms) [] e = absurd cc
closing (Closes ∷ ms) (o ∷ os) e =
    let found = put os (Listed o.line (listed o.trees)) ms (sym (closes_one (depth os) ms) ∙ e) (closing ms) in
    (found.0, found.1 ∙ ap (λ xs. xs ++ ms) (marks_closed o os) ∙ append_assoc (open_marks (o ∷ os)) (Closes ∷ []) ms)
closing (Word k text start line ∷ ms) os e =
    let found = put os (Single k text start line) ms e (closing ms) in
    (found.0, found.1 ∙ append_assoc (open_marks os) (Word k text start line ∷ []) ms)

pub some_shape : (text : List ℕ) (line : ℕ) → IsItem text line → (s : Shape) × Tokens (place_of text line) (marks_of s)
some_shape text line (ms, tokens, e) =
    let found = closing ms [] e in
    (found.0, subst (Tokens (place_of text line)) (sym found.1) tokens)

-- ---- whole scripts
abbrev pub AreItems : List Piece → Type 0
AreItems [] = Unit {0}
AreItems (p ∷ ps) = IsItem p.text p.line × AreItems ps

some_items : (ps : List Piece) → AreItems ps → (is : List Item) × AreTold ps is
some_items [] h = ([], tt)
some_items (p ∷ ps) h =
    let first = some_shape p.text p.line h.0 in
    let others = some_items ps h.1 in
    (record { shape = first.0; line = p.line } ∷ others.0, (record { tokens = first.1; line = refl }, others.1))

same_item : (p : Piece) (i j : Item) → IsTold p i → IsTold p j → i ≡ j
same_item p i j a b =
    let shapes : i.shape ≡ j.shape = one_shape (place_of p.text p.line) i.shape j.shape a.tokens b.tokens in
    let lines : i.line ≡ j.line = a.line ∙ sym b.line in
    ap (λ s. record { shape = s; line = i.line }) shapes ∙ ap (λ l. record { shape = j.shape; line = l }) lines

same_items : (ps : List Piece) (is js : List Item) → AreTold ps is → AreTold ps js → is ≡ js
same_items [] [] [] a b = refl
same_items [] [] (j ∷ js) a b = absurd b
same_items [] (i ∷ is) js a b = absurd a
same_items (p ∷ ps) [] js a b = absurd a
same_items (p ∷ ps) (i ∷ is) [] a b = absurd b
same_items (p ∷ ps) (i ∷ is) (j ∷ js) a b = ap (λ x. x ∷ is) (same_item p i j a.0 b.0) ∙ ap (λ xs. j ∷ xs) (same_items ps is js a.1 b.1)

pub one_script : (r : Reading) (s t : Script) → IsScriptOf r s → IsScriptOf r t → s ≡ t
one_script r s t a b =
    let items : s.items ≡ t.items = same_items r.tops s.items t.items a.items b.items in
    let lasts : s.last ≡ t.last = a.last ∙ sym b.last in
    ap (λ is. record { items = is; last = s.last }) items ∙ ap (λ l. record { items = t.items; last = l }) lasts

pub some_script : (r : Reading) → AreItems r.tops → (s : Script) × IsScriptOf r s
some_script r h =
    let found = some_items r.tops h in
    (record { items = found.0; last = r.last }, record { items = found.1; last = refl })
