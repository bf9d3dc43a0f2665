-- What is read is spelt so.
use Rattle.std.proofs.Common.{◌≡◌, ℕ, zero, suc, ◌+◌, ◌<◌, ◌^◌, Bool, true, false, List, [], ◌∷◌, length, map, Option, Some, None, Result, Ok, Err, refl, sym, ap, ◌∙◌, arith, subst, nat_lt, cond}
use Rattle.std.specs.Prelude.{codes, nat_le, ◌||◌, ◌==◌}
use Rattle.std.specs.Str.{bytes_eq}
use Rattle.std.specs.List.{AllByRecursion, list_all, list_any}
use Rattle.std.proofs.lemmas.Slice.Eq.{bytes_eq-Decides}
use Rattle.std.proofs.lemmas.Bool.{ltb-true, eqb-true, and_parts, and_from}
use Rattle.sc_text.specs.Readings.{Numeral, Word}
use Rattle.sc_terms.specs.declared.atoms.Sign.{Sign}
use Rattle.sc_terms.specs.declared.atoms.Cube.{Cube}
use Rattle.sc_facts.specs.declared.name.FactName.{FactName}
use Rattle.sc_facts.specs.declared.name.FactName.TheVariants as names
use Rattle.sc_rules.specs.declared.step.PlainStep.TheVariants as plain
use Rattle.sc_deriv.specs.declared.derivation.Closing.TheVariants as closings
use Rattle.sc_deriv.specs.declared.derivation.Node.{Node}
use Rattle.sc_deriv.specs.declared.derivation.Node.TheVariants as nodes
use Rattle.sc_deriv.specs.declared.derivation.Derivation.{Derivation}
use Rattle.sc_deriv.specs.declared.derivation.Reason.{Reason}
use Rattle.sc_deriv.specs.declared.derivation.Reason.TheVariants.{P1, P3, P4}
use Rattle.sc_deriv.specs.Spelling.{branch_count, has_plus, is_name, is_node, are_nodes, IsSpelt}
use Rattle.sc_deriv.proofs.Spellings.{closes_tells}
use Rattle.sc_deriv_text.specs.declared.head.OneHead.{OneHead}
use Rattle.sc_deriv_text.specs.declared.head.OneHead.TheVariants as Ones
use Rattle.sc_deriv_text.specs.declared.head.TwoHead.{TwoHead}
use Rattle.sc_deriv_text.specs.declared.head.TwoHead.TheVariants as Twos
use Rattle.sc_deriv_text.specs.declared.head.ThreeHead.{ThreeHead}
use Rattle.sc_deriv_text.specs.declared.head.ThreeHead.TheVariants as Threes
use Rattle.sc_deriv_text.specs.declared.head.Head.{Head}
use Rattle.sc_deriv_text.specs.declared.head.Head.TheVariants as heads
use Rattle.sc_deriv_text.specs.declared.head.NameHead.{NameHead}
use Rattle.sc_deriv_text.specs.declared.head.NameHead.TheVariants as kinds
use Rattle.sc_deriv_text.specs.Words.{first_word, name_of, head_of, name_word, head_word, all_names, all_heads}
use Rattle.sc_deriv_text.specs.Sexpr.{Sexpr, Atom, Nil, Cons, list_of}
use Rattle.sc_deriv_text.specs.Spelling.{form, numeral_expr, sign_byte, cube_bytes, cube_expr, name_expr, Part, part_expr, step_part, node_part, node_expr, node_exprs, tree_expr, derivation_expr, NameFits, PartFits, NodeFits, Fits}
use Rattle.sc_deriv_text.specs.Reading.{◌>>=◌, ◌>>=?◌, word_of, next, done, is_end, one, two, three, pair, ordered, cube, cube_of, last_word, number, numeral, below, cube_word, cube_in, is_cube_word, is_sign_byte, sign_at, name_head, name_with, name, node_head, node_with, node, step, make_one, make_two, make_three, tree_nodes, whole, closed, nodes_in, derivation_in, with_nodes, is_that, is_word, tail_of, refused, Refusal, refusal}
use Rattle.sc_deriv_text.proofs.NumbersOnly.{numeral_takes}
use Rattle.sc_deriv_text.proofs.Again.{IsWhole, closes_if}

-- the value of a step that did not fail
pub bind_ok : {A B E : Type 0} (r : Result A E) (f : A → Result B E) (y : B) → (r >>= f) ≡ Ok y → (x : A) × (r ≡ Ok x) × (f x ≡ Ok y)
bind_ok (Ok x) f y e = (x, refl, e)
bind_ok (Err d) f y e = absurd cc

abbrev fine : {A : Type 0} → A → Result A Reason
fine x = Ok x

ok_is : {A : Type 0} (x y : A) → fine x ≡ fine y → x ≡ y
ok_is x y e = cc

bytes_same : (xs ys : List ℕ) → bytes_eq xs ys ≡ true → xs ≡ ys
bytes_same xs ys e = (bytes_eq-Decides xs ys).0 e

end_is : (t : Sexpr) → is_end t ≡ true → t ≡ Nil
end_is Nil e = refl
end_is t e = absurd cc

word_is : (t : Sexpr) (w : List ℕ) → word_of t ≡ Some w → t ≡ Atom (Word w)
word_is (Atom (Word v)) w e = let same : v ≡ w = cc in ap (λ (x : List ℕ). Atom (Word x)) same
word_is t w e = absurd cc

done_if : {X : Type 0} (b : Bool) (r : Reason) (x y : X) → cond b (fine x) (Err r) ≡ Ok y → (b ≡ true) × (x ≡ y)
done_if true r x y e = (refl, cc)
done_if false r x y e = absurd cc

-- the first part of a list was read so
record Next {X : Type 0} (part : Sexpr → Result X Reason) (ts : Sexpr) (p : X × Sexpr) : Type 0 where
  first : Sexpr
  is : ts ≡ Cons first p.1
  read : part first ≡ Ok p.0

next_takes : {X : Type 0} (part : Sexpr → Result X Reason) (ts : Sexpr) (p : X × Sexpr) → next part ts ≡ Ok p → Next part ts p
next_takes part (Cons t ts) p e =
    let b = bind_ok (part t) (λ x. fine (x, ts)) p e in
    let same : (b.0, ts) ≡ p = ok_is (b.0, ts) p b.2 in
    subst (λ q. Next part (Cons t ts) q) same (record { first = t; is = refl; read = b.1 })
next_takes part t p e = absurd cc

pick_word : {H : Type 0} (word : H → List ℕ) (g h : H) (others : Option H) (w : List ℕ) (b : Bool) → (b ≡ true → word g ≡ w) → (others ≡ Some h → w ≡ word h) → cond b (Some g) others ≡ Some h → w ≡ word h
pick_word word g h others w true s more e = let same : g ≡ h = cc in sym (s refl) ∙ ap word same
pick_word word g h others w false s more e = more e

pub word_takes : {H : Type 0} (word : H → List ℕ) (hs : List H) (w : List ℕ) (h : H) → first_word word hs w ≡ Some h → w ≡ word h
word_takes word [] w h e = absurd cc
word_takes word (g ∷ gs) w h e = pick_word word g h (first_word word gs w) w (bytes_eq (word g) w) (bytes_same (word g) w) (word_takes word gs w h) e

below_takes : (n : ℕ) (o : Option ℕ) → below (2 ^ 32) o ≡ Ok n → (o ≡ Some n) × (n < 2 ^ 32)
below_takes n None e = absurd cc
below_takes n (Some m) e =
    let d = done_if (nat_lt m (2 ^ 32)) P4 m n e in
    (ap (λ k. Some k) d.1, subst (λ k. k < 2 ^ 32) d.1 (ltb-true m (2 ^ 32) d.0))

number_takes : (t : Sexpr) (n : ℕ) → number t ≡ Ok n → (t ≡ numeral_expr n) × (n < 2 ^ 32)
number_takes (Atom (Numeral ds)) n e =
    let b = below_takes n (numeral ds) e in
    (ap (λ (w : List ℕ). Atom (Numeral w)) (numeral_takes ds n b.0 (omega (arith, b.1))), b.1)
number_takes t n e = absurd cc

one_takes : {X : Type 0} (part : Sexpr → Result X Reason) (ts : Sexpr) (x : X) → one part ts ≡ Ok x → (t : Sexpr) × (ts ≡ Cons t Nil) × (part t ≡ Ok x)
one_takes part ts x e =
    let b = bind_ok (next part ts) (λ a. done a.0 a.1) x e in
    let n = next_takes part ts b.0 b.1 in
    let d = done_if (is_end b.0.1) P3 b.0.0 x b.2 in
    (n.first, n.is ∙ ap (λ (r : Sexpr). Cons n.first r) (end_is b.0.1 d.0), n.read ∙ ap (λ y. fine y) d.1)

two_takes : (ts : Sexpr) (p : ℕ × ℕ) → two ts ≡ Ok p → (ts ≡ list_of (numeral_expr p.0 ∷ numeral_expr p.1 ∷ [])) × (p.0 < 2 ^ 32) × (p.1 < 2 ^ 32)
two_takes ts p e =
    let b = bind_ok (next number ts) (λ a. next number a.1 >>= λ b. done (a.0, b.0) b.1) p e in
    let n = next_takes number ts b.0 b.1 in
    let c = bind_ok (next number b.0.1) (λ c. done (b.0.0, c.0) c.1) p b.2 in
    let m = next_takes number b.0.1 c.0 c.1 in
    let d = done_if (is_end c.0.1) P3 (b.0.0, c.0.0) p c.2 in
    let x = number_takes n.first b.0.0 n.read in
    let y = number_takes m.first c.0.0 m.read in
    let text : ts ≡ list_of (numeral_expr b.0.0 ∷ numeral_expr c.0.0 ∷ []) = n.is ∙ ap (λ (r : Sexpr). Cons n.first r) (m.is ∙ ap (λ (r : Sexpr). Cons m.first r) (end_is c.0.1 d.0)) ∙ ap (λ (r : Sexpr). Cons r (Cons m.first Nil)) x.0 ∙ ap (λ (r : Sexpr). Cons (numeral_expr b.0.0) (Cons r Nil)) y.0 in
    subst (λ (q : ℕ × ℕ). (ts ≡ list_of (numeral_expr q.0 ∷ numeral_expr q.1 ∷ [])) × (q.0 < 2 ^ 32) × (q.1 < 2 ^ 32)) d.1 (text, x.1, y.1)

three_takes : (ts : Sexpr) (p : ℕ × ℕ × ℕ) → three ts ≡ Ok p → (ts ≡ list_of (numeral_expr p.0 ∷ numeral_expr p.1 ∷ numeral_expr p.2 ∷ [])) × (p.0 < 2 ^ 32) × (p.1 < 2 ^ 32) × (p.2 < 2 ^ 32)
three_takes ts p e =
    let b = bind_ok (next number ts) (λ a. next number a.1 >>= λ b. next number b.1 >>= λ c. done (a.0, b.0, c.0) c.1) p e in
    let n = next_takes number ts b.0 b.1 in
    let c = bind_ok (next number b.0.1) (λ c. next number c.1 >>= λ d. done (b.0.0, c.0, d.0) d.1) p b.2 in
    let m = next_takes number b.0.1 c.0 c.1 in
    let f = bind_ok (next number c.0.1) (λ d. done (b.0.0, c.0.0, d.0) d.1) p c.2 in
    let k = next_takes number c.0.1 f.0 f.1 in
    let d = done_if (is_end f.0.1) P3 (b.0.0, c.0.0, f.0.0) p f.2 in
    let x = number_takes n.first b.0.0 n.read in
    let y = number_takes m.first c.0.0 m.read in
    let z = number_takes k.first f.0.0 k.read in
    let last : c.0.1 ≡ list_of (numeral_expr f.0.0 ∷ []) = k.is ∙ ap (λ (r : Sexpr). Cons k.first r) (end_is f.0.1 d.0) ∙ ap (λ (r : Sexpr). Cons r Nil) z.0 in
    let later : b.0.1 ≡ list_of (numeral_expr c.0.0 ∷ numeral_expr f.0.0 ∷ []) = m.is ∙ ap (λ (r : Sexpr). Cons m.first r) last ∙ ap (λ (r : Sexpr). Cons r (list_of (numeral_expr f.0.0 ∷ []))) y.0 in
    let text : ts ≡ list_of (numeral_expr b.0.0 ∷ numeral_expr c.0.0 ∷ numeral_expr f.0.0 ∷ []) = n.is ∙ ap (λ (r : Sexpr). Cons n.first r) later ∙ ap (λ (r : Sexpr). Cons r (list_of (numeral_expr c.0.0 ∷ numeral_expr f.0.0 ∷ []))) x.0 in
    subst (λ (q : ℕ × ℕ × ℕ). (ts ≡ list_of (numeral_expr q.0 ∷ numeral_expr q.1 ∷ numeral_expr q.2 ∷ [])) × (q.0 < 2 ^ 32) × (q.1 < 2 ^ 32) × (q.2 < 2 ^ 32)) d.1 (text, x.1, y.1, z.1)

pair_takes : (ts : Sexpr) (p : ℕ × ℕ) → pair ts ≡ Ok p → (ts ≡ list_of (numeral_expr p.0 ∷ numeral_expr p.1 ∷ [])) × ((p.0 < 2 ^ 32) × (p.1 < 2 ^ 32)) × (nat_le p.0 p.1 ≡ true)
pair_takes ts p e =
    let b = bind_ok (two ts) ordered p e in
    let t = two_takes ts b.0 b.1 in
    let d = done_if (nat_le b.0.0 b.0.1) P3 b.0 p b.2 in
    subst (λ (q : ℕ × ℕ). (ts ≡ list_of (numeral_expr q.0 ∷ numeral_expr q.1 ∷ [])) × ((q.0 < 2 ^ 32) × (q.1 < 2 ^ 32)) × (nat_le q.0 q.1 ≡ true)) d.1 (t.0, (t.1, t.2), d.0)

-- ---- regions' words

byte_by : (b : ℕ) (plus minus : Bool) → (b == 43) ≡ plus → (b == 45) ≡ minus → plus || minus ≡ true → sign_byte (sign_at b) ≡ b
byte_by b true minus e f g = rw e (sym (eqb-true b 43 e))
byte_by b false true e f g = rw e (sym (eqb-true b 45 f))
byte_by b false false e f g = absurd cc

bytes_back : (w : List ℕ) → list_all is_sign_byte w ≡ true → cube_bytes (map sign_at w) ≡ w
bytes_back [] e = refl
bytes_back (b ∷ bs) e =
    let parts = and_parts (is_sign_byte b) (list_all is_sign_byte bs) e in
    ap (λ (x : ℕ). x ∷ cube_bytes (map sign_at bs)) (byte_by b (b == 43) (b == 45) refl refl parts.0) ∙ ap (λ (t : List ℕ). b ∷ t) (bytes_back bs parts.1)

plus_by : (b : ℕ) (bs : List ℕ) (c : Bool) → (b == 43) ≡ c → (list_any (λ x. x == 43) bs ≡ true → has_plus (map sign_at bs) ≡ true) → c || list_any (λ x. x == 43) bs ≡ true → has_plus (sign_at b ∷ map sign_at bs) ≡ true
plus_by b bs true e f g = rw e refl
plus_by b bs false e f g = rw e (f g)

plus_back : (w : List ℕ) → list_any (λ x. x == 43) w ≡ true → has_plus (map sign_at w) ≡ true
plus_back [] e = absurd cc
plus_back (b ∷ bs) e = plus_by b bs (b == 43) refl (plus_back bs) e

word_by : (t : Sexpr) (o : Option (List ℕ)) (word : List Sign) → word_of t ≡ o → cube_in o ≡ Ok word → (t ≡ cube_expr word) × (has_plus word ≡ true)
word_by t None word is e = absurd cc
word_by t (Some w) word is e =
    let d = done_if (is_cube_word w) P3 (map sign_at w) word e in
    let parts = and_parts (list_all is_sign_byte w) (list_any (λ x. x == 43) w) d.0 in
    subst (λ (s : List Sign). (t ≡ cube_expr s) × (has_plus s ≡ true)) d.1
    (word_is t w is ∙ ap (λ (x : List ℕ). Atom (Word x)) (sym (bytes_back w parts.0)), plus_back w parts.1)

word_takes_cube : (t : Sexpr) (word : List Sign) → cube_word t ≡ Ok word → (t ≡ cube_expr word) × (has_plus word ≡ true)
word_takes_cube t word e = word_by t (word_of t) word refl e

record IsCube (ts : Sexpr) (c : Cube) : Type 0 where
  text : ts ≡ list_of (numeral_expr c.component ∷ cube_expr c.signs ∷ [])
  fits : c.component < 2 ^ 32
  plus : has_plus c.signs ≡ true

cube_takes : (ts : Sexpr) (c : Cube) → cube ts ≡ Ok c → IsCube ts c
cube_takes ts c e =
    let b = bind_ok (next number ts) (λ a. last_word a.0 a.1) c e in
    let n = next_takes number ts b.0 b.1 in
    let d = bind_ok (next cube_word b.0.1) (λ w. done (cube_of b.0.0 w.0) w.1) c b.2 in
    let m = next_takes cube_word b.0.1 d.0 d.1 in
    let f = done_if (is_end d.0.1) P3 (cube_of b.0.0 d.0.0) c d.2 in
    let x = number_takes n.first b.0.0 n.read in
    let y = word_takes_cube m.first d.0.0 m.read in
    let text : ts ≡ list_of (numeral_expr b.0.0 ∷ cube_expr d.0.0 ∷ []) = n.is ∙ ap (λ (r : Sexpr). Cons n.first r) (m.is ∙ ap (λ (r : Sexpr). Cons m.first r) (end_is d.0.1 f.0)) ∙ ap (λ (r : Sexpr). Cons r (Cons m.first Nil)) x.0 ∙ ap (λ (r : Sexpr). Cons (numeral_expr b.0.0) (Cons r Nil)) y.0 in
    subst (IsCube ts) f.1 (record { text = text; fits = x.1; plus = y.1 })

-- ---- names

list_is : (v w : List ℕ) (ts us : Sexpr) → v ≡ w → ts ≡ us → Cons (Atom (Word v)) ts ≡ Cons (Atom (Word w)) us
list_is v w ts us p q = ap (λ (x : List ℕ). Cons (Atom (Word x)) ts) p ∙ ap (λ (x : Sexpr). Cons (Atom (Word w)) x) q

kind_takes : (w : List ℕ) (h : NameHead) → name_of w ≡ Some h → w ≡ name_word h
unfolding name_of
kind_takes w h e = word_takes name_word all_names w h e

head_takes : (w : List ℕ) (h : Head) → head_of w ≡ Some h → w ≡ head_word h
unfolding head_of
head_takes w h e = word_takes head_word all_heads w h e

-- the word with which a list begins
starts_by : {H : Type 0} (of : List ℕ → Option H) (word : H → List ℕ) (t ts : Sexpr) (o : Option (List ℕ)) (h : H) → ((w : List ℕ) → of w ≡ Some h → w ≡ word h) → word_of t ≡ o → (o >>=? of) ≡ Some h → t ≡ Atom (Word (word h))
starts_by of word t ts None h takes is e = absurd cc
starts_by of word t ts (Some w) h takes is e = word_is t w is ∙ ap (λ (x : List ℕ). Atom (Word x)) (takes w e)

begun : (t ts us u : Sexpr) → t ≡ u → ts ≡ us → Cons t ts ≡ Cons u us
begun t ts us u p q = ap (λ (x : Sexpr). Cons x ts) p ∙ ap (λ (x : Sexpr). Cons u x) q

record IsName (t : Sexpr) (n : FactName) : Type 0 where
  text : t ≡ name_expr n
  fits : NameFits n
  spelt : is_name n ≡ true

name_starts : (t ts : Sexpr) (h : NameHead) → name_head t ≡ Some h → t ≡ Atom (Word (name_word h))
name_starts t ts h e = starts_by name_of name_word t ts (word_of t) h (λ w f. kind_takes w h f) refl e

name_by : (t ts : Sexpr) (o : Option NameHead) (n : FactName) → name_head t ≡ o → name_with o ts ≡ Ok n → IsName (Cons t ts) n
name_by t ts None n o e = absurd cc
name_by t ts (Some kinds.Sign) n o e =
    let b = bind_ok (one number ts) (λ f. fine (names.Sign f)) n e in
    let k = one_takes number ts b.0 b.1 in
    let x = number_takes k.0 b.0 k.2 in
    subst (IsName (Cons t ts)) (ok_is (names.Sign b.0) n b.2) (record { text = begun t ts _ _ (name_starts t ts kinds.Sign o) (k.1 ∙ ap (λ (r : Sexpr). Cons r Nil) x.0); fits = x.1; spelt = refl })
name_by t ts (Some kinds.In) n o e =
    let b = bind_ok (two ts) (λ p. fine (names.Member p.0 p.1)) n e in
    let k = two_takes ts b.0 b.1 in
    subst (IsName (Cons t ts)) (ok_is (names.Member b.0.0 b.0.1) n b.2) (record { text = begun t ts _ _ (name_starts t ts kinds.In o) k.0; fits = (k.1, k.2); spelt = refl })
name_by t ts (Some kinds.Eq) n o e =
    let b = bind_ok (pair ts) (λ p. fine (names.Eq p.0 p.1)) n e in
    let k = pair_takes ts b.0 b.1 in
    subst (IsName (Cons t ts)) (ok_is (names.Eq b.0.0 b.0.1) n b.2) (record { text = begun t ts _ _ (name_starts t ts kinds.Eq o) k.0; fits = k.1; spelt = and_from (nat_le b.0.0 b.0.1) true k.2 refl })
name_by t ts (Some kinds.Seq) n o e =
    let b = bind_ok (pair ts) (λ p. fine (names.EqSet p.0 p.1)) n e in
    let k = pair_takes ts b.0 b.1 in
    subst (IsName (Cons t ts)) (ok_is (names.EqSet b.0.0 b.0.1) n b.2) (record { text = begun t ts _ _ (name_starts t ts kinds.Seq o) k.0; fits = k.1; spelt = and_from (nat_le b.0.0 b.0.1) true k.2 refl })
name_by t ts (Some kinds.Empty) n o e =
    let b = bind_ok (cube ts) (λ c. fine (names.Empty c)) n e in
    let k = cube_takes ts b.0 b.1 in
    subst (IsName (Cons t ts)) (ok_is (names.Empty b.0) n b.2) (record { text = begun t ts _ _ (name_starts t ts kinds.Empty o) k.text; fits = k.fits; spelt = k.plus })

name_takes : (t : Sexpr) (n : FactName) → name t ≡ Ok n → IsName t n
name_takes (Cons t ts) n e = name_by t ts (name_head t) n refl e
name_takes t n e = absurd cc

-- ---- nodes

record IsNode (t : Sexpr) (n : Node) : Type 0 where
  text : t ≡ node_expr n
  fits : NodeFits n
  spelt : is_node n ≡ true

finish : (t : Sexpr) (p : Part) (m n : Node) → node_part m ≡ p → fine m ≡ fine n → t ≡ part_expr p → PartFits p → is_node m ≡ true → IsNode t n
finish t p m n is e text fits named = subst (IsNode t) (ok_is m n e) (record { text = text ∙ ap part_expr (sym is); fits = subst PartFits (sym is) fits; spelt = named })

part_one : (h : OneHead) (a : ℕ) → (step_part (make_one h a) ≡ Part.One h a) × (is_node (step (make_one h a)) ≡ true)
part_one Ones.Atom a = (refl, refl)
part_one Ones.EqRefl a = (refl, refl)
part_one Ones.SeqRefl a = (refl, refl)

part_two : (h : TwoHead) (a b : ℕ) → (step_part (make_two h a b) ≡ Part.Two h a b) × (is_node (step (make_two h a b)) ≡ true)
part_two Twos.All a b = (refl, refl)
part_two Twos.Unit a b = (refl, refl)
part_two Twos.Single a b = (refl, refl)
part_two Twos.Unsingle a b = (refl, refl)
part_two Twos.Differ a b = (refl, refl)

part_three : (h : ThreeHead) (a b c : ℕ) → (step_part (make_three h a b c) ≡ Part.Three h a b c) × (is_node (step (make_three h a b c)) ≡ true)
part_three Threes.Op a b c = (refl, refl)
part_three Threes.Carry a b c = (refl, refl)
part_three Threes.Apart a b c = (refl, refl)
part_three Threes.Move a b c = (refl, refl)
part_three Threes.SetApart a b c = (refl, refl)
part_three Threes.EqStep a b c = (refl, refl)
part_three Threes.SeqStep a b c = (refl, refl)

node_starts : (t ts : Sexpr) (h : Head) → node_head t ≡ Some h → t ≡ Atom (Word (head_word h))
node_starts t ts h e = starts_by head_of head_word t ts (word_of t) h (λ w f. head_takes w h f) refl e

node_by : (t ts : Sexpr) (o : Option Head) (n : Node) → node_head t ≡ o → node_with o ts ≡ Ok n → IsNode (Cons t ts) n
node_by t ts None n o e = absurd cc
node_by t ts (Some (heads.One h)) n o e =
    let b = bind_ok (one number ts) (λ a. fine (step (make_one h a))) n e in
    let k = one_takes number ts b.0 b.1 in
    let x = number_takes k.0 b.0 k.2 in
    finish (Cons t ts) (Part.One h b.0) (step (make_one h b.0)) n (part_one h b.0).0 b.2 (begun t ts _ _ (node_starts t ts (heads.One h) o) (k.1 ∙ ap (λ (r : Sexpr). Cons r Nil) x.0)) x.1 (part_one h b.0).1
node_by t ts (Some (heads.Two h)) n o e =
    let b = bind_ok (two ts) (λ p. fine (step (make_two h p.0 p.1))) n e in
    let k = two_takes ts b.0 b.1 in
    finish (Cons t ts) (Part.Two h b.0.0 b.0.1) (step (make_two h b.0.0 b.0.1)) n (part_two h b.0.0 b.0.1).0 b.2 (begun t ts _ _ (node_starts t ts (heads.Two h) o) k.0) (k.1, k.2) (part_two h b.0.0 b.0.1).1
node_by t ts (Some (heads.Three h)) n o e =
    let b = bind_ok (three ts) (λ p. fine (step (make_three h p.0 p.1 p.2))) n e in
    let k = three_takes ts b.0 b.1 in
    finish (Cons t ts) (Part.Three h b.0.0 b.0.1 b.0.2) (step (make_three h b.0.0 b.0.1 b.0.2)) n (part_three h b.0.0 b.0.1 b.0.2).0 b.2 (begun t ts _ _ (node_starts t ts (heads.Three h) o) k.0) (k.1, k.2, k.3) (part_three h b.0.0 b.0.1 b.0.2).1
node_by t ts (Some heads.Cut) n o e =
    let b = bind_ok (one name ts) (λ m. fine (step (plain.Cut m))) n e in
    let k = one_takes name ts b.0 b.1 in
    let x = name_takes k.0 b.0 k.2 in
    finish (Cons t ts) (Part.Cut b.0) (step (plain.Cut b.0)) n refl b.2 (begun t ts _ _ (node_starts t ts heads.Cut o) (k.1 ∙ ap (λ (r : Sexpr). Cons r Nil) x.text)) x.fits x.spelt
node_by t ts (Some heads.Clash) n o e =
    let b = bind_ok (one name ts) (λ m. fine (nodes.Closing (closings.Clash m))) n e in
    let k = one_takes name ts b.0 b.1 in
    let x = name_takes k.0 b.0 k.2 in
    finish (Cons t ts) (Part.Clash b.0) (nodes.Closing (closings.Clash b.0)) n refl b.2 (begun t ts _ _ (node_starts t ts heads.Clash o) (k.1 ∙ ap (λ (r : Sexpr). Cons r Nil) x.text)) x.fits x.spelt

node_takes : (t : Sexpr) (n : Node) → node t ≡ Ok n → IsNode t n
node_takes (Cons t ts) n e = node_by t ts (node_head t) n refl e
node_takes t n e = absurd cc

-- ---- trees

abbrev sound : {A : Type 0} → A → Result A Refusal
sound x = Ok x

sound_is : {A : Type 0} (x y : A) → sound x ≡ sound y → x ≡ y
sound_is x y e = cc

refused_ok : {X : Type 0} (k : ℕ) (r : Result X Reason) (x : X) → refused k r ≡ Ok x → r ≡ Ok x
refused_ok k (Ok y) x e = let same : y ≡ x = cc in ap (λ z. fine z) same
refused_ok k (Err f) x e = absurd cc

record IsForest (due : ℕ) (ts : Sexpr) (ns : List Node) : Type 0 where
  text : ts ≡ list_of (node_exprs ns)
  fits : AllByRecursion NodeFits ns
  spelt : are_nodes ns ≡ true
  tree : IsWhole due ns

tree_takes : (due k : ℕ) (ts : Sexpr) (ns : List Node) → tree_nodes due k ts ≡ Ok ns → IsForest due ts ns
tree_takes zero k Nil ns e =
    let same : [] ≡ ns = cc in
    subst (λ (m : List Node). IsForest 0 Nil m) same (record { text = refl; fits = tt; spelt = refl; tree = tt })
tree_takes zero k ts ns e = absurd cc
tree_takes (suc due) k (Cons t ts) ns e =
    let b = bind_ok (refused k (node t)) (λ n. tree_nodes (due + branch_count n) (k + 1) ts >>= λ ns. sound (n ∷ ns)) ns e in
    let c = bind_ok (tree_nodes (due + branch_count b.0) (k + 1) ts) (λ ns. sound (b.0 ∷ ns)) ns b.2 in
    let n = node_takes t b.0 (refused_ok k (node t) b.0 b.1) in
    let r = tree_takes (due + branch_count b.0) (k + 1) ts c.0 c.1 in
    subst (λ (m : List Node). IsForest (suc due) (Cons t ts) m) (sound_is (b.0 ∷ c.0) ns c.2)
    (record { text = begun t ts _ _ n.text r.text; fits = (n.fits, r.fits); spelt = and_from (is_node b.0) (are_nodes c.0) n.spelt r.spelt; tree = r.tree })
tree_takes (suc due) k ts ns e = absurd cc

closed_if : {X : Type 0} (b : Bool) (f : Refusal) (x y : X) → cond b (sound x) (Err f) ≡ Ok y → (b ≡ true) × (x ≡ y)
closed_if true f x y e = (refl, cc)
closed_if false f x y e = absurd cc

word_that : (word : List ℕ) (t : Sexpr) (o : Option (List ℕ)) → word_of t ≡ o → is_that word o ≡ true → t ≡ Atom (Word word)
word_that word t None is e = absurd cc
word_that word t (Some w) is e = word_is t w is ∙ ap (λ (x : List ℕ). Atom (Word x)) (sym (bytes_same word w e))

tail_takes : (word : List ℕ) (t found : Sexpr) → tail_of word t ≡ Ok found → t ≡ Cons (Atom (Word word)) found
tail_takes word (Cons t ts) found e =
    let d = closed_if (is_word word t) (refusal 0 P1) ts found e in
    begun t ts found (Atom (Word word)) (word_that word t (word_of t) refl d.0) d.1
tail_takes word t found e = absurd cc

record IsWholeTree (ts : Sexpr) (ns : List Node) : Type 0 where
  forest : IsForest 1 (list_of (node_exprs ns)) ns
  text : ts ≡ list_of (form (codes "tree") (node_exprs ns) ∷ [])

whole_takes : (ts : Sexpr) (ns : List Node) → whole ts ≡ Ok ns → IsWholeTree ts ns
whole_takes (Cons t ts) ns e =
    let b = bind_ok (tail_of (codes "tree") t) (λ found. tree_nodes 1 1 found >>= λ ms. closed ms ts) ns e in
    let c = bind_ok (tree_nodes 1 1 b.0) (λ ms. closed ms ts) ns b.2 in
    let f = tree_takes 1 1 b.0 c.0 c.1 in
    let d = closed_if (is_end ts) (refusal (length c.0) P1) c.0 ns c.2 in
    let head : t ≡ form (codes "tree") (node_exprs c.0) = tail_takes (codes "tree") t b.0 b.1 ∙ ap (λ (r : Sexpr). Cons (Atom (Word (codes "tree"))) r) f.text in
    subst (IsWholeTree (Cons t ts)) d.1 (record { forest = subst (λ (x : Sexpr). IsForest 1 x c.0) f.text f; text = begun t ts Nil _ head (end_is ts d.0) })
whole_takes ts ns e = absurd cc

nodes_take : (t : Sexpr) (ns : List Node) → nodes_in t ≡ Ok ns → IsForest 1 (list_of (node_exprs ns)) ns × (t ≡ tree_expr ns)
nodes_take t ns e =
    let b = bind_ok (tail_of (codes "derivation") t) whole ns e in
    let w = whole_takes b.0 ns b.2 in
    (w.forest, tail_takes (codes "derivation") t b.0 b.1 ∙ ap (λ (r : Sexpr). Cons (Atom (Word (codes "derivation"))) r) w.text)

abbrev IsSpeltSo : Sexpr → Derivation → Type 0
IsSpeltSo t d = IsSpelt d × Fits d × (t ≡ derivation_expr d)

so : (t : Sexpr) (ns : List Node) → IsForest 1 (list_of (node_exprs ns)) ns → t ≡ tree_expr ns → IsSpeltSo t (with_nodes ns)
so t ns f e = (record { no_lemmas = refl; tree = (closes_tells ns).0 (closes_if 1 ns f.tree); names = f.spelt }, f.fits, e)

pub reads_so : (t : Sexpr) (d : Derivation) → derivation_in t ≡ Ok d → IsSpelt d × Fits d × (t ≡ derivation_expr d)
unfolding derivation_in
reads_so t d e =
    let b = bind_ok (nodes_in t) (λ ns. sound (with_nodes ns)) d e in
    let n = nodes_take t b.0 b.1 in
    subst (IsSpeltSo t) (sound_is (with_nodes b.0) d b.2) (so t b.0 n.0 n.1)
