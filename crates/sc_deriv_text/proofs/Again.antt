-- What is spelt is read again.
use Rattle.std.proofs.Common.{◌≡◌, ℕ, zero, suc, ◌+◌, ◌-◌, ◌<◌, ◌^◌, true, false, List, [], ◌∷◌, map, Some, Ok, refl, sym, ap, ◌∙◌, arith, nat_eq}
use Rattle.std.specs.Prelude.{◌==◌, nat_le, if◌then◌else◌}
use Rattle.std.specs.List.{AllByRecursion, list_all, list_any}
use Rattle.std.proofs.lemmas.Bool.{false≢true, and_parts, and_from}
use Rattle.sc_terms.specs.declared.atoms.Sign.{Sign}
use Rattle.sc_terms.specs.declared.atoms.Sign.TheVariants as signs
use Rattle.sc_facts.specs.declared.name.FactName.{FactName}
use Rattle.sc_facts.specs.declared.name.FactName.TheVariants as names
use Rattle.sc_rules.specs.declared.step.PlainStep.{PlainStep}
use Rattle.sc_rules.specs.declared.step.PlainStep.TheVariants as steps
use Rattle.sc_deriv.specs.declared.derivation.Step.TheVariants.{Plain}
use Rattle.sc_deriv.specs.declared.derivation.Closing.TheVariants as closings
use Rattle.sc_deriv.specs.declared.derivation.Node.{Node}
use Rattle.sc_deriv.specs.declared.derivation.Node.TheVariants as nodes
use Rattle.sc_deriv.specs.declared.derivation.Lemma.{Lemma}
use Rattle.sc_deriv.specs.declared.derivation.Derivation.{Derivation}
use Rattle.sc_deriv.specs.Spelling.{branch_count, has_plus, is_name, is_node, are_nodes, closes, IsSpelt}
use Rattle.sc_deriv_text.specs.declared.head.OneHead.{OneHead}
use Rattle.sc_deriv_text.specs.declared.head.OneHead.TheVariants as Ones
use Rattle.sc_deriv_text.specs.declared.head.TwoHead.{TwoHead}
use Rattle.sc_deriv_text.specs.declared.head.TwoHead.TheVariants as Twos
use Rattle.sc_deriv_text.specs.declared.head.ThreeHead.{ThreeHead}
use Rattle.sc_deriv_text.specs.declared.head.ThreeHead.TheVariants as Threes
use Rattle.sc_deriv_text.specs.declared.head.Head.{Head}
use Rattle.sc_deriv_text.specs.declared.head.Head.TheVariants as heads
use Rattle.sc_deriv_text.specs.declared.head.NameHead.{NameHead}
use Rattle.sc_deriv_text.specs.declared.head.NameHead.TheVariants as kinds
use Rattle.sc_deriv_text.specs.Words.{head_word, name_word, head_of, name_of}
use Rattle.sc_deriv_text.specs.Sexpr.{list_of}
use Rattle.sc_deriv_text.specs.Spelling.{numeral_expr, cube_bytes, cube_expr, name_expr, Part, part_expr, node_expr, node_exprs, tree_expr, derivation_expr, NameFits, NodeFits, Fits}
use Rattle.sc_deriv_text.specs.Reading.{name, two, three, pair, node, make_one, make_two, make_three, step, is_sign_byte, sign_at, is_cube_word, cube_word, tree_nodes, nodes_in, derivation_in}
use Rattle.sc_deriv.proofs.Spellings.{closes_tells}
use Rattle.sc_deriv_text.proofs.NumbersAgain.{number_again}

one_again : (h : OneHead) → head_of (head_word (heads.One h)) ≡ Some (heads.One h)
unfolding head_of
one_again Ones.Atom = refl
one_again Ones.EqRefl = refl
one_again Ones.SeqRefl = refl

two_again : (h : TwoHead) → head_of (head_word (heads.Two h)) ≡ Some (heads.Two h)
unfolding head_of
two_again Twos.All = refl
two_again Twos.Unit = refl
two_again Twos.Single = refl
two_again Twos.Unsingle = refl
two_again Twos.Differ = refl

three_again : (h : ThreeHead) → head_of (head_word (heads.Three h)) ≡ Some (heads.Three h)
unfolding head_of
three_again Threes.Op = refl
three_again Threes.Carry = refl
three_again Threes.Apart = refl
three_again Threes.Move = refl
three_again Threes.SetApart = refl
three_again Threes.EqStep = refl
three_again Threes.SeqStep = refl

head_again : (h : Head) → head_of (head_word h) ≡ Some h
unfolding head_of
head_again (heads.One h) = one_again h
head_again (heads.Two h) = two_again h
head_again (heads.Three h) = three_again h
head_again heads.Cut = refl
head_again heads.Clash = refl

kind_again : (h : NameHead) → name_of (name_word h) ≡ Some h
unfolding name_of
kind_again kinds.Sign = refl
kind_again kinds.In = refl
kind_again kinds.Eq = refl
kind_again kinds.Seq = refl
kind_again kinds.Empty = refl

pair_again : (a b : ℕ) → a < 2 ^ 32 → b < 2 ^ 32 → two (list_of (numeral_expr a ∷ numeral_expr b ∷ [])) ≡ Ok (a, b)
pair_again a b p q = rw (number_again a p, number_again b q) refl

triple_again : (a b c : ℕ) → a < 2 ^ 32 → b < 2 ^ 32 → c < 2 ^ 32 → three (list_of (numeral_expr a ∷ numeral_expr b ∷ numeral_expr c ∷ [])) ≡ Ok (a, b, c)
triple_again a b c p q r = rw (number_again a p, number_again b q, number_again c r) refl

ordered_again : (a b : ℕ) → a < 2 ^ 32 → b < 2 ^ 32 → nat_le a b ≡ true → pair (list_of (numeral_expr a ∷ numeral_expr b ∷ [])) ≡ Ok (a, b)
ordered_again a b p q le = rw (pair_again a b p q, le) refl

-- ---- regions' words

signs_fine : (word : List Sign) → list_all is_sign_byte (cube_bytes word) ≡ true
signs_fine [] = refl
signs_fine (signs.Plus ∷ word) = signs_fine word
signs_fine (signs.Minus ∷ word) = signs_fine word

plus_same : (word : List Sign) → list_any (λ b. b == 43) (cube_bytes word) ≡ has_plus word
plus_same [] = refl
plus_same (signs.Plus ∷ word) = refl
plus_same (signs.Minus ∷ word) = plus_same word

signs_again : (word : List Sign) → map sign_at (cube_bytes word) ≡ word
signs_again [] = refl
signs_again (signs.Plus ∷ word) = ap (λ (t : List Sign). signs.Plus ∷ t) (signs_again word)
signs_again (signs.Minus ∷ word) = ap (λ (t : List Sign). signs.Minus ∷ t) (signs_again word)

word_again : (word : List Sign) → has_plus word ≡ true → cube_word (cube_expr word) ≡ Ok word
word_again word e =
    let fine : is_cube_word (cube_bytes word) ≡ true = and_from (list_all is_sign_byte (cube_bytes word)) (list_any (λ b. b == 43) (cube_bytes word)) (signs_fine word) (plus_same word ∙ e) in
    rw (fine, signs_again word) refl

-- ---- names

name_again : (n : FactName) → NameFits n → is_name n ≡ true → name (name_expr n) ≡ Ok n
name_again (names.Sign f) p e = rw (kind_again kinds.Sign, number_again f p) refl
name_again (names.Member t s) p e = rw (kind_again kinds.In, number_again t p.0, number_again s p.1) refl
name_again (names.Eq a b) p e =
    let le = (and_parts (nat_le a b) true e).0 in
    rw (kind_again kinds.Eq, number_again a p.0, number_again b p.1, le) refl
name_again (names.EqSet a b) p e =
    let le = (and_parts (nat_le a b) true e).0 in
    rw (kind_again kinds.Seq, number_again a p.0, number_again b p.1, le) refl
name_again (names.Empty cube) p e = rw (kind_again kinds.Empty, number_again cube.component p, word_again cube.signs e) refl

-- ---- nodes

made_one : (h : OneHead) (a : ℕ) → a < 2 ^ 32 → node (part_expr (Part.One h a)) ≡ Ok (step (make_one h a))
made_one h a p = rw (one_again h, number_again a p) refl

made_two : (h : TwoHead) (a b : ℕ) → a < 2 ^ 32 → b < 2 ^ 32 → node (part_expr (Part.Two h a b)) ≡ Ok (step (make_two h a b))
made_two h a b p q = rw (two_again h, number_again a p, number_again b q) refl

made_three : (h : ThreeHead) (a b c : ℕ) → a < 2 ^ 32 → b < 2 ^ 32 → c < 2 ^ 32 → node (part_expr (Part.Three h a b c)) ≡ Ok (step (make_three h a b c))
made_three h a b c p q r = rw (three_again h, number_again a p, number_again b q, number_again c r) refl

step_again : (s : PlainStep) → NodeFits (step s) → is_node (step s) ≡ true → node (node_expr (step s)) ≡ Ok (step s)
step_again (steps.Atom f) p o = made_one Ones.Atom f p
step_again (steps.All f q) p o = made_two Twos.All f q p.0 p.1
step_again (steps.Unit f q) p o = made_two Twos.Unit f q p.0 p.1
step_again (steps.Cut n) p o = rw (head_again heads.Cut, name_again n p o) refl
step_again (steps.Op e s q) p o = made_three Threes.Op e s q p.0 p.1 p.2
step_again (steps.Single e s) p o = made_two Twos.Single e s p.0 p.1
step_again (steps.Unsingle e s) p o = made_two Twos.Unsingle e s p.0 p.1
step_again (steps.Carry e f s) p o = made_three Threes.Carry e f s p.0 p.1 p.2
step_again (steps.Apart e f s) p o = made_three Threes.Apart e f s p.0 p.1 p.2
step_again (steps.Move e s t) p o = made_three Threes.Move e s t p.0 p.1 p.2
step_again (steps.SetApart e s t) p o = made_three Threes.SetApart e s t p.0 p.1 p.2
step_again (steps.EqRefl e) p o = made_one Ones.EqRefl e p
step_again (steps.EqStep e f g) p o = made_three Threes.EqStep e f g p.0 p.1 p.2
step_again (steps.SeqRefl s) p o = made_one Ones.SeqRefl s p
step_again (steps.SeqStep s t u) p o = made_three Threes.SeqStep s t u p.0 p.1 p.2
step_again (steps.Differ s t) p o = made_two Twos.Differ s t p.0 p.1

pub node_again : (n : Node) → NodeFits n → is_node n ≡ true → node (node_expr n) ≡ Ok n
node_again (nodes.Step (Plain s)) p o = step_again s p o
node_again (nodes.Closing (closings.Clash n)) p o = rw (head_again heads.Clash, name_again n p o) refl

-- ---- trees

-- the nodes close so many branches, and no node is left over
abbrev pub IsWhole : ℕ → List Node → Type 0
IsWhole zero [] = Unit {0}
IsWhole zero (n ∷ ns) = ⊥
IsWhole (suc due) [] = ⊥
IsWhole (suc due) (n ∷ ns) = IsWhole (due + branch_count n) ns

not_zero : (k : ℕ) → nat_eq (suc k) 0 ≡ false
not_zero k = grind arith

closes_step : (k : ℕ) (n : Node) (ns : List Node) → closes (suc k) (n ∷ ns) ≡ closes (k + branch_count n) ns
closes_step k n ns =
    let count : suc k - 1 + branch_count n ≡ k + branch_count n = omega arith in
    ap (λ b. if b then false else closes (suc k - 1 + branch_count n) ns) (not_zero k) ∙ ap (λ m. closes m ns) count

whole_if : (due : ℕ) (ns : List Node) → closes due ns ≡ true → IsWhole due ns
whole_if zero [] e = tt
whole_if zero (n ∷ ns) e = absurd (false≢true e)
whole_if (suc due) [] e = absurd (false≢true (sym (not_zero due) ∙ e))
whole_if (suc due) (n ∷ ns) e = whole_if (due + branch_count n) ns (sym (closes_step due n ns) ∙ e)

pub closes_if : (due : ℕ) (ns : List Node) → IsWhole due ns → closes due ns ≡ true
closes_if zero [] w = refl
closes_if zero (n ∷ ns) w = absurd w
closes_if (suc due) [] w = absurd w
closes_if (suc due) (n ∷ ns) w = closes_step due n ns ∙ closes_if (due + branch_count n) ns w

tree_again : (due k : ℕ) (ns : List Node) → AllByRecursion NodeFits ns → are_nodes ns ≡ true → IsWhole due ns → tree_nodes due k (list_of (node_exprs ns)) ≡ Ok ns
tree_again zero k [] p o w = refl
tree_again zero k (n ∷ ns) p o w = absurd w
tree_again (suc due) k [] p o w = absurd w
tree_again (suc due) k (n ∷ ns) p o w =
    let both = and_parts (is_node n) (are_nodes ns) o in
    rw (node_again n p.0 both.0, tree_again (due + branch_count n) (k + 1) ns p.1 both.1 w) refl

nodes_again : (ns : List Node) → AllByRecursion NodeFits ns → are_nodes ns ≡ true → closes 1 ns ≡ true → nodes_in (tree_expr ns) ≡ Ok ns
nodes_again ns p o e = rw (tree_again 1 1 ns p o (whole_if 1 ns e)) refl

again : (d : Derivation) → d.lemmas ≡ [] → Fits d → are_nodes d.nodes ≡ true → closes 1 d.nodes ≡ true → derivation_in (derivation_expr d) ≡ Ok d
unfolding derivation_in
again d none p o e = rw (nodes_again d.nodes p o e) (ap (λ (ls : List Lemma). Ok (record { lemmas = ls; nodes = d.nodes })) (sym none))

pub reads_again : (d : Derivation) → IsSpelt d → Fits d → derivation_in (derivation_expr d) ≡ Ok d
reads_again d s p = again d s.no_lemmas p s.names ((closes_tells d.nodes).1 s.tree)
