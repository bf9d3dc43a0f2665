-- Reading an expression: a derivation, or the first fault in the order of the text.
use Rattle.std.specs.Prelude.{◌≡◌, ℕ, zero, suc, ◌+◌, ◌^◌, Bool, true, false, ◌&&◌, ◌==◌, ◌||◌, not, nat_lt, nat_le, if◌then◌else◌, List, [], ◌∷◌, length, map, codes, Option, Some, None, Result, Ok, Err, ⊤}
use Rattle.std.specs.Str.{bytes_eq}
use Rattle.std.specs.List.{list_all, list_any}
use Rattle.std.specs.Str.Parse.{digits_value}
use Rattle.sc_text.specs.Readings.{Numeral, Word}
use Rattle.sc_sexpr.specs.Shapes.{Shape}
use Rattle.sc_terms.specs.declared.atoms.Sign.{Sign}
use Rattle.sc_terms.specs.declared.atoms.Sign.TheVariants as signs
use Rattle.sc_terms.specs.declared.atoms.Cube.{Cube}
use Rattle.sc_facts.specs.declared.name.FactName.{FactName}
use Rattle.sc_facts.specs.declared.name.FactName.TheVariants as names
use Rattle.sc_rules.specs.declared.step.PlainStep.{PlainStep}
use Rattle.sc_rules.specs.declared.step.PlainStep.TheVariants as plain
use Rattle.sc_deriv.specs.declared.derivation.Step.TheVariants as steps
use Rattle.sc_deriv.specs.declared.derivation.Closing.TheVariants as closings
use Rattle.sc_deriv.specs.declared.derivation.Node.{Node}
use Rattle.sc_deriv.specs.declared.derivation.Node.TheVariants as nodes
use Rattle.sc_deriv.specs.declared.derivation.Derivation.{Derivation}
use Rattle.sc_deriv.specs.declared.derivation.Reason.{Reason}
use Rattle.sc_deriv.specs.declared.derivation.Reason.TheVariants.{P1, P2, P3, P4, P5, P6}
use Rattle.sc_deriv.specs.Spelling.{branch_count}
use Rattle.sc_deriv_text.specs.declared.head.OneHead.{OneHead}
use Rattle.sc_deriv_text.specs.declared.head.OneHead.TheVariants as ones
use Rattle.sc_deriv_text.specs.declared.head.TwoHead.{TwoHead}
use Rattle.sc_deriv_text.specs.declared.head.TwoHead.TheVariants as twos
use Rattle.sc_deriv_text.specs.declared.head.ThreeHead.{ThreeHead}
use Rattle.sc_deriv_text.specs.declared.head.ThreeHead.TheVariants as threes
use Rattle.sc_deriv_text.specs.declared.head.Head.{Head}
use Rattle.sc_deriv_text.specs.declared.head.Head.TheVariants as heads
use Rattle.sc_deriv_text.specs.declared.head.NameHead.{NameHead}
use Rattle.sc_deriv_text.specs.declared.head.NameHead.TheVariants as kinds
use Rattle.sc_deriv_text.specs.declared.errors.TextError.{TextError}
use Rattle.sc_deriv_text.specs.declared.errors.TextError.TheVariants as errors
use Rattle.sc_deriv_text.specs.declared.errors.PartError.{PartError}
use Rattle.sc_deriv_text.specs.declared.errors.PartError.TheVariants as parts
use Rattle.sc_deriv_text.specs.Words.{head_of, name_of}
use Rattle.sc_deriv_text.specs.Sexpr.{Sexpr, Atom, Nil, Cons, plain as plain_shape}

infixl 10 ◌>>=◌
abbrev pub ◌>>=◌ : {A B E : Type 0} → Result A E → (A → Result B E) → Result B E
(Ok x) >>= f = f x
(Err e) >>= f = Err e

infixl 10 ◌>>=?◌
abbrev pub ◌>>=?◌ : {A B : Type 0} → Option A → (A → Option B) → Option B
(Some x) >>=? f = f x
None >>=? f = None

-- a result, or what may be missing, as the definitions see it
abbrev pub seen : {A B E : Type 0} → (A → B) → Result A E → Result B E
seen view (Ok x) = Ok (view x)
seen view (Err e) = Err e

abbrev pub seen_some : {A B : Type 0} → (A → B) → Option A → Option B
seen_some view (Some x) = Some (view x)
seen_some view None = None

-- a copy is made, or memory is wanting
abbrev pub Copied : {X Y E : Type 0} → (X → Y) → Result X E → Y → Type 0
Copied view (Ok x) y = view x ≡ y
Copied view (Err e) y = ⊤

-- ---- tokens

-- the bytes of a bare word
abbrev pub word_of : Sexpr → Option (List ℕ)
word_of (Atom (Word w)) = Some w
word_of t = None

-- the digits of a numeral
abbrev pub digits_of : Sexpr → Option (List ℕ)
digits_of (Atom (Numeral ds)) = Some ds
digits_of t = None

abbrev pub has_leading_zero : List ℕ → Bool
has_leading_zero [] = true
has_leading_zero (d ∷ []) = false
has_leading_zero (d ∷ e ∷ ds) = d == 48

abbrev pub is_digit : ℕ → Bool
is_digit b = nat_le 48 b && nat_le b 57

abbrev pub is_numeral : List ℕ → Bool
is_numeral ds = list_all is_digit ds && not (has_leading_zero ds)

-- the number that a numeral stands for
abbrev pub numeral : List ℕ → Option ℕ
numeral ds = if is_numeral ds then Some (digits_value 10 ds) else None

abbrev pub below : ℕ → Option ℕ → Result ℕ Reason
below limit None = Err P3
below limit (Some n) = if nat_lt n limit then Ok n else Err P4

abbrev pub number_in : Option (List ℕ) → Result ℕ Reason
number_in None = Err P3
number_in (Some ds) = below (2 ^ 32) (numeral ds)

-- the number of a formula, an element, a set, a component or a part
abbrev pub number : Sexpr → Result ℕ Reason
number t = number_in (digits_of t)

abbrev pub is_sign_byte : ℕ → Bool
is_sign_byte b = b == 43 || b == 45

abbrev pub sign_at : ℕ → Sign
sign_at b = if b == 43 then signs.Plus else signs.Minus

-- each byte is a sign, and one a plus
abbrev pub is_cube_word : List ℕ → Bool
is_cube_word w = list_all is_sign_byte w && list_any (λ b. b == 43) w

abbrev pub cube_in : Option (List ℕ) → Result (List Sign) Reason
cube_in None = Err P3
cube_in (Some w) = if is_cube_word w then Ok (map sign_at w) else Err P3

-- a region's word
abbrev pub cube_word : Sexpr → Result (List Sign) Reason
cube_word t = cube_in (word_of t)

-- ---- arguments, from left to right

abbrev pub next : {X : Type 0} → (Sexpr → Result X Reason) → Sexpr → Result (X × Sexpr) Reason
next part (Cons t ts) = part t >>= λ x. Ok (x, ts)
next part t = Err P3

abbrev pub is_end : Sexpr → Bool
is_end Nil = true
is_end t = false

abbrev pub done : {X : Type 0} → X → Sexpr → Result X Reason
done x ts = if is_end ts then Ok x else Err P3

abbrev pub one : {X : Type 0} → (Sexpr → Result X Reason) → Sexpr → Result X Reason
one part ts = next part ts >>= λ a. done a.0 a.1

abbrev pub two : Sexpr → Result (ℕ × ℕ) Reason
two ts = next number ts >>= λ a. next number a.1 >>= λ b. done (a.0, b.0) b.1

abbrev pub three : Sexpr → Result (ℕ × ℕ × ℕ) Reason
three ts = next number ts >>= λ a. next number a.1 >>= λ b. next number b.1 >>= λ c. done (a.0, b.0, c.0) c.1

abbrev pub cube_of : ℕ → List Sign → Cube
cube_of c word = record { component = c; signs = word }

-- a region's word as the last argument
abbrev pub last_word : ℕ → Sexpr → Result Cube Reason
last_word c ts = next cube_word ts >>= λ b. done (cube_of c b.0) b.1

-- a component, and a region's word
abbrev pub cube : Sexpr → Result Cube Reason
cube ts = next number ts >>= λ a. last_word a.0 a.1

-- of an unordered pair the lower number comes first
abbrev pub ordered : ℕ × ℕ → Result (ℕ × ℕ) Reason
ordered p = if nat_le p.0 p.1 then Ok p else Err P3

abbrev pub pair : Sexpr → Result (ℕ × ℕ) Reason
pair ts = two ts >>= ordered

abbrev pub name_with : Option NameHead → Sexpr → Result FactName Reason
name_with None ts = Err P3
name_with (Some kinds.Sign) ts = one number ts >>= λ f. Ok (names.Sign f)
name_with (Some kinds.In) ts = two ts >>= λ p. Ok (names.Member p.0 p.1)
name_with (Some kinds.Eq) ts = pair ts >>= λ p. Ok (names.Eq p.0 p.1)
name_with (Some kinds.Seq) ts = pair ts >>= λ p. Ok (names.EqSet p.0 p.1)
name_with (Some kinds.Empty) ts = cube ts >>= λ c. Ok (names.Empty c)

abbrev pub name_head : Sexpr → Option NameHead
name_head t = word_of t >>=? name_of

-- a fact's name
abbrev pub name : Sexpr → Result FactName Reason
name (Cons t ts) = name_with (name_head t) ts
name t = Err P3

-- ---- nodes

abbrev pub make_one : OneHead → ℕ → PlainStep
make_one ones.Atom a = plain.Atom a
make_one ones.EqRefl a = plain.EqRefl a
make_one ones.SeqRefl a = plain.SeqRefl a

abbrev pub make_two : TwoHead → ℕ → ℕ → PlainStep
make_two twos.All a b = plain.All a b
make_two twos.Unit a b = plain.Unit a b
make_two twos.Single a b = plain.Single a b
make_two twos.Unsingle a b = plain.Unsingle a b
make_two twos.Differ a b = plain.Differ a b

abbrev pub make_three : ThreeHead → ℕ → ℕ → ℕ → PlainStep
make_three threes.Op a b c = plain.Op a b c
make_three threes.Carry a b c = plain.Carry a b c
make_three threes.Apart a b c = plain.Apart a b c
make_three threes.Move a b c = plain.Move a b c
make_three threes.SetApart a b c = plain.SetApart a b c
make_three threes.EqStep a b c = plain.EqStep a b c
make_three threes.SeqStep a b c = plain.SeqStep a b c

abbrev pub step : PlainStep → Node
step s = nodes.Step (steps.Plain s)

abbrev pub node_with : Option Head → Sexpr → Result Node Reason
node_with None ts = Err P2
node_with (Some (heads.One h)) ts = one number ts >>= λ a. Ok (step (make_one h a))
node_with (Some (heads.Two h)) ts = two ts >>= λ p. Ok (step (make_two h p.0 p.1))
node_with (Some (heads.Three h)) ts = three ts >>= λ p. Ok (step (make_three h p.0 p.1 p.2))
node_with (Some heads.Cut) ts = one name ts >>= λ n. Ok (step (plain.Cut n))
node_with (Some heads.Clash) ts = one name ts >>= λ n. Ok (nodes.Closing (closings.Clash n))

abbrev pub node_head : Sexpr → Option Head
node_head t = word_of t >>=? head_of

abbrev pub node : Sexpr → Result Node Reason
node (Cons t ts) = node_with (node_head t) ts
node t = Err P2

-- what reading a part gives, save that it may want memory
abbrev pub PartFails : {Y : Type 0} → PartError → Result Y Reason → Type 0
PartFails parts.Memory expected = ⊤
PartFails (parts.Refused r) expected = expected ≡ Err r

abbrev pub PartGives : {X Y : Type 0} → (X → Y) → Result X PartError → Result Y Reason → Type 0
PartGives view (Ok x) expected = expected ≡ Ok (view x)
PartGives view (Err e) expected = PartFails e expected

-- ---- trees of nodes, and the whole

-- the number of a node, and why it is refused
pub record Refusal : Type 0 where
  pub node : ℕ
  pub reason : Reason

abbrev pub refusal : ℕ → Reason → Refusal
refusal k r = record { node = k; reason = r }

abbrev pub refused : {X : Type 0} → ℕ → Result X Reason → Result X Refusal
refused k (Ok x) = Ok x
refused k (Err r) = Err (refusal k r)

-- the nodes of a tree of which so many branches are open, where the first has number k
abbrev pub tree_nodes : ℕ → ℕ → Sexpr → Result (List Node) Refusal
tree_nodes zero k Nil = Ok []
tree_nodes zero k t = Err (refusal k P6)
tree_nodes (suc due) k (Cons t ts) = refused k (node t) >>= λ n. tree_nodes (due + branch_count n) (k + 1) ts >>= λ ns. Ok (n ∷ ns)
tree_nodes (suc due) k t = Err (refusal k P5)

abbrev pub is_that : List ℕ → Option (List ℕ) → Bool
is_that word None = false
is_that word (Some w) = bytes_eq word w

abbrev pub is_word : List ℕ → Sexpr → Bool
is_word word t = is_that word (word_of t)

-- what follows the word with which a list begins
abbrev pub tail_of : List ℕ → Sexpr → Result Sexpr Refusal
tail_of word (Cons t ts) = if is_word word t then Ok ts else Err (refusal 0 P1)
tail_of word t = Err (refusal 0 P1)

-- nothing stands behind the tree
abbrev pub closed : List Node → Sexpr → Result (List Node) Refusal
closed ns ts = if is_end ts then Ok ns else Err (refusal (length ns) P1)

abbrev pub whole : Sexpr → Result (List Node) Refusal
whole (Cons t ts) = tail_of (codes "tree") t >>= λ found. tree_nodes 1 1 found >>= λ ns. closed ns ts
whole t = Err (refusal 0 P1)

abbrev pub nodes_in : Sexpr → Result (List Node) Refusal
nodes_in t = tail_of (codes "derivation") t >>= whole

abbrev pub with_nodes : List Node → Derivation
with_nodes ns = record { lemmas = []; nodes = ns }

-- the derivation that an expression spells
unfoldable pub derivation_in : Sexpr → Result Derivation Refusal
derivation_in t = nodes_in t >>= λ ns. Ok (with_nodes ns)

-- the derivation that a tree of tokens spells, by the tree's shape, or the first fault and its node
abbrev pub reading : Shape → Result Derivation Refusal
reading s = derivation_in (plain_shape s)

-- what reading gives, save that it may want memory
abbrev pub Fails : {Y : Type 0} → TextError → Result Y Refusal → Type 0
Fails errors.Memory expected = ⊤
Fails (errors.Refused k r) expected = expected ≡ Err (refusal k r)

abbrev pub Gives : {X Y : Type 0} → (X → Y) → Result X TextError → Result Y Refusal → Type 0
Gives view (Ok x) expected = expected ≡ Ok (view x)
Gives view (Err e) expected = Fails e expected

-- the answer of a reader of derivations
abbrev pub IsReading : Result Derivation TextError → Result Derivation Refusal → Type 0
IsReading answer expected = Gives (λ d. d) answer expected
