-- A closed tree on the root path can be written down.
use Rattle.std.proofs.Common.{◌≡◌, ℕ, Bool, true, false, ◌&&◌, ◌||◌, List, [], ◌∷◌, ◌++◌, Option, Some, None, refl, sym, ap, ◌∙◌, subst}
use Rattle.std.specs.Prelude.{nat_le, if◌then◌else◌}
use Rattle.std.specs.List.{list_all}
use Rattle.std.proofs.lemmas.Bool.{false≢true}
use Rattle.sc_base.specs.Options.{◌>>=◌}
use Rattle.sc_base.proofs.Bools.{and_true}
use Rattle.sc_terms.specs.declared.problem.Parts.{Parts}
use Rattle.sc_terms.specs.declared.nodes.Formula.{Formula}
use Rattle.sc_terms.specs.declared.nodes.Formula.TheVariants as formulas
use Rattle.sc_terms.specs.Lookup.{formula_at, set_at, element_at}
use Rattle.sc_facts.specs.declared.fact.Fact.{Fact}
use Rattle.sc_facts.specs.declared.fact.Fact.TheVariants as facts
use Rattle.sc_facts.specs.declared.name.FactName.{FactName}
use Rattle.sc_facts.specs.declared.name.FactName.TheVariants as names
use Rattle.sc_facts.specs.Same.{same_fact, same_fact-Decides}
use Rattle.sc_facts.specs.Facts.{has, named, root_facts}
use Rattle.sc_rules.specs.declared.step.PlainStep.TheVariants as plain
use Rattle.sc_rules.specs.Steps as rules
use Rattle.sc_rules.specs.Boolean.{own_sign, part_at, part_sign, unit_of, parts_sign, all_of, sign_of, atom_with, atom_of}
use Rattle.sc_rules.specs.Pairs.{ordered, equal_fact, equal, equal_of, same_set_fact, same_set}
use Rattle.sc_rules.specs.Members.{within_of, op_sign, argument, op_of, single_of, into_single, from_single, carry_of, apart_of, move_of, set_apart_of, reflexive_of, set_reflexive_of, chained, equal_step_of, set_step_of, tells_apart, differing}
use Rattle.sc_deriv.specs.declared.derivation.Step.{Step}
use Rattle.sc_deriv.specs.declared.derivation.Step.TheVariants.{Plain}
use Rattle.sc_deriv.specs.declared.derivation.Closing.{Closing}
use Rattle.sc_deriv.specs.declared.derivation.Closing.TheVariants.{Clash}
use Rattle.sc_deriv.specs.declared.derivation.Node.{Node}
use Rattle.sc_deriv.specs.declared.derivation.Node.TheVariants as nodes
use Rattle.sc_deriv.specs.declared.derivation.Reason.TheVariants.{Q2}
use Rattle.sc_deriv.specs.Acceptance.{is_ordered, clashes, step_branches, closing_fault, Closed, closing, one, two}
use Rattle.sc_deriv.specs.Spelling.{has_plus, name_has_plus, is_name, is_node, are_nodes, IsTree}
use Rattle.sc_deriv.specs.Spelling as tree
use Rattle.sc_deriv.proofs.Counting.{count_of_branches}

-- a fact says nothing of a region whose word has no plus
abbrev is_proper : Fact → Bool
is_proper (facts.Empty cube s) = has_plus cube.signs
is_proper _ = true

abbrev AreProper : List Fact → Type 0
AreProper path = list_all is_proper path ≡ true

all-append : (xs ys : List Fact) → AreProper xs → AreProper ys → AreProper (xs ++ ys)
all-append [] ys a b = b
all-append (x ∷ xs) ys a b =
    let both = and_true (is_proper x) (list_all is_proper xs) a in
    ap (λ t. t && list_all is_proper (xs ++ ys)) both.0 ∙ all-append xs ys both.1 b

-- what stands on a proper path is proper
has-proper_by : (x f : Fact) (xs : List Fact) (b : Bool) → same_fact f x ≡ b → AreProper (x ∷ xs) → (has xs f ≡ true → is_proper f ≡ true) → (b || has xs f) ≡ true → is_proper f ≡ true
has-proper_by x f xs true t all later e = ap is_proper ((same_fact-Decides f x).0 t) ∙ (and_true (is_proper x) (list_all is_proper xs) all).0
has-proper_by x f xs false t all later e = later e

has-proper : (path : List Fact) (f : Fact) → AreProper path → has path f ≡ true → is_proper f ≡ true
has-proper [] f all e = absurd (false≢true e)
has-proper (x ∷ xs) f all e = has-proper_by x f xs (same_fact f x) refl all (λ k. has-proper xs f (and_true (is_proper x) (list_all is_proper xs) all).1 k) e

roots-proper : (roots : List ℕ) → AreProper (root_facts roots)
roots-proper [] = refl
roots-proper (r ∷ rs) = roots-proper rs

-- what a step concludes is proper
abbrev OneProper : Option Fact → Type 0
OneProper o = (f : Fact) → o ≡ Some f → is_proper f ≡ true

bind-proper : {A : Type 0} (o : Option A) (g : A → Option Fact) → ((x : A) → OneProper (g x)) → OneProper (o >>= g)
bind-proper None g h f e = absurd cc
bind-proper (Some x) g h f e = h x f e

no-proper : OneProper None
no-proper f e = absurd cc

some-proper : (g : Fact) → is_proper g ≡ true → OneProper (Some g)
some-proper g p f e = let same : g ≡ f = cc in sym (ap is_proper same) ∙ p

sign-proper : (n : ℕ) (s : Bool) → OneProper (Some (facts.Sign n s))
sign-proper n s f e = let same : facts.Sign n s ≡ f = cc in ap is_proper (sym same)

atom-proper : (node : Formula) (b : Bool) → OneProper (atom_with node b)
atom-proper (formulas.Member e s) b = some-proper (facts.Member e s b) refl
atom-proper (formulas.Eq e f) b = some-proper (equal_fact e f b) refl
atom-proper (formulas.EqSet s t) b = some-proper (same_set_fact s t b) refl
atom-proper _ b = no-proper

cond-proper : (b : Bool) (x y : Option Fact) → OneProper x → OneProper y → OneProper (if b then x else y)
cond-proper true x y p q = p
cond-proper false x y p q = q

one-proper : (o : Option Fact) (bs : List (List Fact)) → OneProper o → rules.one o ≡ Some bs → list_all (λ b. list_all is_proper b) bs ≡ true
one-proper None bs h e = absurd cc
one-proper (Some f) bs h e =
    let same : (f ∷ []) ∷ [] ≡ bs = cc in
    subst (λ l. list_all (λ b. list_all is_proper b) l ≡ true) same (ap (λ t. (t && true) && true) (h f refl))

cut-proper : (problem : Parts) (name : FactName) (bs : List (List Fact)) → rules.cut_of problem name ≡ Some bs → list_all (λ b. list_all is_proper b) bs ≡ true
cut-proper problem name bs e = by_name problem name bs (rules.names_fact problem name) refl e where
  fork : (plus minus : Fact) (bs : List (List Fact)) → is_proper plus ≡ true → is_proper minus ≡ true → ◌≡◌ {A = Option (List (List Fact))} (Some ((plus ∷ []) ∷ (minus ∷ []) ∷ [])) (Some bs) → list_all (λ b. list_all is_proper b) bs ≡ true
  fork plus minus bs p q e =
      let same : (plus ∷ []) ∷ (minus ∷ []) ∷ [] ≡ bs = cc in
      subst (λ l. list_all (λ b. list_all is_proper b) l ≡ true) same (ap (λ t. (t && true) && ((is_proper minus && true) && true)) p ∙ ap (λ t. (t && true) && true) q)

  by_name : (problem : Parts) (name : FactName) (bs : List (List Fact)) (b : Bool) → rules.names_fact problem name ≡ b → (if b then Some ((named name true ∷ []) ∷ (named name false ∷ []) ∷ []) else None) ≡ Some bs → list_all (λ b. list_all is_proper b) bs ≡ true
  by_name problem name bs false t e = absurd cc
  by_name problem (names.Sign f) bs true t e = fork (facts.Sign f true) (facts.Sign f false) bs refl refl e
  by_name problem (names.Member m s) bs true t e = fork (facts.Member m s true) (facts.Member m s false) bs refl refl e
  by_name problem (names.Eq m s) bs true t e = fork (facts.Eq m s true) (facts.Eq m s false) bs refl refl e
  by_name problem (names.EqSet m s) bs true t e = fork (facts.EqSet m s true) (facts.EqSet m s false) bs refl refl e
  by_name problem (names.Empty cube) bs true t e = absurd (false≢true t)

differ-proper : (o : Option ℕ) (pair : ℕ × ℕ) (bs : List (List Fact)) → (o >>= λ d. Some (tells_apart d pair true ∷ tells_apart d pair false ∷ [])) ≡ Some bs → list_all (λ b. list_all is_proper b) bs ≡ true
differ-proper None pair bs e = absurd cc
differ-proper (Some d) pair bs e =
    let same : tells_apart d pair true ∷ tells_apart d pair false ∷ [] ≡ bs = cc in
    subst (λ l. list_all (λ b. list_all is_proper b) l ≡ true) same refl

step-proper : (problem : Parts) (path : List Fact) (step : Step) (bs : List (List Fact)) → step_branches problem path step ≡ Some bs → list_all (λ b. list_all is_proper b) bs ≡ true
step-proper problem path (Plain (plain.Atom n)) bs e =
    one-proper (atom_of problem path n) bs (bind-proper (formula_at problem n) _ (λ node. bind-proper (sign_of path n) _ (λ s. atom-proper node s))) e
step-proper problem path (Plain (plain.All n p)) bs e =
    one-proper (all_of problem path n p) bs (bind-proper (formula_at problem n) _ (λ node. bind-proper (parts_sign path n node) _ (λ s. bind-proper (part_at node p) _ (λ f. sign-proper f s)))) e
step-proper problem path (Plain (plain.Unit n p)) bs e =
    one-proper (unit_of problem path n p) bs (bind-proper (formula_at problem n) _ (λ node. cond-proper _ _ _ (bind-proper (own_sign path node) _ (λ s. sign-proper n s)) (bind-proper (part_at node p) _ (λ f. bind-proper (part_sign path n node p) _ (λ s. sign-proper f s))))) e
step-proper problem path (Plain (plain.Cut name)) bs e = cut-proper problem name bs e
step-proper problem path (Plain (plain.Op x n p)) bs e =
    one-proper (op_of problem path x n p) bs (bind-proper (set_at problem n) _ (λ node. bind-proper (argument n node p) _ (λ s. bind-proper (op_sign problem path x n node p) _ (λ b. some-proper (facts.Member x s b) refl)))) e
step-proper problem path (Plain (plain.Single x s)) bs e =
    one-proper (into_single problem path x s) bs (bind-proper (single_of (set_at problem s)) _ (λ f. bind-proper (equal_of path x f) _ (λ b. some-proper (facts.Member x s b) refl))) e
step-proper problem path (Plain (plain.Unsingle x s)) bs e =
    one-proper (from_single problem path x s) bs (bind-proper (single_of (set_at problem s)) _ (λ f. bind-proper (within_of path x s) _ (λ b. some-proper (equal_fact x f b) refl))) e
step-proper problem path (Plain (plain.Carry x y s)) bs e =
    one-proper (carry_of path x y s) bs (cond-proper _ _ _ (bind-proper (within_of path x s) _ (λ b. some-proper (facts.Member y s b) refl)) no-proper) e
step-proper problem path (Plain (plain.Apart x y s)) bs e =
    one-proper (apart_of path x y s) bs (cond-proper _ _ _ (some-proper (equal_fact x y false) refl) no-proper) e
step-proper problem path (Plain (plain.Move x s t)) bs e =
    one-proper (move_of path x s t) bs (cond-proper _ _ _ (bind-proper (within_of path x s) _ (λ b. some-proper (facts.Member x t b) refl)) no-proper) e
step-proper problem path (Plain (plain.SetApart x s t)) bs e =
    one-proper (set_apart_of path x s t) bs (cond-proper _ _ _ (some-proper (same_set_fact s t false) refl) no-proper) e
step-proper problem path (Plain (plain.EqRefl x)) bs e =
    one-proper (reflexive_of problem x) bs (bind-proper (element_at problem x) _ (λ node. some-proper (facts.Eq x x true) refl)) e
step-proper problem path (Plain (plain.EqStep x y z)) bs e =
    one-proper (equal_step_of path x y z) bs (bind-proper (chained (equal path x y) (equal path y z)) _ (λ b. some-proper (equal_fact x z b) refl)) e
step-proper problem path (Plain (plain.SeqRefl s)) bs e =
    one-proper (set_reflexive_of problem s) bs (bind-proper (set_at problem s) _ (λ node. some-proper (facts.EqSet s s true) refl)) e
step-proper problem path (Plain (plain.SeqStep s t u)) bs e =
    one-proper (set_step_of path s t u) bs (bind-proper (chained (same_set path s t) (same_set path t u)) _ (λ b. some-proper (same_set_fact s u b) refl)) e
step-proper problem path (Plain (plain.Differ s t)) bs e = differ-proper (differing problem path s t) (ordered s t) bs e

-- the name of a cut that applies is a fact's
cut-named : (problem : Parts) (name : FactName) (b : Bool) (bs : List (List Fact)) → rules.names_fact problem name ≡ b → (if b then Some ((named name true ∷ []) ∷ (named name false ∷ []) ∷ []) else None) ≡ Some bs → is_name name ≡ true
cut-named problem name false bs t e = absurd cc
cut-named problem (names.Sign f) true bs t e = refl
cut-named problem (names.Member m s) true bs t e = refl
cut-named problem (names.Eq m s) true bs t e = ap (λ c. c && true) (and_true (nat_le m s) _ t).0
cut-named problem (names.EqSet m s) true bs t e = ap (λ c. c && true) (and_true (nat_le m s) _ t).0
cut-named problem (names.Empty cube) true bs t e = absurd (false≢true t)

step-named : (problem : Parts) (path : List Fact) (step : Step) (bs : List (List Fact)) → step_branches problem path step ≡ Some bs → is_node (nodes.Step step) ≡ true
step-named problem path (Plain (plain.Cut name)) bs e = cut-named problem name (rules.names_fact problem name) bs refl e
step-named problem path (Plain _) bs e = refl

-- and so is the name of a clash that holds on a proper path
name-proper : (name : FactName) → is_proper (named name true) ≡ true → name_has_plus name ≡ true
name-proper (names.Sign f) e = refl
name-proper (names.Member m s) e = refl
name-proper (names.Eq m s) e = refl
name-proper (names.EqSet m s) e = refl
name-proper (names.Empty cube) e = e

no-fault : (b : Bool) → (if b then None else Some Q2) ≡ None → b ≡ true
no-fault true e = refl
no-fault false e = absurd cc

closing-named : (lists : List (List Fact)) (path : List Fact) (c : Closing) → AreProper path → closing_fault lists path c ≡ None → is_node (nodes.Closing c) ≡ true
closing-named lists path (Clash name) all e =
    let parts = and_true (is_ordered name) _ (no-fault (clashes path name) e) in
    let signs = and_true (has path (named name true)) (has path (named name false)) parts.1 in
    ap (λ t. t && name_has_plus name) parts.0 ∙ name-proper name (has-proper path (named name true) all signs.0)

nodes-append : (xs ys : List Node) → are_nodes xs ≡ true → are_nodes ys ≡ true → are_nodes (xs ++ ys) ≡ true
nodes-append [] ys a b = b
nodes-append (x ∷ xs) ys a b =
    let both = and_true (is_node x) (list_all is_node xs) a in
    ap (λ t. t && list_all is_node (xs ++ ys)) both.0 ∙ nodes-append xs ys both.1 b

module _ (problem : Parts) (lists : List (List Fact)) where
  branch-proper : (path b : List Fact) (step : Step) → AreProper path → step_branches problem path step ≡ Some (b ∷ []) → AreProper (path ++ b)
  branch-proper path b step all e = all-append path b all (and_true (list_all is_proper b) true (step-proper problem path step (b ∷ []) e)).0

  left-proper : (path a b : List Fact) (step : Step) → AreProper path → step_branches problem path step ≡ Some (a ∷ b ∷ []) → AreProper (path ++ a)
  left-proper path a b step all e = all-append path a all (and_true (list_all is_proper a) _ (step-proper problem path step (a ∷ b ∷ []) e)).0

  right-proper : (path a b : List Fact) (step : Step) → AreProper path → step_branches problem path step ≡ Some (a ∷ b ∷ []) → AreProper (path ++ b)
  right-proper path a b step all e = all-append path b all (and_true (list_all is_proper b) true (and_true (list_all is_proper a) _ (step-proper problem path step (a ∷ b ∷ []) e)).1).0

  closed-tree : (path : List Fact) (ns : List Node) → Closed problem lists path ns → IsTree ns
  closed-tree path ns (closing _ c e) = tree.leaf (nodes.Closing c) refl
  closed-tree path ns (one _ b step below e t) = tree.one (nodes.Step step) below (sym (count_of_branches problem path step (b ∷ []) e)) (closed-tree (path ++ b) below t)
  closed-tree path ns (two _ a b step first second e l r) = tree.two (nodes.Step step) first second (sym (count_of_branches problem path step (a ∷ b ∷ []) e)) (closed-tree (path ++ a) first l) (closed-tree (path ++ b) second r)

  closed-named : (path : List Fact) (ns : List Node) → AreProper path → Closed problem lists path ns → are_nodes ns ≡ true
  closed-named path ns all (closing _ c e) = ap (λ t. t && true) (closing-named lists path c all e)
  closed-named path ns all (one _ b step below e t) =
      ap (λ x. x && are_nodes below) (step-named problem path step (b ∷ []) e) ∙ closed-named (path ++ b) below (branch-proper path b step all e) t
  closed-named path ns all (two _ a b step first second e l r) =
      ap (λ x. x && are_nodes (first ++ second)) (step-named problem path step (a ∷ b ∷ []) e) ∙ nodes-append first second (closed-named (path ++ a) first (left-proper path a b step all e) l) (closed-named (path ++ b) second (right-proper path a b step all e) r)

pub closed_is_tree : (problem : Parts) (lists : List (List Fact)) (ns : List Node) → Closed problem lists (root_facts problem.roots) ns → IsTree ns
closed_is_tree problem lists ns t = closed-tree problem lists (root_facts problem.roots) ns t

pub closed_is_named : (problem : Parts) (lists : List (List Fact)) (ns : List Node) → Closed problem lists (root_facts problem.roots) ns → are_nodes ns ≡ true
closed_is_named problem lists ns t = closed-named problem lists (root_facts problem.roots) ns (roots-proper problem.roots) t
