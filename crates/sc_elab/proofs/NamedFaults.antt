-- The faults of terms and sorts are among those named.
use Rattle.std.proofs.Common.{◌≡◌, ℕ, suc, Bool, true, false, List, [], ◌∷◌, Option, Some, None, refl, subst}
use Rattle.std.specs.Prelude.{if◌then◌else◌, Result, Ok, Err}
use Rattle.sc_text.specs.declared.code.Code.{Code}
use Rattle.sc_text.specs.declared.code.Code.TheVariants as code
use Rattle.sc_text.specs.declared.token.Kind.{Kind}
use Rattle.sc_text.specs.declared.token.Kind.TheVariants as kind
use Rattle.sc_text.specs.Names.{is_reserved, between}
use Rattle.sc_sexpr.specs.Shapes.{Shape, Single, Listed, Shapes, Empty, More}
use Rattle.sc_terms.specs.declared.nodes.Node.{Node}
use Rattle.sc_terms.specs.declared.nodes.Node.TheVariants as nodes
use Rattle.sc_terms.specs.declared.nodes.Formula.{Formula}
use Rattle.sc_terms.specs.declared.nodes.Formula.TheVariants as formulas
use Rattle.sc_terms.specs.declared.nodes.SetTerm.{SetTerm}
use Rattle.sc_terms.specs.declared.nodes.SetTerm.TheVariants as sets
use Rattle.sc_terms.specs.declared.nodes.Element.TheVariants as elements
use Rattle.sc_terms.specs.declared.nodes.Sort.{Sort}
use Rattle.sc_terms.specs.declared.nodes.Sort.TheVariants as sorts
use Rattle.sc_terms.specs.Bank.{takes, number_of, with_node, limit}
use Rattle.sc_terms.specs.Same.{same_sort}
use Rattle.sc_stack.specs.declared.stack.Named.{Named}
use Rattle.sc_stack.specs.declared.stack.Named.TheVariants as named
use Rattle.sc_stack.specs.Names.{Names, look_up}
use Rattle.sc_elab.specs.declared.meant.Meant.{Meant}
use Rattle.sc_elab.specs.declared.heads.Head.{Head}
use Rattle.sc_elab.specs.declared.heads.Head.TheVariants as heads
use Rattle.sc_elab.specs.declared.set_terms.Join.{Join}
use Rattle.sc_elab.specs.declared.set_terms.Join.TheVariants as joins
use Rattle.sc_elab.specs.declared.words.Operator.{Operator}
use Rattle.sc_elab.specs.declared.words.Operator.TheVariants as op
use Rattle.sc_elab.specs.declared.words.Word.{Word}
use Rattle.sc_elab.specs.declared.words.Word.TheVariants as word
use Rattle.sc_elab.specs.Words.{word_of}
use Rattle.sc_elab.specs.Heads.{head_of}
use Rattle.sc_elab.specs.States.{State, Outcome, Done, Fault, bind, each, put, put_formula, put_set}
use Rattle.sc_elab.specs.Builds.{negation, disjunction, from_left, from_right, equal, difference, exclusive_or, equation, neighbours, pairs, conjoined, conjunction, chain, apart, choice, single, union, joined, inclusion, build}
use Rattle.sc_elab.specs.Elab.{meant, leaf_formula, leaf_value, constant, empty_set, first_sort, sort_made, named_term, word_term, name_term, token_term, numbers, deepest, application_fault, built, apply, list_term, term, behind_head, terms, need_bool, core}
use Rattle.std.specs.Str.{bytes_eq}
use Rattle.std.specs.Prelude.{⊤, not, nat_lt, codes}
use Rattle.sc_text.specs.Names.{is_among, is_left_out_operator}
use Rattle.sc_elab.specs.Counts.{count, is_end}
use Rattle.sc_elab.specs.Words.{symbol_name, takes_count}
use Rattle.sc_elab.specs.Heads.{not_done, is_let, is_annotation, empty_of, empty_form, as_named, as_form, left_out_heads, reserved_head, list_head, named_head, word_head, token_head}
use Rattle.sc_elab.specs.Elab.{fits, is_done, depth_limit}
use Rattle.sc_elab.specs.Sorts.{declared_sort, named_sort, named_sets, is_set_word, sets_of, sets_of_parts, token_sort, list_sort, sort_of}
use Rattle.sc_elab.specs.Faults.{is_term_fault, is_sort_fault}

-- ---- sorts
abbrev HasSortFault : {A : Type 0} → Result A Code → Type 0
HasSortFault (Ok a) = ⊤
HasSortFault (Err fault) = is_sort_fault fault ≡ true

sort_if : {A : Type 0} (b : Bool) (x y : Result A Code) → HasSortFault x → HasSortFault y → HasSortFault (if b then x else y)
sort_if true x y h k = h
sort_if false x y h k = k

of_declared : (f : ℕ → Sort) (o : Option Named) → HasSortFault (declared_sort f o)
of_declared f (Some (named.Sort n)) = tt
of_declared f (Some (named.Constant n sort)) = refl
of_declared f None = refl

of_named : (names : Names) (name : List ℕ) → HasSortFault (named_sort names name)
of_named names name =
    sort_if (bytes_eq (codes "Bool") name) (Ok sorts.Bool) (if bytes_eq (codes "Int") name then Err code.E8 else declared_sort sorts.Named (look_up names name)) tt
    (sort_if (bytes_eq (codes "Int") name) (Err code.E8) (declared_sort sorts.Named (look_up names name)) refl (of_declared sorts.Named (look_up names name)))

of_sets : (names : Names) (name : List ℕ) → HasSortFault (named_sets names name)
of_sets names name =
    sort_if (bytes_eq (codes "Bool") name) (Err code.E8) (if bytes_eq (codes "Int") name then Err code.E8 else declared_sort sorts.SetNamed (look_up names name)) refl
    (sort_if (bytes_eq (codes "Int") name) (Err code.E8) (declared_sort sorts.SetNamed (look_up names name)) refl (of_declared sorts.SetNamed (look_up names name)))

of_symbol : (names : Names) (o : Option (List ℕ)) (alone : Bool) → HasSortFault (sets_of names o alone)
of_symbol names (Some name) true = of_sets names name
of_symbol names (Some name) false = refl
of_symbol names None alone = refl

of_parts : (names : Names) (parts : Shapes) → HasSortFault (sets_of_parts names parts)
of_parts names Empty = refl
of_parts names (More s rest) = of_symbol names (symbol_name s) (is_end rest)

of_list : (names : Names) (parts : Shapes) → HasSortFault (list_sort names parts)
of_list names Empty = refl
of_list names (More head rest) = sort_if (is_set_word (symbol_name head)) (sets_of_parts names rest) (Err code.E8) (of_parts names rest) refl

of_token : (names : Names) (o : Option (List ℕ)) → HasSortFault (token_sort names o)
of_token names (Some name) = of_named names name
of_token names None = refl

of_sort : (names : Names) (t : Shape) → HasSortFault (sort_of names t)
of_sort names (Single k text start line) = of_token names (symbol_name (Single k text start line))
of_sort names (Listed line parts) = of_list names parts

pub sort_faults : (names : Names) (t : Shape) (fault : Code) → sort_of names t ≡ Err fault → is_sort_fault fault ≡ true
sort_faults names t fault e = subst HasSortFault e (of_sort names t)

of_terms_too : (fault : Code) → is_sort_fault fault ≡ true → is_term_fault fault ≡ true
of_terms_too code.E5 h = refl
of_terms_too code.E6 h = refl
of_terms_too code.E8 h = refl
of_terms_too fault h = absurd cc

-- ---- heads
abbrev HasFault : {A : Type 0} → Result A Code → Type 0
HasFault (Ok a) = ⊤
HasFault (Err fault) = is_term_fault fault ≡ true

head_if : {A : Type 0} (b : Bool) (x y : Result A Code) → HasFault x → HasFault y → HasFault (if b then x else y)
head_if true x y h k = h
head_if false x y h k = k

at_not_done : (b : Bool) → is_term_fault (not_done b) ≡ true
at_not_done true = refl
at_not_done false = refl

at_empty : (r : Result Sort Code) → HasSortFault r → HasFault (empty_of r)
at_empty (Ok sort) h = tt
at_empty (Err fault) h = of_terms_too fault h

at_form : (names : Names) (rest : Shapes) → HasFault (empty_form names rest)
at_form names (More (Listed line inner) rest) = head_if (is_end rest) (empty_of (list_sort names inner)) (Err code.E5) (at_empty (list_sort names inner) (of_list names inner)) refl
at_form names rest = refl

at_as_named : (names : Names) (o : Option (List ℕ)) (rest : Shapes) → HasFault (as_named names o rest)
at_as_named names None rest = refl
at_as_named names (Some name) rest =
    head_if (is_left_out_operator name) (Err code.E8) (if bytes_eq (codes "set.empty") name then empty_form names rest else Err code.E5) refl
    (head_if (bytes_eq (codes "set.empty") name) (empty_form names rest) (Err code.E5) (at_form names rest) refl)

at_as : (names : Names) (rest : Shapes) → HasFault (as_form names rest)
at_as names Empty = refl
at_as names (More s rest) = at_as_named names (symbol_name s) rest

at_reserved : (names : Names) (text : List ℕ) (rest : Shapes) → HasFault (reserved_head names text rest)
at_reserved names text rest =
    head_if (is_among text left_out_heads) _ _ refl
    (head_if (bytes_eq (codes "let") text) _ _ (at_not_done (is_let rest))
    (head_if (bytes_eq (codes "!") text) _ _ (at_not_done (is_annotation rest))
    (head_if (bytes_eq (codes "as") text) _ _ (at_as names rest) refl)))

at_list : (inner : Shapes) → is_term_fault (list_head inner) ≡ true
at_list (More (Single kind.Word text start line) rest) = at_not_done (bytes_eq (codes "_") text)
at_list inner = refl

at_named : (o : Option Named) → is_term_fault (named_head o) ≡ true
at_named (Some (named.Constant n sort)) = refl
at_named (Some (named.Sort n)) = refl
at_named None = refl

at_word : (names : Names) (w : Word) (name : List ℕ) (n : ℕ) → HasFault (word_head names w name n)
at_word names (word.Operator o) name n = head_if (takes_count o n) (Ok (heads.Operator o)) (Err code.E7) tt refl
at_word names word.True name n = refl
at_word names word.False name n = refl
at_word names word.EmptySet name n = refl
at_word names word.Outside name n = refl
at_word names word.Free name n = at_named (look_up names name)

at_token : (names : Names) (k : Kind) (text : List ℕ) (rest : Shapes) → HasFault (token_head names k text rest)
at_token names kind.Word text rest = head_if (is_reserved text) (reserved_head names text rest) (word_head names (word_of text) text (count rest)) (at_reserved names text rest) (at_word names (word_of text) text (count rest))
at_token names kind.Quoted text rest = at_word names (word_of (between text)) (between text) (count rest)
at_token names kind.Foreign text rest = refl
at_token names k text rest = refl

at_head : (names : Names) (parts : Shapes) → HasFault (head_of names parts)
at_head names Empty = refl
at_head names (More (Single k text start line) rest) = at_token names k text rest
at_head names (More (Listed line inner) rest) = at_list inner

-- ---- nodes that are put
abbrev Keeps : {A : Type 0} → Outcome A → Type 0
Keeps (Done a bank) = ⊤
Keeps (Fault fault bank) = is_term_fault fault ≡ true

keeps_bind : {A B : Type 0} (o : Outcome A) (k : A → List Node → Outcome B) → Keeps o → ((a : A) (bank : List Node) → Keeps (k a bank)) → Keeps (bind o k)
keeps_bind (Done a bank) k h next = next a bank
keeps_bind (Fault fault bank) k h next = h

keeps_each : {X A : Type 0} (f : X → List Node → Outcome A) → ((x : X) (bank : List Node) → Keeps (f x bank)) → (xs : List X) (bank : List Node) → Keeps (each f xs bank)
keeps_each f one [] bank = tt
keeps_each f one (x ∷ xs) bank =
    keeps_bind (f x bank) (λ a b. bind (each f xs b) (λ more c. Done (a ∷ more) c)) (one x bank)
    (λ a b. keeps_bind (each f xs b) (λ more c. Done (a ∷ more) c) (keeps_each f one xs b) (λ more c. tt))

keeps_put : (x : Node) (bank : List Node) → Keeps (put x bank)
keeps_put x bank = by (takes bank x) where
  by : (b : Bool) → Keeps (if b then Done (number_of bank x) (with_node bank x) else Fault (code.E16 limit) bank)
  by true = tt
  by false = refl

keeps_formula : (f : Formula) (bank : List Node) → Keeps (put_formula f bank)
keeps_formula f bank = keeps_put (nodes.Formula f) bank

keeps_set : (s : SetTerm) (bank : List Node) → Keeps (put_set s bank)
keeps_set s bank = keeps_put (nodes.Set s) bank

-- ---- formulas of operators
keeps_left : (two : ℕ → ℕ → List Node → Outcome ℕ) → ((x y : ℕ) (bank : List Node) → Keeps (two x y bank)) → (x : ℕ) (ys : List ℕ) (bank : List Node) → Keeps (from_left two x ys bank)
keeps_left two each_two x [] bank = tt
keeps_left two each_two x (y ∷ ys) bank = keeps_bind (two x y bank) (λ n b. from_left two n ys b) (each_two x y bank) (λ n b. keeps_left two each_two n ys b)

keeps_right : (one : ℕ → List Node → Outcome ℕ) (two : ℕ → ℕ → List Node → Outcome ℕ) → ((x : ℕ) (bank : List Node) → Keeps (one x bank)) → ((x y : ℕ) (bank : List Node) → Keeps (two x y bank)) → (xs : List ℕ) (bank : List Node) → Keeps (from_right one two xs bank)
keeps_right one two each_one each_two [] bank = refl
keeps_right one two each_one each_two (x ∷ []) bank = tt
keeps_right one two each_one each_two (x ∷ y ∷ ys) bank =
    keeps_bind (one x bank) (λ n b. bind (from_right one two (y ∷ ys) b) (λ m c. two n m c)) (each_one x bank)
    (λ n b. keeps_bind (from_right one two (y ∷ ys) b) (λ m c. two n m c) (keeps_right one two each_one each_two (y ∷ ys) b) (λ m c. each_two n m c))

keeps_equation : (sort : Sort) (p : ℕ × ℕ) (bank : List Node) → Keeps (equation sort p bank)
keeps_equation sort p bank = keeps_formula (equal sort p.0 p.1) bank

keeps_difference : (sort : Sort) (p : ℕ × ℕ) (bank : List Node) → Keeps (difference sort p bank)
keeps_difference sort p bank = keeps_bind (equation sort p bank) (λ n b. put_formula (formulas.Not n) b) (keeps_equation sort p bank) (λ n b. keeps_formula (formulas.Not n) b)

keeps_joined : (join : Join) (s t : ℕ) (bank : List Node) → Keeps (joined join s t bank)
keeps_joined joins.Union s t bank = keeps_set (sets.Union s t) bank
keeps_joined joins.Inter s t bank = keeps_set (sets.Inter s t) bank

keeps_inclusion : (sort : Sort) (s t : ℕ) (bank : List Node) → Keeps (inclusion sort s t bank)
keeps_inclusion sort s t bank =
    keeps_bind (put_set (sets.Minus s t) bank) (λ m b1. bind (put_set (sets.Empty sort) b1) (λ e b2. put_formula (formulas.EqSet m e) b2)) (keeps_set (sets.Minus s t) bank)
    (λ m b1. keeps_bind (put_set (sets.Empty sort) b1) (λ e b2. put_formula (formulas.EqSet m e) b2) (keeps_set (sets.Empty sort) b1)
    (λ e b2. keeps_formula (formulas.EqSet m e) b2))

keeps_conjunction : (fs : List ℕ) (bank : List Node) → Keeps (conjunction fs bank)
keeps_conjunction [] bank = keeps_formula (formulas.And []) bank
keeps_conjunction (f ∷ []) bank = tt
keeps_conjunction (f ∷ g ∷ fs) bank = keeps_formula (formulas.And (f ∷ g ∷ fs)) bank

keeps_chain : (sort : Sort) (x : ℕ) (xs : List ℕ) (bank : List Node) → Keeps (chain sort x xs bank)
keeps_chain sort x xs bank = keeps_bind (each (equation sort) (neighbours (x ∷ xs)) bank) conjunction (keeps_each (equation sort) (keeps_equation sort) (neighbours (x ∷ xs)) bank) keeps_conjunction

keeps_apart : (sort : Sort) (xs : List ℕ) (bank : List Node) → Keeps (apart sort xs bank)
keeps_apart sort xs bank = keeps_bind (each (difference sort) (pairs xs) bank) conjunction (keeps_each (difference sort) (keeps_difference sort) (pairs xs) bank) keeps_conjunction

keeps_choice : (c f g : ℕ) (bank : List Node) → Keeps (choice c f g bank)
keeps_choice c f g bank =
    keeps_bind (negation c bank) (λ n b1. bind (disjunction n f b1) (λ x b2. bind (disjunction c g b2) (λ y b3. conjoined (x ∷ y ∷ []) b3))) (keeps_formula (formulas.Not c) bank)
    (λ n b1. keeps_bind (disjunction n f b1) (λ x b2. bind (disjunction c g b2) (λ y b3. conjoined (x ∷ y ∷ []) b3)) (keeps_formula (formulas.Or (n ∷ f ∷ [])) b1)
    (λ x b2. keeps_bind (disjunction c g b2) (λ y b3. conjoined (x ∷ y ∷ []) b3) (keeps_formula (formulas.Or (c ∷ g ∷ [])) b2)
    (λ y b3. keeps_formula (formulas.And (x ∷ y ∷ [])) b3)))

keeps_build : (o : Operator) (sort : Sort) (args : List ℕ) (bank : List Node) → Keeps (build o sort args bank)
keeps_build op.Not sort (f ∷ []) bank = keeps_formula (formulas.Not f) bank
keeps_build op.Not sort args bank = refl
keeps_build op.And sort fs bank = keeps_formula (formulas.And fs) bank
keeps_build op.Or sort fs bank = keeps_formula (formulas.Or fs) bank
keeps_build op.Implies sort fs bank = keeps_right negation disjunction (λ x b. keeps_formula (formulas.Not x) b) (λ x y b. keeps_formula (formulas.Or (x ∷ y ∷ [])) b) fs bank
keeps_build op.Xor sort [] bank = refl
keeps_build op.Xor sort (f ∷ fs) bank = keeps_left exclusive_or (λ x y b. keeps_difference sorts.Bool (x, y) b) f fs bank
keeps_build op.Equal sort [] bank = refl
keeps_build op.Equal sort (x ∷ xs) bank = keeps_chain sort x xs bank
keeps_build op.Distinct sort xs bank = keeps_apart sort xs bank
keeps_build op.Choice sort (c ∷ f ∷ g ∷ []) bank = keeps_choice c f g bank
keeps_build op.Choice sort args bank = refl
keeps_build op.Member sort (e ∷ s ∷ []) bank = keeps_formula (formulas.Member e s) bank
keeps_build op.Member sort args bank = refl
keeps_build op.Subset sort (s ∷ t ∷ []) bank = keeps_inclusion sort s t bank
keeps_build op.Subset sort args bank = refl
keeps_build op.Union sort [] bank = refl
keeps_build op.Union sort (s ∷ ss) bank = keeps_left (joined joins.Union) (keeps_joined joins.Union) s ss bank
keeps_build op.Inter sort [] bank = refl
keeps_build op.Inter sort (s ∷ ss) bank = keeps_left (joined joins.Inter) (keeps_joined joins.Inter) s ss bank
keeps_build op.Minus sort (s ∷ t ∷ []) bank = keeps_set (sets.Minus s t) bank
keeps_build op.Minus sort args bank = refl
keeps_build op.Singleton sort (e ∷ []) bank = keeps_set (sets.Single e) bank
keeps_build op.Singleton sort args bank = refl
keeps_build op.Insert sort args bank = keeps_right single union (λ x b. keeps_set (sets.Single x) b) (λ x y b. keeps_set (sets.Union x y) b) args bank

-- the fault, if there is one, is among those named
abbrev IsNamed : Option Code → Type 0
IsNamed None = ⊤
IsNamed (Some fault) = is_term_fault fault ≡ true

named_if : (b : Bool) (x y : Option Code) → IsNamed x → IsNamed y → IsNamed (if b then x else y)
named_if true x y h k = h
named_if false x y h k = k

applied : (o : Operator) (ms : List Meant) → IsNamed (application_fault o ms)
applied o ms =
    named_if (not (fits o ms)) (Some code.E7) (if not (is_done o ms) then Some code.E8 else if not (nat_lt (deepest ms) depth_limit) then Some (code.E16 depth_limit) else None) refl
    (named_if (not (is_done o ms)) (Some code.E8) (if not (nat_lt (deepest ms) depth_limit) then Some (code.E16 depth_limit) else None) refl
    (named_if (not (nat_lt (deepest ms) depth_limit)) (Some (code.E16 depth_limit)) None refl tt))

keeps_built : (fault : Option Code) (o : Operator) (ms : List Meant) (bank : List Node) → IsNamed fault → Keeps (built fault o ms bank)
keeps_built (Some fault) o ms bank h = h
keeps_built None o ms bank h = keeps_bind (build o (first_sort ms) (numbers ms) bank) (λ n b. Done (meant (sort_made o (first_sort ms)) (suc (deepest ms)) n) b) (keeps_build o (first_sort ms) (numbers ms) bank) (λ n b. tt)

-- ---- terms of one token
keeps_leaf_formula : (x : Node) (bank : List Node) → Keeps (leaf_formula x bank)
keeps_leaf_formula x bank = keeps_bind (put x bank) (λ n b. Done (meant sorts.Bool 1 n) b) (keeps_put x bank) (λ n b. tt)

keeps_leaf_value : (sort : Sort) (x : Node) (bank : List Node) → Keeps (leaf_value sort x bank)
keeps_leaf_value sort x bank =
    keeps_bind (put_formula formulas.True bank) (λ g b. bind (put x b) (λ n c. Done (meant sort 1 n) c)) (keeps_formula formulas.True bank)
    (λ g b. keeps_bind (put x b) (λ n c. Done (meant sort 1 n) c) (keeps_put x b) (λ n c. tt))

keeps_constant : (n : ℕ) (sort : Sort) (bank : List Node) → Keeps (constant n sort bank)
keeps_constant n sorts.Bool bank = keeps_leaf_formula (nodes.Formula (formulas.Flag n)) bank
keeps_constant n (sorts.Named k) bank = keeps_leaf_value (sorts.Named k) (nodes.Element (elements.Const n (sorts.Named k))) bank
keeps_constant n (sorts.SetNamed k) bank = keeps_leaf_value (sorts.SetNamed k) (nodes.Set (sets.Const n (sorts.SetNamed k))) bank
keeps_constant n sorts.Int bank = refl
keeps_constant n sorts.SetInt bank = refl

keeps_empty : (sort : Sort) (bank : List Node) → Keeps (empty_set sort bank)
keeps_empty (sorts.SetNamed k) bank = keeps_leaf_value (sorts.SetNamed k) (nodes.Set (sets.Empty (sorts.SetNamed k))) bank
keeps_empty sort bank = refl

keeps_named : (o : Option Named) (bank : List Node) → Keeps (named_term o bank)
keeps_named (Some (named.Constant n sort)) bank = keeps_constant n sort bank
keeps_named (Some (named.Sort n)) bank = refl
keeps_named None bank = refl

keeps_word : (names : Names) (w : Word) (name : List ℕ) (bank : List Node) → Keeps (word_term names w name bank)
keeps_word names word.True name bank = keeps_leaf_formula (nodes.Formula formulas.True) bank
keeps_word names word.False name bank = keeps_leaf_formula (nodes.Formula formulas.False) bank
keeps_word names (word.Operator o) name bank = refl
keeps_word names word.EmptySet name bank = refl
keeps_word names word.Outside name bank = refl
keeps_word names word.Free name bank = keeps_named (look_up names name) bank

keeps_token : (names : Names) (k : Kind) (text : List ℕ) (bank : List Node) → Keeps (token_term names k text bank)
keeps_token names kind.Word text bank = by (is_reserved text) where
  by : (b : Bool) → Keeps (if b then Fault code.E5 bank else name_term names text bank)
  by true = refl
  by false = keeps_word names (word_of text) text bank
keeps_token names kind.Quoted text bank = keeps_word names (word_of (between text)) (between text) bank
keeps_token names k text bank = refl

-- ---- all terms
keeps_list : (head : Result Head Code) (arguments : List Node → Outcome (List Meant)) (bank : List Node) → HasFault head → Keeps (arguments bank) → Keeps (list_term head arguments bank)
keeps_list (Err fault) arguments bank h k = h
keeps_list (Ok (heads.EmptySet sort)) arguments bank h k = keeps_empty sort bank
keeps_list (Ok (heads.Operator o)) arguments bank h k = keeps_bind (arguments bank) (apply o) k (λ ms b. keeps_built (application_fault o ms) o ms b (applied o ms))

mutual
  keeps_term : (names : Names) (t : Shape) (bank : List Node) → Keeps (term names t bank)
  keeps_term names (Single k text start line) bank = keeps_token names k text bank
  keeps_term names (Listed line parts) bank = keeps_list (head_of names parts) (behind_head names parts) bank (at_head names parts) (keeps_behind names parts bank)

  keeps_behind : (names : Names) (parts : Shapes) (bank : List Node) → Keeps (behind_head names parts bank)
  keeps_behind names Empty bank = tt
  keeps_behind names (More head rest) bank = keeps_terms names rest bank

  keeps_terms : (names : Names) (parts : Shapes) (bank : List Node) → Keeps (terms names parts bank)
  keeps_terms names Empty bank = tt
  keeps_terms names (More t rest) bank =
      keeps_bind (term names t bank) (λ m b. bind (terms names rest b) (λ ms c. Done (m ∷ ms) c)) (keeps_term names t bank)
      (λ m b. keeps_bind (terms names rest b) (λ ms c. Done (m ∷ ms) c) (keeps_terms names rest b) (λ ms c. tt))

keeps_need : (m : Meant) (bank : List Node) → Keeps (need_bool m bank)
keeps_need m bank = by (same_sort sorts.Bool m.sort) where
  by : (b : Bool) → Keeps (if b then Done m.number bank else Fault code.E7 bank)
  by true = tt
  by false = refl

keeps_core : (t : Shape) (s : State) → Keeps (core t s)
keeps_core t s = keeps_bind (term s.names t s.bank) need_bool (keeps_term s.names t s.bank) keeps_need

pub term_faults : (t : Shape) (s : State) (fault : Code) (bank : List Node) → core t s ≡ Fault fault bank → is_term_fault fault ≡ true
term_faults t s fault bank e = subst Keeps e (keeps_core t s)
