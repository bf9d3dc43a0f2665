-- What may be posed of a bank may be posed of it as terms are elaborated, and the bank begins as it did, also where they are refused.
use Rattle.std.proofs.Common.{◌≡◌, ℕ, suc, Bool, true, false, List, [], ◌∷◌, ◌++◌, Option, Some, None, refl, sym, ap, ◌∙◌, subst, append_assoc, append-nil}
use Rattle.std.specs.Prelude.{if◌then◌else◌, Result, Ok, Err}
use Rattle.std.specs.List.{AllByRecursion}
use Rattle.sc_text.specs.declared.code.Code.{Code}
use Rattle.sc_text.specs.declared.code.Code.TheVariants as code
use Rattle.sc_text.specs.declared.token.Kind.{Kind}
use Rattle.sc_text.specs.declared.token.Kind.TheVariants as kind
use Rattle.sc_text.specs.Names.{is_reserved, between}
use Rattle.sc_sexpr.specs.Shapes.{Shape, Single, Listed, Shapes, Empty, More}
use Rattle.sc_terms.specs.declared.nodes.Node.{Node}
use Rattle.sc_terms.specs.declared.nodes.Node.TheVariants as nodes
use Rattle.sc_terms.specs.declared.nodes.Formula.{Formula}
use Rattle.sc_terms.specs.declared.nodes.Formula.TheVariants as formulas
use Rattle.sc_terms.specs.declared.nodes.SetTerm.{SetTerm}
use Rattle.sc_terms.specs.declared.nodes.SetTerm.TheVariants as sets
use Rattle.sc_terms.specs.declared.nodes.Element.TheVariants as elements
use Rattle.sc_terms.specs.declared.nodes.Sort.{Sort}
use Rattle.sc_terms.specs.declared.nodes.Sort.TheVariants as sorts
use Rattle.sc_base.specs.Numbered.{item_at}
use Rattle.sc_terms.specs.Bank.{IsBank, NodeHasSorts, HasSorts, Begins, has_node, takes, number_of, with_node, limit}
use Rattle.sc_terms.specs.Same.{same_sort}
use Rattle.sc_stack.specs.declared.stack.Named.{Named}
use Rattle.sc_stack.specs.declared.stack.Named.TheVariants as named
use Rattle.sc_stack.specs.Names.{Names, look_up, sorts_of}
use Rattle.sc_elab.specs.declared.meant.Meant.{Meant}
use Rattle.sc_elab.specs.declared.heads.Head.{Head}
use Rattle.sc_elab.specs.declared.heads.Head.TheVariants as heads
use Rattle.sc_elab.specs.declared.set_terms.Join.{Join}
use Rattle.sc_elab.specs.declared.set_terms.Join.TheVariants as joins
use Rattle.sc_elab.specs.declared.words.Operator.{Operator}
use Rattle.sc_elab.specs.declared.words.Operator.TheVariants as op
use Rattle.sc_elab.specs.declared.words.Word.{Word}
use Rattle.sc_elab.specs.declared.words.Word.TheVariants as word
use Rattle.sc_elab.specs.Words.{word_of}
use Rattle.sc_elab.specs.Heads.{head_of}
use Rattle.sc_elab.specs.States.{State, state_of, Outcome, Done, Fault, bind, each, put, put_formula, put_set}
use Rattle.sc_elab.specs.Builds.{negation, disjunction, from_left, from_right, equal, difference, exclusive_or, equation, neighbours, pairs, conjoined, conjunction, chain, apart, choice, single, union, joined, inclusion, build}
use Rattle.sc_elab.specs.Elab.{meant, leaf_formula, leaf_value, constant, empty_set, first_sort, sort_made, named_term, word_term, name_term, token_term, numbers, deepest, application_fault, built, apply, list_term, term, behind_head, terms, need_bool, core}
use Rattle.sc_sorts.specs.Sorted.{IsWellSortedBank}
use Rattle.sc_sorts.specs.Posed.{IsIntlessNode, IsCardlessNode, IsPosedBank}
use Rattle.sc_elab.proofs.SortedBanks.{NumbersStand}
use Rattle.sc_elab.proofs.SortedTerms.{done_sorted, fault_sorted}

-- the sort of a constant that a name names is the one that is known for it
abbrev pub ConstantsHaveSorts : Type 0
ConstantsHaveSorts = (names : Names) (name : List ℕ) (number : ℕ) (sort : Sort) → look_up names name ≡ Some (named.Constant number sort) → item_at (sorts_of names) number ≡ Some sort

-- a constant of the node has the sort that is known for it, and neither an integer nor a card stands in it
abbrev IsPosedNode : List Sort → Node → Type 0
IsPosedNode known x = NodeHasSorts known x × IsIntlessNode x × IsCardlessNode x

-- ---- what is true of a bank, and stays so where such a node is put behind it
module _ (have_sorts : ConstantsHaveSorts) (names : Names) (Is : List Node → Type 0) (more : (bank : List Node) (x : Node) → Is bank → IsPosedNode (sorts_of names) x → Is (bank ++ x ∷ [])) where
  abbrev known : List Sort
  known = sorts_of names

  -- so it is of the bank behind, whatever the outcome
  abbrev Keeps : {A : Type 0} → Outcome A → Type 0
  Keeps (Done a bank) = Is bank
  Keeps (Fault fault bank) = Is bank

  keeps_bind : {A B : Type 0} (o : Outcome A) (k : A → List Node → Outcome B) → Keeps o → ((a : A) (bank : List Node) → Is bank → Keeps (k a bank)) → Keeps (bind o k)
  keeps_bind (Done a bank) k h next = next a bank h
  keeps_bind (Fault fault bank) k h next = h

  keeps_each : {X A : Type 0} (f : X → List Node → Outcome A) → ((x : X) (bank : List Node) → Is bank → Keeps (f x bank)) → (xs : List X) (bank : List Node) → Is bank → Keeps (each f xs bank)
  keeps_each f one [] bank h = h
  keeps_each f one (x ∷ xs) bank h =
      keeps_bind (f x bank) (λ a b. bind (each f xs b) (λ more c. Done (a ∷ more) c)) (one x bank h)
      (λ a b k. keeps_bind (each f xs b) (λ more c. Done (a ∷ more) c) (keeps_each f one xs b k) (λ more c l. l))

  -- ---- nodes that are put
  keeps_put : (x : Node) (bank : List Node) → IsPosedNode known x → Is bank → Keeps (put x bank)
  keeps_put x bank p h = by (takes bank x) where
    with : (b : Bool) → Is (if b then bank else bank ++ x ∷ [])
    with true = h
    with false = more bank x h p

    by : (b : Bool) → Keeps (if b then Done (number_of bank x) (with_node bank x) else Fault (code.E16 limit) bank)
    by true = with (has_node bank x)
    by false = h

  keeps_formula : (f : Formula) (bank : List Node) → IsPosedNode known (nodes.Formula f) → Is bank → Keeps (put_formula f bank)
  keeps_formula f bank p h = keeps_put (nodes.Formula f) bank p h

  -- ---- formulas of operators
  keeps_set : (s : SetTerm) (bank : List Node) → IsPosedNode known (nodes.Set s) → Is bank → Keeps (put_set s bank)
  keeps_set s bank p h = keeps_put (nodes.Set s) bank p h

  keeps_left : (two : ℕ → ℕ → List Node → Outcome ℕ) → ((x y : ℕ) (bank : List Node) → Is bank → Keeps (two x y bank)) → (x : ℕ) (ys : List ℕ) (bank : List Node) → Is bank → Keeps (from_left two x ys bank)
  keeps_left two each_two x [] bank h = h
  keeps_left two each_two x (y ∷ ys) bank h = keeps_bind (two x y bank) (λ n b. from_left two n ys b) (each_two x y bank h) (λ n b i. keeps_left two each_two n ys b i)

  keeps_right : (one : ℕ → List Node → Outcome ℕ) (two : ℕ → ℕ → List Node → Outcome ℕ) → ((x : ℕ) (bank : List Node) → Is bank → Keeps (one x bank)) → ((x y : ℕ) (bank : List Node) → Is bank → Keeps (two x y bank)) → (xs : List ℕ) (bank : List Node) → Is bank → Keeps (from_right one two xs bank)
  keeps_right one two each_one each_two [] bank h = h
  keeps_right one two each_one each_two (x ∷ []) bank h = h
  keeps_right one two each_one each_two (x ∷ y ∷ ys) bank h =
      keeps_bind (one x bank) (λ n b. bind (from_right one two (y ∷ ys) b) (λ m c. two n m c)) (each_one x bank h)
      (λ n b i. keeps_bind (from_right one two (y ∷ ys) b) (λ m c. two n m c) (keeps_right one two each_one each_two (y ∷ ys) b i) (λ m c j. each_two n m c j))

  posed_equal : (sort : Sort) (x y : ℕ) → IsPosedNode known (nodes.Formula (equal sort x y))
  posed_equal sorts.Bool x y = (tt, tt, tt)
  posed_equal sorts.Int x y = (tt, tt, tt)
  posed_equal (sorts.Named k) x y = (tt, tt, tt)
  posed_equal sorts.SetInt x y = (tt, tt, tt)
  posed_equal (sorts.SetNamed k) x y = (tt, tt, tt)

  keeps_equation : (sort : Sort) (p : ℕ × ℕ) (bank : List Node) → Is bank → Keeps (equation sort p bank)
  keeps_equation sort p bank h = keeps_formula (equal sort p.0 p.1) bank (posed_equal sort p.0 p.1) h

  keeps_difference : (sort : Sort) (p : ℕ × ℕ) (bank : List Node) → Is bank → Keeps (difference sort p bank)
  keeps_difference sort p bank h =
      keeps_bind (equation sort p bank) (λ n b. put_formula (formulas.Not n) b) (keeps_equation sort p bank h)
      (λ n b i. keeps_formula (formulas.Not n) b (tt, tt, tt) i)

  keeps_joined : (join : Join) (s t : ℕ) (bank : List Node) → Is bank → Keeps (joined join s t bank)
  keeps_joined joins.Union s t bank h = keeps_set (sets.Union s t) bank (tt, tt, tt) h
  keeps_joined joins.Inter s t bank h = keeps_set (sets.Inter s t) bank (tt, tt, tt) h

  keeps_inclusion : (sort : Sort) (s t : ℕ) (bank : List Node) → Is bank → Keeps (inclusion sort s t bank)
  keeps_inclusion sort s t bank h =
      keeps_bind (put_set (sets.Minus s t) bank) (λ m b1. bind (put_set (sets.Empty sort) b1) (λ e b2. put_formula (formulas.EqSet m e) b2)) (keeps_set (sets.Minus s t) bank (tt, tt, tt) h)
      (λ m b1 i. keeps_bind (put_set (sets.Empty sort) b1) (λ e b2. put_formula (formulas.EqSet m e) b2) (keeps_set (sets.Empty sort) b1 (tt, tt, tt) i)
      (λ e b2 j. keeps_formula (formulas.EqSet m e) b2 (tt, tt, tt) j))

  keeps_conjunction : (fs : List ℕ) (bank : List Node) → Is bank → Keeps (conjunction fs bank)
  keeps_conjunction [] bank h = keeps_formula (formulas.And []) bank (tt, tt, tt) h
  keeps_conjunction (f ∷ []) bank h = h
  keeps_conjunction (f ∷ g ∷ fs) bank h = keeps_formula (formulas.And (f ∷ g ∷ fs)) bank (tt, tt, tt) h

  keeps_chain : (sort : Sort) (x : ℕ) (xs : List ℕ) (bank : List Node) → Is bank → Keeps (chain sort x xs bank)
  keeps_chain sort x xs bank h = keeps_bind (each (equation sort) (neighbours (x ∷ xs)) bank) conjunction (keeps_each (equation sort) (keeps_equation sort) (neighbours (x ∷ xs)) bank h) keeps_conjunction

  keeps_apart : (sort : Sort) (xs : List ℕ) (bank : List Node) → Is bank → Keeps (apart sort xs bank)
  keeps_apart sort xs bank h = keeps_bind (each (difference sort) (pairs xs) bank) conjunction (keeps_each (difference sort) (keeps_difference sort) (pairs xs) bank h) keeps_conjunction

  keeps_choice : (c f g : ℕ) (bank : List Node) → Is bank → Keeps (choice c f g bank)
  keeps_choice c f g bank h =
      keeps_bind (negation c bank) (λ n b1. bind (disjunction n f b1) (λ x b2. bind (disjunction c g b2) (λ y b3. conjoined (x ∷ y ∷ []) b3))) (keeps_formula (formulas.Not c) bank (tt, tt, tt) h)
      (λ n b1 i. keeps_bind (disjunction n f b1) (λ x b2. bind (disjunction c g b2) (λ y b3. conjoined (x ∷ y ∷ []) b3)) (keeps_formula (formulas.Or (n ∷ f ∷ [])) b1 (tt, tt, tt) i)
      (λ x b2 j. keeps_bind (disjunction c g b2) (λ y b3. conjoined (x ∷ y ∷ []) b3) (keeps_formula (formulas.Or (c ∷ g ∷ [])) b2 (tt, tt, tt) j)
      (λ y b3 k. keeps_formula (formulas.And (x ∷ y ∷ [])) b3 (tt, tt, tt) k)))

  keeps_build : (o : Operator) (sort : Sort) (args : List ℕ) (bank : List Node) → Is bank → Keeps (build o sort args bank)
  keeps_build op.Not sort [] bank h = h
  keeps_build op.Not sort (f ∷ []) bank h = keeps_formula (formulas.Not f) bank (tt, tt, tt) h
  keeps_build op.Not sort (f ∷ g ∷ fs) bank h = h
  keeps_build op.And sort fs bank h = keeps_formula (formulas.And fs) bank (tt, tt, tt) h
  keeps_build op.Or sort fs bank h = keeps_formula (formulas.Or fs) bank (tt, tt, tt) h
  keeps_build op.Implies sort fs bank h = keeps_right negation disjunction (λ x b i. keeps_formula (formulas.Not x) b (tt, tt, tt) i) (λ x y b i. keeps_formula (formulas.Or (x ∷ y ∷ [])) b (tt, tt, tt) i) fs bank h
  keeps_build op.Xor sort [] bank h = h
  keeps_build op.Xor sort (f ∷ fs) bank h = keeps_left exclusive_or (λ x y b i. keeps_difference sorts.Bool (x, y) b i) f fs bank h
  keeps_build op.Equal sort [] bank h = h
  keeps_build op.Equal sort (x ∷ xs) bank h = keeps_chain sort x xs bank h
  keeps_build op.Distinct sort xs bank h = keeps_apart sort xs bank h
  keeps_build op.Choice sort [] bank h = h
  keeps_build op.Choice sort (c ∷ []) bank h = h
  keeps_build op.Choice sort (c ∷ f ∷ []) bank h = h
  keeps_build op.Choice sort (c ∷ f ∷ g ∷ []) bank h = keeps_choice c f g bank h
  keeps_build op.Choice sort (c ∷ f ∷ g ∷ x ∷ xs) bank h = h
  keeps_build op.Member sort [] bank h = h
  keeps_build op.Member sort (e ∷ []) bank h = h
  keeps_build op.Member sort (e ∷ s ∷ []) bank h = keeps_formula (formulas.Member e s) bank (tt, tt, tt) h
  keeps_build op.Member sort (e ∷ s ∷ x ∷ xs) bank h = h
  keeps_build op.Subset sort [] bank h = h
  keeps_build op.Subset sort (s ∷ []) bank h = h
  keeps_build op.Subset sort (s ∷ t ∷ []) bank h = keeps_inclusion sort s t bank h
  keeps_build op.Subset sort (s ∷ t ∷ x ∷ xs) bank h = h
  keeps_build op.Union sort [] bank h = h
  keeps_build op.Union sort (s ∷ ss) bank h = keeps_left (joined joins.Union) (keeps_joined joins.Union) s ss bank h
  keeps_build op.Inter sort [] bank h = h
  keeps_build op.Inter sort (s ∷ ss) bank h = keeps_left (joined joins.Inter) (keeps_joined joins.Inter) s ss bank h
  keeps_build op.Minus sort [] bank h = h
  keeps_build op.Minus sort (s ∷ []) bank h = h
  keeps_build op.Minus sort (s ∷ t ∷ []) bank h = keeps_set (sets.Minus s t) bank (tt, tt, tt) h
  keeps_build op.Minus sort (s ∷ t ∷ x ∷ xs) bank h = h
  keeps_build op.Singleton sort [] bank h = h
  keeps_build op.Singleton sort (e ∷ []) bank h = keeps_set (sets.Single e) bank (tt, tt, tt) h
  keeps_build op.Singleton sort (e ∷ x ∷ xs) bank h = h
  keeps_build op.Insert sort args bank h = keeps_right single union (λ x b i. keeps_set (sets.Single x) b (tt, tt, tt) i) (λ x y b i. keeps_set (sets.Union x y) b (tt, tt, tt) i) args bank h

  keeps_built : (fault : Option Code) (o : Operator) (ms : List Meant) (bank : List Node) → Is bank → Keeps (built fault o ms bank)
  keeps_built (Some fault) o ms bank h = h
  keeps_built None o ms bank h = keeps_bind (build o (first_sort ms) (numbers ms) bank) (λ n b. Done (meant (sort_made o (first_sort ms)) (suc (deepest ms)) n) b) (keeps_build o (first_sort ms) (numbers ms) bank h) (λ n b i. i)

  -- ---- terms of one token
  keeps_leaf_formula : (x : Node) (bank : List Node) → IsPosedNode known x → Is bank → Keeps (leaf_formula x bank)
  keeps_leaf_formula x bank p h = keeps_bind (put x bank) (λ n b. Done (meant sorts.Bool 1 n) b) (keeps_put x bank p h) (λ n b i. i)

  keeps_leaf_value : (sort : Sort) (x : Node) (bank : List Node) → IsPosedNode known x → Is bank → Keeps (leaf_value sort x bank)
  keeps_leaf_value sort x bank p h =
      keeps_bind (put_formula formulas.True bank) (λ g b. bind (put x b) (λ n c. Done (meant sort 1 n) c)) (keeps_formula formulas.True bank (tt, tt, tt) h)
      (λ g b i. keeps_bind (put x b) (λ n c. Done (meant sort 1 n) c) (keeps_put x b p i) (λ n c j. j))

  keeps_constant : (n : ℕ) (sort : Sort) (bank : List Node) → item_at known n ≡ Some sort → Is bank → Keeps (constant n sort bank)
  keeps_constant n sorts.Bool bank e h = keeps_leaf_formula (nodes.Formula (formulas.Flag n)) bank (e, tt, tt) h
  keeps_constant n (sorts.Named k) bank e h = keeps_leaf_value (sorts.Named k) (nodes.Element (elements.Const n (sorts.Named k))) bank ((e, tt), tt, tt) h
  keeps_constant n (sorts.SetNamed k) bank e h = keeps_leaf_value (sorts.SetNamed k) (nodes.Set (sets.Const n (sorts.SetNamed k))) bank ((e, tt), tt, tt) h
  keeps_constant n sorts.Int bank e h = h
  keeps_constant n sorts.SetInt bank e h = h

  keeps_empty : (sort : Sort) (bank : List Node) → Is bank → Keeps (empty_set sort bank)
  keeps_empty (sorts.SetNamed k) bank h = keeps_leaf_value (sorts.SetNamed k) (nodes.Set (sets.Empty (sorts.SetNamed k))) bank (tt, tt, tt) h
  keeps_empty sorts.SetInt bank h = h
  keeps_empty sorts.Bool bank h = h
  keeps_empty sorts.Int bank h = h
  keeps_empty (sorts.Named k) bank h = h

  keeps_named : (name : List ℕ) (o : Option Named) (bank : List Node) → look_up names name ≡ o → Is bank → Keeps (named_term o bank)
  keeps_named name (Some (named.Constant n sort)) bank e h = keeps_constant n sort bank (have_sorts names name n sort e) h
  keeps_named name (Some (named.Sort n)) bank e h = h
  keeps_named name None bank e h = h

  keeps_word : (w : Word) (name : List ℕ) (bank : List Node) → Is bank → Keeps (word_term names w name bank)
  keeps_word word.True name bank h = keeps_leaf_formula (nodes.Formula formulas.True) bank (tt, tt, tt) h
  keeps_word word.False name bank h = keeps_leaf_formula (nodes.Formula formulas.False) bank (tt, tt, tt) h
  keeps_word (word.Operator o) name bank h = h
  keeps_word word.EmptySet name bank h = h
  keeps_word word.Outside name bank h = h
  keeps_word word.Free name bank h = keeps_named name (look_up names name) bank refl h

  keeps_token : (k : Kind) (text : List ℕ) (bank : List Node) → Is bank → Keeps (token_term names k text bank)
  keeps_token kind.Word text bank h = by (is_reserved text) where
    by : (b : Bool) → Keeps (if b then Fault code.E5 bank else name_term names text bank)
    by true = h
    by false = keeps_word (word_of text) text bank h
  keeps_token kind.Quoted text bank h = keeps_word (word_of (between text)) (between text) bank h
  keeps_token kind.Numeral text bank h = h
  keeps_token kind.Foreign text bank h = h
  keeps_token kind.Literal text bank h = h
  keeps_token kind.Keyword text bank h = h
  keeps_token kind.Left text bank h = h
  keeps_token kind.Right text bank h = h

  -- ---- all terms
  keeps_list : (head : Result Head Code) (arguments : List Node → Outcome (List Meant)) (bank : List Node) → Is bank → Keeps (arguments bank) → Keeps (list_term head arguments bank)
  keeps_list (Err fault) arguments bank h k = h
  keeps_list (Ok (heads.EmptySet sort)) arguments bank h k = keeps_empty sort bank h
  keeps_list (Ok (heads.Operator o)) arguments bank h k = keeps_bind (arguments bank) (apply o) k (λ ms b i. keeps_built (application_fault o ms) o ms b i)

  mutual
    keeps_term : (t : Shape) (bank : List Node) → Is bank → Keeps (term names t bank)
    keeps_term (Single k text start line) bank h = keeps_token k text bank h
    keeps_term (Listed line parts) bank h = keeps_list (head_of names parts) (behind_head names parts) bank h (keeps_behind parts bank h)

    keeps_behind : (parts : Shapes) (bank : List Node) → Is bank → Keeps (behind_head names parts bank)
    keeps_behind Empty bank h = h
    keeps_behind (More head rest) bank h = keeps_terms rest bank h

    keeps_terms : (parts : Shapes) (bank : List Node) → Is bank → Keeps (terms names parts bank)
    keeps_terms Empty bank h = h
    keeps_terms (More t rest) bank h =
        keeps_bind (term names t bank) (λ m b. bind (terms names rest b) (λ ms c. Done (m ∷ ms) c)) (keeps_term t bank h)
        (λ m b i. keeps_bind (terms names rest b) (λ ms c. Done (m ∷ ms) c) (keeps_terms rest b i) (λ ms c j. j))

  keeps_need : (m : Meant) (bank : List Node) → Is bank → Keeps (need_bool m bank)
  keeps_need m bank h = by (same_sort sorts.Bool m.sort) where
    by : (b : Bool) → Keeps (if b then Done m.number bank else Fault code.E7 bank)
    by true = h
    by false = h

  keeps_core : (t : Shape) (bank : List Node) → Is bank → Keeps (core t (state_of bank names))
  keeps_core t bank h = keeps_bind (term names t bank) need_bool (keeps_term t bank h) keeps_need

-- ---- a bank stays such that its formulas may be posed
pushed : (P : Node → Type 0) (bank : List Node) (x : Node) → AllByRecursion P bank → P x → AllByRecursion P (bank ++ x ∷ [])
pushed P [] x h p = (p, tt)
pushed P (y ∷ ys) x h p = (h.0, pushed P ys x h.1 p)

-- all of it but that it is well sorted
abbrev IsPlainBank : List Sort → List Node → Type 0
IsPlainBank known bank = HasSorts known bank × AllByRecursion IsIntlessNode bank × AllByRecursion IsCardlessNode bank

one_more : (known : List Sort) (bank : List Node) (x : Node) → IsPlainBank known bank → IsPosedNode known x → IsPlainBank known (bank ++ x ∷ [])
one_more known bank x h p = (pushed (NodeHasSorts known) bank x h.0 p.0, pushed IsIntlessNode bank x h.1 p.1, pushed IsCardlessNode bank x h.2 p.2)

posed : (known : List Sort) (bank : List Node) → IsPlainBank known bank → IsWellSortedBank bank → IsPosedBank known bank
posed known bank h w = record { sorts = h.0; well_sorted = w; intless = h.1; cardless = h.2 }

plain : (known : List Sort) (bank : List Node) → IsPosedBank known bank → IsPlainBank known bank
plain known bank h = (h.sorts, h.intless, h.cardless)

module _ (have_sorts : ConstantsHaveSorts) (numbered : NumbersStand) where
  pub done_posed : (t : Shape) (s : State) (n : ℕ) (bank : List Node) → IsBank s.bank → IsPosedBank (sorts_of s.names) s.bank → core t s ≡ Done n bank → IsPosedBank (sorts_of s.names) bank
  done_posed t s n bank is h e =
      let known = sorts_of s.names in
      posed known bank
      (subst (Keeps have_sorts s.names (IsPlainBank known) (one_more known)) e (keeps_core have_sorts s.names (IsPlainBank known) (one_more known) t s.bank (plain known s.bank h)))
      (done_sorted numbered t s n bank is h.well_sorted e)

  pub fault_posed : (t : Shape) (s : State) (code : Code) (bank : List Node) → IsBank s.bank → IsPosedBank (sorts_of s.names) s.bank → core t s ≡ Fault code bank → IsPosedBank (sorts_of s.names) bank
  fault_posed t s code bank is h e =
      let known = sorts_of s.names in
      posed known bank
      (subst (Keeps have_sorts s.names (IsPlainBank known) (one_more known)) e (keeps_core have_sorts s.names (IsPlainBank known) (one_more known) t s.bank (plain known s.bank h)))
      (fault_sorted numbered t s code bank is h.well_sorted e)

-- ---- a bank begins as it did
one_behind : (known : List Sort) (old bank : List Node) (x : Node) → Begins old bank → IsPosedNode known x → Begins old (bank ++ x ∷ [])
one_behind known old bank x b p = (b.0 ++ x ∷ [], ap (λ l. l ++ x ∷ []) b.1 ∙ append_assoc old b.0 (x ∷ []))

pub fault_grows : ConstantsHaveSorts → (t : Shape) (s : State) (code : Code) (bank : List Node) → core t s ≡ Fault code bank → Begins s.bank bank
fault_grows have_sorts t s code bank e =
    subst (Keeps have_sorts s.names (Begins s.bank) (one_behind (sorts_of s.names) s.bank)) e
    (keeps_core have_sorts s.names (Begins s.bank) (one_behind (sorts_of s.names) s.bank) t s.bank ([], sym (append-nil s.bank)))
