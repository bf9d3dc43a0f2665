-- A bank stays well sorted as terms are elaborated, and each term's node has the term's sort.
use Rattle.std.proofs.Common.{◌≡◌, ℕ, zero, suc, ◌≤◌, Bool, true, false, not, List, [], ◌∷◌, length, take, Option, Some, None, refl, sym, ◌∙◌, subst, arith}
use Rattle.std.specs.Prelude.{if◌then◌else◌, nat_lt, Result, Ok, Err}
use Rattle.std.proofs.lemmas.Bool.{false≢true}
use Rattle.std.specs.List.{AllByRecursion}
use Rattle.sc_base.specs.Numbered.{item_at}
use Rattle.sc_text.specs.declared.code.Code.{Code}
use Rattle.sc_text.specs.declared.code.Code.TheVariants as code
use Rattle.sc_text.specs.declared.token.Kind.{Kind}
use Rattle.sc_text.specs.declared.token.Kind.TheVariants as kind
use Rattle.sc_text.specs.Names.{is_reserved, between}
use Rattle.sc_sexpr.specs.Shapes.{Shape, Single, Listed, Shapes, Empty, More}
use Rattle.sc_terms.specs.declared.nodes.Node.{Node}
use Rattle.sc_terms.specs.declared.nodes.Node.TheVariants as nodes
use Rattle.sc_terms.specs.declared.nodes.Formula.{Formula}
use Rattle.sc_terms.specs.declared.nodes.Formula.TheVariants as formulas
use Rattle.sc_terms.specs.declared.nodes.SetTerm.TheVariants as sets
use Rattle.sc_terms.specs.declared.nodes.Element.{Element}
use Rattle.sc_terms.specs.declared.nodes.Element.TheVariants as elements
use Rattle.sc_terms.specs.declared.nodes.Sort.{Sort}
use Rattle.sc_terms.specs.declared.nodes.Sort.TheVariants as sorts
use Rattle.sc_terms.specs.Bank.{IsBank, NodeStands, IsSetOf, IsElementOf, is_set, is_element}
use Rattle.sc_terms.specs.Same.{same_sort, same_sort-Decides}
use Rattle.sc_sorts.specs.Sorted.{Sorting, FormulaIsSorted, BankHasSorting, IsWellSortedBank}
use Rattle.sc_stack.specs.declared.stack.Named.{Named}
use Rattle.sc_stack.specs.declared.stack.Named.TheVariants as named
use Rattle.sc_stack.specs.Names.{Names, look_up}
use Rattle.sc_elab.specs.declared.meant.Meant.{Meant}
use Rattle.sc_elab.specs.declared.heads.Head.{Head}
use Rattle.sc_elab.specs.declared.heads.Head.TheVariants as heads
use Rattle.sc_elab.specs.declared.set_terms.Join.TheVariants as joins
use Rattle.sc_elab.specs.declared.words.Operator.{Operator}
use Rattle.sc_elab.specs.declared.words.Operator.TheVariants as op
use Rattle.sc_elab.specs.declared.words.Word.{Word}
use Rattle.sc_elab.specs.declared.words.Word.TheVariants as word
use Rattle.sc_elab.specs.Words.{word_of}
use Rattle.sc_elab.specs.Heads.{head_of}
use Rattle.sc_elab.specs.States.{State, Outcome, Done, Fault, bind, put, put_formula, put_set}
use Rattle.sc_elab.specs.Builds.{from_left, from_right, single, union, joined, build}
use Rattle.sc_elab.specs.Elab.{meant, leaf_formula, leaf_value, constant, empty_set, named_term, word_term, name_term, token_term, numbers, deepest, depth_limit, fits, is_done, all_of, are_alike, are_sets, is_single, are_inserted, is_membership, first_sort, sort_made, sort_of_sets, is_sort_of_sets, is_sort_of_elements, built, apply, list_term, term, behind_head, terms, need_bool, core}
use Rattle.sc_elab.proofs.SortedBanks.{After, AllAt, IsAt, Later, NumbersStand, PartsWithin, SetAt, Sorts, after_bind, at_later, both, from_set, held, later_same, more_within, set_of_is, sets_of, to_element, to_set, within}
use Rattle.sc_elab.proofs.SortedNodes.{InsertedAt, SetsAt, after_apart, after_chain, after_choice, after_constant, after_element, after_empty, after_formula, after_grouped, after_implication, after_inclusion, after_insertion, after_minus, after_single, after_xor}

module _ (numbered : NumbersStand) where
  -- ---- operators
  abbrev MeantAt : Meant → List Node → Sorting → Type 0
  MeantAt m bank by = IsAt m.sort m.number bank by

  abbrev AllMeant : List Meant → List Node → Sorting → Type 0
  AllMeant ms bank by = AllByRecursion (λ m. MeantAt m bank by) ms

  meant_later : (ms : List Meant) (a b : List Node) (x y : Sorting) → Later a x b y → AllMeant ms a x → AllMeant ms b y
  meant_later [] a b x y l h = tt
  meant_later (m ∷ ms) a b x y l h = (at_later m.sort m.number a b x y l h.0, meant_later ms a b x y l h.1)

  one_sort : (sort : Sort) (ms : List Meant) (bank : List Node) (by : Sorting) → all_of sort ms ≡ true → AllMeant ms bank by → AllAt sort (numbers ms) bank by
  one_sort sort [] bank by e h = tt
  one_sort sort (m ∷ ms) bank by e h =
      let parts = both (same_sort sort m.sort) (all_of sort ms) e in
      let is : sort ≡ m.sort = (same_sort-Decides sort m.sort).0 parts.0 in
      (subst (λ s. IsAt s m.number bank by) (sym is) h.0, one_sort sort ms bank by parts.1 h.1)

  alike : (ms : List Meant) (bank : List Node) (by : Sorting) → are_alike ms ≡ true → AllMeant ms bank by → AllAt (first_sort ms) (numbers ms) bank by
  alike [] bank by e h = tt
  alike (m ∷ ms) bank by e h = (h.0, one_sort m.sort ms bank by e h.1)

  to_sets : (sort : Sort) (ns : List ℕ) (bank : List Node) (by : Sorting) → is_sort_of_sets sort ≡ true → AllAt sort ns bank by → SetsAt numbered (held sort) ns bank by
  to_sets sort [] bank by e h = tt
  to_sets sort (n ∷ ns) bank by e h = (to_set sort n bank by e h.0, to_sets sort ns bank by e h.1)

  of_sort : (sort : Sort) (bank : List Node) (by : Sorting) (o : Outcome ℕ) → is_sort_of_sets sort ≡ true → After bank by (SetAt (held sort)) o → After bank by (IsAt sort) o
  of_sort sort bank by (Done n new) e h = (h.0, (h.1.0, from_set sort n new h.0 e h.1.1))
  of_sort sort bank by (Fault fault new) e h = h

  stops : {A : Type 0} (P : A → List Node → Sorting → Type 0) (fault : Code) (bank : List Node) (by : Sorting) → Sorts bank by → After bank by P (Fault fault bank)
  stops P fault bank by h = (by, later_same bank by h)

  -- what is known of arguments that are sets of one sort
  record SetArguments (ms : List Meant) (bank : List Node) (by : Sorting) : Type 0 where
    is_set : is_sort_of_sets (first_sort ms) ≡ true
    at : SetsAt numbered (held (first_sort ms)) (numbers ms) bank by

  set_arguments : (ms : List Meant) (bank : List Node) (by : Sorting) → are_sets ms ≡ true → AllMeant ms bank by → SetArguments ms bank by
  set_arguments [] bank by e h = absurd (false≢true e)
  set_arguments (m ∷ ms) bank by e h =
      let parts = both (is_sort_of_sets m.sort) (all_of m.sort ms) e in
      record { is_set = parts.0; at = to_sets m.sort (numbers (m ∷ ms)) bank by parts.0 (h.0, one_sort m.sort ms bank by parts.1 h.1) }

  after_member : (ms : List Meant) (bank : List Node) (by : Sorting) → Sorts bank by → is_membership ms ≡ true → AllMeant ms bank by → After bank by (IsAt sorts.Bool) (build op.Member (first_sort ms) (numbers ms) bank)
  after_member [] bank by h e a = absurd (false≢true e)
  after_member (m ∷ []) bank by h e a = absurd (false≢true e)
  after_member (m ∷ n ∷ k ∷ ms) bank by h e a = absurd (false≢true e)
  after_member (m ∷ n ∷ []) bank by h e a =
      let fit = set_of_is m.sort n.sort e in
      let element = to_element m.sort m.number bank by fit.0 a.0 in
      let sets = sets_of m.sort fit.0 in
      let set = to_set (sort_of_sets m.sort) n.number bank by sets.0 (subst (λ s. IsAt s n.number bank by) (sym fit.1) a.1.0) in
      after_formula numbered (formulas.Member m.number n.number) bank by h (element.0, set.0) (element.1 ∙ sym (set.1 ∙ sets.1))

  after_subset : (sort : Sort) (ns : List ℕ) (bank : List Node) (by : Sorting) → is_sort_of_sets sort ≡ true → Sorts bank by → SetsAt numbered (held sort) ns bank by → After bank by (IsAt sorts.Bool) (build op.Subset sort ns bank)
  after_subset sort [] bank by e h a = stops (IsAt sorts.Bool) code.E7 bank by h
  after_subset sort (s ∷ []) bank by e h a = stops (IsAt sorts.Bool) code.E7 bank by h
  after_subset sort (s ∷ t ∷ []) bank by e h a = after_inclusion numbered sort s t bank by e h a.0 a.1.0
  after_subset sort (s ∷ t ∷ x ∷ ns) bank by e h a = stops (IsAt sorts.Bool) code.E7 bank by h

  after_minus_of : (sort : Sort) (ns : List ℕ) (bank : List Node) (by : Sorting) → is_sort_of_sets sort ≡ true → Sorts bank by → SetsAt numbered (held sort) ns bank by → After bank by (IsAt sort) (build op.Minus sort ns bank)
  after_minus_of sort [] bank by e h a = stops (IsAt sort) code.E7 bank by h
  after_minus_of sort (s ∷ []) bank by e h a = stops (IsAt sort) code.E7 bank by h
  after_minus_of sort (s ∷ t ∷ []) bank by e h a = of_sort sort bank by (put_set (sets.Minus s t) bank) e (after_minus numbered (held sort) s t bank by h a.0 a.1.0)
  after_minus_of sort (s ∷ t ∷ x ∷ ns) bank by e h a = stops (IsAt sort) code.E7 bank by h

  after_union_of : (sort : Sort) (ns : List ℕ) (bank : List Node) (by : Sorting) → is_sort_of_sets sort ≡ true → Sorts bank by → SetsAt numbered (held sort) ns bank by → After bank by (IsAt sort) (build op.Union sort ns bank)
  after_union_of sort [] bank by e h a = stops (IsAt sort) code.E7 bank by h
  after_union_of sort (s ∷ ns) bank by e h a = of_sort sort bank by (from_left (joined joins.Union) s ns bank) e (after_grouped numbered joins.Union (held sort) s ns bank by h a.0 a.1)

  after_inter_of : (sort : Sort) (ns : List ℕ) (bank : List Node) (by : Sorting) → is_sort_of_sets sort ≡ true → Sorts bank by → SetsAt numbered (held sort) ns bank by → After bank by (IsAt sort) (build op.Inter sort ns bank)
  after_inter_of sort [] bank by e h a = stops (IsAt sort) code.E7 bank by h
  after_inter_of sort (s ∷ ns) bank by e h a = of_sort sort bank by (from_left (joined joins.Inter) s ns bank) e (after_grouped numbered joins.Inter (held sort) s ns bank by h a.0 a.1)

  -- a set of elements of the sort
  of_elements : (sort : Sort) (bank : List Node) (by : Sorting) (o : Outcome ℕ) → is_sort_of_elements sort ≡ true → After bank by (SetAt sort) o → After bank by (IsAt (sort_of_sets sort)) o
  of_elements sort bank by o e h =
      let sets = sets_of sort e in
      of_sort (sort_of_sets sort) bank by o sets.0 (subst (λ m. After bank by (SetAt m) o) (sym sets.1) h)

  after_singleton : (ms : List Meant) (bank : List Node) (by : Sorting) → Sorts bank by → is_single ms ≡ true → AllMeant ms bank by → After bank by (IsAt (sort_of_sets (first_sort ms))) (build op.Singleton (first_sort ms) (numbers ms) bank)
  after_singleton [] bank by h e a = absurd (false≢true e)
  after_singleton (m ∷ n ∷ ms) bank by h e a = absurd (false≢true e)
  after_singleton (m ∷ []) bank by h e a = of_elements m.sort bank by (single m.number bank) e (after_single numbered m.sort m.number bank by h (to_element m.sort m.number bank by e a.0))

  inserts_sort : (sort : Sort) (ms : List Meant) → are_inserted sort ms ≡ true → is_sort_of_elements sort ≡ true
  inserts_sort sort [] e = absurd (false≢true e)
  inserts_sort sort (s ∷ []) e = (set_of_is sort s.sort e).0
  inserts_sort sort (m ∷ n ∷ ms) e = inserts_sort sort (n ∷ ms) (both (same_sort sort m.sort) (are_inserted sort (n ∷ ms)) e).1

  inserted_at : (sort : Sort) (ms : List Meant) (bank : List Node) (by : Sorting) → are_inserted sort ms ≡ true → AllMeant ms bank by → InsertedAt numbered sort (numbers ms) bank by
  inserted_at sort [] bank by e h = absurd (false≢true e)
  inserted_at sort (s ∷ []) bank by e h =
      let fit = set_of_is sort s.sort e in
      let sets = sets_of sort fit.0 in
      subst (λ m. SetAt m s.number bank by) sets.1 (to_set (sort_of_sets sort) s.number bank by sets.0 (subst (λ t. IsAt t s.number bank by) (sym fit.1) h.0))
  inserted_at sort (m ∷ n ∷ ms) bank by e h =
      let parts = both (same_sort sort m.sort) (are_inserted sort (n ∷ ms)) e in
      let is : sort ≡ m.sort = (same_sort-Decides sort m.sort).0 parts.0 in
      (to_element sort m.number bank by (inserts_sort sort (n ∷ ms) parts.1) (subst (λ s. IsAt s m.number bank by) (sym is) h.0), inserted_at sort (n ∷ ms) bank by parts.1 h.1)

  after_insert : (ms : List Meant) (bank : List Node) (by : Sorting) → Sorts bank by → are_inserted (first_sort ms) ms ≡ true → AllMeant ms bank by → After bank by (IsAt (sort_of_sets (first_sort ms))) (build op.Insert (first_sort ms) (numbers ms) bank)
  after_insert ms bank by h e a = of_elements (first_sort ms) bank by (from_right single union (numbers ms) bank) (inserts_sort (first_sort ms) ms e) (after_insertion numbered (first_sort ms) (numbers ms) bank by h (inserted_at (first_sort ms) ms bank by e a))

  -- formulas of formulas
  after_not : (sort : Sort) (ns : List ℕ) (bank : List Node) (by : Sorting) → Sorts bank by → After bank by (IsAt sorts.Bool) (build op.Not sort ns bank)
  after_not sort [] bank by h = stops (IsAt sorts.Bool) code.E7 bank by h
  after_not sort (f ∷ []) bank by h = after_formula numbered (formulas.Not f) bank by h tt tt
  after_not sort (f ∷ g ∷ fs) bank by h = stops (IsAt sorts.Bool) code.E7 bank by h

  after_xors : (sort : Sort) (ns : List ℕ) (bank : List Node) (by : Sorting) → Sorts bank by → After bank by (IsAt sorts.Bool) (build op.Xor sort ns bank)
  after_xors sort [] bank by h = stops (IsAt sorts.Bool) code.E7 bank by h
  after_xors sort (f ∷ fs) bank by h = after_xor numbered f fs bank by h

  after_chains : (sort : Sort) (ns : List ℕ) (bank : List Node) (by : Sorting) → Sorts bank by → AllAt sort ns bank by → After bank by (IsAt sorts.Bool) (build op.Equal sort ns bank)
  after_chains sort [] bank by h a = stops (IsAt sorts.Bool) code.E7 bank by h
  after_chains sort (n ∷ ns) bank by h a = after_chain numbered sort n ns bank by h a

  after_choices : (sort : Sort) (ns : List ℕ) (bank : List Node) (by : Sorting) → Sorts bank by → After bank by (IsAt sorts.Bool) (build op.Choice sort ns bank)
  after_choices sort [] bank by h = stops (IsAt sorts.Bool) code.E7 bank by h
  after_choices sort (c ∷ []) bank by h = stops (IsAt sorts.Bool) code.E7 bank by h
  after_choices sort (c ∷ f ∷ []) bank by h = stops (IsAt sorts.Bool) code.E7 bank by h
  after_choices sort (c ∷ f ∷ g ∷ []) bank by h = after_choice numbered c f g bank by h
  after_choices sort (c ∷ f ∷ g ∷ x ∷ xs) bank by h = stops (IsAt sorts.Bool) code.E7 bank by h

  after_build : (o : Operator) (ms : List Meant) (bank : List Node) (by : Sorting) → Sorts bank by → fits o ms ≡ true → AllMeant ms bank by → After bank by (IsAt (sort_made o (first_sort ms))) (build o (first_sort ms) (numbers ms) bank)
  after_build op.Not ms bank by h e a = after_not (first_sort ms) (numbers ms) bank by h
  after_build op.And ms bank by h e a = after_formula numbered (formulas.And (numbers ms)) bank by h tt tt
  after_build op.Or ms bank by h e a = after_formula numbered (formulas.Or (numbers ms)) bank by h tt tt
  after_build op.Implies ms bank by h e a = after_implication numbered (numbers ms) bank by h
  after_build op.Xor ms bank by h e a = after_xors (first_sort ms) (numbers ms) bank by h
  after_build op.Equal ms bank by h e a = after_chains (first_sort ms) (numbers ms) bank by h (alike ms bank by e a)
  after_build op.Distinct ms bank by h e a = after_apart numbered (first_sort ms) (numbers ms) bank by h (alike ms bank by e a)
  after_build op.Choice ms bank by h e a = after_choices (first_sort ms) (numbers ms) bank by h
  after_build op.Member ms bank by h e a = after_member ms bank by h e a
  after_build op.Subset ms bank by h e a = let s = set_arguments ms bank by e a in after_subset (first_sort ms) (numbers ms) bank by s.is_set h s.at
  after_build op.Union ms bank by h e a = let s = set_arguments ms bank by e a in after_union_of (first_sort ms) (numbers ms) bank by s.is_set h s.at
  after_build op.Inter ms bank by h e a = let s = set_arguments ms bank by e a in after_inter_of (first_sort ms) (numbers ms) bank by s.is_set h s.at
  after_build op.Minus ms bank by h e a = let s = set_arguments ms bank by e a in after_minus_of (first_sort ms) (numbers ms) bank by s.is_set h s.at
  after_build op.Singleton ms bank by h e a = after_singleton ms bank by h e a
  after_build op.Insert ms bank by h e a = after_insert ms bank by h e a

  after_apply : (o : Operator) (ms : List Meant) (bank : List Node) (by : Sorting) → Sorts bank by → AllMeant ms bank by → After bank by MeantAt (apply o ms bank)
  after_apply o ms bank by h a = at (fits o ms) (is_done o ms) (nat_lt (deepest ms) depth_limit) refl
    where
      at : (f d l : Bool) → fits o ms ≡ f → After bank by MeantAt (built (if not f then Some code.E7 else if not d then Some code.E8 else if not l then Some (code.E16 depth_limit) else None) o ms bank)
      at true true true fit =
          after_bind bank by (IsAt (sort_made o (first_sort ms))) MeantAt (build o (first_sort ms) (numbers ms) bank) (λ n b. Done (meant (sort_made o (first_sort ms)) (suc (deepest ms)) n) b)
          (after_build o ms bank by h fit a)
          (λ n b x l i. (x, (later_same b x l.sorts, i)))
      at true true false fit = stops MeantAt (code.E16 depth_limit) bank by h
      at true false l fit = stops MeantAt code.E8 bank by h
      at false d l fit = stops MeantAt code.E7 bank by h

  -- ---- terms of one token
  after_leaf : (f : Formula) (bank : List Node) (by : Sorting) → Sorts bank by → PartsWithin (length bank) (nodes.Formula f) → FormulaIsSorted by f → After bank by MeantAt (leaf_formula (nodes.Formula f) bank)
  after_leaf f bank by h parts own =
      after_bind bank by (IsAt sorts.Bool) MeantAt (put_formula f bank) (λ n b. Done (meant sorts.Bool 1 n) b) (after_formula numbered f bank by h parts own)
      (λ n b x l i. (x, (later_same b x l.sorts, tt)))

  after_value : (sort : Sort) (x : Node) (bank : List Node) (by : Sorting) → Sorts bank by → ((b : List Node) (y : Sorting) → Sorts b y → After b y (IsAt sort) (put x b)) → After bank by MeantAt (leaf_value sort x bank)
  after_value sort x bank by h own =
      after_bind bank by (IsAt sorts.Bool) MeantAt (put_formula formulas.True bank) (λ g b. bind (put x b) (λ n c. Done (meant sort 1 n) c)) (after_formula numbered formulas.True bank by h tt tt)
      (λ g b y l i. after_bind b y (IsAt sort) MeantAt (put x b) (λ n c. Done (meant sort 1 n) c) (own b y l.sorts)
      (λ n c z k j. (z, (later_same c z k.sorts, j))))

  after_constant_term : (n : ℕ) (sort : Sort) (bank : List Node) (by : Sorting) → Sorts bank by → After bank by MeantAt (constant n sort bank)
  after_constant_term n sorts.Bool bank by h = after_leaf (formulas.Flag n) bank by h tt tt
  after_constant_term n (sorts.Named k) bank by h = after_value (sorts.Named k) (nodes.Element (elements.Const n (sorts.Named k))) bank by h (λ b y s. after_element numbered n (sorts.Named k) b y s)
  after_constant_term n (sorts.SetNamed k) bank by h = after_value (sorts.SetNamed k) (nodes.Set (sets.Const n (sorts.SetNamed k))) bank by h (λ b y s. after_constant numbered n (sorts.SetNamed k) b y refl s)
  after_constant_term n sorts.Int bank by h = stops MeantAt code.E8 bank by h
  after_constant_term n sorts.SetInt bank by h = stops MeantAt code.E8 bank by h

  after_empty_set : (sort : Sort) (bank : List Node) (by : Sorting) → Sorts bank by → After bank by MeantAt (empty_set sort bank)
  after_empty_set (sorts.SetNamed k) bank by h = after_value (sorts.SetNamed k) (nodes.Set (sets.Empty (sorts.SetNamed k))) bank by h (λ b y s. after_empty numbered (sorts.SetNamed k) b y refl s)
  after_empty_set sorts.SetInt bank by h = stops MeantAt code.E8 bank by h
  after_empty_set sorts.Bool bank by h = stops MeantAt code.E8 bank by h
  after_empty_set sorts.Int bank by h = stops MeantAt code.E8 bank by h
  after_empty_set (sorts.Named k) bank by h = stops MeantAt code.E8 bank by h

  after_named : (found : Option Named) (bank : List Node) (by : Sorting) → Sorts bank by → After bank by MeantAt (named_term found bank)
  after_named (Some (named.Constant n sort)) bank by h = after_constant_term n sort bank by h
  after_named (Some (named.Sort n)) bank by h = stops MeantAt code.E6 bank by h
  after_named None bank by h = stops MeantAt code.E6 bank by h

  after_word : (names : Names) (w : Word) (name : List ℕ) (bank : List Node) (by : Sorting) → Sorts bank by → After bank by MeantAt (word_term names w name bank)
  after_word names word.True name bank by h = after_leaf formulas.True bank by h tt tt
  after_word names word.False name bank by h = after_leaf formulas.False bank by h tt tt
  after_word names (word.Operator o) name bank by h = stops MeantAt code.E7 bank by h
  after_word names word.EmptySet name bank by h = stops MeantAt code.E7 bank by h
  after_word names word.Outside name bank by h = stops MeantAt code.E8 bank by h
  after_word names word.Free name bank by h = after_named (look_up names name) bank by h

  after_token : (names : Names) (k : Kind) (text : List ℕ) (bank : List Node) (by : Sorting) → Sorts bank by → After bank by MeantAt (token_term names k text bank)
  after_token names kind.Word text bank by h = at (is_reserved text)
    where
      at : (b : Bool) → After bank by MeantAt (if b then Fault code.E5 bank else name_term names text bank)
      at true = stops MeantAt code.E5 bank by h
      at false = after_word names (word_of text) text bank by h
  after_token names kind.Quoted text bank by h = after_word names (word_of (between text)) (between text) bank by h
  after_token names kind.Numeral text bank by h = stops MeantAt code.E8 bank by h
  after_token names kind.Foreign text bank by h = stops MeantAt code.E8 bank by h
  after_token names kind.Literal text bank by h = stops MeantAt code.E8 bank by h
  after_token names kind.Keyword text bank by h = stops MeantAt code.E8 bank by h
  after_token names kind.Left text bank by h = stops MeantAt code.E5 bank by h
  after_token names kind.Right text bank by h = stops MeantAt code.E5 bank by h

  -- ---- all terms
  after_list : (head : Result Head Code) (arguments : List Node → Outcome (List Meant)) (bank : List Node) (by : Sorting) → Sorts bank by → After bank by AllMeant (arguments bank) → After bank by MeantAt (list_term head arguments bank)
  after_list (Err fault) arguments bank by h k = stops MeantAt fault bank by h
  after_list (Ok (heads.EmptySet sort)) arguments bank by h k = after_empty_set sort bank by h
  after_list (Ok (heads.Operator o)) arguments bank by h k = after_bind bank by AllMeant MeantAt (arguments bank) (apply o) k (λ ms b x l a. after_apply o ms b x l.sorts a)

  mutual
    after_term : (names : Names) (t : Shape) (bank : List Node) (by : Sorting) → Sorts bank by → After bank by MeantAt (term names t bank)
    after_term names (Single k text start line) bank by h = after_token names k text bank by h
    after_term names (Listed line parts) bank by h = after_list (head_of names parts) (behind_head names parts) bank by h (after_behind names parts bank by h)

    after_behind : (names : Names) (parts : Shapes) (bank : List Node) (by : Sorting) → Sorts bank by → After bank by AllMeant (behind_head names parts bank)
    after_behind names Empty bank by h = (by, (later_same bank by h, tt))
    after_behind names (More head rest) bank by h = after_terms names rest bank by h

    after_terms : (names : Names) (parts : Shapes) (bank : List Node) (by : Sorting) → Sorts bank by → After bank by AllMeant (terms names parts bank)
    after_terms names Empty bank by h = (by, (later_same bank by h, tt))
    after_terms names (More t rest) bank by h =
        after_bind bank by MeantAt AllMeant (term names t bank) (λ m b. bind (terms names rest b) (λ ms c. Done (m ∷ ms) c)) (after_term names t bank by h)
        (λ m b x l i. after_bind b x AllMeant AllMeant (terms names rest b) (λ ms c. Done (m ∷ ms) c) (after_terms names rest b x l.sorts)
        (λ ms c y k j. (y, (later_same c y k.sorts, (at_later m.sort m.number b c x y k i, j)))))

  after_need : (m : Meant) (bank : List Node) (by : Sorting) → Sorts bank by → After bank by (IsAt sorts.Bool) (need_bool m bank)
  after_need m bank by h = at (same_sort sorts.Bool m.sort)
    where
      at : (b : Bool) → After bank by (IsAt sorts.Bool) (if b then Done m.number bank else Fault code.E7 bank)
      at true = (by, (later_same bank by h, tt))
      at false = stops (IsAt sorts.Bool) code.E7 bank by h

  after_core : (t : Shape) (s : State) (by : Sorting) → Sorts s.bank by → After s.bank by (IsAt sorts.Bool) (core t s)
  after_core t s by h = after_bind s.bank by MeantAt (IsAt sorts.Bool) (term s.names t s.bank) need_bool (after_term s.names t s.bank by h) (λ m b x l i. after_need m b x l.sorts)

  -- ---- a bank to begin with
  set_number : (bank : List Node) (n : ℕ) → IsSetOf bank n → n ≤ length bank
  set_number bank n h = by (item_at bank n) refl
    where
      by : (o : Option Node) → item_at bank n ≡ o → n ≤ length bank
      by (Some x) e = within bank n x e
      by None e = absurd (let u : is_set None ≡ true = subst (λ o. is_set o ≡ true) e h in cc)

  element_number : (bank : List Node) (n : ℕ) → IsElementOf bank n → n ≤ length bank
  element_number bank n h = by (item_at bank n) refl
    where
      by : (o : Option Node) → item_at bank n ≡ o → n ≤ length bank
      by (Some x) e = within bank n x e
      by None e = absurd (let u : is_element None ≡ true = subst (λ o. is_element o ≡ true) e h in cc)

  parts_stand : (bank : List Node) (x : Node) → NodeStands bank x → PartsWithin (length bank) x
  parts_stand bank (nodes.Formula (formulas.Eq e f)) h = (element_number bank e h.0, element_number bank f h.1)
  parts_stand bank (nodes.Formula (formulas.EqSet s t)) h = (set_number bank s h.0, set_number bank t h.1)
  parts_stand bank (nodes.Formula (formulas.Member e s)) h = (element_number bank e h.0, set_number bank s h.1)
  parts_stand bank (nodes.Formula formulas.True) h = tt
  parts_stand bank (nodes.Formula formulas.False) h = tt
  parts_stand bank (nodes.Formula (formulas.Flag c)) h = tt
  parts_stand bank (nodes.Formula (formulas.Not f)) h = tt
  parts_stand bank (nodes.Formula (formulas.And fs)) h = tt
  parts_stand bank (nodes.Formula (formulas.Or fs)) h = tt
  parts_stand bank (nodes.Formula (formulas.Iff f g)) h = tt
  parts_stand bank (nodes.Formula (formulas.Le row)) h = tt
  parts_stand bank (nodes.Set (sets.Single e)) h = element_number bank e h
  parts_stand bank (nodes.Set (sets.Union s t)) h = (set_number bank s h.0, set_number bank t h.1)
  parts_stand bank (nodes.Set (sets.Inter s t)) h = (set_number bank s h.0, set_number bank t h.1)
  parts_stand bank (nodes.Set (sets.Minus s t)) h = (set_number bank s h.0, set_number bank t h.1)
  parts_stand bank (nodes.Set (sets.Const c sort)) h = tt
  parts_stand bank (nodes.Set (sets.Empty sort)) h = tt
  parts_stand bank (nodes.Element (elements.Diff s t)) h = absurd h
  parts_stand bank (nodes.Element (elements.Const c sort)) h = tt
  parts_stand bank (nodes.Element (elements.Number affine)) h = tt

  take_short : (xs : List Node) (n : ℕ) → length (take n xs) ≤ length xs
  take_short [] zero = omega arith
  take_short [] (suc n) = omega arith
  take_short (x ∷ xs) zero = omega arith
  take_short (x ∷ xs) (suc n) = let p = take_short xs n in omega (p, arith)

  bank_sorts : (bank : List Node) (by : Sorting) → IsBank bank → BankHasSorting bank by → Sorts bank by
  bank_sorts bank by is h = record { sorted = h; parts = parts_at }
    where
      parts_at : (n : ℕ) (x : Node) → item_at bank n ≡ Some x → PartsWithin (length bank) x
      parts_at zero x e = absurd cc
      parts_at (suc n) x e = more_within (length (take n bank)) (length bank) x (take_short bank n) (parts_stand (take n bank) x (is.stands n x e))

  pub done_sorted : (t : Shape) (s : State) (n : ℕ) (bank : List Node) → IsBank s.bank → IsWellSortedBank s.bank → core t s ≡ Done n bank → IsWellSortedBank bank
  done_sorted t s n bank is h e =
      let done = subst (λ o. After s.bank h.0 (IsAt sorts.Bool) o) e (after_core t s h.0 (bank_sorts s.bank h.0 is h.1)) in
      (done.0, done.1.0.sorts.sorted)

  pub fault_sorted : (t : Shape) (s : State) (code : Code) (bank : List Node) → IsBank s.bank → IsWellSortedBank s.bank → core t s ≡ Fault code bank → IsWellSortedBank bank
  fault_sorted t s code bank is h e =
      let done = subst (λ o. After s.bank h.0 (IsAt sorts.Bool) o) e (after_core t s h.0 (bank_sorts s.bank h.0 is h.1)) in
      (done.0, done.1.sorts.sorted)
