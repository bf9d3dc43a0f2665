-- The nodes that operators make keep a bank well sorted, and have the sort of the operator.
use Rattle.std.proofs.Common.{◌≡◌, ℕ, ◌+◌, Bool, true, List, [], ◌∷◌, ◌++◌, length, map, Some, sym, ap, ◌∙◌, arith}
use Rattle.std.specs.Prelude.{⊤}
use Rattle.std.specs.List.{AllByRecursion}
use Rattle.sc_sexpr.specs.Shapes.{Single, Empty}
use Rattle.sc_terms.specs.declared.nodes.Node.{Node}
use Rattle.sc_terms.specs.declared.nodes.Node.TheVariants as nodes
use Rattle.sc_terms.specs.declared.nodes.Formula.{Formula}
use Rattle.sc_terms.specs.declared.nodes.Formula.TheVariants as formulas
use Rattle.sc_terms.specs.declared.nodes.SetTerm.{SetTerm}
use Rattle.sc_terms.specs.declared.nodes.SetTerm.TheVariants as sets
use Rattle.sc_terms.specs.declared.nodes.Element.{Element}
use Rattle.sc_terms.specs.declared.nodes.Element.TheVariants as elements
use Rattle.sc_terms.specs.declared.nodes.Sort.{Sort}
use Rattle.sc_terms.specs.declared.nodes.Sort.TheVariants as sorts
use Rattle.sc_sorts.specs.Sorted.{Sorting, FormulaIsSorted, SetIsSorted}
use Rattle.sc_stack.specs.declared.stack.Named.{Named}
use Rattle.sc_elab.specs.declared.set_terms.Join.{Join}
use Rattle.sc_elab.specs.declared.set_terms.Join.TheVariants as joins
use Rattle.sc_elab.specs.States.{Outcome, Done, bind, each, put, put_formula, put_set}
use Rattle.sc_elab.specs.Builds.{negation, disjunction, from_left, from_right, equal, difference, exclusive_or, equation, neighbours, pairs, conjoined, conjunction, chain, apart, choice, single, union, joined, inclusion}
use Rattle.sc_elab.specs.Elab.{is_sort_of_sets}
use Rattle.sc_elab.proofs.SortedBanks.{After, Agree, AllAt, ElementAt, Free, IsAt, Later, NumbersStand, PartsWithin, SetAt, Sorts, after_bind, after_put, at_later, formula_agrees, held, held_is, later_same, some_is}

module _ (numbered : NumbersStand) where
  -- ---- formulas
  pub after_formula : (f : Formula) (bank : List Node) (by : Sorting) → Sorts bank by → PartsWithin (length bank) (nodes.Formula f) → FormulaIsSorted by f → After bank by (IsAt sorts.Bool) (put_formula f bank)
  after_formula f bank by h parts own = after_put numbered (nodes.Formula f) sorts.Bool bank by h parts (IsAt sorts.Bool) (λ after n g m e. formula_agrees (length bank) by after g f parts own) (λ n new after l le s. tt)

  pub after_equal : (sort : Sort) (x y : ℕ) (bank : List Node) (by : Sorting) → Sorts bank by → IsAt sort x bank by → IsAt sort y bank by → After bank by (IsAt sorts.Bool) (put_formula (equal sort x y) bank)
  after_equal sorts.Bool x y bank by h a b = after_formula (formulas.Iff x y) bank by h tt tt
  after_equal sorts.Int x y bank by h a b = after_formula (formulas.Eq x y) bank by h (a.0, b.0) (a.1 ∙ sym b.1)
  after_equal (sorts.Named k) x y bank by h a b = after_formula (formulas.Eq x y) bank by h (a.0, b.0) (a.1 ∙ sym b.1)
  after_equal sorts.SetInt x y bank by h a b = after_formula (formulas.EqSet x y) bank by h (a.0, b.0) (a.1 ∙ sym b.1)
  after_equal (sorts.SetNamed k) x y bank by h a b = after_formula (formulas.EqSet x y) bank by h (a.0, b.0) (a.1 ∙ sym b.1)

  pub after_difference : (sort : Sort) (p : ℕ × ℕ) (bank : List Node) (by : Sorting) → Sorts bank by → IsAt sort p.0 bank by → IsAt sort p.1 bank by → After bank by (IsAt sorts.Bool) (difference sort p bank)
  after_difference sort p bank by h a b =
      after_bind bank by (IsAt sorts.Bool) (IsAt sorts.Bool) (equation sort p bank) (λ n c. put_formula (formulas.Not n) c) (after_equal sort p.0 p.1 bank by h a b)
      (λ n c after l i. after_formula (formulas.Not n) c after l.sorts tt tt)

  -- ---- set terms
  pub after_set : (s : SetTerm) (m : Sort) (bank : List Node) (by : Sorting) → Sorts bank by → PartsWithin (length bank) (nodes.Set s) → ((after : Sorting) (n : ℕ) → Agree (length bank) by after → after.members n ≡ m → SetIsSorted after n s) → ((after : Sorting) (n : ℕ) → Agree (length bank) by after → SetIsSorted after n s → after.members n ≡ m) → After bank by (SetAt m) (put_set s bank)
  after_set s m bank by h parts fit own = after_put numbered (nodes.Set s) m bank by h parts (SetAt m) (λ after n g at e. fit after n g at) (λ n new after l le is. (le, own after n l.agree is))

  pub after_single : (m : Sort) (e : ℕ) (bank : List Node) (by : Sorting) → Sorts bank by → ElementAt m e bank by → After bank by (SetAt m) (single e bank)
  after_single m e bank by h a =
      after_set (sets.Single e) m bank by h a.0
      (λ after n g at. g.element e a.0 ∙ a.1 ∙ sym at)
      (λ after n g is. sym is ∙ g.element e a.0 ∙ a.1)

  pub after_union : (m : Sort) (s t : ℕ) (bank : List Node) (by : Sorting) → Sorts bank by → SetAt m s bank by → SetAt m t bank by → After bank by (SetAt m) (union s t bank)
  after_union m s t bank by h a b =
      after_set (sets.Union s t) m bank by h (a.0, b.0)
      (λ after n g at. (g.members s a.0 ∙ a.1 ∙ sym at, g.members t b.0 ∙ b.1 ∙ sym at))
      (λ after n g is. sym is.0 ∙ g.members s a.0 ∙ a.1)

  pub after_inter : (m : Sort) (s t : ℕ) (bank : List Node) (by : Sorting) → Sorts bank by → SetAt m s bank by → SetAt m t bank by → After bank by (SetAt m) (put_set (sets.Inter s t) bank)
  after_inter m s t bank by h a b =
      after_set (sets.Inter s t) m bank by h (a.0, b.0)
      (λ after n g at. (g.members s a.0 ∙ a.1 ∙ sym at, g.members t b.0 ∙ b.1 ∙ sym at))
      (λ after n g is. sym is.0 ∙ g.members s a.0 ∙ a.1)

  pub after_minus : (m : Sort) (s t : ℕ) (bank : List Node) (by : Sorting) → Sorts bank by → SetAt m s bank by → SetAt m t bank by → After bank by (SetAt m) (put_set (sets.Minus s t) bank)
  after_minus m s t bank by h a b =
      after_set (sets.Minus s t) m bank by h (a.0, b.0)
      (λ after n g at. (g.members s a.0 ∙ a.1 ∙ sym at, g.members t b.0 ∙ b.1 ∙ sym at))
      (λ after n g is. sym is.0 ∙ g.members s a.0 ∙ a.1)

  pub after_empty : (sort : Sort) (bank : List Node) (by : Sorting) → is_sort_of_sets sort ≡ true → Sorts bank by → After bank by (SetAt (held sort)) (put_set (sets.Empty sort) bank)
  after_empty sort bank by e h =
      after_set (sets.Empty sort) (held sort) bank by h tt
      (λ after n g at. held_is sort e ∙ ap Some (sym at))
      (λ after n g is. some_is (after.members n) (held sort) (sym is ∙ held_is sort e))

  pub after_constant : (c : ℕ) (sort : Sort) (bank : List Node) (by : Sorting) → is_sort_of_sets sort ≡ true → Sorts bank by → After bank by (SetAt (held sort)) (put_set (sets.Const c sort) bank)
  after_constant c sort bank by e h =
      after_set (sets.Const c sort) (held sort) bank by h tt
      (λ after n g at. held_is sort e ∙ ap Some (sym at))
      (λ after n g is. some_is (after.members n) (held sort) (sym is ∙ held_is sort e))

  pub after_element : (c : ℕ) (sort : Sort) (bank : List Node) (by : Sorting) → Sorts bank by → After bank by (ElementAt sort) (put (nodes.Element (elements.Const c sort)) bank)
  after_element c sort bank by h = after_put numbered (nodes.Element (elements.Const c sort)) sort bank by h tt (ElementAt sort) (λ after n g at e. e) (λ n new after l le is. (le, is))

  -- ---- several, one after another
  pub set_later : (m : Sort) (n : ℕ) (a b : List Node) (x y : Sorting) → Later a x b y → SetAt m n a x → SetAt m n b y
  set_later m n a b x y l h = (omega (l.longer, h.0, arith), l.agree.members n h.0 ∙ h.1)

  pub element_later : (m : Sort) (n : ℕ) (a b : List Node) (x y : Sorting) → Later a x b y → ElementAt m n a x → ElementAt m n b y
  element_later m n a b x y l h = (omega (l.longer, h.0, arith), l.agree.element n h.0 ∙ h.1)

  abbrev pub SetsAt : Sort → List ℕ → List Node → Sorting → Type 0
  SetsAt m ns bank by = AllByRecursion (λ n. SetAt m n bank by) ns

  pub sets_later : (m : Sort) (ns : List ℕ) (a b : List Node) (x y : Sorting) → Later a x b y → SetsAt m ns a x → SetsAt m ns b y
  sets_later m [] a b x y l h = tt
  sets_later m (n ∷ ns) a b x y l h = (set_later m n a b x y l h.0, sets_later m ns a b x y l h.1)

  pub after_xor : (x : ℕ) (ys : List ℕ) (bank : List Node) (by : Sorting) → Sorts bank by → After bank by (IsAt sorts.Bool) (from_left exclusive_or x ys bank)
  after_xor x [] bank by h = (by, (later_same bank by h, tt))
  after_xor x (y ∷ ys) bank by h =
      after_bind bank by (IsAt sorts.Bool) (IsAt sorts.Bool) (exclusive_or x y bank) (λ n b. from_left exclusive_or n ys b) (after_difference sorts.Bool (x, y) bank by h tt tt)
      (λ n b after l i. after_xor n ys b after l.sorts)

  pub after_joined : (join : Join) (m : Sort) (s t : ℕ) (bank : List Node) (by : Sorting) → Sorts bank by → SetAt m s bank by → SetAt m t bank by → After bank by (SetAt m) (joined join s t bank)
  after_joined joins.Union m s t bank by h a b = after_union m s t bank by h a b
  after_joined joins.Inter m s t bank by h a b = after_inter m s t bank by h a b

  pub after_grouped : (join : Join) (m : Sort) (s : ℕ) (ts : List ℕ) (bank : List Node) (by : Sorting) → Sorts bank by → SetAt m s bank by → SetsAt m ts bank by → After bank by (SetAt m) (from_left (joined join) s ts bank)
  after_grouped join m s [] bank by h a b = (by, (later_same bank by h, a))
  after_grouped join m s (t ∷ ts) bank by h a b =
      after_bind bank by (SetAt m) (SetAt m) (joined join s t bank) (λ n c. from_left (joined join) n ts c) (after_joined join m s t bank by h a b.0)
      (λ n c after l i. after_grouped join m n ts c after l.sorts i (sets_later m ts bank c by after l b.1))

  pub after_implication : (fs : List ℕ) (bank : List Node) (by : Sorting) → Sorts bank by → After bank by (IsAt sorts.Bool) (from_right negation disjunction fs bank)
  after_implication [] bank by h = (by, later_same bank by h)
  after_implication (f ∷ []) bank by h = (by, (later_same bank by h, tt))
  after_implication (f ∷ g ∷ gs) bank by h =
      after_bind bank by (IsAt sorts.Bool) (IsAt sorts.Bool) (negation f bank) (λ n b. bind (from_right negation disjunction (g ∷ gs) b) (λ m c. disjunction n m c)) (after_formula (formulas.Not f) bank by h tt tt)
      (λ n b x l i. after_bind b x (IsAt sorts.Bool) (IsAt sorts.Bool) (from_right negation disjunction (g ∷ gs) b) (λ m c. disjunction n m c) (after_implication (g ∷ gs) b x l.sorts)
      (λ m c y k j. after_formula (formulas.Or (n ∷ m ∷ [])) c y k.sorts tt tt))

  -- elements of a sort, and a set of such as the last
  abbrev pub InsertedAt : Sort → List ℕ → List Node → Sorting → Type 0
  InsertedAt m [] bank by = ⊤
  InsertedAt m (s ∷ []) bank by = SetAt m s bank by
  InsertedAt m (e ∷ n ∷ ns) bank by = ElementAt m e bank by × InsertedAt m (n ∷ ns) bank by

  pub inserted_later : (m : Sort) (ns : List ℕ) (a b : List Node) (x y : Sorting) → Later a x b y → InsertedAt m ns a x → InsertedAt m ns b y
  inserted_later m [] a b x y l h = tt
  inserted_later m (s ∷ []) a b x y l h = set_later m s a b x y l h
  inserted_later m (e ∷ n ∷ ns) a b x y l h = (element_later m e a b x y l h.0, inserted_later m (n ∷ ns) a b x y l h.1)

  pub after_insertion : (m : Sort) (ns : List ℕ) (bank : List Node) (by : Sorting) → Sorts bank by → InsertedAt m ns bank by → After bank by (SetAt m) (from_right single union ns bank)
  after_insertion m [] bank by h a = (by, later_same bank by h)
  after_insertion m (s ∷ []) bank by h a = (by, (later_same bank by h, a))
  after_insertion m (e ∷ n ∷ ns) bank by h a =
      after_bind bank by (SetAt m) (SetAt m) (single e bank) (λ s b. bind (from_right single union (n ∷ ns) b) (λ t c. union s t c)) (after_single m e bank by h a.0)
      (λ s b x l i. after_bind b x (SetAt m) (SetAt m) (from_right single union (n ∷ ns) b) (λ t c. union s t c) (after_insertion m (n ∷ ns) b x l.sorts (inserted_later m (n ∷ ns) bank b by x l a.1))
      (λ t c y k j. after_union m s t c y k.sorts (set_later m s b c x y k i) j))

  pub after_inclusion : (sort : Sort) (s t : ℕ) (bank : List Node) (by : Sorting) → is_sort_of_sets sort ≡ true → Sorts bank by → SetAt (held sort) s bank by → SetAt (held sort) t bank by → After bank by (IsAt sorts.Bool) (inclusion sort s t bank)
  after_inclusion sort s t bank by is h a b =
      after_bind bank by (SetAt (held sort)) (IsAt sorts.Bool) (put_set (sets.Minus s t) bank) (λ m b1. bind (put_set (sets.Empty sort) b1) (λ e b2. put_formula (formulas.EqSet m e) b2)) (after_minus (held sort) s t bank by h a b)
      (λ m b1 x l i. after_bind b1 x (SetAt (held sort)) (IsAt sorts.Bool) (put_set (sets.Empty sort) b1) (λ e b2. put_formula (formulas.EqSet m e) b2) (after_empty sort b1 x is l.sorts)
      (λ e b2 y k j. let first = set_later (held sort) m b1 b2 x y k i in after_formula (formulas.EqSet m e) b2 y k.sorts (first.0, j.0) (first.1 ∙ sym j.1)))

  -- ---- pairs
  abbrev pub PairsAt : Sort → List (ℕ × ℕ) → List Node → Sorting → Type 0
  PairsAt sort ps bank by = AllByRecursion (λ (p : ℕ × ℕ). IsAt sort p.0 bank by × IsAt sort p.1 bank by) ps

  pub pairs_later : (sort : Sort) (ps : List (ℕ × ℕ)) (a b : List Node) (x y : Sorting) → Later a x b y → PairsAt sort ps a x → PairsAt sort ps b y
  pairs_later sort [] a b x y l h = tt
  pairs_later sort (p ∷ ps) a b x y l h = ((at_later sort p.0 a b x y l h.0.0, at_later sort p.1 a b x y l h.0.1), pairs_later sort ps a b x y l h.1)

  pub neighbours_at : (sort : Sort) (ns : List ℕ) (bank : List Node) (by : Sorting) → AllAt sort ns bank by → PairsAt sort (neighbours ns) bank by
  neighbours_at sort [] bank by h = tt
  neighbours_at sort (n ∷ []) bank by h = tt
  neighbours_at sort (n ∷ m ∷ ns) bank by h = ((h.0, h.1.0), neighbours_at sort (m ∷ ns) bank by h.1)

  pub first_pairs_at : (sort : Sort) (n : ℕ) (ns : List ℕ) (ps : List (ℕ × ℕ)) (bank : List Node) (by : Sorting) → IsAt sort n bank by → AllAt sort ns bank by → PairsAt sort ps bank by → PairsAt sort (map (λ m. (n, m)) ns ++ ps) bank by
  first_pairs_at sort n [] ps bank by a h rest = rest
  first_pairs_at sort n (m ∷ ns) ps bank by a h rest = ((a, h.0), first_pairs_at sort n ns ps bank by a h.1 rest)

  pub pairs_at : (sort : Sort) (ns : List ℕ) (bank : List Node) (by : Sorting) → AllAt sort ns bank by → PairsAt sort (pairs ns) bank by
  pairs_at sort [] bank by h = tt
  pairs_at sort (n ∷ ns) bank by h = first_pairs_at sort n ns (pairs ns) bank by h.0 h.1 (pairs_at sort ns bank by h.1)

  pub after_each : (sort : Sort) (f : ℕ × ℕ → List Node → Outcome ℕ) → ((p : ℕ × ℕ) (bank : List Node) (by : Sorting) → Sorts bank by → IsAt sort p.0 bank by → IsAt sort p.1 bank by → After bank by (IsAt sorts.Bool) (f p bank)) → (ps : List (ℕ × ℕ)) (bank : List Node) (by : Sorting) → Sorts bank by → PairsAt sort ps bank by → After bank by Free (each f ps bank)
  after_each sort f one [] bank by h a = (by, (later_same bank by h, tt))
  after_each sort f one (p ∷ ps) bank by h a =
      after_bind bank by (IsAt sorts.Bool) Free (f p bank) (λ n b. bind (each f ps b) (λ more c. Done (n ∷ more) c)) (one p bank by h a.0.0 a.0.1)
      (λ n b x l i. after_bind b x Free Free (each f ps b) (λ more c. Done (n ∷ more) c) (after_each sort f one ps b x l.sorts (pairs_later sort ps bank b by x l a.1))
      (λ more c y k j. (y, (later_same c y k.sorts, tt))))

  pub after_conjunction : (fs : List ℕ) (bank : List Node) (by : Sorting) → Sorts bank by → After bank by (IsAt sorts.Bool) (conjunction fs bank)
  after_conjunction [] bank by h = after_formula (formulas.And []) bank by h tt tt
  after_conjunction (f ∷ []) bank by h = (by, (later_same bank by h, tt))
  after_conjunction (f ∷ g ∷ fs) bank by h = after_formula (formulas.And (f ∷ g ∷ fs)) bank by h tt tt

  pub after_chain : (sort : Sort) (x : ℕ) (xs : List ℕ) (bank : List Node) (by : Sorting) → Sorts bank by → AllAt sort (x ∷ xs) bank by → After bank by (IsAt sorts.Bool) (chain sort x xs bank)
  after_chain sort x xs bank by h a =
      after_bind bank by Free (IsAt sorts.Bool) (each (equation sort) (neighbours (x ∷ xs)) bank) conjunction
      (after_each sort (equation sort) (λ p b y s i j. after_equal sort p.0 p.1 b y s i j) (neighbours (x ∷ xs)) bank by h (neighbours_at sort (x ∷ xs) bank by a))
      (λ fs b y l i. after_conjunction fs b y l.sorts)

  pub after_apart : (sort : Sort) (xs : List ℕ) (bank : List Node) (by : Sorting) → Sorts bank by → AllAt sort xs bank by → After bank by (IsAt sorts.Bool) (apart sort xs bank)
  after_apart sort xs bank by h a =
      after_bind bank by Free (IsAt sorts.Bool) (each (difference sort) (pairs xs) bank) conjunction
      (after_each sort (difference sort) (after_difference sort) (pairs xs) bank by h (pairs_at sort xs bank by a))
      (λ fs b y l i. after_conjunction fs b y l.sorts)

  pub after_choice : (c f g : ℕ) (bank : List Node) (by : Sorting) → Sorts bank by → After bank by (IsAt sorts.Bool) (choice c f g bank)
  after_choice c f g bank by h =
      after_bind bank by (IsAt sorts.Bool) (IsAt sorts.Bool) (negation c bank) (λ n b1. bind (disjunction n f b1) (λ x b2. bind (disjunction c g b2) (λ y b3. conjoined (x ∷ y ∷ []) b3))) (after_formula (formulas.Not c) bank by h tt tt)
      (λ n b1 y1 l1 i1. after_bind b1 y1 (IsAt sorts.Bool) (IsAt sorts.Bool) (disjunction n f b1) (λ x b2. bind (disjunction c g b2) (λ y b3. conjoined (x ∷ y ∷ []) b3)) (after_formula (formulas.Or (n ∷ f ∷ [])) b1 y1 l1.sorts tt tt)
      (λ x b2 y2 l2 i2. after_bind b2 y2 (IsAt sorts.Bool) (IsAt sorts.Bool) (disjunction c g b2) (λ y b3. conjoined (x ∷ y ∷ []) b3) (after_formula (formulas.Or (c ∷ g ∷ [])) b2 y2 l2.sorts tt tt)
      (λ y b3 y3 l3 i3. after_formula (formulas.And (x ∷ y ∷ [])) b3 y3 l3.sorts tt tt)))
