-- The nodes of a stock have ranks above those of their parts.
use Rattle.std.proofs.Common.{◌≡◌, ℕ, zero, suc, ◌+◌, ◌<◌, ◌≤◌, Bool, true, false, cond, ℤ, List, [], ◌∷◌, length, map, Option, Some, None, inl, inr, refl, sym, ap, subst, ◌∙◌, arith, length-append}
use Rattle.std.specs.Prelude.{nat_lt, filter}
use Rattle.std.specs.List.{count_by, AllByRecursion}
use Rattle.std.specs.Ordering.{is_lt}
use Rattle.std.proofs.lemmas.Bool.{false≢true}
use Rattle.sc_base.specs.Numbered.{item_at}
use Rattle.sc_terms.specs.declared.atoms.Atom.{Atom}
use Rattle.sc_terms.specs.declared.atoms.Atom.TheVariants as atoms
use Rattle.sc_terms.specs.declared.nodes.Element.{Element}
use Rattle.sc_terms.specs.declared.nodes.Element.TheVariants as elements
use Rattle.sc_terms.specs.declared.nodes.Formula.{Formula}
use Rattle.sc_terms.specs.declared.nodes.Formula.TheVariants as formulas
use Rattle.sc_terms.specs.declared.nodes.Node.{Node}
use Rattle.sc_terms.specs.declared.nodes.Node.TheVariants as nodes
use Rattle.sc_terms.specs.declared.nodes.SetTerm.{SetTerm}
use Rattle.sc_terms.specs.declared.nodes.SetTerm.TheVariants as sets
use Rattle.sc_terms.specs.declared.problem.Parts.{Parts}
use Rattle.sc_terms.specs.Bank.{is_formula, is_set, is_element, IsBank}
use Rattle.sc_terms.specs.Conditions.{IsIn, Ranks, AtomBelow, FormBelow, SetBelow, ElementBelow, FormulaBelow, Descends}
use Rattle.sc_terms.specs.Forms.{atom_cmp}
use Rattle.sc_terms.specs.Values.{node_count}
use Rattle.sc_flatten.specs.Walk.{form_parts, formula_parts, set_parts, element_parts, parts_at}
use Rattle.sc_flatten.specs.Classes.{pairs_of, diff_of_pair}
use Rattle.sc_flatten.specs.Stock.{Numbering, numbering_by, number_in, placed_term, form_in, formula_in, set_in, element_in, formula_by, set_by, element_by, formulas_by, problem_by}
use Rattle.sc_flatten.specs.Numbered.{IsAmong, TermListed, FormulaListed, SetListed, ElementListed, FormulaListedAt, SetListedAt, ElementListedAt, IsWhole}
use Rattle.sc_flatten.proofs.Closed.{IsClosed}
use Rattle.sc_flatten.proofs.Lists.{among_cases, among_filtered, all_from, all_to, item_mapped, item_unmapped, item_appended, item_among, item_all, item_in, length-map, count_cons}
use Rattle.sc_flatten.proofs.Firsts.{number_there}
use Rattle.sc_flatten.proofs.Below.{parts_below}

-- ---- what holds of a term and of all terms holds where the term is at its place
pub all_placed : (P : ℤ × Atom → Type 0) (p : ℤ × Atom) (qs : List (ℤ × Atom)) → P p → AllByRecursion P qs → AllByRecursion P (placed_term p qs)
all_placed P p [] h k = (h, tt)
all_placed P p (q ∷ qs) h k = here (is_lt (atom_cmp p.1 q.1)) (all_placed P p qs h k.1) where
  here : (b : Bool) → AllByRecursion P (placed_term p qs) → AllByRecursion P (cond b (p ∷ q ∷ qs) (q ∷ placed_term p qs))
  here true rest = (h, k)
  here false rest = (k.0, rest)

-- ---- how many of the numbers are below one
abbrev pub below_count : List ℕ → ℕ → ℕ
below_count order b = count_by (λ m. nat_lt m b) order

lt_apart : (m p b : ℕ) → nat_lt m p ≡ true → nat_lt m b ≡ false → p ≤ b → ⊥
lt_apart m p b e f h = grind arith

one_le : (m p b : ℕ) (x y : Bool) → nat_lt m p ≡ x → nat_lt m b ≡ y → p ≤ b → cond x 1 0 ≤ cond y 1 0
one_le m p b true true e f h = omega arith
one_le m p b true false e f h = absurd (lt_apart m p b e f h)
one_le m p b false y e f h = omega arith

at_most_one : (x : Bool) → cond x 1 0 ≤ 1
at_most_one true = omega arith
at_most_one false = omega arith

count_first : (m b : ℕ) (ms : List ℕ) (x : Bool) → nat_lt m b ≡ x → below_count (m ∷ ms) b ≡ cond x 1 0 + below_count ms b
count_first m b ms x e = count_cons (λ y. nat_lt y b) m ms ∙ ap (λ y. cond y 1 0 + below_count ms b) e

count_le : (order : List ℕ) (p b : ℕ) → p ≤ b → below_count order p ≤ below_count order b
count_le [] p b h = omega arith
count_le (m ∷ ms) p b h = omega (arith, count_first m p ms (nat_lt m p) refl, count_first m b ms (nat_lt m b) refl, count_le ms p b h, one_le m p b (nat_lt m p) (nat_lt m b) refl refl h)

-- a number among them counts for those above it alone
pub count_less : (order : List ℕ) (p b : ℕ) → IsAmong order p → p < b → below_count order p < below_count order b
count_less [] p b e h = absurd (false≢true e)
count_less (m ∷ ms) p b e h =
    elim (among_cases p m ms e) [
      | inl s ↦
          let no : nat_lt m p ≡ false = grind arith in
          let yes : nat_lt m b ≡ true = grind arith in
          omega (arith, count_first m p ms false no, count_first m b ms true yes, count_le ms p b (omega arith))
      | inr t ↦ omega (arith, count_first m p ms (nat_lt m p) refl, count_first m b ms (nat_lt m b) refl, count_less ms p b t h, one_le m p b (nat_lt m p) (nat_lt m b) refl refl (omega arith))
    ]

count_some : (order : List ℕ) (b : ℕ) → below_count order b ≤ length order
count_some [] b = omega arith
count_some (m ∷ ms) b = omega (arith, count_first m b ms (nat_lt m b) refl, count_some ms b, at_most_one (nat_lt m b))

pub count_few : (order : List ℕ) (b : ℕ) → IsAmong order b → below_count order b < length order
count_few [] b e = absurd (false≢true e)
count_few (m ∷ ms) b e =
    elim (among_cases b m ms e) [
      | inl s ↦ let no : nat_lt m b ≡ false = grind arith in omega (arith, count_first m b ms false no, count_some ms b)
      | inr t ↦ omega (arith, count_first m b ms (nat_lt m b) refl, count_few ms b t, at_most_one (nat_lt m b))
    ]

-- ---- each number is that of a node of one kind
module _ (bank : List Node) where
  kinds : (o : Option Node) (n : ℕ) (fs ss es : List ℕ) → (o ≡ None → ⊥) → length (cond (is_formula o) (n ∷ fs) fs) + length (cond (is_set o) (n ∷ ss) ss) + length (cond (is_element o) (n ∷ es) es) ≡ suc (length fs + length ss + length es)
  kinds None n fs ss es h = absurd (h refl)
  kinds (Some (nodes.Formula f)) n fs ss es h = omega arith
  kinds (Some (nodes.Set s)) n fs ss es h = omega arith
  kinds (Some (nodes.Element e)) n fs ss es h = omega arith

  pub three_kinds : (order : List ℕ) → AllByRecursion (λ n. item_at bank n ≡ None → ⊥) order → length (filter (λ n. is_formula (item_at bank n)) order) + length (filter (λ n. is_set (item_at bank n)) order) + length (filter (λ n. is_element (item_at bank n)) order) ≡ length order
  three_kinds [] h = omega arith
  three_kinds (n ∷ ns) h =
      kinds (item_at bank n) n (filter (λ n. is_formula (item_at bank n)) ns) (filter (λ n. is_set (item_at bank n)) ns) (filter (λ n. is_element (item_at bank n)) ns) h.0
      ∙ ap suc (three_kinds ns h.1)

-- ---- ranks
abbrev rank_at : List ℕ → Option ℕ → ℕ
rank_at order (Some b) = below_count order b
rank_at order None = length order

module _ (bank : List Node) (is : IsBank bank) (order : List ℕ) (closed : IsClosed bank order) (assertions : List ℕ) (whole : IsWhole bank assertions (numbering_by bank order)) where
  abbrev by : Numbering
  by = numbering_by bank order

  abbrev problem : Parts
  problem = problem_by bank assertions by

  pub stock_ranks : Ranks
  stock_ranks = record { formula = λ n. rank_at order (item_at by.formulas n); set = λ n. rank_at order (item_at by.sets n); element = λ n. rank_at order (item_at by.elements n) }

  formula_rank : (b p : ℕ) → p < b → IsAmong by.formulas p → stock_ranks.formula (number_in by.formulas p) < below_count order b
  unfolding stock_ranks
  formula_rank b p h e = subst (λ o. rank_at order o < below_count order b) (sym (number_there by.formulas p e)) (count_less order p b (among_filtered (λ n. is_formula (item_at bank n)) p order e).0 h)

  set_rank : (b p : ℕ) → p < b → IsAmong by.sets p → stock_ranks.set (number_in by.sets p) < below_count order b
  unfolding stock_ranks
  set_rank b p h e = subst (λ o. rank_at order o < below_count order b) (sym (number_there by.sets p e)) (count_less order p b (among_filtered (λ n. is_set (item_at bank n)) p order e).0 h)

  element_rank : (b p : ℕ) → p < b → IsAmong by.elements p → stock_ranks.element (number_in by.elements p) < below_count order b
  unfolding stock_ranks
  element_rank b p h e = subst (λ o. rank_at order o < below_count order b) (sym (number_there by.elements p e)) (count_less order p b (among_filtered (λ n. is_element (item_at bank n)) p order e).0 h)

  -- ---- the parts of the node with the number b in the bank
  module _ (b : ℕ) where
    form_falls : (form : List (ℤ × Atom)) → AllByRecursion (TermListed by) form → AllByRecursion (λ p. p < b) (form_parts form) → FormBelow problem stock_ranks (below_count order b) (form_in by form)
    form_falls [] h p = tt
    form_falls ((z, atoms.Int n) ∷ ps) h p = all_placed (λ q. AtomBelow problem stock_ranks (below_count order b) q.1) (z, atoms.Int (number_in by.ints n)) (form_in by ps) tt (form_falls ps h.1 p)
    form_falls ((z, atoms.Card s) ∷ ps) h p = all_placed (λ q. AtomBelow problem stock_ranks (below_count order b) q.1) (z, atoms.Card (number_in by.sets s)) (form_in by ps) (set_rank b s p.0 h.0.1) (form_falls ps h.1 p.1)
    form_falls ((z, atoms.Diff e) ∷ ps) h p = absurd h.0.1
    form_falls ((z, atoms.Size cube) ∷ ps) h p = absurd h.0.1

    all_fall : (fs : List ℕ) → AllByRecursion (IsAmong by.formulas) fs → AllByRecursion (λ p. p < b) fs → AllByRecursion (λ f. stock_ranks.formula f < below_count order b) (map (number_in by.formulas) fs)
    all_fall [] h p = tt
    all_fall (f ∷ fs) h p = (formula_rank b f p.0 h.0, all_fall fs h.1 p.1)

    formula_falls : (f : Formula) → FormulaListed by f → AllByRecursion (λ p. p < b) (formula_parts f) → FormulaBelow problem stock_ranks (below_count order b) (formula_in by f)
    formula_falls formulas.True h p = tt
    formula_falls formulas.False h p = tt
    formula_falls (formulas.Flag c) h p = tt
    formula_falls (formulas.Not f) h p = formula_rank b f p.0 h
    formula_falls (formulas.And fs) h p = all_fall fs h p
    formula_falls (formulas.Or fs) h p = all_fall fs h p
    formula_falls (formulas.Iff f g) h p = (formula_rank b f p.0 h.0, formula_rank b g p.1.0 h.1)
    formula_falls (formulas.Eq e f) h p = (element_rank b e p.0 h.0, element_rank b f p.1.0 h.1)
    formula_falls (formulas.EqSet s t) h p = (set_rank b s p.0 h.0, set_rank b t p.1.0 h.1)
    formula_falls (formulas.Member e s) h p = (element_rank b e p.0 h.0, set_rank b s p.1.0 h.1)
    formula_falls (formulas.Le row) h p = form_falls row.form h.1 p

    set_falls : (s : SetTerm) → SetListed by s → AllByRecursion (λ p. p < b) (set_parts s) → SetBelow stock_ranks (below_count order b) (set_in by s)
    set_falls (sets.Const c sort) h p = tt
    set_falls (sets.Empty sort) h p = tt
    set_falls (sets.Single e) h p = element_rank b e p.0 h
    set_falls (sets.Union s t) h p = (set_rank b s p.0 h.0, set_rank b t p.1.0 h.1)
    set_falls (sets.Inter s t) h p = (set_rank b s p.0 h.0, set_rank b t p.1.0 h.1)
    set_falls (sets.Minus s t) h p = (set_rank b s p.0 h.0, set_rank b t p.1.0 h.1)

    element_falls : (e : Element) → ElementListed by e → AllByRecursion (λ p. p < b) (element_parts e) → ElementBelow problem stock_ranks (below_count order b) (element_in by e)
    element_falls (elements.Const c sort) h p = tt
    element_falls (elements.Number affine) h p = form_falls affine.form h.0.1 p
    element_falls (elements.Diff s t) h p = absurd h

    formula_by_falls : (o : Option Node) → FormulaListedAt by o → AllByRecursion (λ p. p < b) (parts_at o) → FormulaBelow problem stock_ranks (below_count order b) (formula_by by o)
    formula_by_falls (Some (nodes.Formula f)) h p = formula_falls f h p
    formula_by_falls _ h p = absurd h

    set_by_falls : (o : Option Node) → SetListedAt by o → AllByRecursion (λ p. p < b) (parts_at o) → SetBelow stock_ranks (below_count order b) (set_by by o)
    set_by_falls (Some (nodes.Set s)) h p = set_falls s h p
    set_by_falls _ h p = absurd h

    element_by_falls : (o : Option Node) → ElementListedAt by o → AllByRecursion (λ p. p < b) (parts_at o) → ElementBelow problem stock_ranks (below_count order b) (element_by by o)
    element_by_falls (Some (nodes.Element e)) h p = element_falls e h p
    element_by_falls _ h p = absurd h

    all_parts_below : AllByRecursion (λ p. p < b) (parts_at (item_at bank b))
    all_parts_below = all_from (λ p. p < b) (parts_at (item_at bank b)) (λ p e. (parts_below bank is b p e).1)

  -- ---- all ranks are below the number of nodes
  no_none : (o : Option Node) (n : ℕ) → item_at bank n ≡ o → IsIn (length bank) n → o ≡ None → ⊥
  no_none (Some x) n e h f = absurd cc
  no_none None n e h f = let r = item_in bank n h in absurd (apart r.0 (sym e ∙ r.1)) where
    apart : (x : Node) → ◌≡◌ {A = Option Node} None (Some x) → ⊥
    apart x g = absurd cc

  nodes_in_order : length by.formulas + length by.sets + length by.elements ≡ length order
  nodes_in_order = three_kinds bank order (all_from (λ n. item_at bank n ≡ None → ⊥) order (λ n h. no_none (item_at bank n) n refl (closed.range n h)))

  pub count_nodes : node_count problem ≡ length order + length (pairs_of (formulas_by bank by))
  count_nodes =
      let a = length-map (λ n. formula_by by (item_at bank n)) by.formulas in
      let b = length-map (λ n. set_by by (item_at bank n)) by.sets in
      let c = length-map (λ n. element_by by (item_at bank n)) by.elements in
      let d = length-map diff_of_pair (pairs_of (formulas_by bank by)) in
      let e = length-append (map (λ n. element_by by (item_at bank n)) by.elements) (map diff_of_pair (pairs_of (formulas_by bank by))) in
      omega (arith, a, b, c, d, e, nodes_in_order)

  -- a set term that is there has a rank below the number of the nodes that were met
  set_few : (s : ℕ) → IsIn (length by.sets) s → stock_ranks.set s < length order
  unfolding stock_ranks
  set_few s h =
      let r = item_in by.sets s h in
      subst (λ o. rank_at order o < length order) (sym r.1) (count_few order r.0 (among_filtered (λ n. is_set (item_at bank n)) r.0 order (item_among by.sets s r.0 r.1)).0)

  rank_bound : (b : ℕ) → IsAmong order b → below_count order b < node_count problem
  rank_bound b h = omega (arith, count_few order b h, count_nodes)

  formula_descends : (n : ℕ) (f : Formula) → item_at problem.formulas n ≡ Some f → (stock_ranks.formula n < node_count problem) × FormulaBelow problem stock_ranks (stock_ranks.formula n) f
  unfolding stock_ranks
  formula_descends n f e =
      let r = item_mapped (λ m. formula_by by (item_at bank m)) by.formulas n f e in
      let b = r.0 in
      let in_kind = item_among by.formulas n b r.1 in
      let in_order = (among_filtered (λ m. is_formula (item_at bank m)) b order in_kind).0 in
      let listed = all_to (λ m. FormulaListedAt by (item_at bank m)) by.formulas whole.formulas b in_kind in
      subst (λ o. (rank_at order o < node_count problem) × FormulaBelow problem stock_ranks (rank_at order o) f) (sym r.1)
      (rank_bound b in_order, subst (λ g. FormulaBelow problem stock_ranks (below_count order b) g) r.2 (formula_by_falls b (item_at bank b) listed (all_parts_below b)))

  set_descends : (n : ℕ) (s : SetTerm) → item_at problem.sets n ≡ Some s → (stock_ranks.set n < node_count problem) × SetBelow stock_ranks (stock_ranks.set n) s
  unfolding stock_ranks
  set_descends n s e =
      let r = item_mapped (λ m. set_by by (item_at bank m)) by.sets n s e in
      let b = r.0 in
      let in_kind = item_among by.sets n b r.1 in
      let in_order = (among_filtered (λ m. is_set (item_at bank m)) b order in_kind).0 in
      let listed = all_to (λ m. SetListedAt by (item_at bank m)) by.sets whole.sets b in_kind in
      subst (λ o. (rank_at order o < node_count problem) × SetBelow stock_ranks (rank_at order o) s) (sym r.1)
      (rank_bound b in_order, subst (λ g. SetBelow stock_ranks (below_count order b) g) r.2 (set_by_falls b (item_at bank b) listed (all_parts_below b)))

  abbrev PairIn : ℕ × ℕ → Type 0
  PairIn p = IsIn (length by.sets) p.0 × IsIn (length by.sets) p.1

  walked_descends : (n : ℕ) (e : Element) → item_at (map (λ m. element_by by (item_at bank m)) by.elements) n ≡ Some e → (stock_ranks.element n < node_count problem) × ElementBelow problem stock_ranks (stock_ranks.element n) e
  unfolding stock_ranks
  walked_descends n e at =
      let r = item_mapped (λ m. element_by by (item_at bank m)) by.elements n e at in
      let b = r.0 in
      let in_kind = item_among by.elements n b r.1 in
      let in_order = (among_filtered (λ m. is_element (item_at bank m)) b order in_kind).0 in
      let listed = all_to (λ m. ElementListedAt by (item_at bank m)) by.elements whole.elements b in_kind in
      subst (λ o. (rank_at order o < node_count problem) × ElementBelow problem stock_ranks (rank_at order o) e) (sym r.1)
      (rank_bound b in_order, subst (λ g. ElementBelow problem stock_ranks (below_count order b) g) r.2 (element_by_falls b (item_at bank b) listed (all_parts_below b)))

  some_pairs : (pairs : List (ℕ × ℕ)) (m : ℕ) (p : ℕ × ℕ) → item_at pairs m ≡ Some p → 0 < length pairs
  some_pairs [] zero p e = absurd cc
  some_pairs [] (suc m) p e = absurd cc
  some_pairs (q ∷ qs) m p e = omega arith

  diff_descends : (n m : ℕ) (e : Element) → AllByRecursion PairIn (pairs_of (formulas_by bank by)) → item_at (map (λ k. element_by by (item_at bank k)) by.elements) n ≡ None → item_at (map diff_of_pair (pairs_of (formulas_by bank by))) m ≡ Some e → (stock_ranks.element n < node_count problem) × ElementBelow problem stock_ranks (stock_ranks.element n) e
  unfolding stock_ranks
  diff_descends n m e pairs none at =
      let none_there = item_unmapped (λ k. element_by by (item_at bank k)) by.elements n none in
      let r = item_mapped diff_of_pair (pairs_of (formulas_by bank by)) m e at in
      let within = item_all PairIn (pairs_of (formulas_by bank by)) m r.0 pairs r.1 in
      let some = some_pairs (pairs_of (formulas_by bank by)) m r.0 r.1 in
      subst (λ o. (rank_at order o < node_count problem) × ElementBelow problem stock_ranks (rank_at order o) e) (sym none_there)
      (omega (arith, count_nodes, some), subst (λ g. ElementBelow problem stock_ranks (length order) g) r.2 (set_few r.0.0 within.0, set_few r.0.1 within.1))

  pub falls : AllByRecursion PairIn (pairs_of (formulas_by bank by)) → Descends problem (node_count problem) stock_ranks
  falls pairs = record {
    formulas = formula_descends;
    sets = set_descends;
    elements = λ n e at.
        elim (item_appended (map (λ k. element_by by (item_at bank k)) by.elements) (map diff_of_pair (pairs_of (formulas_by bank by))) n e at) [
          | inl h ↦ walked_descends n e h
          | inr h ↦ diff_descends n h.1.0 e pairs h.0 h.1.1
        ];
  }
