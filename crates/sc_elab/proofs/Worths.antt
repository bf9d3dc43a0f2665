-- What is built for a term is worth what the term is worth.
use Rattle.std.proofs.Common.{◌≡◌, ℕ, suc, ℤ, Bool, true, false, not, ◌&&◌, List, [], ◌∷◌, map, Option, Some, None, refl, sym, ap, subst}
use Rattle.std.specs.Prelude.{pos, ⊤, nat_lt, if◌then◌else◌, Result, Ok, Err}
use Rattle.std.proofs.lemmas.Bool.{false≢true}
use Rattle.std.specs.List.{IsDistinct}
use Rattle.sc_base.specs.Integers.{has_element, without}
use Rattle.sc_text.specs.declared.code.Code.{Code}
use Rattle.sc_text.specs.declared.code.Code.TheVariants as code
use Rattle.sc_text.specs.declared.token.Kind.{Kind}
use Rattle.sc_text.specs.declared.token.Kind.TheVariants as kind
use Rattle.sc_text.specs.Names.{is_reserved, between}
use Rattle.sc_sexpr.specs.Shapes.{Shape, Single, Listed, Shapes, Empty, More}
use Rattle.sc_terms.specs.declared.nodes.Node.{Node}
use Rattle.sc_terms.specs.declared.nodes.Node.TheVariants as nodes
use Rattle.sc_terms.specs.declared.nodes.Formula.{Formula}
use Rattle.sc_terms.specs.declared.nodes.Formula.TheVariants as formulas
use Rattle.sc_terms.specs.declared.nodes.SetTerm.TheVariants as sets
use Rattle.sc_terms.specs.declared.nodes.Element.TheVariants as elements
use Rattle.sc_terms.specs.declared.nodes.Sort.{Sort}
use Rattle.sc_terms.specs.declared.nodes.Sort.TheVariants as sorts
use Rattle.sc_terms.specs.Bank.{IsBank, FormulaStands, IsFormulaOf}
use Rattle.sc_terms.specs.BankValues.{bank_meaning, no_parts}
use Rattle.sc_terms.specs.Meaning.{Interpretation, IsInterpretation, truth_of}
use Rattle.sc_terms.specs.Same.{same_sort, same_truth, same_sort-Decides}
use Rattle.sc_stack.specs.declared.stack.Named.{Named}
use Rattle.sc_stack.specs.declared.stack.Named.TheVariants as named
use Rattle.sc_stack.specs.Names.{Names, look_up}
use Rattle.sc_elab.specs.declared.meant.Meant.{Meant}
use Rattle.sc_elab.specs.declared.heads.Head.{Head}
use Rattle.sc_elab.specs.declared.heads.Head.TheVariants as heads
use Rattle.sc_elab.specs.declared.set_terms.Join.TheVariants as joins
use Rattle.sc_elab.specs.declared.words.Operator.{Operator}
use Rattle.sc_elab.specs.declared.words.Operator.TheVariants as op
use Rattle.sc_elab.specs.declared.words.Word.{Word}
use Rattle.sc_elab.specs.declared.words.Word.TheVariants as word
use Rattle.sc_elab.specs.Words.{word_of}
use Rattle.sc_elab.specs.Heads.{head_of}
use Rattle.sc_elab.specs.States.{State, Outcome, Done, Fault, bind, put, put_formula, put_set}
use Rattle.sc_elab.specs.Builds.{build, single, union, joined, from_left, from_right}
use Rattle.sc_elab.specs.Elab.{term, terms, behind_head, token_term, name_term, word_term, named_term, constant, leaf_formula, leaf_value, list_term, apply, built, fits, is_done, are_alike, are_sets, is_single, are_inserted, first_sort, sort_made, sort_of_sets, is_sort_of_sets, is_sort_of_elements, empty_set, deepest, depth_limit, numbers, all_of, is_set_of, meant, need_bool, core}
use Rattle.sc_elab.specs.Value.{Worth, Truth, Number, Members, members, number, in_some, in_all, with_members, operator_value, constant_value, named_value, word_value, token_value, list_value, term_value, values_behind_head, values}
use Rattle.sc_elab.proofs.Standing.{BankLaws, Extends, Stands, unchanged, HasTruth, HasValue, HasMembers, IsWorth, worth_stays, truth_stays, members_stay, value_stays, stands_bind, formula_stands, set_stands, element_stands}
use Rattle.sc_elab.proofs.OperatorLaws.{Truths, Worths, all_true, any_true, and_law, or_law, not_law, implication_law, exclusive_law, equal_law, distinct_law, choice_law}
use Rattle.sc_elab.proofs.SetLaws.{Sets, Inserted, single_law, minus_law, empty_law, unions_law, intersections_law, insertion_law, inclusion_law}

both_true : (a b : Bool) → (a && b) ≡ true → (a ≡ true) × (b ≡ true)
both_true true b e = (refl, e)
both_true false b e = absurd (false≢true e)

not_not : (b : Bool) → not (same_truth false b) ≡ b
not_not true = refl
not_not false = refl

chosen : (a b d : Bool) → Truth (if a then b else d) ≡ (if a then Truth b else Truth d)
chosen true b d = refl
chosen false b d = refl

module _ (laws : BankLaws) (i : Interpretation) (proper : IsInterpretation i) where
  abbrev pub Are : List Node → List Meant → List Worth → Type 0
  Are bank [] [] = ⊤
  Are bank (m ∷ ms) (w ∷ ws) = IsWorth laws i proper m.sort bank m.number w × Are bank ms ws
  Are bank _ _ = ⊥

  are_still : (old new : List Node) (ms : List Meant) (ws : List Worth) → Extends old new → Are old ms ws → Are new ms ws
  are_still old new [] [] e h = _
  are_still old new (m ∷ ms) (w ∷ ws) e h = (worth_stays laws i proper m.sort old new m.number w e h.0, are_still old new ms ws e h.1)
  are_still old new [] (w ∷ ws) e h = absurd h
  are_still old new (m ∷ ms) [] e h = absurd h

  -- what a meant term is worth, as its own sort says
  abbrev pub Is : Worth → Meant → List Node → Type 0
  Is w m bank = IsWorth laws i proper m.sort bank m.number w

  -- ---- arguments that are all of sort Bool
  as_truth : (bank : List Node) (sort : Sort) (n : ℕ) (w : Worth) → same_sort sorts.Bool sort ≡ true → IsWorth laws i proper sort bank n w → (b : Bool) × ((w ≡ Truth b) × HasTruth laws i proper bank n b)
  as_truth bank sorts.Bool n (Truth b) e h = (b, (refl, h))
  as_truth bank sorts.Bool n (Number z) e h = absurd h
  as_truth bank sorts.Bool n (Members xs) e h = absurd h
  as_truth bank sorts.Int n w e h = absurd (false≢true e)
  as_truth bank (sorts.Named k) n w e h = absurd (false≢true e)
  as_truth bank sorts.SetInt n w e h = absurd (false≢true e)
  as_truth bank (sorts.SetNamed k) n w e h = absurd (false≢true e)

  record AreTruths (bank : List Node) (fs : List ℕ) (ws : List Worth) : Type 0 where
    bools : List Bool
    is : ws ≡ map Truth bools
    truths : Truths laws i proper bank fs bools

  as_truths : (bank : List Node) (ms : List Meant) (ws : List Worth) → all_of sorts.Bool ms ≡ true → Are bank ms ws → AreTruths bank (numbers ms) ws
  as_truths bank [] [] all h = record { bools = []; is = refl; truths = _ }
  as_truths bank (m ∷ ms) (w ∷ ws) all h =
      let both = both_true (same_sort sorts.Bool m.sort) (all_of sorts.Bool ms) all in
      let first = as_truth bank m.sort m.number w both.0 h.0 in
      let rest = as_truths bank ms ws both.1 h.1 in
      record { bools = first.0 ∷ rest.bools; is = λ j. first.1.0 j ∷ rest.is j; truths = (first.1.1, rest.truths) }
  as_truths bank [] (w ∷ ws) all h = absurd h
  as_truths bank (m ∷ ms) [] all h = absurd h

  -- what an operator makes of its arguments is worth what it says
  abbrev pub BuildStands : Operator → Sort → List ℕ → List Worth → List Node → Type 0
  BuildStands o sort ns ws bank = Stands bank (build o sort ns bank) (λ n new. IsWorth laws i proper (sort_made o sort) new n (operator_value o ws))

  not_stands : (sort : Sort) (fs : List ℕ) (bs : List Bool) (bank : List Node) → IsBank bank → Truths laws i proper bank fs bs → BuildStands op.Not sort fs (map Truth bs) bank
  not_stands sort [] [] bank stands h = _
  not_stands sort (f ∷ []) (b ∷ []) bank stands h = not_law laws i proper f b bank stands h.0
  not_stands sort (f ∷ g ∷ fs) (b ∷ c ∷ bs) bank stands h = _
  not_stands sort [] (b ∷ bs) bank stands h = absurd h
  not_stands sort (f ∷ fs) [] bank stands h = absurd h
  not_stands sort (f ∷ []) (b ∷ c ∷ bs) bank stands h = absurd h.1
  not_stands sort (f ∷ g ∷ fs) (b ∷ []) bank stands h = absurd h.1

  and_stands : (sort : Sort) (fs : List ℕ) (bs : List Bool) (bank : List Node) → IsBank bank → Truths laws i proper bank fs bs → BuildStands op.And sort fs (map Truth bs) bank
  and_stands sort fs bs bank stands h = subst (λ t. Stands bank (put_formula (formulas.And fs) bank) (λ n new. HasTruth laws i proper new n t)) (sym (all_true bs)) (and_law laws i proper fs bs bank stands h)

  or_stands : (sort : Sort) (fs : List ℕ) (bs : List Bool) (bank : List Node) → IsBank bank → Truths laws i proper bank fs bs → BuildStands op.Or sort fs (map Truth bs) bank
  or_stands sort fs bs bank stands h = subst (λ t. Stands bank (put_formula (formulas.Or fs) bank) (λ n new. HasTruth laws i proper new n t)) (sym (any_true bs)) (or_law laws i proper fs bs bank stands h)

  xor_stands : (sort : Sort) (fs : List ℕ) (bs : List Bool) (bank : List Node) → IsBank bank → Truths laws i proper bank fs bs → BuildStands op.Xor sort fs (map Truth bs) bank
  xor_stands sort [] [] bank stands h = _
  xor_stands sort (f ∷ fs) (b ∷ bs) bank stands h = exclusive_law laws i proper f (not (same_truth false b)) fs bs bank stands (subst (λ t. HasTruth laws i proper bank f t) (sym (not_not b)) h.0) h.1
  xor_stands sort [] (b ∷ bs) bank stands h = absurd h
  xor_stands sort (f ∷ fs) [] bank stands h = absurd h

  choice_stands : (sort : Sort) (fs : List ℕ) (bs : List Bool) (bank : List Node) → IsBank bank → Truths laws i proper bank fs bs → BuildStands op.Choice sort fs (map Truth bs) bank
  choice_stands sort [] [] bank stands h = _
  choice_stands sort (c ∷ []) (a ∷ []) bank stands h = _
  choice_stands sort (c ∷ f ∷ []) (a ∷ b ∷ []) bank stands h = _
  choice_stands sort (c ∷ f ∷ g ∷ []) (a ∷ b ∷ d ∷ []) bank stands h = subst (λ w. Stands bank (build op.Choice sort (c ∷ f ∷ g ∷ []) bank) (λ n new. IsWorth laws i proper sorts.Bool new n w)) (chosen a b d) (choice_law laws i proper c f g a b d bank stands h.0 h.1.0 h.1.1.0)
  choice_stands sort (c ∷ f ∷ g ∷ k ∷ fs) (a ∷ b ∷ d ∷ e ∷ bs) bank stands h = _
  choice_stands sort [] (b ∷ bs) bank stands h = absurd h
  choice_stands sort (f ∷ fs) [] bank stands h = absurd h
  choice_stands sort (c ∷ []) (a ∷ b ∷ bs) bank stands h = absurd h.1
  choice_stands sort (c ∷ f ∷ fs) (a ∷ []) bank stands h = absurd h.1
  choice_stands sort (c ∷ f ∷ []) (a ∷ b ∷ d ∷ bs) bank stands h = absurd h.1.1
  choice_stands sort (c ∷ f ∷ g ∷ fs) (a ∷ b ∷ []) bank stands h = absurd h.1.1
  choice_stands sort (c ∷ f ∷ g ∷ []) (a ∷ b ∷ d ∷ e ∷ bs) bank stands h = absurd h.1.1.1
  choice_stands sort (c ∷ f ∷ g ∷ k ∷ fs) (a ∷ b ∷ d ∷ []) bank stands h = absurd h.1.1.1

  formulas_stand : (o : Operator) (sort : Sort) (ms : List Meant) (ws : List Worth) (bank : List Node) → ((fs : List ℕ) (bs : List Bool) (bank : List Node) → IsBank bank → Truths laws i proper bank fs bs → BuildStands o sort fs (map Truth bs) bank) → all_of sorts.Bool ms ≡ true → IsBank bank → Are bank ms ws → BuildStands o sort (numbers ms) ws bank
  formulas_stand o sort ms ws bank law all stands h =
      let t = as_truths bank ms ws all h in
      subst (λ vs. BuildStands o sort (numbers ms) vs bank) (sym t.is) (law (numbers ms) t.bools bank stands t.truths)

  -- ---- an element and a set
  member_stands : (bank : List Node) (es ss : Sort) (e s : ℕ) (v w : Worth) → IsBank bank → is_set_of es ss ≡ true → IsWorth laws i proper es bank e v → IsWorth laws i proper ss bank s w → BuildStands op.Member es (e ∷ s ∷ []) (v ∷ w ∷ []) bank
  member_stands bank (sorts.Named k) (sorts.SetNamed l) e s (Number z) (Members xs) stands fit g h = formula_stands laws i proper (formulas.Member e s) (has_element xs z) bank stands (g.0, h.0) (λ new x. let a = (members_stay laws i proper bank new s xs x h).1 in let b = (value_stays laws i proper bank new e z x g).1 in λ j. has_element (a j) (b j))
  member_stands bank sorts.Int sorts.SetInt e s (Number z) (Members xs) stands fit g h = formula_stands laws i proper (formulas.Member e s) (has_element xs z) bank stands (g.0, h.0) (λ new x. let a = (members_stay laws i proper bank new s xs x h).1 in let b = (value_stays laws i proper bank new e z x g).1 in λ j. has_element (a j) (b j))
  member_stands bank (sorts.Named k) (sorts.SetNamed l) e s (Truth b) w stands fit g h = absurd g
  member_stands bank (sorts.Named k) (sorts.SetNamed l) e s (Members xs) w stands fit g h = absurd g
  member_stands bank (sorts.Named k) (sorts.SetNamed l) e s (Number z) (Truth b) stands fit g h = absurd h
  member_stands bank (sorts.Named k) (sorts.SetNamed l) e s (Number z) (Number y) stands fit g h = absurd h
  member_stands bank (sorts.Named k) sorts.Bool e s v w stands fit g h = absurd (false≢true fit)
  member_stands bank (sorts.Named k) sorts.Int e s v w stands fit g h = absurd (false≢true fit)
  member_stands bank (sorts.Named k) sorts.SetInt e s v w stands fit g h = absurd (false≢true fit)
  member_stands bank (sorts.Named k) (sorts.Named l) e s v w stands fit g h = absurd (false≢true fit)
  member_stands bank sorts.Int sorts.SetInt e s (Truth b) w stands fit g h = absurd g
  member_stands bank sorts.Int sorts.SetInt e s (Members xs) w stands fit g h = absurd g
  member_stands bank sorts.Int sorts.SetInt e s (Number z) (Truth b) stands fit g h = absurd h
  member_stands bank sorts.Int sorts.SetInt e s (Number z) (Number y) stands fit g h = absurd h
  member_stands bank sorts.Int sorts.Bool e s v w stands fit g h = absurd (false≢true fit)
  member_stands bank sorts.Int sorts.Int e s v w stands fit g h = absurd (false≢true fit)
  member_stands bank sorts.Int (sorts.Named l) e s v w stands fit g h = absurd (false≢true fit)
  member_stands bank sorts.Int (sorts.SetNamed l) e s v w stands fit g h = absurd (false≢true fit)
  member_stands bank sorts.Bool ss e s v w stands fit g h = absurd (false≢true fit)
  member_stands bank sorts.SetInt ss e s v w stands fit g h = absurd (false≢true fit)
  member_stands bank (sorts.SetNamed l) ss e s v w stands fit g h = absurd (false≢true fit)

  members_stand : (ms : List Meant) (ws : List Worth) (bank : List Node) → fits op.Member ms ≡ true → IsBank bank → Are bank ms ws → BuildStands op.Member (first_sort ms) (numbers ms) ws bank
  members_stand (e ∷ s ∷ []) (v ∷ w ∷ []) bank fit stands h = member_stands bank e.sort s.sort e.number s.number v w stands fit h.0 h.1.0
  members_stand [] ws bank fit stands h = absurd (false≢true fit)
  members_stand (m ∷ []) ws bank fit stands h = absurd (false≢true fit)
  members_stand (m ∷ k ∷ l ∷ ms) ws bank fit stands h = absurd (false≢true fit)
  members_stand (e ∷ s ∷ []) [] bank fit stands h = absurd h
  members_stand (e ∷ s ∷ []) (v ∷ []) bank fit stands h = absurd h.1
  members_stand (e ∷ s ∷ []) (v ∷ w ∷ x ∷ ws) bank fit stands h = absurd h.1.1

  -- ---- arguments of one sort
  as_worths : (bank : List Node) (sort : Sort) (ms : List Meant) (ws : List Worth) → all_of sort ms ≡ true → Are bank ms ws → Worths laws i proper sort bank (numbers ms) ws
  as_worths bank sort [] [] all h = _
  as_worths bank sort (m ∷ ms) (w ∷ ws) all h =
      let both = both_true (same_sort sort m.sort) (all_of sort ms) all in
      let is : sort ≡ m.sort = (same_sort-Decides sort m.sort).0 both.0 in
      (subst (λ s. IsWorth laws i proper s bank m.number w) (sym is) h.0, as_worths bank sort ms ws both.1 h.1)
  as_worths bank sort [] (w ∷ ws) all h = absurd h
  as_worths bank sort (m ∷ ms) [] all h = absurd h

  alike_worths : (bank : List Node) (ms : List Meant) (ws : List Worth) → are_alike ms ≡ true → Are bank ms ws → Worths laws i proper (first_sort ms) bank (numbers ms) ws
  alike_worths bank [] [] fit h = _
  alike_worths bank (m ∷ ms) (w ∷ ws) fit h = (h.0, as_worths bank m.sort ms ws fit h.1)
  alike_worths bank [] (w ∷ ws) fit h = absurd h
  alike_worths bank (m ∷ ms) [] fit h = absurd h

  equal_stands : (sort : Sort) (ns : List ℕ) (ws : List Worth) (bank : List Node) → IsBank bank → Worths laws i proper sort bank ns ws → BuildStands op.Equal sort ns ws bank
  equal_stands sort [] ws bank stands h = _
  equal_stands sort (n ∷ ns) ws bank stands h = equal_law laws i proper sort (n ∷ ns) ws bank stands h

  -- ---- sets
  as_members : (bank : List Node) (sort : Sort) (n : ℕ) (w : Worth) → is_sort_of_sets sort ≡ true → IsWorth laws i proper sort bank n w → HasMembers laws i proper bank n (members w)
  as_members bank sorts.SetInt n (Members xs) e h = h
  as_members bank (sorts.SetNamed k) n (Members xs) e h = h
  as_members bank sorts.SetInt n (Truth b) e h = absurd h
  as_members bank sorts.SetInt n (Number z) e h = absurd h
  as_members bank (sorts.SetNamed k) n (Truth b) e h = absurd h
  as_members bank (sorts.SetNamed k) n (Number z) e h = absurd h
  as_members bank sorts.Bool n w e h = absurd (false≢true e)
  as_members bank sorts.Int n w e h = absurd (false≢true e)
  as_members bank (sorts.Named k) n w e h = absurd (false≢true e)

  of_sort : (bank : List Node) (sort : Sort) (n : ℕ) (xs : List ℤ) → is_sort_of_sets sort ≡ true → HasMembers laws i proper bank n xs → IsWorth laws i proper sort bank n (Members xs)
  of_sort bank sorts.SetInt n xs e h = h
  of_sort bank (sorts.SetNamed k) n xs e h = h
  of_sort bank sorts.Bool n xs e h = absurd (false≢true e)
  of_sort bank sorts.Int n xs e h = absurd (false≢true e)
  of_sort bank (sorts.Named k) n xs e h = absurd (false≢true e)

  as_number : (bank : List Node) (sort : Sort) (n : ℕ) (w : Worth) → is_sort_of_elements sort ≡ true → IsWorth laws i proper sort bank n w → HasValue laws i proper bank n (number w)
  as_number bank sorts.Int n (Number z) e h = h
  as_number bank (sorts.Named k) n (Number z) e h = h
  as_number bank sorts.Int n (Truth b) e h = absurd h
  as_number bank sorts.Int n (Members xs) e h = absurd h
  as_number bank (sorts.Named k) n (Truth b) e h = absurd h
  as_number bank (sorts.Named k) n (Members xs) e h = absurd h
  as_number bank sorts.Bool n w e h = absurd (false≢true e)
  as_number bank sorts.SetInt n w e h = absurd (false≢true e)
  as_number bank (sorts.SetNamed k) n w e h = absurd (false≢true e)

  as_sets : (bank : List Node) (sort : Sort) (ns : List ℕ) (ws : List Worth) → is_sort_of_sets sort ≡ true → Worths laws i proper sort bank ns ws → Sets laws i proper bank ns ws
  as_sets bank sort [] [] e h = _
  as_sets bank sort (n ∷ ns) (w ∷ ws) e h = (as_members bank sort n w e h.0, as_sets bank sort ns ws e h.1)
  as_sets bank sort [] (w ∷ ws) e h = absurd h
  as_sets bank sort (n ∷ ns) [] e h = absurd h

  -- what is known of the members is known of the worth
  made_of_sort : (sort : Sort) (xs : List ℤ) (bank : List Node) (o : Outcome ℕ) → is_sort_of_sets sort ≡ true → Stands bank o (λ n new. HasMembers laws i proper new n xs) → Stands bank o (λ n new. IsWorth laws i proper sort new n (Members xs))
  made_of_sort sort xs bank (Done n new) e h = (h.0, of_sort new sort n xs e h.1)
  made_of_sort sort xs bank (Fault fault new) e h = _

  subset_stands : (sort : Sort) (ns : List ℕ) (ws : List Worth) (bank : List Node) → IsBank bank → Sets laws i proper bank ns ws → BuildStands op.Subset sort ns ws bank
  subset_stands sort [] ws bank stands h = _
  subset_stands sort (s ∷ []) ws bank stands h = _
  subset_stands sort (s ∷ t ∷ []) (v ∷ w ∷ []) bank stands h = inclusion_law laws i proper sort s t (members v) (members w) bank stands h.0 h.1.0
  subset_stands sort (s ∷ t ∷ x ∷ ns) ws bank stands h = _
  subset_stands sort (s ∷ t ∷ []) [] bank stands h = absurd h
  subset_stands sort (s ∷ t ∷ []) (v ∷ []) bank stands h = absurd h.1
  subset_stands sort (s ∷ t ∷ []) (v ∷ w ∷ x ∷ ws) bank stands h = absurd h.1.1

  minus_stands : (sort : Sort) (ns : List ℕ) (ws : List Worth) (bank : List Node) → is_sort_of_sets sort ≡ true → IsBank bank → Sets laws i proper bank ns ws → BuildStands op.Minus sort ns ws bank
  minus_stands sort [] ws bank fit stands h = _
  minus_stands sort (s ∷ []) ws bank fit stands h = _
  minus_stands sort (s ∷ t ∷ []) (v ∷ w ∷ []) bank fit stands h = made_of_sort sort (without (members v) (members w)) bank (put_set (sets.Minus s t) bank) fit (minus_law laws i proper s t (members v) (members w) bank stands h.0 h.1.0)
  minus_stands sort (s ∷ t ∷ x ∷ ns) ws bank fit stands h = _
  minus_stands sort (s ∷ t ∷ []) [] bank fit stands h = absurd h
  minus_stands sort (s ∷ t ∷ []) (v ∷ []) bank fit stands h = absurd h.1
  minus_stands sort (s ∷ t ∷ []) (v ∷ w ∷ x ∷ ws) bank fit stands h = absurd h.1.1

  union_stands : (sort : Sort) (ns : List ℕ) (ws : List Worth) (bank : List Node) → is_sort_of_sets sort ≡ true → IsBank bank → Sets laws i proper bank ns ws → BuildStands op.Union sort ns ws bank
  union_stands sort [] ws bank fit stands h = _
  union_stands sort (s ∷ ns) (v ∷ ws) bank fit stands h = made_of_sort sort (in_some (members v) ws) bank (from_left (joined joins.Union) s ns bank) fit (unions_law laws i proper s (members v) ns ws bank stands h.0 h.1)
  union_stands sort (s ∷ ns) [] bank fit stands h = absurd h

  inter_stands : (sort : Sort) (ns : List ℕ) (ws : List Worth) (bank : List Node) → is_sort_of_sets sort ≡ true → IsBank bank → Sets laws i proper bank ns ws → BuildStands op.Inter sort ns ws bank
  inter_stands sort [] ws bank fit stands h = _
  inter_stands sort (s ∷ ns) (v ∷ ws) bank fit stands h = made_of_sort sort (in_all (members v) ws) bank (from_left (joined joins.Inter) s ns bank) fit (intersections_law laws i proper s (members v) ns ws bank stands h.0 h.1)
  inter_stands sort (s ∷ ns) [] bank fit stands h = absurd h

  sets_stand : (o : Operator) (ms : List Meant) (ws : List Worth) (bank : List Node) → ((sort : Sort) (ns : List ℕ) (ws : List Worth) (bank : List Node) → is_sort_of_sets sort ≡ true → IsBank bank → Sets laws i proper bank ns ws → BuildStands o sort ns ws bank) → are_sets ms ≡ true → IsBank bank → Are bank ms ws → BuildStands o (first_sort ms) (numbers ms) ws bank
  sets_stand o [] ws bank law fit stands h = absurd (false≢true fit)
  sets_stand o (m ∷ ms) [] bank law fit stands h = absurd h
  sets_stand o (m ∷ ms) (w ∷ ws) bank law fit stands h =
      let both = both_true (is_sort_of_sets m.sort) (all_of m.sort ms) fit in
      law m.sort (numbers (m ∷ ms)) (w ∷ ws) bank both.0 stands (as_members bank m.sort m.number w both.0 h.0, as_sets bank m.sort (numbers ms) ws both.0 (as_worths bank m.sort ms ws both.1 h.1))

  -- ---- elements of sets
  sort_holds : (sort : Sort) → is_sort_of_elements sort ≡ true → is_sort_of_sets (sort_of_sets sort) ≡ true
  sort_holds sorts.Int e = refl
  sort_holds (sorts.Named k) e = refl
  sort_holds sorts.Bool e = absurd (false≢true e)
  sort_holds sorts.SetInt e = absurd (false≢true e)
  sort_holds (sorts.SetNamed k) e = absurd (false≢true e)

  has_sets : (s t : Sort) → is_set_of s t ≡ true → (is_sort_of_elements s ≡ true) × (is_sort_of_sets t ≡ true)
  has_sets (sorts.Named k) (sorts.SetNamed l) e = (refl, refl)
  has_sets (sorts.Named k) sorts.Bool e = absurd (false≢true e)
  has_sets (sorts.Named k) sorts.Int e = absurd (false≢true e)
  has_sets (sorts.Named k) (sorts.Named l) e = absurd (false≢true e)
  has_sets (sorts.Named k) sorts.SetInt e = absurd (false≢true e)
  has_sets sorts.Int sorts.SetInt e = (refl, refl)
  has_sets sorts.Int sorts.Bool e = absurd (false≢true e)
  has_sets sorts.Int sorts.Int e = absurd (false≢true e)
  has_sets sorts.Int (sorts.Named l) e = absurd (false≢true e)
  has_sets sorts.Int (sorts.SetNamed l) e = absurd (false≢true e)
  has_sets sorts.Bool t e = absurd (false≢true e)
  has_sets sorts.SetInt t e = absurd (false≢true e)
  has_sets (sorts.SetNamed k) t e = absurd (false≢true e)

  single_stands : (ms : List Meant) (ws : List Worth) (bank : List Node) → is_single ms ≡ true → IsBank bank → Are bank ms ws → BuildStands op.Singleton (first_sort ms) (numbers ms) ws bank
  single_stands [] ws bank fit stands h = absurd (false≢true fit)
  single_stands (m ∷ k ∷ ms) ws bank fit stands h = absurd (false≢true fit)
  single_stands (m ∷ []) (w ∷ []) bank fit stands h = made_of_sort (sort_of_sets m.sort) (number w ∷ []) bank (single m.number bank) (sort_holds m.sort fit) (single_law laws i proper m.number (number w) bank stands (as_number bank m.sort m.number w fit h.0))
  single_stands (m ∷ []) [] bank fit stands h = absurd h
  single_stands (m ∷ []) (v ∷ w ∷ ws) bank fit stands h = absurd h.1

  inserts_sort : (sort : Sort) (ms : List Meant) → are_inserted sort ms ≡ true → is_sort_of_elements sort ≡ true
  inserts_sort sort [] e = absurd (false≢true e)
  inserts_sort sort (s ∷ []) e = (has_sets sort s.sort e).0
  inserts_sort sort (m ∷ n ∷ ms) e = inserts_sort sort (n ∷ ms) (both_true (same_sort sort m.sort) (are_inserted sort (n ∷ ms)) e).1

  as_inserted : (bank : List Node) (sort : Sort) (ms : List Meant) (ws : List Worth) → are_inserted sort ms ≡ true → Are bank ms ws → Inserted laws i proper bank (numbers ms) ws
  as_inserted bank sort [] ws e h = absurd (false≢true e)
  as_inserted bank sort (s ∷ []) (w ∷ []) e h = as_members bank s.sort s.number w (has_sets sort s.sort e).1 h.0
  as_inserted bank sort (m ∷ n ∷ ms) (w ∷ v ∷ ws) e h =
      let both = both_true (same_sort sort m.sort) (are_inserted sort (n ∷ ms)) e in
      let is : sort ≡ m.sort = (same_sort-Decides sort m.sort).0 both.0 in
      (as_number bank sort m.number w (inserts_sort sort (n ∷ ms) both.1) (subst (λ s. IsWorth laws i proper s bank m.number w) (sym is) h.0), as_inserted bank sort (n ∷ ms) (v ∷ ws) both.1 h.1)
  as_inserted bank sort (s ∷ []) [] e h = absurd h
  as_inserted bank sort (s ∷ []) (v ∷ w ∷ ws) e h = absurd h.1
  as_inserted bank sort (m ∷ n ∷ ms) [] e h = absurd h
  as_inserted bank sort (m ∷ n ∷ ms) (w ∷ []) e h = absurd h.1

  insert_stands : (ms : List Meant) (ws : List Worth) (bank : List Node) → are_inserted (first_sort ms) ms ≡ true → IsBank bank → Are bank ms ws → BuildStands op.Insert (first_sort ms) (numbers ms) ws bank
  insert_stands ms ws bank fit stands h =
      made_of_sort (sort_of_sets (first_sort ms)) (with_members ws) bank (from_right single union (numbers ms) bank) (sort_holds (first_sort ms) (inserts_sort (first_sort ms) ms fit)) (insertion_law laws i proper (numbers ms) ws bank stands (as_inserted bank (first_sort ms) ms ws fit h))

  -- ---- applications
  build_stands : (o : Operator) (ms : List Meant) (ws : List Worth) (bank : List Node) → fits o ms ≡ true → is_done o ms ≡ true → IsBank bank → Are bank ms ws → BuildStands o (first_sort ms) (numbers ms) ws bank
  build_stands op.Not ms ws bank fit done stands h = formulas_stand op.Not (first_sort ms) ms ws bank (not_stands (first_sort ms)) fit stands h
  build_stands op.And ms ws bank fit done stands h = formulas_stand op.And (first_sort ms) ms ws bank (and_stands (first_sort ms)) fit stands h
  build_stands op.Or ms ws bank fit done stands h = formulas_stand op.Or (first_sort ms) ms ws bank (or_stands (first_sort ms)) fit stands h
  build_stands op.Implies ms ws bank fit done stands h = formulas_stand op.Implies (first_sort ms) ms ws bank (implication_law laws i proper) fit stands h
  build_stands op.Xor ms ws bank fit done stands h = formulas_stand op.Xor (first_sort ms) ms ws bank (xor_stands (first_sort ms)) fit stands h
  build_stands op.Equal ms ws bank fit done stands h = equal_stands (first_sort ms) (numbers ms) ws bank stands (alike_worths bank ms ws fit h)
  build_stands op.Distinct ms ws bank fit done stands h = distinct_law laws i proper (first_sort ms) (numbers ms) ws bank stands (alike_worths bank ms ws fit h)
  build_stands op.Choice ms ws bank fit done stands h = formulas_stand op.Choice (first_sort ms) ms ws bank (choice_stands (first_sort ms)) done stands h
  build_stands op.Member ms ws bank fit done stands h = members_stand ms ws bank fit stands h
  build_stands op.Subset ms ws bank fit done stands h = sets_stand op.Subset ms ws bank (λ sort ns vs b e. subset_stands sort ns vs b) fit stands h
  build_stands op.Union ms ws bank fit done stands h = sets_stand op.Union ms ws bank union_stands fit stands h
  build_stands op.Inter ms ws bank fit done stands h = sets_stand op.Inter ms ws bank inter_stands fit stands h
  build_stands op.Minus ms ws bank fit done stands h = sets_stand op.Minus ms ws bank minus_stands fit stands h
  build_stands op.Singleton ms ws bank fit done stands h = single_stands ms ws bank fit stands h
  build_stands op.Insert ms ws bank fit done stands h = insert_stands ms ws bank fit stands h

  apply_stands : (o : Operator) (ms : List Meant) (ws : List Worth) (bank : List Node) → IsBank bank → Are bank ms ws → Stands bank (apply o ms bank) (Is (operator_value o ws))
  apply_stands o ms ws bank stands h = by (fits o ms) (is_done o ms) (nat_lt (deepest ms) depth_limit) refl refl
    where
      by : (f d l : Bool) → fits o ms ≡ f → is_done o ms ≡ d → Stands bank (built (if not f then Some code.E7 else if not d then Some code.E8 else if not l then Some (code.E16 depth_limit) else None) o ms bank) (Is (operator_value o ws))
      by true true true fit done =
          stands_bind laws i proper bank (build o (first_sort ms) (numbers ms) bank) (λ n b. Done (meant (sort_made o (first_sort ms)) (suc (deepest ms)) n) b) (λ n new. IsWorth laws i proper (sort_made o (first_sort ms)) new n (operator_value o ws)) (Is (operator_value o ws))
          (build_stands o ms ws bank fit done stands h)
          (λ n b e is. (unchanged b e.bank, is))
      by true true false fit done = _
      by true false l fit done = _
      by false d l fit done = _

  -- ---- terms of one token
  leaf_formula_stands : (f : Formula) (b : Bool) (bank : List Node) → IsBank bank → FormulaStands bank f → ((new : List Node) → Extends bank new → truth_of no_parts i (bank_meaning new i) f ≡ b) → Stands bank (leaf_formula (nodes.Formula f) bank) (Is (Truth b))
  leaf_formula_stands f b bank stands parts own =
      stands_bind laws i proper bank (put_formula f bank) (λ n new. Done (meant sorts.Bool 1 n) new) (λ n new. HasTruth laws i proper new n b) (Is (Truth b))
      (formula_stands laws i proper f b bank stands parts own)
      (λ n new e is. (unchanged new e.bank, is))

  leaf_value_stands : (sort : Sort) (x : Node) (w : Worth) (bank : List Node) → IsBank bank → ((b : List Node) → IsBank b → Stands b (put x b) (λ n new. IsWorth laws i proper sort new n w)) → Stands bank (leaf_value sort x bank) (Is w)
  leaf_value_stands sort x w bank stands own =
      stands_bind laws i proper bank (put_formula formulas.True bank) (λ g b. bind (put x b) (λ n c. Done (meant sort 1 n) c)) (λ n new. HasTruth laws i proper new n true) (Is w)
      (formula_stands laws i proper formulas.True true bank stands _ (λ new e. refl))
      (λ g b e guard.
      stands_bind laws i proper b (put x b) (λ n c. Done (meant sort 1 n) c) (λ n new. IsWorth laws i proper sort new n w) (Is w)
      (own b e.bank)
      (λ n c d is. (unchanged c d.bank, is)))

  constant_stands : (n : ℕ) (sort : Sort) (bank : List Node) → IsBank bank → Stands bank (constant n sort bank) (Is (constant_value i n sort))
  constant_stands n sorts.Bool bank stands = leaf_formula_stands (formulas.Flag n) (i.flags n) bank stands _ (λ new e. refl)
  constant_stands n (sorts.Named k) bank stands = leaf_value_stands (sorts.Named k) (nodes.Element (elements.Const n (sorts.Named k))) (Number (i.numbers n)) bank stands (λ b is. element_stands laws i proper (elements.Const n (sorts.Named k)) (i.numbers n) b is _ (λ new e. refl))
  constant_stands n (sorts.SetNamed k) bank stands = leaf_value_stands (sorts.SetNamed k) (nodes.Set (sets.Const n (sorts.SetNamed k))) (Members (i.sets n)) bank stands (λ b is. set_stands laws i proper (sets.Const n (sorts.SetNamed k)) (i.sets n) b is _ (λ new e. refl))
  constant_stands n sorts.Int bank stands = _
  constant_stands n sorts.SetInt bank stands = _

  empty_stands : (sort : Sort) (bank : List Node) → IsBank bank → Stands bank (empty_set sort bank) (Is (Members []))
  empty_stands (sorts.SetNamed k) bank stands = leaf_value_stands (sorts.SetNamed k) (nodes.Set (sets.Empty (sorts.SetNamed k))) (Members []) bank stands (λ b is. empty_law laws i proper (sorts.SetNamed k) b is)
  empty_stands sorts.SetInt bank stands = _
  empty_stands sorts.Bool bank stands = _
  empty_stands sorts.Int bank stands = _
  empty_stands (sorts.Named k) bank stands = _

  named_stands : (found : Option Named) (bank : List Node) → IsBank bank → Stands bank (named_term found bank) (Is (named_value i found))
  named_stands (Some (named.Constant n sort)) bank stands = constant_stands n sort bank stands
  named_stands (Some (named.Sort n)) bank stands = _
  named_stands None bank stands = _

  word_stands : (names : Names) (w : Word) (name : List ℕ) (bank : List Node) → IsBank bank → Stands bank (word_term names w name bank) (Is (word_value names i w name))
  word_stands names word.True name bank stands = leaf_formula_stands formulas.True true bank stands _ (λ new e. refl)
  word_stands names word.False name bank stands = leaf_formula_stands formulas.False false bank stands _ (λ new e. refl)
  word_stands names (word.Operator o) name bank stands = _
  word_stands names word.EmptySet name bank stands = _
  word_stands names word.Outside name bank stands = _
  word_stands names word.Free name bank stands = named_stands (look_up names name) bank stands

  token_stands : (names : Names) (k : Kind) (text : List ℕ) (bank : List Node) → IsBank bank → Stands bank (token_term names k text bank) (Is (token_value names i k text))
  token_stands names kind.Word text bank stands = by (is_reserved text)
    where
      by : (b : Bool) → Stands bank (if b then Fault code.E5 bank else name_term names text bank) (Is (token_value names i kind.Word text))
      by true = _
      by false = word_stands names (word_of text) text bank stands
  token_stands names kind.Quoted text bank stands = word_stands names (word_of (between text)) (between text) bank stands
  token_stands names kind.Numeral text bank stands = _
  token_stands names kind.Foreign text bank stands = _
  token_stands names kind.Literal text bank stands = _
  token_stands names kind.Keyword text bank stands = _
  token_stands names kind.Left text bank stands = _
  token_stands names kind.Right text bank stands = _

  -- ---- all terms
  list_stands : (head : Result Head Code) (arguments : List Node → Outcome (List Meant)) (ws : List Worth) (bank : List Node) → IsBank bank → Stands bank (arguments bank) (λ ms new. Are new ms ws) → Stands bank (list_term head arguments bank) (Is (list_value head ws))
  list_stands (Err fault) arguments ws bank stands h = _
  list_stands (Ok (heads.EmptySet sort)) arguments ws bank stands h = empty_stands sort bank stands
  list_stands (Ok (heads.Operator o)) arguments ws bank stands h = stands_bind laws i proper bank (arguments bank) (apply o) (λ ms new. Are new ms ws) (Is (operator_value o ws)) h (λ ms new e are. apply_stands o ms ws new e.bank are)

  mutual
    pub term_stands : (names : Names) (t : Shape) (bank : List Node) → IsBank bank → Stands bank (term names t bank) (Is (term_value names i t))
    term_stands names (Single k text start line) bank stands = token_stands names k text bank stands
    term_stands names (Listed line parts) bank stands = list_stands (head_of names parts) (behind_head names parts) (values_behind_head names i parts) bank stands (behind_stands names parts bank stands)

    behind_stands : (names : Names) (parts : Shapes) (bank : List Node) → IsBank bank → Stands bank (behind_head names parts bank) (λ ms new. Are new ms (values_behind_head names i parts))
    behind_stands names Empty bank stands = (unchanged bank stands, _)
    behind_stands names (More head rest) bank stands = terms_stand names rest bank stands

    terms_stand : (names : Names) (parts : Shapes) (bank : List Node) → IsBank bank → Stands bank (terms names parts bank) (λ ms new. Are new ms (values names i parts))
    terms_stand names Empty bank stands = (unchanged bank stands, _)
    terms_stand names (More t rest) bank stands =
        stands_bind laws i proper bank (term names t bank) (λ m b. bind (terms names rest b) (λ ms c. Done (m ∷ ms) c)) (Is (term_value names i t)) (λ ms new. Are new ms (term_value names i t ∷ values names i rest))
        (term_stands names t bank stands)
        (λ m b e first.
        stands_bind laws i proper b (terms names rest b) (λ ms c. Done (m ∷ ms) c) (λ ms new. Are new ms (values names i rest)) (λ ms new. Are new ms (term_value names i t ∷ values names i rest))
        (terms_stand names rest b e.bank)
        (λ ms c d others. (unchanged c d.bank, (worth_stays laws i proper m.sort b c m.number (term_value names i t) d first, others))))

  need_bool_stands : (m : Meant) (w : Worth) (bank : List Node) → IsBank bank → Is w m bank → Stands bank (need_bool m bank) (λ n new. IsWorth laws i proper sorts.Bool new n w)
  need_bool_stands m w bank stands h = by (same_sort sorts.Bool m.sort) refl
    where
      by : (b : Bool) → same_sort sorts.Bool m.sort ≡ b → Stands bank (if b then Done m.number bank else Fault code.E7 bank) (λ n new. IsWorth laws i proper sorts.Bool new n w)
      by true e = let t = as_truth bank m.sort m.number w e h in (unchanged bank stands, subst (λ v. IsWorth laws i proper sorts.Bool bank m.number v) (sym t.1.0) t.1.1)
      by false e = _

  pub core_stands : (t : Shape) (s : State) → IsBank s.bank → Stands s.bank (core t s) (λ n new. IsWorth laws i proper sorts.Bool new n (term_value s.names i t))
  core_stands t s stands =
      stands_bind laws i proper s.bank (term s.names t s.bank) need_bool (Is (term_value s.names i t)) (λ n new. IsWorth laws i proper sorts.Bool new n (term_value s.names i t))
      (term_stands s.names t s.bank stands)
      (λ m b e is. need_bool_stands m (term_value s.names i t) b e.bank is)

  -- the value of a node that stands for a term of sort Bool
  as_value : (bank : List Node) (n : ℕ) (w : Worth) → IsWorth laws i proper sorts.Bool bank n w → w ≡ Truth ((bank_meaning bank i).truth n)
  as_value bank n (Truth b) h = ap Truth (sym h.1)
  as_value bank n (Number z) h = absurd h
  as_value bank n (Members xs) h = absurd h

  pub core_value : (t : Shape) (s : State) (n : ℕ) (bank : List Node) → IsBank s.bank → core t s ≡ Done n bank → term_value s.names i t ≡ Truth ((bank_meaning bank i).truth n)
  core_value t s n bank stands e =
      let done = subst (λ o. Stands s.bank o (λ n new. IsWorth laws i proper sorts.Bool new n (term_value s.names i t))) e (core_stands t s stands) in
      as_value bank n (term_value s.names i t) done.1

  as_formula : (bank : List Node) (n : ℕ) (w : Worth) → IsWorth laws i proper sorts.Bool bank n w → IsFormulaOf bank n
  as_formula bank n (Truth b) h = h.0
  as_formula bank n (Number z) h = absurd h
  as_formula bank n (Members xs) h = absurd h

  pub core_extends : (t : Shape) (s : State) (n : ℕ) (bank : List Node) → IsBank s.bank → core t s ≡ Done n bank → Extends s.bank bank × IsFormulaOf bank n
  core_extends t s n bank stands e =
      let done = subst (λ o. Stands s.bank o (λ n new. IsWorth laws i proper sorts.Bool new n (term_value s.names i t))) e (core_stands t s stands) in
      (done.0, as_formula bank n (term_value s.names i t) done.1)

-- an interpretation, so that there is one
nothing : Interpretation
nothing = record { flags = λ c. false; numbers = λ c. pos 0; sets = λ c. [] }

nothing_is_proper : IsInterpretation nothing
unfolding nothing IsDistinct
nothing_is_proper c = search

pub core_grows : (laws : BankLaws) (t : Shape) (s : State) (n : ℕ) (bank : List Node) → IsBank s.bank → core t s ≡ Done n bank → Extends s.bank bank × IsFormulaOf bank n
core_grows laws t s n bank stands e = core_extends laws nothing nothing_is_proper t s n bank stands e

pub core_stays : (laws : BankLaws) (t : Shape) (s : State) (n : ℕ) (bank : List Node) → IsBank s.bank → core t s ≡ Done n bank → (i : Interpretation) → IsInterpretation i → (m : ℕ) → IsFormulaOf s.bank m → (bank_meaning bank i).truth m ≡ (bank_meaning s.bank i).truth m
core_stays laws t s n bank stands e i proper m h = (truth_stays laws i proper s.bank bank m ((bank_meaning s.bank i).truth m) (core_grows laws t s n bank stands e).0 (h, refl)).1
