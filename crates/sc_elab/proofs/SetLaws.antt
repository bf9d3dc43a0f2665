-- The laws of single operators on sets: what is built has the members that the operator says of its arguments.
use Rattle.std.proofs.Common.{◌≡◌, ℕ, ℤ, Bool, true, false, not, ◌&&◌, ◌||◌, List, [], ◌∷◌, ◌++◌, refl, subst}
use Rattle.std.specs.Prelude.{⊤, filter, if◌then◌else◌}
use Rattle.std.specs.Ordering.{int_eq}
use Rattle.sc_base.specs.Integers.{has_element, without}
use Rattle.sc_terms.specs.declared.nodes.Node.{Node}
use Rattle.sc_terms.specs.declared.nodes.Formula.TheVariants as formulas
use Rattle.sc_terms.specs.declared.nodes.SetTerm.TheVariants as sets
use Rattle.sc_terms.specs.declared.nodes.Sort.{Sort}
use Rattle.sc_terms.specs.Bank.{IsBank}
use Rattle.sc_terms.specs.Meaning.{Interpretation, IsInterpretation, same_elements}
use Rattle.sc_elab.specs.declared.set_terms.Join.TheVariants as joins
use Rattle.sc_elab.specs.States.{bind, put_set, put_formula}
use Rattle.sc_elab.specs.Builds.{single, union, joined, from_left, from_right, inclusion}
use Rattle.sc_elab.specs.Value.{Worth, members, number, is_subset, in_some, in_all, with_member, with_members}
use Rattle.sc_elab.proofs.Standing.{BankLaws, Extends, Stands, unchanged, HasTruth, HasValue, HasMembers, value_stays, members_stay, stands_bind, set_stands}
use Rattle.sc_elab.proofs.OperatorLaws.{sets_equal}

-- ---- the operators on lists
or_false : (b : Bool) → (b || false) ≡ b
or_false true = refl
or_false false = refl

added_is : (x : ℤ) (xs : List ℤ) → ((x ∷ []) ++ without xs (x ∷ [])) ≡ with_member x xs
added_is x xs j = x ∷ filter (λ y. not (or_false (int_eq y x) j)) xs

subset_is : (xs ys : List ℤ) → same_elements (without xs ys) [] ≡ is_subset xs ys
subset_is [] ys = refl
subset_is (x ∷ xs) ys = by (has_element ys x) (without xs ys) (subset_is xs ys)
  where
    by : (b : Bool) (rest : List ℤ) → same_elements rest [] ≡ is_subset xs ys → same_elements (if not b then x ∷ rest else rest) [] ≡ (b && is_subset xs ys)
    by true rest h = h
    by false rest h = refl

module _ (laws : BankLaws) (i : Interpretation) (proper : IsInterpretation i) where
  -- sets with these members
  abbrev pub Sets : List Node → List ℕ → List Worth → Type 0
  Sets bank [] [] = ⊤
  Sets bank (n ∷ ns) (w ∷ ws) = HasMembers laws i proper bank n (members w) × Sets bank ns ws
  Sets bank _ _ = ⊥

  -- elements with these values, and a set as the last
  abbrev pub Inserted : List Node → List ℕ → List Worth → Type 0
  Inserted bank [] [] = ⊤
  Inserted bank (n ∷ []) (w ∷ []) = HasMembers laws i proper bank n (members w)
  Inserted bank (n ∷ m ∷ ns) (w ∷ v ∷ ws) = HasValue laws i proper bank n (number w) × Inserted bank (m ∷ ns) (v ∷ ws)
  Inserted bank _ _ = ⊥

  sets_stay : (old new : List Node) (ns : List ℕ) (ws : List Worth) → Extends old new → Sets old ns ws → Sets new ns ws
  sets_stay old new [] [] e h = _
  sets_stay old new (n ∷ ns) (w ∷ ws) e h = (members_stay laws i proper old new n (members w) e h.0, sets_stay old new ns ws e h.1)
  sets_stay old new [] (w ∷ ws) e h = absurd h
  sets_stay old new (n ∷ ns) [] e h = absurd h

  inserted_stay : (old new : List Node) (ns : List ℕ) (ws : List Worth) → Extends old new → Inserted old ns ws → Inserted new ns ws
  inserted_stay old new [] [] e h = _
  inserted_stay old new (n ∷ []) (w ∷ []) e h = members_stay laws i proper old new n (members w) e h
  inserted_stay old new (n ∷ m ∷ ns) (w ∷ v ∷ ws) e h = (value_stays laws i proper old new n (number w) e h.0, inserted_stay old new (m ∷ ns) (v ∷ ws) e h.1)
  inserted_stay old new [] (w ∷ ws) e h = absurd h
  inserted_stay old new (n ∷ []) [] e h = absurd h
  inserted_stay old new (n ∷ m ∷ ns) [] e h = absurd h
  inserted_stay old new (n ∷ []) (w ∷ v ∷ ws) e h = absurd h
  inserted_stay old new (n ∷ m ∷ ns) (w ∷ []) e h = absurd h

  -- ---- one set term
  pub single_law : (e : ℕ) (z : ℤ) (bank : List Node) → IsBank bank → HasValue laws i proper bank e z → Stands bank (single e bank) (λ n new. HasMembers laws i proper new n (z ∷ []))
  single_law e z bank stands h = set_stands laws i proper (sets.Single e) (z ∷ []) bank stands h.0 (λ new x. let p = (value_stays laws i proper bank new e z x h).1 in λ j. p j ∷ [])

  pub union_law : (s t : ℕ) (xs ys : List ℤ) (bank : List Node) → IsBank bank → HasMembers laws i proper bank s xs → HasMembers laws i proper bank t ys → Stands bank (union s t bank) (λ n new. HasMembers laws i proper new n (xs ++ without ys xs))
  union_law s t xs ys bank stands g h =
      set_stands laws i proper (sets.Union s t) (xs ++ without ys xs) bank stands (g.0, h.0)
      (λ new e. let p = (members_stay laws i proper bank new s xs e g).1 in let q = (members_stay laws i proper bank new t ys e h).1 in λ j. p j ++ without (q j) (p j))

  inter_law : (s t : ℕ) (xs ys : List ℤ) (bank : List Node) → IsBank bank → HasMembers laws i proper bank s xs → HasMembers laws i proper bank t ys → Stands bank (put_set (sets.Inter s t) bank) (λ n new. HasMembers laws i proper new n (filter (has_element ys) xs))
  inter_law s t xs ys bank stands g h =
      set_stands laws i proper (sets.Inter s t) (filter (has_element ys) xs) bank stands (g.0, h.0)
      (λ new e. let p = (members_stay laws i proper bank new s xs e g).1 in let q = (members_stay laws i proper bank new t ys e h).1 in λ j. filter (has_element (q j)) (p j))

  pub minus_law : (s t : ℕ) (xs ys : List ℤ) (bank : List Node) → IsBank bank → HasMembers laws i proper bank s xs → HasMembers laws i proper bank t ys → Stands bank (put_set (sets.Minus s t) bank) (λ n new. HasMembers laws i proper new n (without xs ys))
  minus_law s t xs ys bank stands g h =
      set_stands laws i proper (sets.Minus s t) (without xs ys) bank stands (g.0, h.0)
      (λ new e. let p = (members_stay laws i proper bank new s xs e g).1 in let q = (members_stay laws i proper bank new t ys e h).1 in λ j. without (p j) (q j))

  pub empty_law : (sort : Sort) (bank : List Node) → IsBank bank → Stands bank (put_set (sets.Empty sort) bank) (λ n new. HasMembers laws i proper new n [])
  empty_law sort bank stands = set_stands laws i proper (sets.Empty sort) [] bank stands _ (λ new e. refl)

  -- ---- several, one after another
  pub unions_law : (s : ℕ) (xs : List ℤ) (ns : List ℕ) (ws : List Worth) (bank : List Node) → IsBank bank → HasMembers laws i proper bank s xs → Sets bank ns ws → Stands bank (from_left (joined joins.Union) s ns bank) (λ n new. HasMembers laws i proper new n (in_some xs ws))
  unions_law s xs [] [] bank stands g h = (unchanged bank stands, g)
  unions_law s xs [] (w ∷ ws) bank stands g h = absurd h
  unions_law s xs (n ∷ ns) [] bank stands g h = absurd h
  unions_law s xs (n ∷ ns) (w ∷ ws) bank stands g h =
      stands_bind laws i proper bank (union s n bank) (λ m b. from_left (joined joins.Union) m ns b) (λ m new. HasMembers laws i proper new m (xs ++ without (members w) xs)) (λ m new. HasMembers laws i proper new m (in_some (xs ++ without (members w) xs) ws))
      (union_law s n xs (members w) bank stands g h.0)
      (λ m b e first. unions_law m (xs ++ without (members w) xs) ns ws b e.bank first (sets_stay bank b ns ws e h.1))

  pub intersections_law : (s : ℕ) (xs : List ℤ) (ns : List ℕ) (ws : List Worth) (bank : List Node) → IsBank bank → HasMembers laws i proper bank s xs → Sets bank ns ws → Stands bank (from_left (joined joins.Inter) s ns bank) (λ n new. HasMembers laws i proper new n (in_all xs ws))
  intersections_law s xs [] [] bank stands g h = (unchanged bank stands, g)
  intersections_law s xs [] (w ∷ ws) bank stands g h = absurd h
  intersections_law s xs (n ∷ ns) [] bank stands g h = absurd h
  intersections_law s xs (n ∷ ns) (w ∷ ws) bank stands g h =
      stands_bind laws i proper bank (put_set (sets.Inter s n) bank) (λ m b. from_left (joined joins.Inter) m ns b) (λ m new. HasMembers laws i proper new m (filter (has_element (members w)) xs)) (λ m new. HasMembers laws i proper new m (in_all (filter (has_element (members w)) xs) ws))
      (inter_law s n xs (members w) bank stands g h.0)
      (λ m b e first. intersections_law m (filter (has_element (members w)) xs) ns ws b e.bank first (sets_stay bank b ns ws e h.1))

  pub insertion_law : (ns : List ℕ) (ws : List Worth) (bank : List Node) → IsBank bank → Inserted bank ns ws → Stands bank (from_right single union ns bank) (λ n new. HasMembers laws i proper new n (with_members ws))
  insertion_law [] [] bank stands h = _
  insertion_law [] (w ∷ ws) bank stands h = absurd h
  insertion_law (n ∷ []) [] bank stands h = absurd h
  insertion_law (n ∷ m ∷ ns) [] bank stands h = absurd h
  insertion_law (n ∷ []) (w ∷ []) bank stands h = (unchanged bank stands, h)
  insertion_law (n ∷ []) (w ∷ v ∷ ws) bank stands h = absurd h
  insertion_law (n ∷ m ∷ ns) (w ∷ []) bank stands h = absurd h
  insertion_law (n ∷ m ∷ ns) (w ∷ v ∷ ws) bank stands h =
      stands_bind laws i proper bank (single n bank) (λ x b1. bind (from_right single union (m ∷ ns) b1) (λ y b2. union x y b2)) (λ x new. HasMembers laws i proper new x (number w ∷ [])) (λ x new. HasMembers laws i proper new x (with_members (w ∷ v ∷ ws)))
      (single_law n (number w) bank stands h.0)
      (λ x b1 e first.
      stands_bind laws i proper b1 (from_right single union (m ∷ ns) b1) (λ y b2. union x y b2) (λ y new. HasMembers laws i proper new y (with_members (v ∷ ws))) (λ y new. HasMembers laws i proper new y (with_members (w ∷ v ∷ ws)))
      (insertion_law (m ∷ ns) (v ∷ ws) b1 e.bank (inserted_stay bank b1 (m ∷ ns) (v ∷ ws) e h.1))
      (λ y b2 d rest.
      subst (λ xs. Stands b2 (union x y b2) (λ n new. HasMembers laws i proper new n xs)) (added_is (number w) (with_members (v ∷ ws)))
      (union_law x y (number w ∷ []) (with_members (v ∷ ws)) b2 d.bank (members_stay laws i proper b1 b2 x (number w ∷ []) d first) rest)))

  pub inclusion_law : (sort : Sort) (s t : ℕ) (xs ys : List ℤ) (bank : List Node) → IsBank bank → HasMembers laws i proper bank s xs → HasMembers laws i proper bank t ys → Stands bank (inclusion sort s t bank) (λ n new. HasTruth laws i proper new n (is_subset xs ys))
  inclusion_law sort s t xs ys bank stands g h =
      stands_bind laws i proper bank (put_set (sets.Minus s t) bank) (λ m b1. bind (put_set (sets.Empty sort) b1) (λ e b2. put_formula (formulas.EqSet m e) b2)) (λ m new. HasMembers laws i proper new m (without xs ys)) (λ n new. HasTruth laws i proper new n (is_subset xs ys))
      (minus_law s t xs ys bank stands g h)
      (λ m b1 x first.
      stands_bind laws i proper b1 (put_set (sets.Empty sort) b1) (λ e b2. put_formula (formulas.EqSet m e) b2) (λ e new. HasMembers laws i proper new e []) (λ n new. HasTruth laws i proper new n (is_subset xs ys))
      (empty_law sort b1 x.bank)
      (λ e b2 d second.
      subst (λ b. Stands b2 (put_formula (formulas.EqSet m e) b2) (λ n new. HasTruth laws i proper new n b)) (subset_is xs ys)
      (sets_equal laws i proper m e (without xs ys) [] b2 d.bank (members_stay laws i proper b1 b2 m (without xs ys) d first) second)))
