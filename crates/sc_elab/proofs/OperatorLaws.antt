-- The laws of single operators on formulas: what is built is as true as the operator says of its arguments.
use Rattle.std.proofs.Common.{◌≡◌, ℕ, ℤ, Bool, true, false, not, ◌&&◌, ◌||◌, List, [], ◌∷◌, ◌++◌, map, refl, sym, ap, ◌∙◌, subst}
use Rattle.std.specs.Prelude.{⊤, if◌then◌else◌}
use Rattle.std.specs.List.{list_any, list_all, AllByRecursion}
use Rattle.sc_terms.specs.declared.nodes.Node.{Node}
use Rattle.std.specs.Ordering.{int_eq}
use Rattle.sc_terms.specs.declared.nodes.Formula.TheVariants as formulas
use Rattle.sc_terms.specs.declared.nodes.Sort.{Sort}
use Rattle.sc_terms.specs.declared.nodes.Sort.TheVariants as sorts
use Rattle.sc_terms.specs.Bank.{IsBank, IsFormulaOf}
use Rattle.sc_terms.specs.BankValues.{bank_meaning}
use Rattle.sc_terms.specs.Meaning.{Interpretation, IsInterpretation, same_elements}
use Rattle.sc_terms.specs.Same.{same_truth}
use Rattle.sc_elab.specs.States.{Outcome, Done, bind, each, put_formula}
use Rattle.sc_elab.specs.Builds.{implication, equal, difference, exclusive, exclusive_or, equation, neighbours, pairs, conjunction, choice}
use Rattle.sc_elab.specs.Value.{Worth, Truth, Number, Members, truth, implies, is_odd, is_chain, are_distinct, same_worth}
use Rattle.sc_elab.proofs.Standing.{BankLaws, Extends, Stands, unchanged, HasTruth, HasValue, HasMembers, IsWorth, truth_stays, value_stays, members_stay, worth_stays, extends_twice, stands_bind, formula_stands}

-- ---- the operators on truth values
pub all_true : (bs : List Bool) → list_all truth (map Truth bs) ≡ list_all (λ b. b) bs
all_true [] = refl
all_true (b ∷ bs) = ap (λ t. b && t) (all_true bs)

pub any_true : (bs : List Bool) → list_any truth (map Truth bs) ≡ list_any (λ b. b) bs
any_true [] = refl
any_true (b ∷ bs) = ap (λ t. b || t) (any_true bs)

all_append : {X : Type 0} (p : X → Bool) (xs ys : List X) → list_all p (xs ++ ys) ≡ (list_all p xs && list_all p ys)
all_append p [] ys = refl
all_append p (x ∷ xs) ys = ap (λ t. p x && t) (all_append p xs ys) ∙ and_assoc (p x) (list_all p xs) (list_all p ys)
  where
    and_assoc : (a b c : Bool) → (a && (b && c)) ≡ ((a && b) && c)
    and_assoc true b c = refl
    and_assoc false b c = refl

and_true : (b : Bool) → (b && true) ≡ b
and_true true = refl
and_true false = refl

abbrev pub same : Worth × Worth → Bool
same p = same_worth p.0 p.1

abbrev pub differs : Worth × Worth → Bool
differs p = not (same_worth p.0 p.1)

pub chain_is : (ws : List Worth) → list_all same (neighbours ws) ≡ is_chain ws
chain_is [] = refl
chain_is (w ∷ []) = refl
chain_is (w ∷ v ∷ ws) = ap (λ t. same_worth w v && t) (chain_is (v ∷ ws))

apart_one : (w : Worth) (ws : List Worth) → list_all differs (map (λ v. (w, v)) ws) ≡ list_all (λ v. not (same_worth w v)) ws
apart_one w [] = refl
apart_one w (v ∷ ws) = ap (λ t. not (same_worth w v) && t) (apart_one w ws)

pub apart_is : (ws : List Worth) → list_all differs (pairs ws) ≡ are_distinct ws
apart_is [] = refl
apart_is (w ∷ ws) = all_append differs (map (λ v. (w, v)) ws) (pairs ws) ∙ (λ j. apart_one w ws j && apart_is ws j)

choice_is : (c b d : Bool) → ((not c || (b || false)) && ((c || (d || false)) && true)) ≡ (if c then b else d)
choice_is true true d = refl
choice_is true false d = refl
choice_is false b true = refl
choice_is false b false = refl

module _ (laws : BankLaws) (i : Interpretation) (proper : IsInterpretation i) where
  -- the formulas with these numbers are as true as these values
  abbrev pub Truths : List Node → List ℕ → List Bool → Type 0
  Truths bank [] [] = ⊤
  Truths bank (f ∷ fs) (b ∷ bs) = HasTruth laws i proper bank f b × Truths bank fs bs
  Truths bank _ _ = ⊥

  -- things of a sort that are worth so much, and pairs of such
  abbrev pub Worths : Sort → List Node → List ℕ → List Worth → Type 0
  Worths sort bank [] [] = ⊤
  Worths sort bank (n ∷ ns) (w ∷ ws) = IsWorth laws i proper sort bank n w × Worths sort bank ns ws
  Worths sort bank _ _ = ⊥

  abbrev pub PairWorths : Sort → List Node → List (ℕ × ℕ) → List (Worth × Worth) → Type 0
  PairWorths sort bank [] [] = ⊤
  PairWorths sort bank (p ∷ ps) (q ∷ qs) = IsWorth laws i proper sort bank p.0 q.0 × IsWorth laws i proper sort bank p.1 q.1 × PairWorths sort bank ps qs
  PairWorths sort bank _ _ = ⊥

  pub truths_stay : (old new : List Node) (fs : List ℕ) (bs : List Bool) → Extends old new → Truths old fs bs → Truths new fs bs
  truths_stay old new [] [] e h = _
  truths_stay old new (f ∷ fs) (b ∷ bs) e h = (truth_stays laws i proper old new f b e h.0, truths_stay old new fs bs e h.1)
  truths_stay old new [] (b ∷ bs) e h = absurd h
  truths_stay old new (f ∷ fs) [] e h = absurd h

  pairs_stay : (sort : Sort) (old new : List Node) (ps : List (ℕ × ℕ)) (qs : List (Worth × Worth)) → Extends old new → PairWorths sort old ps qs → PairWorths sort new ps qs
  pairs_stay sort old new [] [] e h = _
  pairs_stay sort old new (p ∷ ps) (q ∷ qs) e h = (worth_stays laws i proper sort old new p.0 q.0 e h.0, worth_stays laws i proper sort old new p.1 q.1 e h.1, pairs_stay sort old new ps qs e h.2)
  pairs_stay sort old new [] (q ∷ qs) e h = absurd h
  pairs_stay sort old new (p ∷ ps) [] e h = absurd h

  are_formulas : (bank : List Node) (fs : List ℕ) (bs : List Bool) → Truths bank fs bs → AllByRecursion (IsFormulaOf bank) fs
  are_formulas bank [] [] h = _
  are_formulas bank (f ∷ fs) (b ∷ bs) h = (h.0.0, are_formulas bank fs bs h.1)
  are_formulas bank [] (b ∷ bs) h = absurd h
  are_formulas bank (f ∷ fs) [] h = absurd h

  all_are : (bank : List Node) (fs : List ℕ) (bs : List Bool) → Truths bank fs bs → list_all (bank_meaning bank i).truth fs ≡ list_all (λ b. b) bs
  all_are bank [] [] h = refl
  all_are bank (f ∷ fs) (b ∷ bs) h = λ j. h.0.1 j && all_are bank fs bs h.1 j
  all_are bank [] (b ∷ bs) h = absurd h
  all_are bank (f ∷ fs) [] h = absurd h

  any_are : (bank : List Node) (fs : List ℕ) (bs : List Bool) → Truths bank fs bs → list_any (bank_meaning bank i).truth fs ≡ list_any (λ b. b) bs
  any_are bank [] [] h = refl
  any_are bank (f ∷ fs) (b ∷ bs) h = λ j. h.0.1 j || any_are bank fs bs h.1 j
  any_are bank [] (b ∷ bs) h = absurd h
  any_are bank (f ∷ fs) [] h = absurd h

  -- ---- one formula
  pub and_law : (fs : List ℕ) (bs : List Bool) (bank : List Node) → IsBank bank → Truths bank fs bs → Stands bank (put_formula (formulas.And fs) bank) (λ n new. HasTruth laws i proper new n (list_all (λ b. b) bs))
  and_law fs bs bank stands h = formula_stands laws i proper (formulas.And fs) (list_all (λ b. b) bs) bank stands (are_formulas bank fs bs h) (λ new e. all_are new fs bs (truths_stay bank new fs bs e h))

  pub or_law : (fs : List ℕ) (bs : List Bool) (bank : List Node) → IsBank bank → Truths bank fs bs → Stands bank (put_formula (formulas.Or fs) bank) (λ n new. HasTruth laws i proper new n (list_any (λ b. b) bs))
  or_law fs bs bank stands h = formula_stands laws i proper (formulas.Or fs) (list_any (λ b. b) bs) bank stands (are_formulas bank fs bs h) (λ new e. any_are new fs bs (truths_stay bank new fs bs e h))

  pub not_law : (f : ℕ) (b : Bool) (bank : List Node) → IsBank bank → HasTruth laws i proper bank f b → Stands bank (put_formula (formulas.Not f) bank) (λ n new. HasTruth laws i proper new n (not b))
  not_law f b bank stands h = formula_stands laws i proper (formulas.Not f) (not b) bank stands h.0 (λ new e. ap not (truth_stays laws i proper bank new f b e h).1)

  truths_equal : (x y : ℕ) (a b : Bool) (bank : List Node) → IsBank bank → HasTruth laws i proper bank x a → HasTruth laws i proper bank y b → Stands bank (put_formula (formulas.Iff x y) bank) (λ n new. HasTruth laws i proper new n (same_truth a b))
  truths_equal x y a b bank stands g h =
      formula_stands laws i proper (formulas.Iff x y) (same_truth a b) bank stands (g.0, h.0)
      (λ new e. let p = (truth_stays laws i proper bank new x a e g).1 in let q = (truth_stays laws i proper bank new y b e h).1 in λ j. same_truth (p j) (q j))

  values_equal : (x y : ℕ) (a b : ℤ) (bank : List Node) → IsBank bank → HasValue laws i proper bank x a → HasValue laws i proper bank y b → Stands bank (put_formula (formulas.Eq x y) bank) (λ n new. HasTruth laws i proper new n (int_eq a b))
  values_equal x y a b bank stands g h =
      formula_stands laws i proper (formulas.Eq x y) (int_eq a b) bank stands (g.0, h.0)
      (λ new e. let p = (value_stays laws i proper bank new x a e g).1 in let q = (value_stays laws i proper bank new y b e h).1 in λ j. int_eq (p j) (q j))

  pub sets_equal : (x y : ℕ) (a b : List ℤ) (bank : List Node) → IsBank bank → HasMembers laws i proper bank x a → HasMembers laws i proper bank y b → Stands bank (put_formula (formulas.EqSet x y) bank) (λ n new. HasTruth laws i proper new n (same_elements a b))
  sets_equal x y a b bank stands g h =
      formula_stands laws i proper (formulas.EqSet x y) (same_elements a b) bank stands (g.0, h.0)
      (λ new e. let p = (members_stay laws i proper bank new x a e g).1 in let q = (members_stay laws i proper bank new y b e h).1 in λ j. same_elements (p j) (q j))

  worths_equal : (sort : Sort) (x y : ℕ) (v w : Worth) (bank : List Node) → IsBank bank → IsWorth laws i proper sort bank x v → IsWorth laws i proper sort bank y w → Stands bank (put_formula (equal sort x y) bank) (λ n new. HasTruth laws i proper new n (same_worth v w))
  worths_equal sorts.Bool x y (Truth a) (Truth b) bank stands g h = truths_equal x y a b bank stands g h
  worths_equal sorts.Bool x y (Number a) w bank stands g h = absurd g
  worths_equal sorts.Bool x y (Members a) w bank stands g h = absurd g
  worths_equal sorts.Bool x y (Truth a) (Number b) bank stands g h = absurd h
  worths_equal sorts.Bool x y (Truth a) (Members b) bank stands g h = absurd h
  worths_equal sorts.Int x y (Number a) (Number b) bank stands g h = values_equal x y a b bank stands g h
  worths_equal sorts.Int x y (Truth a) w bank stands g h = absurd g
  worths_equal sorts.Int x y (Members a) w bank stands g h = absurd g
  worths_equal sorts.Int x y (Number a) (Truth b) bank stands g h = absurd h
  worths_equal sorts.Int x y (Number a) (Members b) bank stands g h = absurd h
  worths_equal (sorts.Named k) x y (Number a) (Number b) bank stands g h = values_equal x y a b bank stands g h
  worths_equal (sorts.Named k) x y (Truth a) w bank stands g h = absurd g
  worths_equal (sorts.Named k) x y (Members a) w bank stands g h = absurd g
  worths_equal (sorts.Named k) x y (Number a) (Truth b) bank stands g h = absurd h
  worths_equal (sorts.Named k) x y (Number a) (Members b) bank stands g h = absurd h
  worths_equal sorts.SetInt x y (Members a) (Members b) bank stands g h = sets_equal x y a b bank stands g h
  worths_equal sorts.SetInt x y (Truth a) w bank stands g h = absurd g
  worths_equal sorts.SetInt x y (Number a) w bank stands g h = absurd g
  worths_equal sorts.SetInt x y (Members a) (Truth b) bank stands g h = absurd h
  worths_equal sorts.SetInt x y (Members a) (Number b) bank stands g h = absurd h
  worths_equal (sorts.SetNamed k) x y (Members a) (Members b) bank stands g h = sets_equal x y a b bank stands g h
  worths_equal (sorts.SetNamed k) x y (Truth a) w bank stands g h = absurd g
  worths_equal (sorts.SetNamed k) x y (Number a) w bank stands g h = absurd g
  worths_equal (sorts.SetNamed k) x y (Members a) (Truth b) bank stands g h = absurd h
  worths_equal (sorts.SetNamed k) x y (Members a) (Number b) bank stands g h = absurd h

  pub equation_law : (sort : Sort) (p : ℕ × ℕ) (q : Worth × Worth) (bank : List Node) → IsBank bank → IsWorth laws i proper sort bank p.0 q.0 → IsWorth laws i proper sort bank p.1 q.1 → Stands bank (equation sort p bank) (λ n new. HasTruth laws i proper new n (same q))
  equation_law sort p q bank stands g h = worths_equal sort p.0 p.1 q.0 q.1 bank stands g h

  pub difference_law : (sort : Sort) (p : ℕ × ℕ) (q : Worth × Worth) (bank : List Node) → IsBank bank → IsWorth laws i proper sort bank p.0 q.0 → IsWorth laws i proper sort bank p.1 q.1 → Stands bank (difference sort p bank) (λ n new. HasTruth laws i proper new n (differs q))
  difference_law sort p q bank stands g h =
      stands_bind laws i proper bank (equation sort p bank) (λ n b. put_formula (formulas.Not n) b) (λ n new. HasTruth laws i proper new n (same q)) (λ n new. HasTruth laws i proper new n (differs q))
      (equation_law sort p q bank stands g h)
      (λ n behind e is. not_law n (same q) behind e.bank is)

  -- ---- several formulas, one after another
  pub implication_law : (fs : List ℕ) (bs : List Bool) (bank : List Node) → IsBank bank → Truths bank fs bs → Stands bank (implication fs bank) (λ n new. HasTruth laws i proper new n (implies (map Truth bs)))
  implication_law [] [] bank stands h = _
  implication_law [] (b ∷ bs) bank stands h = absurd h
  implication_law (f ∷ fs) [] bank stands h = absurd h
  implication_law (f ∷ []) (b ∷ []) bank stands h = (unchanged bank stands, h.0)
  implication_law (f ∷ []) (b ∷ c ∷ cs) bank stands h = absurd h.1
  implication_law (f ∷ k ∷ gs) (b ∷ []) bank stands h = absurd h.1
  implication_law (f ∷ k ∷ gs) (b ∷ c ∷ cs) bank stands h =
      stands_bind laws i proper bank (put_formula (formulas.Not f) bank) (λ n b1. bind (implication (k ∷ gs) b1) (λ m b2. put_formula (formulas.Or (n ∷ m ∷ [])) b2)) (λ n new. HasTruth laws i proper new n (not b)) (λ n new. HasTruth laws i proper new n (not b || implies (Truth c ∷ map Truth cs)))
      (not_law f b bank stands h.0)
      (λ n b1 e first.
      stands_bind laws i proper b1 (implication (k ∷ gs) b1) (λ m b2. put_formula (formulas.Or (n ∷ m ∷ [])) b2) (λ m new. HasTruth laws i proper new m (implies (Truth c ∷ map Truth cs))) (λ n new. HasTruth laws i proper new n (not b || implies (Truth c ∷ map Truth cs)))
      (implication_law (k ∷ gs) (c ∷ cs) b1 e.bank (truths_stay bank b1 (k ∷ gs) (c ∷ cs) e h.1))
      (λ m b2 d rest.
      subst (λ t. Stands b2 (put_formula (formulas.Or (n ∷ m ∷ [])) b2) (λ n new. HasTruth laws i proper new n (not b || t))) (or_false (implies (Truth c ∷ map Truth cs)))
      (or_law (n ∷ m ∷ []) (not b ∷ implies (Truth c ∷ map Truth cs) ∷ []) b2 d.bank (truth_stays laws i proper b1 b2 n (not b) d first, (rest, _)))))
    where
      or_false : (t : Bool) → (t || false) ≡ t
      or_false true = refl
      or_false false = refl

  pub exclusive_law : (f : ℕ) (b : Bool) (gs : List ℕ) (cs : List Bool) (bank : List Node) → IsBank bank → HasTruth laws i proper bank f b → Truths bank gs cs → Stands bank (exclusive f gs bank) (λ n new. HasTruth laws i proper new n (is_odd b (map Truth cs)))
  exclusive_law f b [] [] bank stands g h = (unchanged bank stands, g)
  exclusive_law f b [] (c ∷ cs) bank stands g h = absurd h
  exclusive_law f b (k ∷ gs) [] bank stands g h = absurd h
  exclusive_law f b (k ∷ gs) (c ∷ cs) bank stands g h =
      stands_bind laws i proper bank (exclusive_or f k bank) (λ n b1. exclusive n gs b1) (λ n new. HasTruth laws i proper new n (not (same_truth b c))) (λ n new. HasTruth laws i proper new n (is_odd (not (same_truth b c)) (map Truth cs)))
      (difference_law sorts.Bool (f, k) (Truth b, Truth c) bank stands g h.0)
      (λ n b1 e first. exclusive_law n (not (same_truth b c)) gs cs b1 e.bank first (truths_stay bank b1 gs cs e h.1))

  -- each pair makes a formula
  pub each_law : (sort : Sort) (make : ℕ × ℕ → List Node → Outcome ℕ) (of : Worth × Worth → Bool) → ((p : ℕ × ℕ) (q : Worth × Worth) (bank : List Node) → IsBank bank → IsWorth laws i proper sort bank p.0 q.0 → IsWorth laws i proper sort bank p.1 q.1 → Stands bank (make p bank) (λ n new. HasTruth laws i proper new n (of q))) → (ps : List (ℕ × ℕ)) (qs : List (Worth × Worth)) (bank : List Node) → IsBank bank → PairWorths sort bank ps qs → Stands bank (each make ps bank) (λ ns new. Truths new ns (map of qs))
  each_law sort make of one [] [] bank stands h = (unchanged bank stands, _)
  each_law sort make of one [] (q ∷ qs) bank stands h = absurd h
  each_law sort make of one (p ∷ ps) [] bank stands h = absurd h
  each_law sort make of one (p ∷ ps) (q ∷ qs) bank stands h =
      stands_bind laws i proper bank (make p bank) (λ a b1. bind (each make ps b1) (λ more b2. Done (a ∷ more) b2)) (λ n new. HasTruth laws i proper new n (of q)) (λ ns new. Truths new ns (of q ∷ map of qs))
      (one p q bank stands h.0 h.1)
      (λ a b1 e first.
      stands_bind laws i proper b1 (each make ps b1) (λ more b2. Done (a ∷ more) b2) (λ ns new. Truths new ns (map of qs)) (λ ns new. Truths new ns (of q ∷ map of qs))
      (each_law sort make of one ps qs b1 e.bank (pairs_stay sort bank b1 ps qs e h.2))
      (λ more b2 d rest. (unchanged b2 d.bank, (truth_stays laws i proper b1 b2 a (of q) d first, rest))))

  pub conjunction_law : (fs : List ℕ) (bs : List Bool) (bank : List Node) → IsBank bank → Truths bank fs bs → Stands bank (conjunction fs bank) (λ n new. HasTruth laws i proper new n (list_all (λ b. b) bs))
  conjunction_law [] [] bank stands h = and_law [] [] bank stands h
  conjunction_law (f ∷ []) (b ∷ []) bank stands h = (unchanged bank stands, subst (λ t. HasTruth laws i proper bank f t) (sym (and_true b)) h.0)
  conjunction_law (f ∷ g ∷ fs) (b ∷ c ∷ bs) bank stands h = and_law (f ∷ g ∷ fs) (b ∷ c ∷ bs) bank stands h
  conjunction_law [] (b ∷ bs) bank stands h = absurd h
  conjunction_law (f ∷ fs) [] bank stands h = absurd h
  conjunction_law (f ∷ []) (b ∷ c ∷ bs) bank stands h = absurd h.1
  conjunction_law (f ∷ g ∷ fs) (b ∷ []) bank stands h = absurd h.1

  neighbour_worths : (sort : Sort) (bank : List Node) (ns : List ℕ) (ws : List Worth) → Worths sort bank ns ws → PairWorths sort bank (neighbours ns) (neighbours ws)
  neighbour_worths sort bank [] [] h = _
  neighbour_worths sort bank (n ∷ []) (w ∷ []) h = _
  neighbour_worths sort bank (n ∷ m ∷ ns) (w ∷ v ∷ ws) h = (h.0, h.1.0, neighbour_worths sort bank (m ∷ ns) (v ∷ ws) h.1)
  neighbour_worths sort bank [] (w ∷ ws) h = absurd h
  neighbour_worths sort bank (n ∷ ns) [] h = absurd h
  neighbour_worths sort bank (n ∷ []) (w ∷ v ∷ ws) h = absurd h.1
  neighbour_worths sort bank (n ∷ m ∷ ns) (w ∷ []) h = absurd h.1

  first_pairs : (sort : Sort) (bank : List Node) (n : ℕ) (w : Worth) (ns : List ℕ) (ws : List Worth) (ps : List (ℕ × ℕ)) (qs : List (Worth × Worth)) → IsWorth laws i proper sort bank n w → Worths sort bank ns ws → PairWorths sort bank ps qs → PairWorths sort bank (map (λ m. (n, m)) ns ++ ps) (map (λ v. (w, v)) ws ++ qs)
  first_pairs sort bank n w [] [] ps qs own h rest = rest
  first_pairs sort bank n w (m ∷ ns) (v ∷ ws) ps qs own h rest = (own, h.0, first_pairs sort bank n w ns ws ps qs own h.1 rest)
  first_pairs sort bank n w [] (v ∷ ws) ps qs own h rest = absurd h
  first_pairs sort bank n w (m ∷ ns) [] ps qs own h rest = absurd h

  pair_worths : (sort : Sort) (bank : List Node) (ns : List ℕ) (ws : List Worth) → Worths sort bank ns ws → PairWorths sort bank (pairs ns) (pairs ws)
  pair_worths sort bank [] [] h = _
  pair_worths sort bank (n ∷ ns) (w ∷ ws) h = first_pairs sort bank n w ns ws (pairs ns) (pairs ws) h.0 h.1 (pair_worths sort bank ns ws h.1)
  pair_worths sort bank [] (w ∷ ws) h = absurd h
  pair_worths sort bank (n ∷ ns) [] h = absurd h

  all_map : {X : Type 0} (of : X → Bool) (xs : List X) → list_all (λ b. b) (map of xs) ≡ list_all of xs
  all_map of [] = refl
  all_map of (x ∷ xs) = ap (λ t. of x && t) (all_map of xs)

  pub equal_law : (sort : Sort) (ns : List ℕ) (ws : List Worth) (bank : List Node) → IsBank bank → Worths sort bank ns ws → Stands bank (bind (each (equation sort) (neighbours ns) bank) conjunction) (λ n new. HasTruth laws i proper new n (is_chain ws))
  equal_law sort ns ws bank stands h =
      subst (λ t. Stands bank (bind (each (equation sort) (neighbours ns) bank) conjunction) (λ n new. HasTruth laws i proper new n t)) (all_map same (neighbours ws) ∙ chain_is ws)
      (stands_bind laws i proper bank (each (equation sort) (neighbours ns) bank) conjunction (λ fs new. Truths new fs (map same (neighbours ws))) (λ n new. HasTruth laws i proper new n (list_all (λ b. b) (map same (neighbours ws))))
      (each_law sort (equation sort) same (equation_law sort) (neighbours ns) (neighbours ws) bank stands (neighbour_worths sort bank ns ws h))
      (λ fs b1 e is. conjunction_law fs (map same (neighbours ws)) b1 e.bank is))

  pub distinct_law : (sort : Sort) (ns : List ℕ) (ws : List Worth) (bank : List Node) → IsBank bank → Worths sort bank ns ws → Stands bank (bind (each (difference sort) (pairs ns) bank) conjunction) (λ n new. HasTruth laws i proper new n (are_distinct ws))
  distinct_law sort ns ws bank stands h =
      subst (λ t. Stands bank (bind (each (difference sort) (pairs ns) bank) conjunction) (λ n new. HasTruth laws i proper new n t)) (all_map differs (pairs ws) ∙ apart_is ws)
      (stands_bind laws i proper bank (each (difference sort) (pairs ns) bank) conjunction (λ fs new. Truths new fs (map differs (pairs ws))) (λ n new. HasTruth laws i proper new n (list_all (λ b. b) (map differs (pairs ws))))
      (each_law sort (difference sort) differs (difference_law sort) (pairs ns) (pairs ws) bank stands (pair_worths sort bank ns ws h))
      (λ fs b1 e is. conjunction_law fs (map differs (pairs ws)) b1 e.bank is))

  pub choice_law : (c f g : ℕ) (a b d : Bool) (bank : List Node) → IsBank bank → HasTruth laws i proper bank c a → HasTruth laws i proper bank f b → HasTruth laws i proper bank g d → Stands bank (choice c f g bank) (λ n new. HasTruth laws i proper new n (if a then b else d))
  choice_law c f g a b d bank stands hc hf hg =
      stands_bind laws i proper bank (put_formula (formulas.Not c) bank) (λ n b1. bind (put_formula (formulas.Or (n ∷ f ∷ [])) b1) (λ x b2. bind (put_formula (formulas.Or (c ∷ g ∷ [])) b2) (λ y b3. put_formula (formulas.And (x ∷ y ∷ [])) b3))) (λ n new. HasTruth laws i proper new n (not a)) (λ n new. HasTruth laws i proper new n (if a then b else d))
      (not_law c a bank stands hc)
      (λ n b1 e1 h1.
      stands_bind laws i proper b1 (put_formula (formulas.Or (n ∷ f ∷ [])) b1) (λ x b2. bind (put_formula (formulas.Or (c ∷ g ∷ [])) b2) (λ y b3. put_formula (formulas.And (x ∷ y ∷ [])) b3)) (λ n new. HasTruth laws i proper new n (not a || (b || false))) (λ n new. HasTruth laws i proper new n (if a then b else d))
      (or_law (n ∷ f ∷ []) (not a ∷ b ∷ []) b1 e1.bank (h1, (truth_stays laws i proper bank b1 f b e1 hf, _)))
      (λ x b2 e2 h2.
      let both = extends_twice laws i proper bank b1 b2 e1 e2 in
      stands_bind laws i proper b2 (put_formula (formulas.Or (c ∷ g ∷ [])) b2) (λ y b3. put_formula (formulas.And (x ∷ y ∷ [])) b3) (λ n new. HasTruth laws i proper new n (a || (d || false))) (λ n new. HasTruth laws i proper new n (if a then b else d))
      (or_law (c ∷ g ∷ []) (a ∷ d ∷ []) b2 e2.bank (truth_stays laws i proper bank b2 c a both hc, (truth_stays laws i proper bank b2 g d both hg, _)))
      (λ y b3 e3 h3.
      subst (λ t. Stands b3 (put_formula (formulas.And (x ∷ y ∷ [])) b3) (λ n new. HasTruth laws i proper new n t)) (choice_is a b d)
      (and_law (x ∷ y ∷ []) ((not a || (b || false)) ∷ (a || (d || false)) ∷ []) b3 e3.bank (truth_stays laws i proper b2 b3 x (not a || (b || false)) e3 h2, (h3, _))))))
