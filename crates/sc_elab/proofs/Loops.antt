-- What the loops keep.
use Rattle.std.proofs.Common.{◌≡◌, ℕ, ◌+◌, ◌<◌, ◌≤◌, zero, suc, List, [], ◌∷◌, ◌++◌, length, take, drop, get_or, refl, arith, sym, ap, ◌∙◌, subst, append_assoc, append-nil}
use Rattle.std.specs.Prelude.{Ok, Err}
use Rattle.std.specs.List.{AllByRecursion}
use Rattle.std.proofs.lemmas.List.{drop_more}
use Rattle.sc_terms.specs.declared.nodes.Node.{Node}
use Rattle.sc_terms.specs.declared.nodes.Sort.{Sort}
use Rattle.sc_elab.specs.declared.error.ElabError.{ElabError}
use Rattle.sc_elab.specs.declared.error.ElabError.TheVariants as errors
use Rattle.sc_elab.specs.States.{Outcome, Done, Fault, bind, each, Answers}
use Rattle.sc_elab.specs.Growth.{Grown, Gives, Builds}
use Rattle.sc_elab.specs.Builds as spec
use Rattle.sc_elab.proofs.Growing.{same_grown, grown_twice, Lasts, still_all, stops}

-- ---- items of a list of numbers
module _ (P : ℕ → Type 0) (ns : List ℕ) (i : ℕ) (lt : i < length ns) (h : AllByRecursion P (drop i ns)) where
  cut : AllByRecursion P (get_or ns i 0 ∷ drop (i + 1) ns)
  cut = subst (AllByRecursion P) (drop_more ns i 0 lt) h

  pub first_is : P (get_or ns i 0)
  first_is = cut.0

  pub rest_are : AllByRecursion P (drop (i + 1) ns)
  rest_are = cut.1

pub one_more_is : (P : ℕ → Type 0) (ns : List ℕ) (n : ℕ) → AllByRecursion P ns → P n → AllByRecursion P (ns ++ n ∷ [])
one_more_is P [] n h is = (is, tt)
one_more_is P (m ∷ ns) n h is = (h.0, one_more_is P ns n h.1 is)

-- nothing is left at the end
pub none_left : {X : Type 0} (xs : List X) (i : ℕ) → length xs ≤ i → drop i xs ≡ []
none_left [] zero h = refl
none_left [] (suc i) h = refl
none_left (x ∷ xs) zero h = absurd (omega (h, arith))
none_left (x ∷ xs) (suc i) h = none_left xs i (omega (h, arith))

-- what is known of the nodes that are made
module _ (Is : List Node → ℕ → Type 0) (lasts : Lasts Is) where
  abbrev pub Are : List Node → List ℕ → Type 0
  Are bank ns = AllByRecursion (Is bank) ns

  -- ---- what f makes of the items that are left goes behind what is made
  pub record Collects {X : Type 0} (f : X → List Node → Outcome ℕ) (whole : Outcome (List ℕ)) (old : List Node) (made : List ℕ) (left : List X) (bank : List Node) : Type 0 where
    pub same : whole ≡ bind (each f left bank) (λ ns b. Done (made ++ ns) b)
    pub made_are : Are bank made
    pub grown : (known : List Sort) → Grown known old bank

  behind : (made : List ℕ) (n : ℕ) (o : Outcome (List ℕ)) → bind (bind o (λ ns b. Done (n ∷ ns) b)) (λ ns b. Done (made ++ ns) b) ≡ bind o (λ ns b. Done ((made ++ n ∷ []) ++ ns) b)
  behind made n (Done ns b) = ap (λ xs. Done xs b) (sym (append_assoc made (n ∷ []) ns))
  behind made n (Fault code b) = refl

  module _ {X : Type 0} (f : X → List Node → Outcome ℕ) (whole : Outcome (List ℕ)) (old : List Node) (made : List ℕ) where
    pub collects_on : (x : X) (left : List X) (n : ℕ) (bank new : List Node) → Collects f whole old made (x ∷ left) bank → Builds Is (f x bank) bank (Ok n) new → Collects f whole old (made ++ n ∷ []) left new
    collects_on x left n bank new h g = record {
      same = h.same ∙ ap (λ o. bind (bind o (λ a b. bind (each f left b) (λ more c. Done (a ∷ more) c))) (λ ns b. Done (made ++ ns) b)) (g []).exact ∙ behind made n (each f left new);
      made_are = one_more_is (Is new) made n (still_all Is lasts [] bank new made (g []).grown h.made_are) (g []).stands;
      grown = λ known. grown_twice known old bank new (h.grown known) (g known).grown;
    }

    fails : (x : X) (left : List X) (e : ElabError) (bank new : List Node) → Answers (f x bank) (Err e) new → Answers (bind (each f (x ∷ left) bank) (λ ns b. Done (made ++ ns) b)) (Err e) new
    fails x left (errors.Fault code) bank new h = ap (λ o. bind (bind o (λ a b. bind (each f left b) (λ more c. Done (a ∷ more) c))) (λ ns b. Done (made ++ ns) b)) h
    fails x left errors.Memory bank new h = tt

    pub collects_stops : (x : X) (left : List X) (e : ElabError) (bank new : List Node) → Collects f whole old made (x ∷ left) bank → Builds Is (f x bank) bank (Err e) new → Builds Are whole old (Err e) new
    collects_stops x left e bank new h g known = record {
      exact = subst (λ o. Answers o (Err e) new) (sym h.same) (fails x left e bank new (g known).exact);
      stands = tt;
      grown = grown_twice known old bank new (h.grown known) (g known).grown;
    }

    pub collects_memory : (left : List X) (bank new : List Node) → Collects f whole old made left bank → ((known : List Sort) → Grown known bank new) → Builds Are whole old (Err errors.Memory) new
    collects_memory left bank new h g known = record { exact = tt; stands = tt; grown = grown_twice known old bank new (h.grown known) (g known) }

    pub collects_all : (bank : List Node) → Collects f whole old made [] bank → Builds Are whole old (Ok made) bank
    collects_all bank h known = record { exact = h.same ∙ ap (λ ns. Done ns bank) (append-nil made); stands = h.made_are; grown = h.grown known }

  pub collects_none : {X : Type 0} (f : X → List Node → Outcome ℕ) (xs : List X) (bank : List Node) → Collects f (each f xs bank) bank [] xs bank
  collects_none f xs bank = record { same = by (each f xs bank); made_are = tt; grown = λ known. same_grown known bank }
    where
      by : (o : Outcome (List ℕ)) → o ≡ bind o (λ ns b. Done ([] ++ ns) b)
      by (Done ns b) = refl
      by (Fault code b) = refl

  pub collects_from : {X : Type 0} (f : X → List Node → Outcome ℕ) (made : List ℕ) (xs : List X) (bank : List Node) → Are bank made → Collects f (bind (each f xs bank) (λ ns b. Done (made ++ ns) b)) bank made xs bank
  collects_from f made xs bank h = record { same = refl; made_are = h; grown = λ known. same_grown known bank }

  -- several items at once
  module _ {X : Type 0} (f : X → List Node → Outcome ℕ) where
    none_before : (o : Outcome (List ℕ)) → o ≡ bind o (λ ns c. Done ([] ++ ns) c)
    none_before (Done ns c) = refl
    none_before (Fault code c) = refl

    one_before : (a : ℕ) (ms : List ℕ) (o : Outcome (List ℕ)) → bind (bind o (λ ns c. Done (ms ++ ns) c)) (λ more c. Done (a ∷ more) c) ≡ bind o (λ ns c. Done ((a ∷ ms) ++ ns) c)
    one_before a ms (Done ns c) = refl
    one_before a ms (Fault code c) = refl

    some_before : (a : ℕ) (ys : List X) (o : Outcome (List ℕ)) → bind (bind o (λ ms b. bind (each f ys b) (λ ns c. Done (ms ++ ns) c))) (λ more c. Done (a ∷ more) c) ≡ bind (bind o (λ more c. Done (a ∷ more) c)) (λ ms b. bind (each f ys b) (λ ns c. Done (ms ++ ns) c))
    some_before a ys (Done ms b) = one_before a ms (each f ys b)
    some_before a ys (Fault code b) = refl

    first_before : (xs ys : List X) (o : Outcome ℕ) → ((b : List Node) → each f (xs ++ ys) b ≡ bind (each f xs b) (λ ms b. bind (each f ys b) (λ ns c. Done (ms ++ ns) c))) → bind o (λ a b. bind (each f (xs ++ ys) b) (λ more c. Done (a ∷ more) c)) ≡ bind (bind o (λ a b. bind (each f xs b) (λ more c. Done (a ∷ more) c))) (λ ms b. bind (each f ys b) (λ ns c. Done (ms ++ ns) c))
    first_before xs ys (Done a b) later = ap (λ o. bind o (λ more c. Done (a ∷ more) c)) (later b) ∙ some_before a ys (each f xs b)
    first_before xs ys (Fault code b) later = refl

    each_append : (xs ys : List X) (bank : List Node) → each f (xs ++ ys) bank ≡ bind (each f xs bank) (λ ms b. bind (each f ys b) (λ ns c. Done (ms ++ ns) c))
    each_append [] ys bank = none_before (each f ys bank)
    each_append (x ∷ xs) ys bank = first_before xs ys (f x bank) (each_append xs ys)

    regroup : (made : List ℕ) (ys : List X) (o : Outcome (List ℕ)) → bind (bind o (λ ms b. bind (each f ys b) (λ ns c. Done (ms ++ ns) c))) (λ ns b. Done (made ++ ns) b) ≡ bind (bind o (λ ns b. Done (made ++ ns) b)) (λ ms b. bind (each f ys b) (λ ns c. Done (ms ++ ns) c))
    regroup made ys (Fault code b) = refl
    regroup made ys (Done ms b) = by (each f ys b)
      where
        by : (o : Outcome (List ℕ)) → bind (bind o (λ ns c. Done (ms ++ ns) c)) (λ ns b. Done (made ++ ns) b) ≡ bind o (λ ns c. Done ((made ++ ms) ++ ns) c)
        by (Done ns c) = ap (λ l. Done l c) (sym (append_assoc made ms ns))
        by (Fault code c) = refl

    module _ (whole : Outcome (List ℕ)) (old : List Node) (made : List ℕ) (xs ys : List X) (bank new : List Node) (h : Collects f whole old made (xs ++ ys) bank) where
      whole_is : whole ≡ bind (bind (each f xs bank) (λ ns b. Done (made ++ ns) b)) (λ ms b. bind (each f ys b) (λ ns c. Done (ms ++ ns) c))
      whole_is = h.same ∙ ap (λ o. bind o (λ ns b. Done (made ++ ns) b)) (each_append xs ys bank) ∙ regroup made ys (each f xs bank)

      pub collects_more : (more : List ℕ) → Builds Are (bind (each f xs bank) (λ ns b. Done (made ++ ns) b)) bank (Ok more) new → Collects f whole old more ys new
      collects_more more g = record {
        same = whole_is ∙ ap (λ o. bind o (λ ms b. bind (each f ys b) (λ ns c. Done (ms ++ ns) c))) (g []).exact;
        made_are = (g []).stands;
        grown = λ known. grown_twice known old bank new (h.grown known) (g known).grown;
      }

      pub collects_more_stops : (e : ElabError) → Builds Are (bind (each f xs bank) (λ ns b. Done (made ++ ns) b)) bank (Err e) new → Builds Are whole old (Err e) new
      collects_more_stops e g known =
          let stop : Gives known Are (bind (bind (each f xs bank) (λ ns b. Done (made ++ ns) b)) (λ ms b. bind (each f ys b) (λ ns c. Done (ms ++ ns) c))) bank (Err e) new = stops known Are Are (bind (each f xs bank) (λ ns b. Done (made ++ ns) b)) (λ ms b. bind (each f ys b) (λ ns c. Done (ms ++ ns) c)) e bank new (g known) in
          record { exact = subst (λ o. Answers o (Err e) new) (sym whole_is) stop.exact; stands = tt; grown = grown_twice known old bank new (h.grown known) (g known).grown }

  -- ---- a fold from the left
  pub record Folds (two : ℕ → ℕ → List Node → Outcome ℕ) (whole : Outcome ℕ) (old : List Node) (made : ℕ) (left : List ℕ) (bank : List Node) : Type 0 where
    pub same : whole ≡ spec.from_left two made left bank
    pub made_is : Is bank made
    pub left_are : Are bank left
    pub grown : (known : List Sort) → Grown known old bank

  module _ (two : ℕ → ℕ → List Node → Outcome ℕ) (whole : Outcome ℕ) (old : List Node) (made x : ℕ) (left : List ℕ) (bank new : List Node) (h : Folds two whole old made (x ∷ left) bank) where
    pub folds_on : (n : ℕ) → Builds Is (two made x bank) bank (Ok n) new → Folds two whole old n left new
    folds_on n g = record {
      same = h.same ∙ ap (λ o. bind o (λ m b. spec.from_left two m left b)) (g []).exact;
      made_is = (g []).stands;
      left_are = still_all Is lasts [] bank new left (g []).grown h.left_are.1;
      grown = λ known. grown_twice known old bank new (h.grown known) (g known).grown;
    }

    pub folds_stop : (e : ElabError) → Builds Is (two made x bank) bank (Err e) new → Builds Is whole old (Err e) new
    folds_stop e g known =
        let stop : Gives known Is (spec.from_left two made (x ∷ left) bank) bank (Err e) new = stops known Is Is (two made x bank) (λ n b. spec.from_left two n left b) e bank new (g known) in
        record { exact = subst (λ o. Answers o (Err e) new) (sym h.same) stop.exact; stands = tt; grown = grown_twice known old bank new (h.grown known) (g known).grown }

  pub folds_all : (two : ℕ → ℕ → List Node → Outcome ℕ) (whole : Outcome ℕ) (old : List Node) (made : ℕ) (bank : List Node) → Folds two whole old made [] bank → Builds Is whole old (Ok made) bank
  folds_all two whole old made bank h known = record { exact = h.same; stands = h.made_is; grown = h.grown known }

  -- ---- a fold from the right, in two loops
  pub record Nests (two : ℕ → ℕ → List Node → Outcome ℕ) (ns : List ℕ) (last : ℕ) (old : List Node) (made left : ℕ) (bank : List Node) : Type 0 where
    pub same : spec.nested two (drop left ns) last old ≡ Done made bank
    pub made_is : Is bank made
    pub all_are : Are bank ns
    pub grown : (known : List Sort) → Grown known old bank

  nested_fault : (two : ℕ → ℕ → List Node → Outcome ℕ) (ns : List ℕ) (i : ℕ) (last : ℕ) (old new : List Node) (e : ElabError) → Answers (spec.nested two (drop i ns) last old) (Err e) new → Answers (spec.nested two ns last old) (Err e) new
  nested_fault two ns zero last old new e h = h
  nested_fault two [] (suc i) last old new e h = h
  nested_fault two (n ∷ ns) (suc i) last old new (errors.Fault code) h = ap (λ o. bind o (λ g b. two n g b)) (nested_fault two ns i last old new (errors.Fault code) h)
  nested_fault two (n ∷ ns) (suc i) last old new errors.Memory h = tt

  pub last_is : (bank : List Node) (fs : List ℕ) (i : ℕ) → i < length fs → Are bank fs → Is bank (get_or fs i 0)
  last_is bank [] i lt h = absurd (omega (lt, arith))
  last_is bank (f ∷ fs) zero lt h = h.0
  last_is bank (f ∷ fs) (suc i) lt h = last_is bank fs i (omega (lt, arith)) h.1

  module _ (two : ℕ → ℕ → List Node → Outcome ℕ) (ns : List ℕ) (last : ℕ) (old : List Node) (made i : ℕ) (bank new : List Node) (lt : i < length ns) (h : Nests two ns last old made (i + 1) bank) where
    pub nests_item : Is bank (get_or ns i 0)
    nests_item = last_is bank ns i lt h.all_are

    one_in : spec.nested two (drop i ns) last old ≡ two (get_or ns i 0) made bank
    one_in = ap (λ l. spec.nested two l last old) (drop_more ns i 0 lt) ∙ ap (λ o. bind o (λ g b. two (get_or ns i 0) g b)) h.same

    pub nests_on : (n : ℕ) → Builds Is (two (get_or ns i 0) made bank) bank (Ok n) new → Nests two ns last old n i new
    nests_on n g = record {
      same = one_in ∙ (g []).exact;
      made_is = (g []).stands;
      all_are = still_all Is lasts [] bank new ns (g []).grown h.all_are;
      grown = λ known. grown_twice known old bank new (h.grown known) (g known).grown;
    }

    pub nests_stop : (e : ElabError) → Builds Is (two (get_or ns i 0) made bank) bank (Err e) new → Builds Is (spec.nested two ns last old) old (Err e) new
    nests_stop e g known = record {
      exact = nested_fault two ns i last old new e (subst (λ o. Answers o (Err e) new) (sym one_in) (g known).exact);
      stands = tt;
      grown = grown_twice known old bank new (h.grown known) (g known).grown;
    }

  pub nests_all : (two : ℕ → ℕ → List Node → Outcome ℕ) (ns : List ℕ) (last : ℕ) (old : List Node) (made : ℕ) (bank : List Node) → Nests two ns last old made 0 bank → Builds Is (spec.nested two ns last old) old (Ok made) bank
  nests_all two ns last old made bank h known = record { exact = h.same; stands = h.made_is; grown = h.grown known }

  pub nests_none : (two : ℕ → ℕ → List Node → Outcome ℕ) (ns : List ℕ) (last : ℕ) (bank : List Node) → Are bank ns → Is bank last → Nests two ns last bank last (length ns) bank
  nests_none two ns last bank h is = record { same = ap (λ l. spec.nested two l last bank) (none_left ns (length ns) (omega arith)); made_is = is; all_are = h; grown = λ known. same_grown known bank }

-- the ones first, and then the twos from the last
module _ (one : ℕ → List Node → Outcome ℕ) (two : ℕ → ℕ → List Node → Outcome ℕ) where
  one_front : (f : ℕ) (fs : List ℕ) (last : ℕ) (bank : List Node) → spec.from_right one two (f ∷ (fs ++ last ∷ [])) bank ≡ bind (one f bank) (λ n b. bind (spec.from_right one two (fs ++ last ∷ []) b) (λ h c. two n h c))
  one_front f [] last bank = refl
  one_front f (g ∷ gs) last bank = refl

  ones_before : (n last : ℕ) (o : Outcome (List ℕ)) → bind (bind o (λ ns c. spec.nested two ns last c)) (λ h c. two n h c) ≡ bind (bind o (λ more c. Done (n ∷ more) c)) (λ ns b. spec.nested two ns last b)
  ones_before n last (Done ns c) = refl
  ones_before n last (Fault code c) = refl

  one_before_all : (fs : List ℕ) (last : ℕ) (o : Outcome ℕ) → ((b : List Node) → spec.from_right one two (fs ++ last ∷ []) b ≡ bind (each one fs b) (λ ns b. spec.nested two ns last b)) → bind o (λ n b. bind (spec.from_right one two (fs ++ last ∷ []) b) (λ h c. two n h c)) ≡ bind (bind o (λ a b. bind (each one fs b) (λ more c. Done (a ∷ more) c))) (λ ns b. spec.nested two ns last b)
  one_before_all fs last (Done n b) later = ap (λ o. bind o (λ h c. two n h c)) (later b) ∙ ones_before n last (each one fs b)
  one_before_all fs last (Fault code b) later = refl

  pub from_right_is : (front : List ℕ) (last : ℕ) (bank : List Node) → spec.from_right one two (front ++ last ∷ []) bank ≡ bind (each one front bank) (λ ns b. spec.nested two ns last b)
  from_right_is [] last bank = refl
  from_right_is (f ∷ fs) last bank = one_front f fs last bank ∙ one_before_all fs last (one f bank) (from_right_is fs last)

pub split_last : {X : Type 0} (xs : List X) (k : ℕ) (d : X) → length xs ≡ k + 1 → take k xs ++ get_or xs k d ∷ [] ≡ xs
split_last [] k d e = absurd (omega (e, arith))
split_last (x ∷ []) zero d e = refl
split_last (x ∷ y ∷ xs) zero d e = absurd (omega (e, arith))
split_last (x ∷ xs) (suc k) d e = ap (λ l. x ∷ l) (split_last xs k d (omega (e, arith)))

pub front_are : (P : ℕ → Type 0) (ns : List ℕ) (k : ℕ) → AllByRecursion P ns → AllByRecursion P (take k ns)
front_are P [] zero h = tt
front_are P [] (suc k) h = tt
front_are P (n ∷ ns) zero h = tt
front_are P (n ∷ ns) (suc k) h = (h.0, front_are P ns k h.1)

-- ---- conjunctions
pub conjunction_one : (fs : List ℕ) (bank : List Node) → length fs ≡ 1 → spec.conjunction fs bank ≡ Done (get_or fs 0 0) bank
conjunction_one [] bank e = absurd (omega (e, arith))
conjunction_one (f ∷ []) bank e = refl
conjunction_one (f ∷ g ∷ fs) bank e = absurd (omega (e, arith))

pub conjunction_many : (fs : List ℕ) (bank : List Node) → (length fs ≡ 1 → ⊥) → spec.conjunction fs bank ≡ spec.conjoined fs bank
conjunction_many [] bank e = refl
conjunction_many (f ∷ []) bank e = absurd (e refl)
conjunction_many (f ∷ g ∷ fs) bank e = refl
