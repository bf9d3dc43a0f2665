-- What is due at memberships and equations, and what holds where nothing is.
use Rattle.std.proofs.Common.{◌≡◌, ◌≢◌, ℕ, zero, suc, ◌+◌, ◌<◌, ◌≤◌, Bool, true, false, not, ◌&&◌, ◌||◌, List, [], ◌∷◌, length, take, get_or, Option, Some, None, ◌⊎◌, inl, inr, refl, sym, ap, subst, ◌∙◌, arith}
use Rattle.std.specs.Prelude.{⊤, fold, slice_get, is_some, is_none, nat_eq, nat_lt, nat_le, if◌then◌else◌, MatchOption}
use Rattle.std.specs.List.{list_any, list_all, AllByRecursion}
use Rattle.std.specs.Cmp.{unsigned_Decides}
use Rattle.std.proofs.lemmas.Bool.{false≢true}
use Rattle.sc_base.specs.Options.{◌>>=◌}
use Rattle.sc_base.specs.Numbered.{item_at}
use Rattle.std.proofs.Math.Seq.{take-suc}
use Rattle.sc_base.proofs.Bools.{and_true, or_true, or_false, or_right}
use Rattle.sc_base.proofs.Integers.{all-append}
use Rattle.sc_terms.specs.declared.nodes.Element.{Element}
use Rattle.sc_terms.specs.declared.nodes.SetTerm.{SetTerm}
use Rattle.sc_terms.specs.declared.nodes.Sort.{Sort}
use Rattle.sc_terms.specs.declared.problem.Parts.{Parts}
use Rattle.sc_terms.specs.Lookup.{formula_at, set_at, element_at}
use Rattle.sc_terms.specs.Values.{node_count}
use Rattle.sc_terms.specs.Conditions.{IsIn}
use Rattle.sc_terms.proofs.Ranges.{item_in}
use Rattle.sc_facts.specs.declared.fact.Fact.{Fact}
use Rattle.sc_facts.specs.declared.fact.Fact.TheVariants as facts
use Rattle.sc_facts.specs.declared.name.FactName.TheVariants as names
use Rattle.sc_facts.specs.Facts.{has}
use Rattle.sc_sorts.specs.Sorts.{sorts_within, members_sort_of, members_sort, are_same, may_hold}
use Rattle.sc_rules.specs.declared.step.PlainStep.{PlainStep}
use Rattle.sc_rules.specs.declared.step.PlainStep.TheVariants.{Op, Unsingle, Carry, Move, EqRefl, EqStep, SeqRefl, Differ, Cut}
use Rattle.sc_rules.specs.Pairs.{first_sign, ordered, equal_fact, equal, same_set, same_set_fact}
use Rattle.sc_rules.specs.Members.{within, within_of, op_sign, argument, op_of, single_of, from_single, move_of, chained}
use Rattle.sc_rules.specs.Steps.{one, branches}
use Rattle.sc_classes.specs.Classes.{lesser, greater, united, least_of}
use Rattle.sc_tree.specs.Events.{HasNoClash}
use Rattle.sc_model.specs.Settled.{Stands, TellsApart, AreToldApart, MovesStand}
use Rattle.sc_model.specs.Deciding.{no_row, sole, is_lacking, Concludes, Divides, IsDue, is_linked, PassesOn, AllPassOn, IsLabelled, FollowsAt, tells}
use Rattle.sc_model.proofs.Paths.{within_is, one_label}
use Rattle.sc_model.proofs.Signed.{ordered_back}
use Rattle.sc_model.proofs.Held.{element_in_range}

-- ---- numbers up to a place
pub all_next : (P : ℕ → Type 0) (p : ℕ) → ((n : ℕ) → 0 < n → n ≤ p → P n) → P (p + 1) → (n : ℕ) → 0 < n → n ≤ p + 1 → P n
all_next P p before next n first low = by (split n p low)
  where
    split : (m q : ℕ) → m ≤ q + 1 → (m ≤ q) ⊎ (m ≡ q + 1)
    split m q h = grind arith

    by : (n ≤ p) ⊎ (n ≡ p + 1) → P n
    by (inl h) = before n first h
    by (inr e) = subst P (sym e) next

some_first : (a b : Option Sort) → are_same a b ≡ true → is_some a ≡ true
some_first None b e = absurd (false≢true e)
some_first (Some a) b e = refl

set_there : (problem : Parts) (depth s : ℕ) → is_some ((sorts_within problem depth).members s) ≡ true → IsIn (length problem.sets) s
set_there problem zero s h = absurd (false≢true h)
set_there problem (suc depth) s h = by (set_at problem s) refl h
  where
    by : (o : Option SetTerm) → set_at problem s ≡ o → is_some (o >>= members_sort_of (sorts_within problem depth)) ≡ true → IsIn (length problem.sets) s
    by None at g = absurd (false≢true g)
    by (Some y) at g = item_in problem.sets s y at

pub set_in_range : (problem : Parts) (s e : ℕ) → may_hold problem s e ≡ true → IsIn (length problem.sets) s
set_in_range problem s e h = set_there problem (node_count problem) s (some_first (members_sort problem s) _ h)

-- ---- what is found
pub kept_some : {X : Type 0} (A B : Type 0) (P : X → Type 0) (o : Option X) → is_some o ≡ true → MatchOption o A P → MatchOption o B P
kept_some A B P None e h = absurd (false≢true e)
kept_some A B P (Some x) e h = h

pub kept_none : {X A : Type 0} (P : X → Type 0) (o : Option X) → is_some o ≡ false → MatchOption o A P → A
kept_none P None e h = h
kept_none P (Some x) e h = absurd (false≢true (sym e))

pub pairs_next : {X : Type 0} (P : X → Type 0) (xs : List X) (i : ℕ) (x : X) → i < length xs → AllByRecursion P (take i xs) → P (get_or xs i x) → AllByRecursion P (take (i + 1) xs)
pairs_next P xs i x h before next =
    let index : suc i ≡ i + 1 = omega arith in
    subst (λ k. AllByRecursion P (take k xs)) index (subst (AllByRecursion P) (sym (take-suc xs i x h)) (all-append P (take i xs) (get_or xs i x ∷ []) before (next, tt)))

pub none_by : {X : Type 0} (o : Option X) → is_some o ≡ false → is_none o ≡ true
none_by None e = refl
none_by (Some x) e = absurd (false≢true (sym e))

-- ---- steps
not_true : (b : Bool) → not b ≡ true → b ≡ false
not_true false h = refl
not_true true h = absurd (false≢true h)

not_false : (b : Bool) → not b ≡ false → b ≡ true
not_false true h = refl
not_false false h = absurd (false≢true (sym h))

pub lacking_concludes : (problem : Parts) (path : List Fact) (step : PlainStep) → is_lacking path (sole (branches problem path step)) ≡ true → Concludes problem path step
lacking_concludes problem path step h = by (sole (branches problem path step)) refl h
  where
    by : (o : Option Fact) → sole (branches problem path step) ≡ o → is_lacking path o ≡ true → Concludes problem path step
    by None e g = absurd (false≢true g)
    by (Some fact) e g = (fact, e, not_true (has path fact) g)

pub copy_concludes : (problem : Parts) (path : List Fact) (step copy : PlainStep) → copy ≡ step → is_lacking path (sole (branches problem path step)) ≡ true → Concludes problem path copy
copy_concludes problem path step copy same h = subst (Concludes problem path) (sym same) (lacking_concludes problem path step h)

-- what is there is no row
abbrev IsPlain : Option Fact → Type 0
IsPlain None = ⊤
IsPlain (Some fact) = no_row fact ≡ Some fact

plain-bind : {A : Type 0} (o : Option A) (f : A → Option Fact) → ((x : A) → IsPlain (f x)) → IsPlain (o >>= f)
plain-bind None f h = tt
plain-bind (Some x) f h = h x

stands_by : (path : List Fact) (o : Option Fact) → IsPlain o → is_lacking path (sole (one o)) ≡ false → Stands path o
stands_by path None p h = tt
stands_by path (Some fact) p h = not_false (has path fact) (ap (is_lacking path) (sym p) ∙ h)

pub op_stands_by : (problem : Parts) (path : List Fact) (e n : ℕ) → is_lacking path (sole (branches problem path (Op e n 0))) ≡ false → Stands path (op_of problem path e n 0)
op_stands_by problem path e n h = stands_by path (op_of problem path e n 0) plain h
  where
    plain : IsPlain (op_of problem path e n 0)
    plain = plain-bind (set_at problem n) (λ node. argument n node 0 >>= λ s. op_sign problem path e n node 0 >>= λ b. Some (facts.Member e s b)) (λ node. plain-bind (argument n node 0) (λ s. op_sign problem path e n node 0 >>= λ b. Some (facts.Member e s b)) (λ s. plain-bind (op_sign problem path e n node 0) (λ b. Some (facts.Member e s b)) (λ b. refl)))

pub single_stands_by : (problem : Parts) (path : List Fact) (e s : ℕ) → is_lacking path (sole (branches problem path (Unsingle e s))) ≡ false → Stands path (from_single problem path e s)
single_stands_by problem path e s h = stands_by path (from_single problem path e s) plain h
  where
    plain : IsPlain (from_single problem path e s)
    plain = plain-bind (single_of (set_at problem s)) (λ f. within_of path e s >>= λ b. Some (equal_fact e f b)) (λ f. plain-bind (within_of path e s) (λ b. Some (equal_fact e f b)) (λ b. refl))

pub move_stands_by : (problem : Parts) (path : List Fact) (e s t : ℕ) → is_lacking path (sole (branches problem path (Move e s t))) ≡ false → Stands path (move_of path e s t)
move_stands_by problem path e s t h = stands_by path (move_of path e s t) (plain (same_set path s t true)) h
  where
    plain : (c : Bool) → IsPlain (if c then (within_of path e s >>= λ b. Some (facts.Member e t b)) else None)
    plain true = plain-bind (within_of path e s) (λ b. Some (facts.Member e t b)) (λ b. refl)
    plain false = tt

-- ---- links
chained_true : (f g : Bool → Bool) → f true ≡ true → g true ≡ true → chained f g ≡ Some true
chained_true f g p q = rw (p, q) refl

pub equal_turned : (path : List Fact) (e f : ℕ) (b : Bool) → equal path e f b ≡ true → equal path f e b ≡ true
equal_turned path e f b h = ap (λ (o : ℕ × ℕ). has path (facts.Eq o.0 o.1 b)) (ordered_back e f) ∙ h

pub link_new : (problem : Parts) (path : List Fact) (e m n : ℕ) → is_linked path e m ≡ true → is_linked path e n ≡ false → equal path m n true ≡ true → Concludes problem path (EqStep e m n)
link_new problem path e m n has_m has_n pair = by (or_true (nat_eq e m) (equal path e m true) has_m)
  where
    absent : equal path e n true ≡ false
    absent = (or_false (nat_eq e n) (equal path e n true) has_n).1

    by : (nat_eq e m ≡ true) ⊎ (equal path e m true ≡ true) → Concludes problem path (EqStep e m n)
    by (inl same) = absurd (false≢true (sym absent ∙ subst (λ k. equal path k n true ≡ true) (sym ((unsigned_Decides e m).0 same)) pair))
    by (inr there) = (equal_fact e n true, ap (λ o. sole (one (o >>= λ b. Some (equal_fact e n b)))) (chained_true (equal path e m) (equal path m n) there pair), absent)

module _ (path : List Fact) (e : ℕ) where
  united_linked : (least : ℕ → ℕ) (p : ℕ × ℕ) → PassesOn path e p → ((x : ℕ) → is_linked path e x ≡ is_linked path e (least x)) → (x : ℕ) → is_linked path e x ≡ is_linked path e (united least p x)
  united_linked least p passes h x = by (nat_lt (least p.0) (least p.1)) (nat_eq (least x) (greater (least p.0) (least p.1))) refl refl
    where
      both : is_linked path e (least p.0) ≡ is_linked path e (least p.1)
      both = sym (h p.0) ∙ (passes ∙ h p.1)

      by : (c d : Bool) → nat_lt (least p.0) (least p.1) ≡ c → nat_eq (least x) (greater (least p.0) (least p.1)) ≡ d → is_linked path e x ≡ is_linked path e (united least p x)
      by c false lt eq = h x ∙ sym (ap (λ t. is_linked path e (if t then lesser (least p.0) (least p.1) else least x)) eq)
      by true true lt eq =
          let is : least x ≡ least p.1 = (unsigned_Decides (least x) _).0 eq ∙ ap (λ t. if t then least p.1 else least p.0) lt in
          let new : united least p x ≡ least p.0 = ap (λ t. if t then lesser (least p.0) (least p.1) else least x) eq ∙ ap (λ t. if t then least p.0 else least p.1) lt in
          h x ∙ (ap (is_linked path e) is ∙ (sym both ∙ ap (is_linked path e) (sym new)))
      by false true lt eq =
          let is : least x ≡ least p.0 = (unsigned_Decides (least x) _).0 eq ∙ ap (λ t. if t then least p.1 else least p.0) lt in
          let new : united least p x ≡ least p.1 = ap (λ t. if t then lesser (least p.0) (least p.1) else least x) eq ∙ ap (λ t. if t then least p.0 else least p.1) lt in
          h x ∙ (ap (is_linked path e) is ∙ (both ∙ ap (is_linked path e) (sym new)))

  fold_linked : (pairs : List (ℕ × ℕ)) (least : ℕ → ℕ) → AllPassOn path e pairs → ((x : ℕ) → is_linked path e x ≡ is_linked path e (least x)) → (x : ℕ) → is_linked path e x ≡ is_linked path e (fold united least pairs x)
  fold_linked [] least all h x = h x
  fold_linked (p ∷ pairs) least all h x = fold_linked pairs (united least p) all.1 (united_linked least p all.0 h) x

  self_linked : is_linked path e e ≡ true
  self_linked = ap (λ b. b || equal path e e true) ((unsigned_Decides e e).1 refl)

  -- where all pairs pass on what is linked, the least of the class is linked
  pub least_linked : (pairs : List (ℕ × ℕ)) → AllPassOn path e pairs → is_linked path e (least_of pairs e) ≡ true
  least_linked pairs all = sym (fold_linked pairs (λ n. n) all (λ x. refl) e) ∙ self_linked

  pub class_linked : (pairs : List (ℕ × ℕ)) → AllPassOn path e pairs → (f : ℕ) → least_of pairs e ≡ least_of pairs f → is_linked path e f ≡ true
  class_linked pairs all f same = fold_linked pairs (λ n. n) all (λ x. refl) f ∙ (ap (is_linked path e) (sym same) ∙ least_linked pairs all)

-- ---- labels
pub carry_new : (problem : Parts) (path : List Fact) (e l s : ℕ) (b : Bool) → HasNoClash path → is_linked path e l ≡ true → within_of path e s ≡ Some b → within_of path l s ≢ Some b → Concludes problem path (Carry e l s)
carry_new problem path e l s b consistent linked is other = by (or_true (nat_eq e l) (equal path e l true) linked)
  where
    absent : (c : Bool) → within path l s b ≡ c → c ≡ false
    absent false h = refl
    absent true h = absurd (other (within_is path consistent l s b h))

    by : (nat_eq e l ≡ true) ⊎ (equal path e l true ≡ true) → Concludes problem path (Carry e l s)
    by (inl same) = absurd (other (subst (λ k. within_of path k s ≡ Some b) ((unsigned_Decides e l).0 same) is))
    by (inr there) = (facts.Member l s b, ap (λ c. sole (one (if c then (within_of path e s >>= λ d. Some (facts.Member l s d)) else None))) there ∙ ap (λ o. sole (one (o >>= λ d. Some (facts.Member l s d)))) is, absent (within path l s b) refl)
