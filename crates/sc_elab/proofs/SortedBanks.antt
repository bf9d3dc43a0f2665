-- Banks that are well sorted, and how they stay so as nodes are put.
use Rattle.std.proofs.Common.{◌≡◌, ℕ, zero, suc, ◌+◌, ◌≤◌, ◌<◌, Bool, true, false, ◌&&◌, List, [], ◌∷◌, ◌++◌, length, Some, slice_get, refl, sym, ap, ◌∙◌, subst, arith}
use Rattle.std.specs.Prelude.{⊤, if◌then◌else◌}
use Rattle.std.proofs.lemmas.Bool.{false≢true}
use Rattle.std.specs.List.{AllByRecursion}
use Rattle.sc_base.specs.Numbered.{item_at}
use Rattle.sc_text.specs.declared.code.Code.TheVariants as code
use Rattle.sc_sexpr.specs.Shapes.{Single, Empty}
use Rattle.sc_terms.specs.declared.nodes.Node.{Node}
use Rattle.sc_terms.specs.declared.nodes.Node.TheVariants as nodes
use Rattle.sc_terms.specs.declared.nodes.Formula.{Formula}
use Rattle.sc_terms.specs.declared.nodes.Formula.TheVariants as formulas
use Rattle.sc_terms.specs.declared.nodes.SetTerm.{SetTerm}
use Rattle.sc_terms.specs.declared.nodes.SetTerm.TheVariants as sets
use Rattle.sc_terms.specs.declared.nodes.Element.{Element}
use Rattle.sc_terms.specs.declared.nodes.Element.TheVariants as elements
use Rattle.sc_terms.specs.declared.nodes.Sort.{Sort}
use Rattle.sc_terms.specs.declared.nodes.Sort.TheVariants as sorts
use Rattle.sc_terms.specs.Bank.{has_node, takes, number_of, with_node, limit}
use Rattle.sc_terms.specs.Same.{same_sort-Decides}
use Rattle.sc_sorts.specs.Sorts.{held_by}
use Rattle.sc_sorts.specs.Sorted.{Sorting, FormulaIsSorted, SetIsSorted, ElementIsSorted, NodeIsSorted, BankHasSorting}
use Rattle.sc_stack.specs.declared.stack.Named.{Named}
use Rattle.sc_elab.specs.States.{Outcome, Done, Fault, bind, put}
use Rattle.sc_elab.specs.Elab.{is_set_of, sort_of_sets, is_sort_of_sets, is_sort_of_elements}

-- what is known of numbers of a bank
abbrev pub NumbersStand : Type 0
NumbersStand = (bank : List Node) (x : Node) → item_at (with_node bank x) (number_of bank x) ≡ Some x

-- ---- numbers of nodes
pub within : (xs : List Node) (n : ℕ) (x : Node) → item_at xs n ≡ Some x → n ≤ length xs
within xs zero x e = cc
within [] (suc n) x e = cc
within (y ∷ ys) (suc zero) x e = omega arith
within (y ∷ ys) (suc (suc n)) x e = let p = within ys (suc n) x e in omega arith

-- a node of a bank with one more is an old one, or the new one
pub slice_last : (xs : List Node) (x y : Node) (n : ℕ) → slice_get (xs ++ x ∷ []) n ≡ Some y → (n < length xs → slice_get xs n ≡ Some y) × (length xs ≤ n → (x ≡ y) × (n ≡ length xs))
slice_last [] x y zero e = (λ lt. absurd (omega (lt, arith)), λ le. (cc, refl))
slice_last [] x y (suc n) e = (λ lt. cc, λ le. absurd cc)
slice_last (z ∷ zs) x y zero e = (λ lt. e, λ le. absurd (omega (le, arith)))
slice_last (z ∷ zs) x y (suc n) e =
    let rest = slice_last zs x y n e in
    (λ lt. rest.0 (omega (lt, arith)), λ le. let p = rest.1 (omega (le, arith)) in (p.0, ap suc p.1))

-- ---- the parts of a node
abbrev pub PartsWithin : ℕ → Node → Type 0
PartsWithin k (nodes.Formula (formulas.Eq e f)) = (e ≤ k) × (f ≤ k)
PartsWithin k (nodes.Formula (formulas.EqSet s t)) = (s ≤ k) × (t ≤ k)
PartsWithin k (nodes.Formula (formulas.Member e s)) = (e ≤ k) × (s ≤ k)
PartsWithin k (nodes.Formula f) = ⊤
PartsWithin k (nodes.Set (sets.Single e)) = e ≤ k
PartsWithin k (nodes.Set (sets.Union s t)) = (s ≤ k) × (t ≤ k)
PartsWithin k (nodes.Set (sets.Inter s t)) = (s ≤ k) × (t ≤ k)
PartsWithin k (nodes.Set (sets.Minus s t)) = (s ≤ k) × (t ≤ k)
PartsWithin k (nodes.Set (sets.Const c sort)) = ⊤
PartsWithin k (nodes.Set (sets.Empty sort)) = ⊤
PartsWithin k (nodes.Element (elements.Diff s t)) = (s ≤ k) × (t ≤ k)
PartsWithin k (nodes.Element (elements.Const c sort)) = ⊤
PartsWithin k (nodes.Element (elements.Number affine)) = ⊤

-- two sortings agree up to a number
pub record Agree (k : ℕ) (old new : Sorting) : Type 0 where
  pub members : (n : ℕ) → n ≤ k → new.members n ≡ old.members n
  pub element : (n : ℕ) → n ≤ k → new.element n ≡ old.element n

pub agree_same : (k : ℕ) (by : Sorting) → Agree k by by
agree_same k by = record { members = λ n le. refl; element = λ n le. refl }

pub agree_twice : (j k : ℕ) (a b c : Sorting) → j ≤ k → Agree j a b → Agree k b c → Agree j a c
agree_twice j k a b c le g h = record {
  members = λ n lt. h.members n (omega (le, lt, arith)) ∙ g.members n lt;
  element = λ n lt. h.element n (omega (le, lt, arith)) ∙ g.element n lt;
}

module _ (k : ℕ) (a b : Sorting) (g : Agree k a b) where
  pub formula_agrees : (f : Formula) → PartsWithin k (nodes.Formula f) → FormulaIsSorted a f → FormulaIsSorted b f
  formula_agrees (formulas.Eq e f) p h = g.element e p.0 ∙ h ∙ sym (g.element f p.1)
  formula_agrees (formulas.EqSet s t) p h = g.members s p.0 ∙ h ∙ sym (g.members t p.1)
  formula_agrees (formulas.Member e s) p h = g.element e p.0 ∙ h ∙ sym (g.members s p.1)
  formula_agrees formulas.True p h = h
  formula_agrees formulas.False p h = h
  formula_agrees (formulas.Flag c) p h = h
  formula_agrees (formulas.Not f) p h = h
  formula_agrees (formulas.And fs) p h = h
  formula_agrees (formulas.Or fs) p h = h
  formula_agrees (formulas.Iff f h1) p h = h
  formula_agrees (formulas.Le row) p h = h

  pub set_agrees : (n : ℕ) (s : SetTerm) → n ≤ k → PartsWithin k (nodes.Set s) → SetIsSorted a n s → SetIsSorted b n s
  set_agrees n (sets.Const c sort) le p h = h ∙ ap Some (sym (g.members n le))
  set_agrees n (sets.Empty sort) le p h = h ∙ ap Some (sym (g.members n le))
  set_agrees n (sets.Single e) le p h = g.element e p ∙ h ∙ sym (g.members n le)
  set_agrees n (sets.Union s t) le p h = (g.members s p.0 ∙ h.0 ∙ sym (g.members n le), g.members t p.1 ∙ h.1 ∙ sym (g.members n le))
  set_agrees n (sets.Inter s t) le p h = (g.members s p.0 ∙ h.0 ∙ sym (g.members n le), g.members t p.1 ∙ h.1 ∙ sym (g.members n le))
  set_agrees n (sets.Minus s t) le p h = (g.members s p.0 ∙ h.0 ∙ sym (g.members n le), g.members t p.1 ∙ h.1 ∙ sym (g.members n le))

  pub element_agrees : (n : ℕ) (e : Element) → n ≤ k → PartsWithin k (nodes.Element e) → ElementIsSorted a n e → ElementIsSorted b n e
  element_agrees n (elements.Const c sort) le p h = g.element n le ∙ h
  element_agrees n (elements.Number affine) le p h = g.element n le ∙ h
  element_agrees n (elements.Diff s t) le p h = (g.members s p.0 ∙ h.0 ∙ sym (g.element n le), g.members t p.1 ∙ h.1 ∙ sym (g.element n le))

  pub node_agrees : (n : ℕ) (x : Node) → n ≤ k → PartsWithin k x → NodeIsSorted a n x → NodeIsSorted b n x
  node_agrees n (nodes.Formula f) le p h = formula_agrees f p h
  node_agrees n (nodes.Set s) le p h = set_agrees n s le p h
  node_agrees n (nodes.Element e) le p h = element_agrees n e le p h

pub more_within : (j k : ℕ) (x : Node) → j ≤ k → PartsWithin j x → PartsWithin k x
more_within j k (nodes.Formula (formulas.Eq e f)) le p = (omega (le, p.0, arith), omega (le, p.1, arith))
more_within j k (nodes.Formula (formulas.EqSet s t)) le p = (omega (le, p.0, arith), omega (le, p.1, arith))
more_within j k (nodes.Formula (formulas.Member e s)) le p = (omega (le, p.0, arith), omega (le, p.1, arith))
more_within j k (nodes.Formula formulas.True) le p = p
more_within j k (nodes.Formula formulas.False) le p = p
more_within j k (nodes.Formula (formulas.Flag c)) le p = p
more_within j k (nodes.Formula (formulas.Not f)) le p = p
more_within j k (nodes.Formula (formulas.And fs)) le p = p
more_within j k (nodes.Formula (formulas.Or fs)) le p = p
more_within j k (nodes.Formula (formulas.Iff f g)) le p = p
more_within j k (nodes.Formula (formulas.Le row)) le p = p
more_within j k (nodes.Set (sets.Single e)) le p = omega (le, p, arith)
more_within j k (nodes.Set (sets.Union s t)) le p = (omega (le, p.0, arith), omega (le, p.1, arith))
more_within j k (nodes.Set (sets.Inter s t)) le p = (omega (le, p.0, arith), omega (le, p.1, arith))
more_within j k (nodes.Set (sets.Minus s t)) le p = (omega (le, p.0, arith), omega (le, p.1, arith))
more_within j k (nodes.Set (sets.Const c sort)) le p = p
more_within j k (nodes.Set (sets.Empty sort)) le p = p
more_within j k (nodes.Element (elements.Diff s t)) le p = (omega (le, p.0, arith), omega (le, p.1, arith))
more_within j k (nodes.Element (elements.Const c sort)) le p = p
more_within j k (nodes.Element (elements.Number affine)) le p = p

-- ---- banks
pub record Sorts (bank : List Node) (by : Sorting) : Type 0 where
  pub sorted : BankHasSorting bank by
  pub parts : (n : ℕ) (x : Node) → item_at bank n ≡ Some x → PartsWithin (length bank) x

-- the bank and its sorting have grown
pub record Later (old : List Node) (by : Sorting) (new : List Node) (after : Sorting) : Type 0 where
  pub sorts : Sorts new after
  pub longer : length old ≤ length new
  pub agree : Agree (length old) by after

pub later_same : (bank : List Node) (by : Sorting) → Sorts bank by → Later bank by bank by
later_same bank by h = record { sorts = h; longer = omega arith; agree = agree_same (length bank) by }

pub later_twice : (a b c : List Node) (x y z : Sorting) → Later a x b y → Later b y c z → Later a x c z
later_twice a b c x y z g h = record { sorts = h.sorts; longer = omega (g.longer, h.longer, arith); agree = agree_twice (length a) (length b) x y z g.longer g.agree h.agree }

-- whatever the outcome, the bank behind is sorted; where it is done, what is made has its sort
abbrev pub After : {A : Type 0} → List Node → Sorting → (A → List Node → Sorting → Type 0) → Outcome A → Type 0
After old by P (Done a new) = (after : Sorting) × (Later old by new after × P a new after)
After old by P (Fault fault new) = (after : Sorting) × Later old by new after

pub further : {B : Type 0} (a b : List Node) (x y : Sorting) (Q : B → List Node → Sorting → Type 0) (o : Outcome B) → Later a x b y → After b y Q o → After a x Q o
further a b x y Q (Done m c) g h = (h.0, (later_twice a b c x y h.0 g h.1.0, h.1.1))
further a b x y Q (Fault fault c) g h = (h.0, later_twice a b c x y h.0 g h.1)

pub after_bind : {A B : Type 0} (old : List Node) (by : Sorting) (P : A → List Node → Sorting → Type 0) (Q : B → List Node → Sorting → Type 0) (o : Outcome A) (k : A → List Node → Outcome B) → After old by P o → ((a : A) (bank : List Node) (after : Sorting) → Later old by bank after → P a bank after → After bank after Q (k a bank)) → After old by Q (bind o k)
after_bind old by P Q (Done a bank) k h next = further old bank by h.0 Q (k a bank) h.1.0 (next a bank h.0 h.1.0 h.1.1)
after_bind old by P Q (Fault fault bank) k h next = h

-- the number names a node of the sort
abbrev pub IsAt : Sort → ℕ → List Node → Sorting → Type 0
IsAt sorts.Bool n bank by = ⊤
IsAt sorts.Int n bank by = (n ≤ length bank) × (by.element n ≡ sorts.Int)
IsAt (sorts.Named k) n bank by = (n ≤ length bank) × (by.element n ≡ sorts.Named k)
IsAt sorts.SetInt n bank by = (n ≤ length bank) × (by.members n ≡ sorts.Int)
IsAt (sorts.SetNamed k) n bank by = (n ≤ length bank) × (by.members n ≡ sorts.Named k)

pub at_later : (sort : Sort) (n : ℕ) (a b : List Node) (x y : Sorting) → Later a x b y → IsAt sort n a x → IsAt sort n b y
at_later sorts.Bool n a b x y l h = tt
at_later sorts.Int n a b x y l h = (omega (l.longer, h.0, arith), l.agree.element n h.0 ∙ h.1)
at_later (sorts.Named k) n a b x y l h = (omega (l.longer, h.0, arith), l.agree.element n h.0 ∙ h.1)
at_later sorts.SetInt n a b x y l h = (omega (l.longer, h.0, arith), l.agree.members n h.0 ∙ h.1)
at_later (sorts.SetNamed k) n a b x y l h = (omega (l.longer, h.0, arith), l.agree.members n h.0 ∙ h.1)

abbrev pub AllAt : Sort → List ℕ → List Node → Sorting → Type 0
AllAt sort ns bank by = AllByRecursion (λ n. IsAt sort n bank by) ns

pub all_later : (sort : Sort) (ns : List ℕ) (a b : List Node) (x y : Sorting) → Later a x b y → AllAt sort ns a x → AllAt sort ns b y
all_later sort [] a b x y l h = tt
all_later sort (n ∷ ns) a b x y l h = (at_later sort n a b x y l h.0, all_later sort ns a b x y l h.1)

-- ---- a node that is put
abbrev pub same_number : ℕ → ℕ → Bool
same_number zero zero = true
same_number zero (suc k) = false
same_number (suc n) zero = false
same_number (suc n) (suc k) = same_number n k

pub other_number : (k n : ℕ) → n ≤ k → same_number n (suc k) ≡ false
other_number k zero le = refl
other_number zero (suc n) le = absurd (omega (le, arith))
other_number (suc k) (suc n) le = other_number k n (omega (le, arith))

pub own_number : (k : ℕ) → same_number k k ≡ true
own_number zero = refl
own_number (suc k) = own_number k

abbrev pub lower : ℕ → ℕ → Bool
lower n zero = false
lower zero (suc k) = true
lower (suc n) (suc k) = lower n k

pub lower_is : (n k : ℕ) → lower n k ≡ true → n < k
lower_is n zero e = absurd (false≢true e)
lower_is zero (suc k) e = omega arith
lower_is (suc n) (suc k) e = let p = lower_is n k e in omega (p, arith)

pub upper_is : (n k : ℕ) → lower n k ≡ false → k ≤ n
upper_is n zero e = omega arith
upper_is zero (suc k) e = absurd (false≢true (sym e))
upper_is (suc n) (suc k) e = let p = upper_is n k e in omega (p, arith)

-- the sorting that gives one number a sort
abbrev pub gives : ℕ → Sort → Sorting → Sorting
gives k sort by = record { members = λ n. if same_number n k then sort else by.members n; element = λ n. if same_number n k then sort else by.element n }

pub gives_agrees : (k : ℕ) (sort : Sort) (by : Sorting) → Agree k by (gives (suc k) sort by)
gives_agrees k sort by = record {
  members = λ n le. ap (λ b. if b then sort else by.members n) (other_number k n le);
  element = λ n le. ap (λ b. if b then sort else by.element n) (other_number k n le);
}

module _ (numbered : NumbersStand) (x : Node) (sort : Sort) (bank : List Node) (by : Sorting) (h : Sorts bank by) (parts : PartsWithin (length bank) x) where
  -- the node is sorted where its own number has the sort
  abbrev pub IsFit : Type 0
  IsFit = (after : Sorting) (n : ℕ) → Agree (length bank) by after → after.members n ≡ sort → after.element n ≡ sort → NodeIsSorted after n x

  pub new_sorts : IsFit → Sorts (bank ++ x ∷ []) (gives (suc (length bank)) sort by)
  new_sorts fit = record { sorted = sorted_at; parts = parts_at }
    where
      long : length (bank ++ x ∷ []) ≡ suc (length bank)
      long = length_more bank
        where
          length_more : (xs : List Node) → length (xs ++ x ∷ []) ≡ suc (length xs)
          length_more [] = refl
          length_more (z ∷ zs) = ap suc (length_more zs)

      agree : Agree (length bank) by (gives (suc (length bank)) sort by)
      agree = gives_agrees (length bank) sort by

      own : NodeIsSorted (gives (suc (length bank)) sort by) (suc (length bank)) x
      own = fit (gives (suc (length bank)) sort by) (suc (length bank)) agree (ap (λ b. if b then sort else by.members (suc (length bank))) (own_number (suc (length bank)))) (ap (λ b. if b then sort else by.element (suc (length bank))) (own_number (suc (length bank))))

      sorted_at : BankHasSorting (bank ++ x ∷ []) (gives (suc (length bank)) sort by)
      sorted_at zero y e = absurd cc
      sorted_at (suc n) y e = at (lower n (length bank)) refl
        where
          at : (b : Bool) → lower n (length bank) ≡ b → NodeIsSorted (gives (suc (length bank)) sort by) (suc n) y
          at true c =
              let lt : n < length bank = lower_is n (length bank) c in
              let old : item_at bank (suc n) ≡ Some y = (slice_last bank x y n e).0 lt in
              node_agrees (length bank) by (gives (suc (length bank)) sort by) agree (suc n) y (omega (lt, arith)) (h.parts (suc n) y old) (h.sorted (suc n) y old)
          at false c =
              let le : length bank ≤ n = upper_is n (length bank) c in
              let last = (slice_last bank x y n e).1 le in
              subst (λ m. NodeIsSorted (gives (suc (length bank)) sort by) (suc m) y) (sym last.1) (subst (λ z. NodeIsSorted (gives (suc (length bank)) sort by) (suc (length bank)) z) last.0 own)

      parts_at : (n : ℕ) (y : Node) → item_at (bank ++ x ∷ []) n ≡ Some y → PartsWithin (length (bank ++ x ∷ [])) y
      parts_at zero y e = absurd cc
      parts_at (suc n) y e = at (lower n (length bank)) refl
        where
          more : (z : Node) → PartsWithin (length bank) z → PartsWithin (length (bank ++ x ∷ [])) z
          more z p = more_within (length bank) (length (bank ++ x ∷ [])) z (omega (long, arith)) p

          at : (b : Bool) → lower n (length bank) ≡ b → PartsWithin (length (bank ++ x ∷ [])) y
          at true c =
              let lt : n < length bank = lower_is n (length bank) c in
              more y (h.parts (suc n) y ((slice_last bank x y n e).0 lt))
          at false c =
              let le : length bank ≤ n = upper_is n (length bank) c in
              subst (λ z. PartsWithin (length (bank ++ x ∷ [])) z) ((slice_last bank x y n e).1 le).0 (more x parts)

  pub new_later : IsFit → Later bank by (bank ++ x ∷ []) (gives (suc (length bank)) sort by)
  new_later fit = record { sorts = new_sorts fit; longer = longer_one bank; agree = gives_agrees (length bank) sort by }
    where
      longer_one : (xs : List Node) → length xs ≤ length (xs ++ x ∷ [])
      longer_one [] = omega arith
      longer_one (z ∷ zs) = let p = longer_one zs in omega (p, arith)

  pub put_later : IsFit → (after : Sorting) × Later bank by (with_node bank x) after
  put_later fit = at (has_node bank x)
    where
      at : (b : Bool) → (after : Sorting) × Later bank by (if b then bank else bank ++ x ∷ []) after
      at true = (by, later_same bank by h)
      at false = (gives (suc (length bank)) sort by, new_later fit)

  pub after_put : (P : ℕ → List Node → Sorting → Type 0) → IsFit → ((n : ℕ) (new : List Node) (after : Sorting) → Later bank by new after → n ≤ length new → NodeIsSorted after n x → P n new after) → After bank by P (put x bank)
  after_put P fit right = at (takes bank x)
    where
      at : (b : Bool) → After bank by P (if b then Done (number_of bank x) (with_node bank x) else Fault (code.E16 limit) bank)
      at true =
          let l = put_later fit in
          let there = numbered bank x in
          (l.0, (l.1, right (number_of bank x) (with_node bank x) l.0 l.1 (within (with_node bank x) (number_of bank x) x there) (l.1.sorts.sorted (number_of bank x) x there)))
      at false = (by, later_same bank by h)

-- ---- kinds of sorts
abbrev pub SetAt : Sort → ℕ → List Node → Sorting → Type 0
SetAt m n bank by = (n ≤ length bank) × (by.members n ≡ m)

abbrev pub ElementAt : Sort → ℕ → List Node → Sorting → Type 0
ElementAt m n bank by = (n ≤ length bank) × (by.element n ≡ m)

-- the sort of what a set of the sort holds
abbrev pub held : Sort → Sort
held sorts.SetInt = sorts.Int
held (sorts.SetNamed k) = sorts.Named k
held sort = sort

pub held_is : (sort : Sort) → is_sort_of_sets sort ≡ true → held_by sort ≡ Some (held sort)
held_is sorts.SetInt e = refl
held_is (sorts.SetNamed k) e = refl
held_is sorts.Bool e = absurd (false≢true e)
held_is sorts.Int e = absurd (false≢true e)
held_is (sorts.Named k) e = absurd (false≢true e)

pub to_set : (sort : Sort) (n : ℕ) (bank : List Node) (by : Sorting) → is_sort_of_sets sort ≡ true → IsAt sort n bank by → SetAt (held sort) n bank by
to_set sorts.SetInt n bank by e h = h
to_set (sorts.SetNamed k) n bank by e h = h
to_set sorts.Bool n bank by e h = absurd (false≢true e)
to_set sorts.Int n bank by e h = absurd (false≢true e)
to_set (sorts.Named k) n bank by e h = absurd (false≢true e)

pub from_set : (sort : Sort) (n : ℕ) (bank : List Node) (by : Sorting) → is_sort_of_sets sort ≡ true → SetAt (held sort) n bank by → IsAt sort n bank by
from_set sorts.SetInt n bank by e h = h
from_set (sorts.SetNamed k) n bank by e h = h
from_set sorts.Bool n bank by e h = absurd (false≢true e)
from_set sorts.Int n bank by e h = absurd (false≢true e)
from_set (sorts.Named k) n bank by e h = absurd (false≢true e)

pub to_element : (sort : Sort) (n : ℕ) (bank : List Node) (by : Sorting) → is_sort_of_elements sort ≡ true → IsAt sort n bank by → ElementAt sort n bank by
to_element sorts.Int n bank by e h = h
to_element (sorts.Named k) n bank by e h = h
to_element sorts.Bool n bank by e h = absurd (false≢true e)
to_element sorts.SetInt n bank by e h = absurd (false≢true e)
to_element (sorts.SetNamed k) n bank by e h = absurd (false≢true e)

-- the sets of a sort of elements
pub sets_of : (sort : Sort) → is_sort_of_elements sort ≡ true → (is_sort_of_sets (sort_of_sets sort) ≡ true) × (held (sort_of_sets sort) ≡ sort)
sets_of sorts.Int e = (refl, refl)
sets_of (sorts.Named k) e = (refl, refl)
sets_of sorts.Bool e = absurd (false≢true e)
sets_of sorts.SetInt e = absurd (false≢true e)
sets_of (sorts.SetNamed k) e = absurd (false≢true e)

pub set_of_is : (s t : Sort) → is_set_of s t ≡ true → (is_sort_of_elements s ≡ true) × (sort_of_sets s ≡ t)
set_of_is sorts.Int t e = (refl, (same_sort-Decides sorts.SetInt t).0 e)
set_of_is (sorts.Named k) t e = (refl, (same_sort-Decides (sorts.SetNamed k) t).0 e)
set_of_is sorts.Bool t e = absurd (false≢true e)
set_of_is sorts.SetInt t e = absurd (false≢true e)
set_of_is (sorts.SetNamed k) t e = absurd (false≢true e)

pub both : (a b : Bool) → (a && b) ≡ true → (a ≡ true) × (b ≡ true)
both true b e = (refl, e)
both false b e = absurd (false≢true e)

pub some_is : (a b : Sort) → Some a ≡ Some b → a ≡ b
some_is a b e = cc

abbrev pub Free : {A : Type 0} → A → List Node → Sorting → Type 0
Free a bank by = ⊤
