-- Lists of arguments.
use Rattle.std.proofs.Common.{◌≡◌, ℕ, zero, suc, ◌+◌, ◌-◌, ◌≤◌, ◌<◌, ◌∙◌, ◌++◌, ap, sym, subst, take, Bool, true, false, not, ◌&&◌, if◌then◌else◌, List, [], ◌∷◌, length, drop, get_or, Some, None, refl, arith}
use Rattle.sc_text.specs.declared.code.Code.TheVariants as code
use Rattle.sc_terms.specs.declared.nodes.Node.{Node}
use Rattle.sc_terms.specs.declared.nodes.Sort.{Sort}
use Rattle.sc_terms.specs.declared.nodes.Sort.TheVariants as sorts
use Rattle.sc_terms.specs.Bank.{IsFormulaOf, IsSetOf, IsElementOf}
use Rattle.std.specs.Prelude.{nat_lt}
use Rattle.std.proofs.lemmas.Bool.{ltb-true}
use Rattle.std.specs.List.{AllByRecursion}
use Rattle.sc_terms.specs.Same.{same_sort, same_sort-Decides}
use Rattle.sc_elab.specs.declared.meant.Meant.{Meant}
use Rattle.sc_elab.specs.declared.words.Operator.{Operator}
use Rattle.sc_elab.specs.declared.words.Operator.TheVariants as op
use Rattle.sc_elab.specs.Growth.{AreFormulas, AreSets, AreInserted, IsOfSort, AreOfSort, AreMeant, Suits, Makes}
use Rattle.sc_elab.specs.Elab as spec
use Rattle.sc_elab.proofs.Loops.{split_last}

-- ---- lists of given lengths
pub list_one : (xs : List ℕ) → length xs ≡ 1 → xs ≡ get_or xs 0 0 ∷ []
list_one [] e = absurd (omega (e, arith))
list_one (x ∷ []) e = refl
list_one (x ∷ y ∷ xs) e = absurd (omega (e, arith))

pub list_two : (xs : List ℕ) → length xs ≡ 2 → xs ≡ get_or xs 0 0 ∷ get_or xs 1 0 ∷ []
list_two [] e = absurd (omega (e, arith))
list_two (x ∷ []) e = absurd (omega (e, arith))
list_two (x ∷ y ∷ []) e = refl
list_two (x ∷ y ∷ z ∷ xs) e = absurd (omega (e, arith))

pub list_three : (xs : List ℕ) → length xs ≡ 3 → xs ≡ get_or xs 0 0 ∷ get_or xs 1 0 ∷ get_or xs 2 0 ∷ []
list_three [] e = absurd (omega (e, arith))
list_three (x ∷ []) e = absurd (omega (e, arith))
list_three (x ∷ y ∷ []) e = absurd (omega (e, arith))
list_three (x ∷ y ∷ z ∷ []) e = refl
list_three (x ∷ y ∷ z ∷ w ∷ xs) e = absurd (omega (e, arith))

take_all : (xs : List ℕ) (k : ℕ) → k ≡ length xs → take k xs ≡ xs
take_all [] zero e = refl
take_all [] (suc k) e = refl
take_all (x ∷ xs) zero e = absurd (omega (e, arith))
take_all (x ∷ xs) (suc k) e = ap (λ l. x ∷ l) (take_all xs k (omega (e, arith)))

pub list_more : (xs : List ℕ) → 1 ≤ length xs → xs ≡ get_or xs 0 0 ∷ take (length xs - 1) (drop 1 xs)
list_more [] h = absurd (omega (h, arith))
list_more (x ∷ xs) h = ap (λ l. x ∷ l) (sym (take_all xs (length (x ∷ xs) - 1) (omega arith)))

-- ---- arguments whose sorts fit are of the kinds that the operator needs
both : (a b : Bool) → (a && b) ≡ true → (a ≡ true) × (b ≡ true)
both true b e = (refl, e)
both false b e = absurd cc

bool_is : (bank : List Node) (sort : Sort) (n : ℕ) → same_sort sorts.Bool sort ≡ true → IsOfSort bank sort n → IsFormulaOf bank n
bool_is bank sorts.Bool n e h = h
bool_is bank sorts.Int n e h = absurd cc
bool_is bank (sorts.Named k) n e h = absurd cc
bool_is bank sorts.SetInt n e h = absurd cc
bool_is bank (sorts.SetNamed k) n e h = absurd cc

bools_are : (bank : List Node) (ms : List Meant) → spec.all_of sorts.Bool ms ≡ true → AreMeant bank ms → AreFormulas bank (spec.numbers ms)
bools_are bank [] e h = tt
bools_are bank (m ∷ ms) e h =
    let parts : (same_sort sorts.Bool m.sort ≡ true) × (spec.all_of sorts.Bool ms ≡ true) = both (same_sort sorts.Bool m.sort) (spec.all_of sorts.Bool ms) e in
    (bool_is bank m.sort m.number parts.0 h.0, bools_are bank ms parts.1 h.1)

member_is : (bank : List Node) (s t : Sort) (m n : ℕ) → spec.is_set_of s t ≡ true → IsOfSort bank s m → IsOfSort bank t n → IsElementOf bank m × IsSetOf bank n
member_is bank (sorts.Named k) (sorts.SetNamed l) m n e g h = (g, h)
member_is bank (sorts.Named k) sorts.Bool m n e g h = absurd cc
member_is bank (sorts.Named k) sorts.Int m n e g h = absurd cc
member_is bank (sorts.Named k) (sorts.Named l) m n e g h = absurd cc
member_is bank (sorts.Named k) sorts.SetInt m n e g h = absurd cc
member_is bank sorts.Int sorts.SetInt m n e g h = (g, h)
member_is bank sorts.Int sorts.Bool m n e g h = absurd cc
member_is bank sorts.Int sorts.Int m n e g h = absurd cc
member_is bank sorts.Int (sorts.Named l) m n e g h = absurd cc
member_is bank sorts.Int (sorts.SetNamed l) m n e g h = absurd cc
member_is bank sorts.Bool t m n e g h = absurd cc
member_is bank sorts.SetInt t m n e g h = absurd cc
member_is bank (sorts.SetNamed k) t m n e g h = absurd cc

members_are : (bank : List Node) (ms : List Meant) → spec.is_membership ms ≡ true → AreMeant bank ms → Suits bank op.Member (spec.first_sort ms) (spec.numbers ms)
members_are bank [] e h = tt
members_are bank (m ∷ []) e h = tt
members_are bank (m ∷ n ∷ []) e h = member_is bank m.sort n.sort m.number n.number e h.0 h.1.0
members_are bank (m ∷ n ∷ l ∷ ms) e h = tt

no_fault : (a b c : Bool) → (if not a then Some code.E7 else (if not b then Some code.E8 else (if not c then Some (code.E16 spec.depth_limit) else None))) ≡ None → (a ≡ true) × (b ≡ true)
no_fault true true c e = (refl, refl)
no_fault true false c e = absurd cc
no_fault false b c e = absurd cc

-- arguments of one sort
one_sort : (s t : Sort) → same_sort s t ≡ true → s ≡ t
one_sort s t e = (same_sort-Decides s t).0 e

all_are : (bank : List Node) (sort : Sort) (ms : List Meant) → spec.all_of sort ms ≡ true → AreMeant bank ms → AreOfSort bank sort (spec.numbers ms)
all_are bank sort [] e h = tt
all_are bank sort (m ∷ ms) e h =
    let parts : (same_sort sort m.sort ≡ true) × (spec.all_of sort ms ≡ true) = both (same_sort sort m.sort) (spec.all_of sort ms) e in
    (subst (λ s. IsOfSort bank s m.number) (sym (one_sort sort m.sort parts.0)) h.0, all_are bank sort ms parts.1 h.1)

alike_are : (bank : List Node) (ms : List Meant) → spec.are_alike ms ≡ true → AreMeant bank ms → AreOfSort bank (spec.first_sort ms) (spec.numbers ms)
alike_are bank [] e h = tt
alike_are bank (m ∷ ms) e h = (h.0, all_are bank m.sort ms e h.1)

-- sets
set_is : (bank : List Node) (sort : Sort) (n : ℕ) → spec.is_sort_of_sets sort ≡ true → IsOfSort bank sort n → IsSetOf bank n
set_is bank sorts.SetInt n e h = h
set_is bank (sorts.SetNamed k) n e h = h
set_is bank sorts.Bool n e h = absurd cc
set_is bank sorts.Int n e h = absurd cc
set_is bank (sorts.Named k) n e h = absurd cc

sort_is : (bank : List Node) (sort : Sort) (n : ℕ) → spec.is_sort_of_sets sort ≡ true → IsSetOf bank n → IsOfSort bank sort n
sort_is bank sorts.SetInt n e h = h
sort_is bank (sorts.SetNamed k) n e h = h
sort_is bank sorts.Bool n e h = absurd cc
sort_is bank sorts.Int n e h = absurd cc
sort_is bank (sorts.Named k) n e h = absurd cc

all_sets : (bank : List Node) (sort : Sort) (ns : List ℕ) → spec.is_sort_of_sets sort ≡ true → AreOfSort bank sort ns → AreSets bank ns
all_sets bank sort [] e h = tt
all_sets bank sort (n ∷ ns) e h = (set_is bank sort n e h.0, all_sets bank sort ns e h.1)

sets_are : (bank : List Node) (ms : List Meant) → spec.are_sets ms ≡ true → AreMeant bank ms → AreSets bank (spec.numbers ms)
sets_are bank [] e h = absurd cc
sets_are bank (m ∷ ms) e h =
    let parts : (spec.is_sort_of_sets m.sort ≡ true) × (spec.all_of m.sort ms ≡ true) = both (spec.is_sort_of_sets m.sort) (spec.all_of m.sort ms) e in
    (set_is bank m.sort m.number parts.0 h.0, all_sets bank m.sort (spec.numbers ms) parts.0 (all_are bank m.sort ms parts.1 h.1))

-- elements
element_is : (bank : List Node) (sort : Sort) (n : ℕ) → spec.is_sort_of_elements sort ≡ true → IsOfSort bank sort n → IsElementOf bank n
element_is bank sorts.Int n e h = h
element_is bank (sorts.Named k) n e h = h
element_is bank sorts.Bool n e h = absurd cc
element_is bank sorts.SetInt n e h = absurd cc
element_is bank (sorts.SetNamed k) n e h = absurd cc

holds_is : (sort : Sort) → spec.is_sort_of_elements sort ≡ true → spec.is_sort_of_sets (spec.sort_of_sets sort) ≡ true
holds_is sorts.Int e = refl
holds_is (sorts.Named k) e = refl
holds_is sorts.Bool e = absurd cc
holds_is sorts.SetInt e = absurd cc
holds_is (sorts.SetNamed k) e = absurd cc

has_sets : (s t : Sort) → spec.is_set_of s t ≡ true → (spec.is_sort_of_elements s ≡ true) × (spec.is_sort_of_sets t ≡ true)
has_sets (sorts.Named k) (sorts.SetNamed l) e = (refl, refl)
has_sets (sorts.Named k) sorts.Bool e = absurd cc
has_sets (sorts.Named k) sorts.Int e = absurd cc
has_sets (sorts.Named k) (sorts.Named l) e = absurd cc
has_sets (sorts.Named k) sorts.SetInt e = absurd cc
has_sets sorts.Int sorts.SetInt e = (refl, refl)
has_sets sorts.Int sorts.Bool e = absurd cc
has_sets sorts.Int sorts.Int e = absurd cc
has_sets sorts.Int (sorts.Named l) e = absurd cc
has_sets sorts.Int (sorts.SetNamed l) e = absurd cc
has_sets sorts.Bool t e = absurd cc
has_sets sorts.SetInt t e = absurd cc
has_sets (sorts.SetNamed k) t e = absurd cc

singles_are : (bank : List Node) (ms : List Meant) → spec.is_single ms ≡ true → AreMeant bank ms → AllByRecursion (IsElementOf bank) (spec.numbers ms)
singles_are bank [] e h = tt
singles_are bank (m ∷ []) e h = (element_is bank m.sort m.number e h.0, tt)
singles_are bank (m ∷ n ∷ ms) e h = absurd cc

-- the sort is one of elements where a set of such ends the arguments
inserted_sort : (sort : Sort) (ms : List Meant) → spec.are_inserted sort ms ≡ true → spec.is_sort_of_elements sort ≡ true
inserted_sort sort [] e = absurd cc
inserted_sort sort (s ∷ []) e = (has_sets sort s.sort e).0
inserted_sort sort (m ∷ n ∷ ms) e = inserted_sort sort (n ∷ ms) (both (same_sort sort m.sort) (spec.are_inserted sort (n ∷ ms)) e).1

inserted_are : (bank : List Node) (sort : Sort) (ms : List Meant) → spec.are_inserted sort ms ≡ true → AreMeant bank ms → AreInserted bank (spec.numbers ms)
inserted_are bank sort [] e h = tt
inserted_are bank sort (s ∷ []) e h = set_is bank s.sort s.number (has_sets sort s.sort e).1 h.0
inserted_are bank sort (m ∷ n ∷ ms) e h =
    let parts : (same_sort sort m.sort ≡ true) × (spec.are_inserted sort (n ∷ ms) ≡ true) = both (same_sort sort m.sort) (spec.are_inserted sort (n ∷ ms)) e in
    (element_is bank sort m.number (inserted_sort sort (n ∷ ms) parts.1) (subst (λ s. IsOfSort bank s m.number) (sym (one_sort sort m.sort parts.0)) h.0), inserted_are bank sort (n ∷ ms) parts.1 h.1)

fits_is : (o : Operator) (ms : List Meant) → spec.application_fault o ms ≡ None → (spec.fits o ms ≡ true) × (spec.is_done o ms ≡ true)
fits_is o ms e = no_fault (spec.fits o ms) (spec.is_done o ms) _ e

deep_enough : (a b : Bool) (depth : ℕ) → (if not a then Some code.E7 else (if not b then Some code.E8 else (if not (nat_lt depth spec.depth_limit) then Some (code.E16 spec.depth_limit) else None))) ≡ None → nat_lt depth spec.depth_limit ≡ true
deep_enough true true depth e = by (nat_lt depth spec.depth_limit) e
  where
    by : (c : Bool) → (if not c then Some (code.E16 spec.depth_limit) else None) ≡ None → c ≡ true
    by true d = refl
    by false d = absurd cc
deep_enough true false depth e = absurd cc
deep_enough false b depth e = absurd cc

-- a term that has no fault is not too deep
pub shallow : (o : Operator) (ms : List Meant) → spec.application_fault o ms ≡ None → spec.deepest ms < spec.depth_limit
shallow o ms e = ltb-true (spec.deepest ms) spec.depth_limit (deep_enough (spec.fits o ms) (spec.is_done o ms) (spec.deepest ms) e)

pub suits : (bank : List Node) (o : Operator) (ms : List Meant) → spec.application_fault o ms ≡ None → AreMeant bank ms → Suits bank o (spec.first_sort ms) (spec.numbers ms)
suits bank op.Not ms e h = bools_are bank ms (fits_is op.Not ms e).0 h
suits bank op.And ms e h = bools_are bank ms (fits_is op.And ms e).0 h
suits bank op.Or ms e h = bools_are bank ms (fits_is op.Or ms e).0 h
suits bank op.Implies ms e h = bools_are bank ms (fits_is op.Implies ms e).0 h
suits bank op.Xor ms e h = bools_are bank ms (fits_is op.Xor ms e).0 h
suits bank op.Equal ms e h = alike_are bank ms (fits_is op.Equal ms e).0 h
suits bank op.Distinct ms e h = alike_are bank ms (fits_is op.Distinct ms e).0 h
suits bank op.Choice ms e h = bools_are bank ms (fits_is op.Choice ms e).1 h
suits bank op.Member ms e h = members_are bank ms (fits_is op.Member ms e).0 h
suits bank op.Subset ms e h = sets_are bank ms (fits_is op.Subset ms e).0 h
suits bank op.Union ms e h = sets_are bank ms (fits_is op.Union ms e).0 h
suits bank op.Inter ms e h = sets_are bank ms (fits_is op.Inter ms e).0 h
suits bank op.Minus ms e h = sets_are bank ms (fits_is op.Minus ms e).0 h
suits bank op.Singleton ms e h = singles_are bank ms (fits_is op.Singleton ms e).0 h
suits bank op.Insert ms e h = inserted_are bank (spec.first_sort ms) ms (fits_is op.Insert ms e).0 h

-- ---- what an operator makes is of the sort that it has
joins_made : (bank : List Node) (ms : List Meant) (n : ℕ) → spec.are_sets ms ≡ true → IsSetOf bank n → IsOfSort bank (spec.first_sort ms) n
joins_made bank [] n e h = absurd cc
joins_made bank (m ∷ ms) n e h = sort_is bank m.sort n (both (spec.is_sort_of_sets m.sort) (spec.all_of m.sort ms) e).0 h

single_made : (bank : List Node) (ms : List Meant) (n : ℕ) → spec.is_single ms ≡ true → IsSetOf bank n → IsOfSort bank (spec.sort_of_sets (spec.first_sort ms)) n
single_made bank [] n e h = absurd cc
single_made bank (m ∷ []) n e h = sort_is bank (spec.sort_of_sets m.sort) n (holds_is m.sort e) h
single_made bank (m ∷ k ∷ ms) n e h = absurd cc

pub made_is : (bank : List Node) (o : Operator) (ms : List Meant) (n : ℕ) → spec.application_fault o ms ≡ None → Makes o bank n → IsOfSort bank (spec.sort_made o (spec.first_sort ms)) n
made_is bank op.Not ms n e h = h
made_is bank op.And ms n e h = h
made_is bank op.Or ms n e h = h
made_is bank op.Implies ms n e h = h
made_is bank op.Xor ms n e h = h
made_is bank op.Equal ms n e h = h
made_is bank op.Distinct ms n e h = h
made_is bank op.Choice ms n e h = h
made_is bank op.Member ms n e h = h
made_is bank op.Subset ms n e h = h
made_is bank op.Union ms n e h = joins_made bank ms n (fits_is op.Union ms e).0 h
made_is bank op.Inter ms n e h = joins_made bank ms n (fits_is op.Inter ms e).0 h
made_is bank op.Minus ms n e h = joins_made bank ms n (fits_is op.Minus ms e).0 h
made_is bank op.Singleton ms n e h = single_made bank ms n (fits_is op.Singleton ms e).0 h
made_is bank op.Insert ms n e h =
    let sort = spec.first_sort ms in
    sort_is bank (spec.sort_of_sets sort) n (holds_is sort (inserted_sort sort ms (fits_is op.Insert ms e).0)) h

-- the last argument apart
and_assoc : (a b c : Bool) → (a && (b && c)) ≡ ((a && b) && c)
and_assoc true b c = refl
and_assoc false b c = refl

and_again : (a b : Bool) → (a && b) ≡ ((a && true) && b)
and_again true b = refl
and_again false b = refl

pub inserted_split : (sort : Sort) (ms : List Meant) (s : Meant) → spec.are_inserted sort (ms ++ s ∷ []) ≡ (spec.all_of sort ms && spec.is_set_of sort s.sort)
inserted_split sort [] s = refl
inserted_split sort (m ∷ []) s = and_again (same_sort sort m.sort) (spec.is_set_of sort s.sort)
inserted_split sort (m ∷ n ∷ ms) s = ap (λ b. same_sort sort m.sort && b) (inserted_split sort (n ∷ ms) s) ∙ and_assoc (same_sort sort m.sort) (spec.all_of sort (n ∷ ms)) (spec.is_set_of sort s.sort)

-- the elements, and the set behind them
pub elements_are : (bank : List Node) (ns : List ℕ) (k : ℕ) → length ns ≡ k + 1 → AreInserted bank ns → AllByRecursion (IsElementOf bank) (take k ns)
elements_are bank [] k e h = absurd (omega (e, arith))
elements_are bank (n ∷ []) zero e h = tt
elements_are bank (n ∷ []) (suc k) e h = absurd (omega (e, arith))
elements_are bank (n ∷ m ∷ ns) zero e h = absurd (omega (e, arith))
elements_are bank (n ∷ m ∷ ns) (suc k) e h = (h.0, elements_are bank (m ∷ ns) k (omega (e, arith)) h.1)

pub inserted_last : (bank : List Node) (ns : List ℕ) (k : ℕ) → length ns ≡ k + 1 → AreInserted bank ns → IsSetOf bank (get_or ns k 0)
inserted_last bank [] k e h = absurd (omega (e, arith))
inserted_last bank (n ∷ []) zero e h = h
inserted_last bank (n ∷ []) (suc k) e h = absurd (omega (e, arith))
inserted_last bank (n ∷ m ∷ ns) zero e h = absurd (omega (e, arith))
inserted_last bank (n ∷ m ∷ ns) (suc k) e h = inserted_last bank (m ∷ ns) k (omega (e, arith)) h.1

-- the test of the elements, and then that of the set
pub inserted_true : (sort : Sort) (ms : List Meant) (k : ℕ) (d : Meant) (r q : Bool) → length ms ≡ k + 1 → r ≡ spec.all_of sort (take k ms) → r ≡ true → q ≡ spec.is_set_of sort (get_or ms k d).sort → q ≡ spec.are_inserted sort ms
inserted_true sort ms k d r q long is fit e =
    e ∙ ap (λ b. b && spec.is_set_of sort (get_or ms k d).sort) (sym fit ∙ is) ∙ sym (inserted_split sort (take k ms) (get_or ms k d)) ∙ ap (spec.are_inserted sort) (split_last ms k d long)

pub inserted_false : (sort : Sort) (ms : List Meant) (k : ℕ) (d : Meant) (r : Bool) → length ms ≡ k + 1 → r ≡ spec.all_of sort (take k ms) → r ≡ false → r ≡ spec.are_inserted sort ms
inserted_false sort ms k d r long is no_one =
    no_one ∙ ap (λ b. b && spec.is_set_of sort (get_or ms k d).sort) (sym no_one ∙ is) ∙ sym (inserted_split sort (take k ms) (get_or ms k d)) ∙ ap (spec.are_inserted sort) (split_last ms k d long)
