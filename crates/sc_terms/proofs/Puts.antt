-- Nodes of a bank: the number that a node gets stands for it, and a bank that grows stays a bank.
use Rattle.std.proofs.Common.{◌≡◌, ℕ, zero, suc, ◌+◌, ◌<◌, ◌≤◌, Bool, true, false, not, cond, ◌||◌, if◌then◌else◌, List, [], ◌∷◌, ◌++◌, take, length, Some, refl, sym, ap, ◌∙◌, subst, arith, append-nil}
use Rattle.std.specs.Prelude.{slice_get, nat_lt, Result, Ok, Err, OnOk, OnErr}
use Rattle.std.specs.List.{position_or_len, AllByRecursion, IsDistinct}
use Rattle.std.proofs.lemmas.Bool.{false≢true}
use Rattle.std.proofs.lemmas.List.{take-append-le, length-append}
use Rattle.std.proofs.lemmas.Option.{slice_get_within}
use Rattle.std.proofs.Math.Seq.{take-append_seam}
use Rattle.sc_base.specs.Numbered.{item_at}
use Rattle.sc_terms.specs.declared.nodes.Node.{Node}
use Rattle.sc_terms.specs.Same.{same_node, same_node-Decides}
use Rattle.sc_terms.specs.Bank.{limit, has_node, takes, with_node, number_of, NodeStands, IsBank, Begins}

some_same : {X : Type 0} (x y : X) → Some x ≡ Some y → x ≡ y
some_same x y e = cc

-- ---- the number of a node stands for it
at_last : (xs : List Node) (x : Node) → slice_get (xs ++ x ∷ []) (length xs) ≡ Some x
at_last [] x = refl
at_last (y ∷ ys) x = at_last ys x

head_is : (b : Bool) (y : Node) (ys zs : List Node) → slice_get (if b then y ∷ ys else y ∷ zs) 0 ≡ Some y
head_is true y ys zs = refl
head_is false y ys zs = refl

tail_is : (b : Bool) (y : Node) (ys zs : List Node) (k : ℕ) → slice_get (if b then y ∷ ys else y ∷ zs) (1 + k) ≡ slice_get (if b then ys else zs) k
tail_is true y ys zs k = (let e : 1 + k ≡ suc k = omega arith in ap (slice_get (y ∷ ys)) e)
tail_is false y ys zs k = (let e : 1 + k ≡ suc k = omega arith in ap (slice_get (y ∷ zs)) e)

place_is : (bank : List Node) (x : Node) (b : Bool) → has_node bank x ≡ b → slice_get (if b then bank else bank ++ x ∷ []) (position_or_len (same_node x) bank) ≡ Some x
place_is [] x true e = cc
place_is [] x false e = refl
place_is (y ∷ ys) x b e = by (same_node x y) refl e (λ h. place_is ys x b h)
  where
    by : (c : Bool) → same_node x y ≡ c → (same_node x y || has_node ys x) ≡ b → (has_node ys x ≡ b → slice_get (if b then ys else ys ++ x ∷ []) (position_or_len (same_node x) ys) ≡ Some x) → slice_get (if b then y ∷ ys else y ∷ ys ++ x ∷ []) (position_or_len (same_node x) (y ∷ ys)) ≡ Some x
    by true same h rest = ap (λ c. slice_get (if b then y ∷ ys else y ∷ ys ++ x ∷ []) (cond (not c) (1 + position_or_len (same_node x) ys) 0)) same ∙ head_is b y ys (ys ++ x ∷ []) ∙ ap (λ z. Some z) (sym ((same_node-Decides x y).0 same))
    by false other h rest = ap (λ c. slice_get (if b then y ∷ ys else y ∷ ys ++ x ∷ []) (cond (not c) (1 + position_or_len (same_node x) ys) 0)) other ∙ tail_is b y ys (ys ++ x ∷ []) (position_or_len (same_node x) ys) ∙ rest (ap (λ c. c || has_node ys x) (sym other) ∙ h)

pub get_front : {X : Type 0} (xs ys : List X) (n : ℕ) → n < length xs → slice_get (xs ++ ys) n ≡ slice_get xs n
get_front [] ys n lt = absurd (omega arith)
get_front (x ∷ xs) ys zero lt = refl
get_front (x ∷ xs) ys (suc n) lt = get_front xs ys n (omega arith)

next : {X : Type 0} (xs : List X) (k : ℕ) → item_at xs (k + 1) ≡ slice_get xs k
next xs k = let e : k + 1 ≡ suc k = omega arith in ap (item_at xs) e

pub number_stands : (bank : List Node) (x : Node) → item_at (with_node bank x) (number_of bank x) ≡ Some x
number_stands bank x = next (with_node bank x) (position_or_len (same_node x) bank) ∙ place_is bank x (has_node bank x) refl

-- ---- a bank grows at its end
pub begins_with : (bank : List Node) (x : Node) → Begins bank (with_node bank x)
begins_with bank x = by (has_node bank x)
  where
    by : (b : Bool) → Begins bank (if b then bank else bank ++ x ∷ [])
    by true = ([], sym (append-nil bank))
    by false = (x ∷ [], refl)

-- ---- a node behind others leaves a bank
stands_last : (bank : List Node) (x : Node) → IsBank bank → NodeStands bank x → (n : ℕ) (y : Node) → slice_get (bank ++ x ∷ []) n ≡ Some y → NodeStands (take n (bank ++ x ∷ [])) y
stands_last bank x is stands n y e = by (nat_lt n (length bank)) refl
  where
    by : (b : Bool) → nat_lt n (length bank) ≡ b → NodeStands (take n (bank ++ x ∷ [])) y
    by true before =
        let lt : n < length bank = grind arith in
        subst (λ xs. NodeStands xs y) (sym (take-append-le n bank (x ∷ []) (omega arith))) (is.stands n y (sym (get_front bank (x ∷ []) n lt) ∙ e))
    by false behind =
        let le : length bank ≤ n = grind arith in
        let lt : n < length (bank ++ x ∷ []) = slice_get_within (bank ++ x ∷ []) n y e in
        let long : length (bank ++ x ∷ []) ≡ length bank + 1 = length-append bank (x ∷ []) in
        let here : length bank ≡ n = omega arith in
        let same : x ≡ y = some_same x y (sym (at_last bank x) ∙ ap (slice_get (bank ++ x ∷ [])) here ∙ e) in
        let front : take n (bank ++ x ∷ []) ≡ bank = ap (λ k. take k (bank ++ x ∷ [])) (sym here) ∙ take-append_seam bank (x ∷ []) in
        subst (λ xs. NodeStands xs y) (sym front) (subst (NodeStands bank) same stands)

few_last : (bank : List Node) (x : Node) → has_node bank x ≡ false → takes bank x ≡ true → length (bank ++ x ∷ []) ≤ limit
few_last bank x new room =
    let lt : nat_lt (length bank) limit ≡ true = ap (λ b. b || nat_lt (length bank) limit) (sym new) ∙ room in
    let long : length (bank ++ x ∷ []) ≡ length bank + 1 = length-append bank (x ∷ []) in
    grind arith

pub bank_with : (bank : List Node) (x : Node) → IsBank bank → NodeStands bank x → takes bank x ≡ true → IsDistinct same_node (with_node bank x) → IsBank (with_node bank x)
bank_with bank x is stands room = by (has_node bank x) refl
  where
    by : (b : Bool) → has_node bank x ≡ b → IsDistinct same_node (if b then bank else bank ++ x ∷ []) → IsBank (if b then bank else bank ++ x ∷ [])
    by true old distinct = is
    by false new distinct = record { stands = stands_last bank x is stands; different = distinct; few = few_last bank x new room }

-- after an insertion, which may be refused
pub bank_after : {A B : Type 0} (old new : List Node) (x : Node) (r : Result A B) → IsBank old → NodeStands old x → takes old x ≡ true → IsDistinct same_node new → OnOk r (new ≡ with_node old x) → OnErr r (new ≡ old) → IsBank new
bank_after old new x (Ok a) is stands room distinct ok err = subst IsBank (sym ok) (bank_with old x is stands room (subst (IsDistinct same_node) ok distinct))
bank_after old new x (Err b) is stands room distinct ok err = subst IsBank (sym err) is

-- ---- distinctness without the set's own
differs : (x y : Node) → same_node x y ≡ false → same_node y x ≡ false
differs x y e = by (same_node y x) refl
  where
    by : (b : Bool) → same_node y x ≡ b → same_node y x ≡ false
    by true h = absurd (false≢true (sym e ∙ (same_node-Decides x y).1 (sym ((same_node-Decides y x).0 h))))
    by false h = h

none_of : (a b : Bool) → (a || b) ≡ false → (a ≡ false) × (b ≡ false)
none_of true b e = absurd (false≢true (sym e))
none_of false b e = (refl, e)

differs_last : (y : Node) (ys : List Node) (x : Node) → AllByRecursion (λ z. same_node y z ≡ false) ys → same_node y x ≡ false → AllByRecursion (λ z. same_node y z ≡ false) (ys ++ x ∷ [])
differs_last y [] x h e = (e, tt)
differs_last y (z ∷ zs) x h e = (h.0, differs_last y zs x h.1 e)

distinct_last : (bank : List Node) (x : Node) → IsDistinct same_node bank → has_node bank x ≡ false → IsDistinct same_node (bank ++ x ∷ [])
unfolding IsDistinct
distinct_last [] x h e = (tt, tt)
distinct_last (y ∷ ys) x h e =
    let p = none_of (same_node x y) (has_node ys x) e in (differs_last y ys x h.0 (differs x y p.0), distinct_last ys x h.1 p.1)

pub bank_takes : (bank : List Node) (x : Node) → IsBank bank → NodeStands bank x → takes bank x ≡ true → IsBank (with_node bank x)
bank_takes bank x is stands room = bank_with bank x is stands room (by (has_node bank x) refl)
  where
    by : (b : Bool) → has_node bank x ≡ b → IsDistinct same_node (if b then bank else bank ++ x ∷ [])
    by true old = is.different
    by false new = distinct_last bank x is.different new
