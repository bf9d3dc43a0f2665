-- How banks grow, and what is known of a call that is made of others.
use Rattle.std.proofs.Common.{◌≡◌, ℕ, zero, suc, Bool, true, false, if◌then◌else◌, List, [], ◌∷◌, ◌++◌, Option, Some, None, slice_get, refl, sym, ap, ◌∙◌, subst, append_assoc, append-nil}
use Rattle.std.specs.Prelude.{Result, Ok, Err}
use Rattle.std.specs.List.{AllByRecursion}
use Rattle.sc_base.specs.Numbered.{item_at}
use Rattle.sc_terms.specs.declared.nodes.Node.{Node}
use Rattle.sc_terms.specs.declared.nodes.Sort.{Sort}
use Rattle.sc_terms.specs.declared.nodes.Sort.TheVariants as sorts
use Rattle.sc_terms.specs.Bank.{HasSorts, NodeHasSorts, IsFormulaOf, IsSetOf, IsElementOf, is_formula, is_set, is_element, has_node, with_node}
use Rattle.sc_elab.specs.declared.error.ElabError.{ElabError}
use Rattle.sc_elab.specs.declared.error.ElabError.TheVariants as errors
use Rattle.sc_elab.specs.States.{Outcome, Done, bind}
use Rattle.sc_elab.specs.Growth.{Grown, Gives, Builds, AreFormulas, IsOfSort, AreOfSort, Makes}
use Rattle.sc_elab.specs.declared.words.Operator.{Operator}
use Rattle.sc_elab.specs.Builds.{build}

pub same_grown : (known : List Sort) (bank : List Node) → Grown known bank bank
same_grown known bank = record { begins = ([], sym (append-nil bank)); has_sorts = λ h. h }

pub grown_twice : (known : List Sort) (a b c : List Node) → Grown known a b → Grown known b c → Grown known a c
grown_twice known a b c g h = record {
  begins = (g.begins.0 ++ h.begins.0, h.begins.1 ∙ ap (λ l. l ++ h.begins.0) g.begins.1 ∙ append_assoc a g.begins.0 h.begins.0);
  has_sorts = λ s. h.has_sorts (g.has_sorts s);
}

one_more : (known : List Sort) (bank : List Node) (x : Node) → NodeHasSorts known x → HasSorts known bank → HasSorts known (bank ++ x ∷ [])
one_more known [] x hx h = (hx, tt)
one_more known (y ∷ ys) x hx h = (h.0, one_more known ys x hx h.1)

pub with_grown : (known : List Sort) (bank : List Node) (x : Node) → NodeHasSorts known x → Grown known bank (with_node bank x)
with_grown known bank x hx = by (has_node bank x)
  where
    by : (b : Bool) → Grown known bank (if b then bank else bank ++ x ∷ [])
    by true = same_grown known bank
    by false = record { begins = (x ∷ [], refl); has_sorts = one_more known bank x hx }

-- a number keeps its node
kept : (bank more : List Node) (n : ℕ) (x : Node) → slice_get bank n ≡ Some x → slice_get (bank ++ more) n ≡ Some x
kept [] more n x e = absurd cc
kept (y ∷ ys) more zero x e = e
kept (y ∷ ys) more (suc n) x e = kept ys more n x e

kept_test : (P : Option Node → Bool) (bank more : List Node) (n : ℕ) → P None ≡ false → P (item_at bank n) ≡ true → P (item_at (bank ++ more) n) ≡ true
kept_test P bank more zero none e = e
kept_test P bank more (suc n) none e = by (slice_get bank n) refl
  where
    by : (o : Option Node) → o ≡ slice_get bank n → P (slice_get (bank ++ more) n) ≡ true
    by None at = absurd (let u : P None ≡ true = subst (λ o. P o ≡ true) (sym at) e in cc)
    by (Some x) at = subst (λ o. P o ≡ true) (sym at ∙ sym (kept bank more n x (sym at)) ∙ refl) e

pub still_formula : (known : List Sort) (a b : List Node) (n : ℕ) → Grown known a b → IsFormulaOf a n → IsFormulaOf b n
still_formula known a b n g h = subst (λ bank. IsFormulaOf bank n) (sym g.begins.1) (kept_test is_formula a g.begins.0 n refl h)

pub still_set : (known : List Sort) (a b : List Node) (n : ℕ) → Grown known a b → IsSetOf a n → IsSetOf b n
still_set known a b n g h = subst (λ bank. IsSetOf bank n) (sym g.begins.1) (kept_test is_set a g.begins.0 n refl h)

pub still_element : (known : List Sort) (a b : List Node) (n : ℕ) → Grown known a b → IsElementOf a n → IsElementOf b n
still_element known a b n g h = subst (λ bank. IsElementOf bank n) (sym g.begins.1) (kept_test is_element a g.begins.0 n refl h)

pub still_sort : (sort : Sort) (known : List Sort) (a b : List Node) (n : ℕ) → Grown known a b → IsOfSort a sort n → IsOfSort b sort n
still_sort sorts.Bool known a b n g h = still_formula known a b n g h
still_sort sorts.Int known a b n g h = still_element known a b n g h
still_sort (sorts.Named k) known a b n g h = still_element known a b n g h
still_sort sorts.SetInt known a b n g h = still_set known a b n g h
still_sort (sorts.SetNamed k) known a b n g h = still_set known a b n g h

-- what is known of a node stays as the bank grows
abbrev pub Lasts : (List Node → ℕ → Type 0) → Type 0
Lasts Is = (known : List Sort) (a b : List Node) (n : ℕ) → Grown known a b → Is a n → Is b n

pub still_all : (Is : List Node → ℕ → Type 0) → Lasts Is → (known : List Sort) (a b : List Node) (ns : List ℕ) → Grown known a b → AllByRecursion (Is a) ns → AllByRecursion (Is b) ns
still_all Is lasts known a b [] g h = tt
still_all Is lasts known a b (n ∷ ns) g h = (lasts known a b n g h.0, still_all Is lasts known a b ns g h.1)

pub still_formulas : (known : List Sort) (a b : List Node) (fs : List ℕ) → Grown known a b → AreFormulas a fs → AreFormulas b fs
still_formulas known a b fs g h = still_all IsFormulaOf still_formula known a b fs g h

pub still_sorts : (sort : Sort) (known : List Sort) (a b : List Node) (ns : List ℕ) → Grown known a b → AreOfSort a sort ns → AreOfSort b sort ns
still_sorts sort known a b ns g h = still_all (λ bank n. IsOfSort bank sort n) (still_sort sort) known a b ns g h

-- where the first part stops, the whole stops
pub stops : {A B : Type 0} (known : List Sort) (Is : List Node → A → Type 0) (Are : List Node → B → Type 0) (o : Outcome A) (k : A → List Node → Outcome B) (e : ElabError) (old new : List Node) → Gives known Is o old (Err e) new → Gives known Are (bind o k) old (Err e) new
stops known Is Are o k (errors.Fault code) old new h = record { exact = ap (λ x. bind x k) h.exact; stands = tt; grown = h.grown }
stops known Is Are o k errors.Memory old new h = record { exact = tt; stands = tt; grown = h.grown }

-- where it is done, the rest goes on from there
pub goes_on : {A B : Type 0} (known : List Sort) (Is : List Node → A → Type 0) (Are : List Node → B → Type 0) (o : Outcome A) (k : A → List Node → Outcome B) (a : A) (r : Result B ElabError) (old mid new : List Node) → Gives known Is o old (Ok a) mid → Gives known Are (k a mid) mid r new → Gives known Are (bind o k) old r new
goes_on known Is Are o k a (Ok b) old mid new h g = record { exact = ap (λ x. bind x k) h.exact ∙ g.exact; stands = g.stands; grown = grown_twice known old mid new h.grown g.grown }
goes_on known Is Are o k a (Err (errors.Fault code)) old mid new h g = record { exact = ap (λ x. bind x k) h.exact ∙ g.exact; stands = tt; grown = grown_twice known old mid new h.grown g.grown }
goes_on known Is Are o k a (Err errors.Memory) old mid new h g = record { exact = tt; stands = tt; grown = grown_twice known old mid new h.grown g.grown }

-- want of memory may come anywhere
pub wants_memory : {A : Type 0} (known : List Sort) (Is : List Node → A → Type 0) (o : Outcome A) (old new : List Node) → Grown known old new → Gives known Is o old (Err errors.Memory) new
wants_memory known Is o old new g = record { exact = tt; stands = tt; grown = g }

-- ---- the same for calls that put no constant
module _ {A B : Type 0} {Is : List Node → A → Type 0} {Are : List Node → B → Type 0} {o : Outcome A} (k : A → List Node → Outcome B) {old mid : List Node} where
  pub stop : {e : ElabError} → Builds Is o old (Err e) mid → Builds Are (bind o k) old (Err e) mid
  stop {e} h known = stops known Is Are o k e old mid (h known)

  pub go_on : {a : A} {r : Result B ElabError} {new : List Node} → Builds Is o old (Ok a) mid → Builds Are (k a mid) mid r new → Builds Are (bind o k) old r new
  go_on {a} {r} {new} h g known = goes_on known Is Are o k a r old mid new (h known) (g known)

pub no_memory : {A : Type 0} (Is : List Node → A → Type 0) (o : Outcome A) (bank : List Node) → Builds Is o bank (Err errors.Memory) bank
no_memory Is o bank known = wants_memory known Is o bank bank (same_grown known bank)

pub builds_same : {A : Type 0} {Is : List Node → A → Type 0} {o p : Outcome A} {old : List Node} {r : Result A ElabError} {new : List Node} → p ≡ o → Builds Is o old r new → Builds Is p old r new
builds_same {A} {Is} {o} {p} {old} {r} {new} e h = subst (λ q. Builds Is q old r new) (sym e) h

-- the number is that of a formula of each later bank
pub still : {Are : Outcome ℕ} {a b : List Node} {r : Result ℕ ElabError} (n : ℕ) → Builds IsFormulaOf Are a r b → IsFormulaOf a n → IsFormulaOf b n
still {Are} {a} {b} n h is = still_formula [] a b n (h []).grown is

-- ---- the same for calls that put constants
module _ {A B : Type 0} {known : List Sort} {Is : List Node → A → Type 0} {Are : List Node → B → Type 0} {o : Outcome A} (k : A → List Node → Outcome B) {old mid : List Node} where
  pub gives_stop : {e : ElabError} → Gives known Is o old (Err e) mid → Gives known Are (bind o k) old (Err e) mid
  gives_stop {e} h = stops known Is Are o k e old mid h

  pub gives_on : {a : A} {r : Result B ElabError} {new : List Node} → Gives known Is o old (Ok a) mid → Gives known Are (k a mid) mid r new → Gives known Are (bind o k) old r new
  gives_on {a} {r} {new} h g = goes_on known Is Are o k a r old mid new h g

pub gives_done : {A : Type 0} {known : List Sort} (Is : List Node → A → Type 0) (a : A) (bank : List Node) → Is bank a → Gives known Is (Done a bank) bank (Ok a) bank
gives_done {A} {known} Is a bank h = record { exact = refl; stands = h; grown = same_grown known bank }

-- ---- one operator
pub of_operator : (operator o : Operator) (sort : Sort) (args ns : List ℕ) {bank : List Node} {r : Result ℕ ElabError} {new : List Node} → operator ≡ o → args ≡ ns → Builds (Makes o) (build o sort ns bank) bank r new → Builds (Makes operator) (build operator sort args bank) bank r new
of_operator operator o sort args ns {bank} {r} {new} e f h =
    subst (λ p. Builds (Makes p) (build p sort args bank) bank r new) (sym e) (subst (λ l. Builds (Makes o) (build o sort l bank) bank r new) (sym f) h)
