-- What is known of the nodes of a bank under an interpretation, and how it stays as the bank grows.
use Rattle.std.proofs.Common.{◌≡◌, ℕ, zero, suc, ◌≤◌, Bool, true, false, ℤ, List, [], ◌∷◌, length, Option, Some, None, refl, sym, ap, ◌∙◌, subst, arith, append-nil}
use Rattle.std.specs.Prelude.{⊤, if◌then◌else◌}
use Rattle.sc_base.specs.Numbered.{item_at}
use Rattle.sc_text.specs.declared.code.Code.TheVariants as code
use Rattle.sc_terms.specs.declared.nodes.Node.{Node}
use Rattle.sc_terms.specs.declared.nodes.Node.TheVariants as nodes
use Rattle.sc_terms.specs.declared.nodes.Formula.{Formula}
use Rattle.sc_terms.specs.declared.nodes.SetTerm.{SetTerm}
use Rattle.sc_terms.specs.declared.nodes.Element.{Element}
use Rattle.sc_terms.specs.declared.nodes.Sort.{Sort}
use Rattle.sc_terms.specs.declared.nodes.Sort.TheVariants as sorts
use Rattle.sc_terms.specs.Bank.{IsBank, NodeStands, FormulaStands, SetStands, ElementStands, Begins, IsFormulaOf, IsSetOf, IsElementOf, is_formula, is_set, is_element, takes, number_of, with_node, limit}
use Rattle.sc_terms.specs.BankValues.{BankMeaningsFit, MeaningsStay, bank_meaning, no_parts}
use Rattle.sc_terms.specs.Meaning.{Interpretation, IsInterpretation, truth_of, members_of, element_of}
use Rattle.sc_elab.specs.States.{Outcome, Done, Fault, bind, put, put_formula}
use Rattle.sc_elab.specs.Value.{Worth, Truth, Number, Members}

-- the laws of banks on which all of this rests
pub record BankLaws : Type 0 where
  pub fit : BankMeaningsFit
  pub stay : MeaningsStay
  pub bank : (bank : List Node) (x : Node) → IsBank bank → NodeStands bank x → takes bank x ≡ true → IsBank (with_node bank x)
  pub begins : (bank : List Node) (x : Node) → Begins bank (with_node bank x)
  pub number : (bank : List Node) (x : Node) → item_at (with_node bank x) (number_of bank x) ≡ Some x
  pub formula : (old new : List Node) → Begins old new → (n : ℕ) → IsFormulaOf old n → IsFormulaOf new n
  pub set : (old new : List Node) → Begins old new → (n : ℕ) → IsSetOf old n → IsSetOf new n
  pub element : (old new : List Node) → Begins old new → (n : ℕ) → IsElementOf old n → IsElementOf new n
  pub onward : (first second third : List Node) → Begins first second → Begins second third → Begins first third

-- a bank that begins with another
pub record Extends (old new : List Node) : Type 0 where
  pub begins : Begins old new
  pub bank : IsBank new

-- where it is done, the bank has grown at its end, and the answer is right
abbrev pub Stands : {A : Type 0} → List Node → Outcome A → (A → List Node → Type 0) → Type 0
Stands bank (Done a new) P = Extends bank new × P a new
Stands bank (Fault fault new) P = ⊤

-- ---- numbers of nodes are numbers of the bank
within : (xs : List Node) (n : ℕ) (x : Node) → item_at xs n ≡ Some x → n ≤ length xs
within xs zero x e = cc
within [] (suc n) x e = cc
within (y ∷ ys) (suc zero) x e = omega arith
within (y ∷ ys) (suc (suc n)) x e = let p = within ys (suc n) x e in omega arith

no_formula : (o : Option Node) → is_formula o ≡ true → (x : Node) × (o ≡ Some x)
no_formula (Some x) e = (x, refl)
no_formula None e = cc

no_set : (o : Option Node) → is_set o ≡ true → (x : Node) × (o ≡ Some x)
no_set (Some x) e = (x, refl)
no_set None e = cc

no_element : (o : Option Node) → is_element o ≡ true → (x : Node) × (o ≡ Some x)
no_element (Some x) e = (x, refl)
no_element None e = cc

formula_within : (bank : List Node) (n : ℕ) → IsFormulaOf bank n → n ≤ length bank
formula_within bank n h = let x = no_formula (item_at bank n) h in within bank n x.0 x.1

set_within : (bank : List Node) (n : ℕ) → IsSetOf bank n → n ≤ length bank
set_within bank n h = let x = no_set (item_at bank n) h in within bank n x.0 x.1

element_within : (bank : List Node) (n : ℕ) → IsElementOf bank n → n ≤ length bank
element_within bank n h = let x = no_element (item_at bank n) h in within bank n x.0 x.1

pub unchanged : (bank : List Node) → IsBank bank → Extends bank bank
unchanged bank h = record { begins = ([], sym (append-nil bank)); bank = h }

module _ (laws : BankLaws) (i : Interpretation) (proper : IsInterpretation i) where
  pub extends_twice : (a b c : List Node) → Extends a b → Extends b c → Extends a c
  extends_twice a b c e f = record { begins = laws.onward a b c e.begins f.begins; bank = f.bank }

  -- the node with this number is a formula that is as true as b, and so for elements and sets
  abbrev pub HasTruth : List Node → ℕ → Bool → Type 0
  HasTruth bank n b = IsFormulaOf bank n × ((bank_meaning bank i).truth n ≡ b)

  abbrev pub HasValue : List Node → ℕ → ℤ → Type 0
  HasValue bank n z = IsElementOf bank n × ((bank_meaning bank i).element n ≡ z)

  abbrev pub HasMembers : List Node → ℕ → List ℤ → Type 0
  HasMembers bank n xs = IsSetOf bank n × ((bank_meaning bank i).members n ≡ xs)

  -- the node with this number is of the sort, and is worth w
  abbrev pub IsWorth : Sort → List Node → ℕ → Worth → Type 0
  IsWorth sorts.Bool bank n (Truth b) = HasTruth bank n b
  IsWorth sorts.Int bank n (Number z) = HasValue bank n z
  IsWorth (sorts.Named k) bank n (Number z) = HasValue bank n z
  IsWorth sorts.SetInt bank n (Members xs) = HasMembers bank n xs
  IsWorth (sorts.SetNamed k) bank n (Members xs) = HasMembers bank n xs
  IsWorth _ bank n w = ⊥

  pub truth_stays : (old new : List Node) (n : ℕ) (b : Bool) → Extends old new → HasTruth old n b → HasTruth new n b
  truth_stays old new n b e h =
      let more = e.begins.0 in
      let is = e.begins.1 in
      (laws.formula old new e.begins n h.0, ap (λ bank. (bank_meaning bank i).truth n) is ∙ (laws.stay old more (subst IsBank is e.bank) i n (formula_within old n h.0)).truth ∙ h.1)

  pub value_stays : (old new : List Node) (n : ℕ) (z : ℤ) → Extends old new → HasValue old n z → HasValue new n z
  value_stays old new n z e h =
      let more = e.begins.0 in
      let is = e.begins.1 in
      (laws.element old new e.begins n h.0, ap (λ bank. (bank_meaning bank i).element n) is ∙ (laws.stay old more (subst IsBank is e.bank) i n (element_within old n h.0)).element ∙ h.1)

  pub members_stay : (old new : List Node) (n : ℕ) (xs : List ℤ) → Extends old new → HasMembers old n xs → HasMembers new n xs
  members_stay old new n xs e h =
      let more = e.begins.0 in
      let is = e.begins.1 in
      (laws.set old new e.begins n h.0, ap (λ bank. (bank_meaning bank i).members n) is ∙ (laws.stay old more (subst IsBank is e.bank) i n (set_within old n h.0)).members ∙ h.1)

  pub worth_stays : (sort : Sort) (old new : List Node) (n : ℕ) (w : Worth) → Extends old new → IsWorth sort old n w → IsWorth sort new n w
  worth_stays sorts.Bool old new n (Truth b) e h = truth_stays old new n b e h
  worth_stays sorts.Int old new n (Number z) e h = value_stays old new n z e h
  worth_stays (sorts.Named k) old new n (Number z) e h = value_stays old new n z e h
  worth_stays sorts.SetInt old new n (Members xs) e h = members_stay old new n xs e h
  worth_stays (sorts.SetNamed k) old new n (Members xs) e h = members_stay old new n xs e h
  worth_stays sorts.Bool old new n (Number z) e h = absurd h
  worth_stays sorts.Bool old new n (Members xs) e h = absurd h
  worth_stays sorts.Int old new n (Truth b) e h = absurd h
  worth_stays sorts.Int old new n (Members xs) e h = absurd h
  worth_stays (sorts.Named k) old new n (Truth b) e h = absurd h
  worth_stays (sorts.Named k) old new n (Members xs) e h = absurd h
  worth_stays sorts.SetInt old new n (Truth b) e h = absurd h
  worth_stays sorts.SetInt old new n (Number z) e h = absurd h
  worth_stays (sorts.SetNamed k) old new n (Truth b) e h = absurd h
  worth_stays (sorts.SetNamed k) old new n (Number z) e h = absurd h

  -- ---- one after another
  further : {B : Type 0} (bank behind : List Node) (o : Outcome B) (Q : B → List Node → Type 0) → Extends bank behind → Stands behind o Q → Stands bank o Q
  further bank behind (Done b new) Q e h = (extends_twice bank behind new e h.0, h.1)
  further bank behind (Fault fault new) Q e h = h

  pub stands_bind : {A B : Type 0} (bank : List Node) (o : Outcome A) (k : A → List Node → Outcome B) (P : A → List Node → Type 0) (Q : B → List Node → Type 0) → Stands bank o P → ((a : A) (behind : List Node) → Extends bank behind → P a behind → Stands behind (k a behind) Q) → Stands bank (bind o k) Q
  stands_bind bank (Done a behind) k P Q h next = further bank behind (k a behind) Q h.0 (next a behind h.0 h.1)
  stands_bind bank (Fault fault behind) k P Q h next = _

  -- ---- nodes that are put
  put_stands : (x : Node) (bank : List Node) (P : ℕ → List Node → Type 0) → IsBank bank → NodeStands bank x → ((n : ℕ) (new : List Node) → Extends bank new → item_at new n ≡ Some x → P n new) → Stands bank (put x bank) P
  put_stands x bank P stands parts right = by (takes bank x) refl
    where
      by : (b : Bool) → takes bank x ≡ b → Stands bank (if b then Done (number_of bank x) (with_node bank x) else Fault (code.E16 limit) bank) P
      by true e =
          let extends : Extends bank (with_node bank x) = record { begins = laws.begins bank x; bank = laws.bank bank x stands parts e } in
          (extends, right (number_of bank x) (with_node bank x) extends (laws.number bank x))
      by false e = _

  -- a formula is as true as its own equation says of its parts in the new bank
  pub formula_stands : (f : Formula) (b : Bool) (bank : List Node) → IsBank bank → FormulaStands bank f → ((new : List Node) → Extends bank new → truth_of no_parts i (bank_meaning new i) f ≡ b) → Stands bank (put_formula f bank) (λ n new. HasTruth new n b)
  formula_stands f b bank stands parts own =
      put_stands (nodes.Formula f) bank (λ n new. HasTruth new n b) stands parts
      (λ n new e at. (subst (λ o. is_formula o ≡ true) (sym at) refl, (laws.fit new e.bank i proper).truths n f at ∙ own new e))

  pub set_stands : (s : SetTerm) (xs : List ℤ) (bank : List Node) → IsBank bank → SetStands bank s → ((new : List Node) → Extends bank new → members_of i (bank_meaning new i) s ≡ xs) → Stands bank (put (nodes.Set s) bank) (λ n new. HasMembers new n xs)
  set_stands s xs bank stands parts own =
      put_stands (nodes.Set s) bank (λ n new. HasMembers new n xs) stands parts
      (λ n new e at. (subst (λ o. is_set o ≡ true) (sym at) refl, (laws.fit new e.bank i proper).sets n s at ∙ own new e))

  pub element_stands : (x : Element) (z : ℤ) (bank : List Node) → IsBank bank → ElementStands bank x → ((new : List Node) → Extends bank new → element_of no_parts i (bank_meaning new i) x ≡ z) → Stands bank (put (nodes.Element x) bank) (λ n new. HasValue new n z)
  element_stands x z bank stands parts own =
      put_stands (nodes.Element x) bank (λ n new. HasValue new n z) stands parts
      (λ n new e at. (subst (λ o. is_element o ≡ true) (sym at) refl, (laws.fit new e.bank i proper).elements n x at ∙ own new e))
