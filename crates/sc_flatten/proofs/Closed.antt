-- What a walk meets: the formulas that it begins with, and with each node its parts.
use Rattle.std.proofs.Common.{ℕ, zero, suc, List, length, inl, inr, refl, sym, subst, ◌∙◌, arith, nat_eq}
use Rattle.std.specs.List.{IsDistinct, AllByRecursion, flat_map}
use Rattle.std.proofs.lemmas.Bool.{false≢true}
use Rattle.sc_base.specs.Numbered.{item_at}
use Rattle.sc_terms.specs.declared.nodes.Node.{Node}
use Rattle.sc_terms.specs.Bank.{is_formula, IsFormulaOf, IsBank}
use Rattle.sc_terms.specs.Conditions.{IsIn}
use Rattle.sc_flatten.specs.Walk.{parts_at, preorder, met, order_of}
use Rattle.sc_flatten.specs.Numbered.{IsAmong}
use Rattle.sc_flatten.specs.Laws.{AreFormulasOf}
use Rattle.sc_flatten.proofs.Lists.{among_first, among_later, among_cases, among_of, among_some, all_from, all_to}
use Rattle.sc_flatten.proofs.Firsts.{among-firsts, distinct-firsts}
use Rattle.sc_flatten.proofs.Below.{parts_below, item_within}

-- Numbers of a bank's nodes, each once, among which are the parts of each.
pub record IsClosed (bank : List Node) (order : List ℕ) : Type 0 where
  pub distinct : IsDistinct nat_eq order
  pub range : (n : ℕ) → IsAmong order n → IsIn (length bank) n
  pub parts : (n p : ℕ) → IsAmong order n → IsAmong (parts_at (item_at bank n)) p → IsAmong order p

module _ (bank : List Node) (is : IsBank bank) where
  pub met_first : (d n : ℕ) → IsIn d n → IsAmong (preorder bank d n) n
  met_first zero n h = absurd (omega (arith, h.0, h.1))
  met_first (suc d) n h = among_first n (flat_map (preorder bank d) (parts_at (item_at bank n)))

  pub met_range : (d n m : ℕ) → IsIn d n → IsAmong (preorder bank d n) m → IsIn n m
  met_range zero n m h e = absurd (false≢true e)
  met_range (suc d) n m h e =
      elim (among_cases m n (flat_map (preorder bank d) (parts_at (item_at bank n))) e) [
        | inl s ↦ subst (λ k. IsIn n k) (sym s) (h.0, omega arith)
        | inr t ↦
            let q = among_some (preorder bank d) (parts_at (item_at bank n)) m t in
            let low = parts_below bank is n q.0 q.1 in
            let r = met_range d q.0 m (low.0, omega (arith, low.1, h.1)) q.2 in
            (r.0, omega (arith, r.1, low.1))
      ]

  pub met_parts : (d n m p : ℕ) → IsIn d n → IsAmong (preorder bank d n) m → IsAmong (parts_at (item_at bank m)) p → IsAmong (preorder bank d n) p
  met_parts zero n m p h e k = absurd (false≢true e)
  met_parts (suc d) n m p h e k =
      among_later p n (flat_map (preorder bank d) (parts_at (item_at bank n)))
      (elim (among_cases m n (flat_map (preorder bank d) (parts_at (item_at bank n))) e) [
        | inl s ↦
            let own : IsAmong (parts_at (item_at bank n)) p = subst (λ j. IsAmong (parts_at (item_at bank j)) p) s k in
            let low = parts_below bank is n p own in
            among_of (preorder bank d) (parts_at (item_at bank n)) p p own (met_first d p (low.0, omega (arith, low.1, h.1)))
        | inr t ↦
            let q = among_some (preorder bank d) (parts_at (item_at bank n)) m t in
            let low = parts_below bank is n q.0 q.1 in
            among_of (preorder bank d) (parts_at (item_at bank n)) q.0 p q.1 (met_parts d q.0 m p (low.0, omega (arith, low.1, h.1)) q.2 k)
      ])

  module _ (assertions : List ℕ) (formulas : AreFormulasOf bank assertions) where
    in_range : (a : ℕ) → IsAmong assertions a → IsIn (length bank) a
    in_range a h = item_within is_formula refl bank a (all_to (IsFormulaOf bank) assertions formulas a h)

    in_order : (m : ℕ) → IsAmong (met bank assertions) m → IsAmong (order_of bank assertions) m
    in_order m h = among-firsts m (met bank assertions) ∙ h

    in_met : (m : ℕ) → IsAmong (order_of bank assertions) m → IsAmong (met bank assertions) m
    in_met m h = sym (among-firsts m (met bank assertions)) ∙ h

    pub assertions_met : AllByRecursion (IsAmong (order_of bank assertions)) assertions
    assertions_met = all_from (IsAmong (order_of bank assertions)) assertions (λ a h. in_order a (among_of (preorder bank (length bank)) assertions a a h (met_first (length bank) a (in_range a h))))

    pub order_closed : IsClosed bank (order_of bank assertions)
    order_closed = record {
      distinct = distinct-firsts (met bank assertions);
      range = λ m h.
          let a = among_some (preorder bank (length bank)) assertions m (in_met m h) in
          let top = in_range a.0 a.1 in
          let r = met_range (length bank) a.0 m top a.2 in
          (r.0, omega (arith, r.1, top.1));
      parts = λ m p h k.
          let a = among_some (preorder bank (length bank)) assertions m (in_met m h) in
          in_order p (among_of (preorder bank (length bank)) assertions a.0 p a.1 (met_parts (length bank) a.0 m p (in_range a.0 a.1) a.2 k));
    }
