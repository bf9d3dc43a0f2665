-- A path on which nothing is due is settled.
use Rattle.std.proofs.Common.{◌≡◌, ◌≢◌, ℕ, ◌<◌, ◌≤◌, Bool, true, false, List, [], ◌∷◌, length, Option, Some, None, inl, inr, refl, sym, ap, subst, ◌∙◌, arith}
use Rattle.std.specs.Prelude.{is_some, nat_lt, if◌then◌else◌}
use Rattle.std.specs.List.{AllByRecursion}
use Rattle.std.proofs.lemmas.Bool.{false≢true}
use Rattle.sc_base.proofs.Bools.{or_true}
use Rattle.sc_terms.specs.declared.problem.Parts.{Parts}
use Rattle.sc_terms.specs.Lookup.{formula_at}
use Rattle.sc_terms.specs.Conditions.{IsIn}
use Rattle.sc_terms.proofs.Ranges.{item_in}
use Rattle.sc_facts.specs.declared.fact.Fact.{Fact}
use Rattle.sc_facts.specs.declared.fact.Fact.TheVariants as facts
use Rattle.sc_facts.specs.Same.{same_fact, same_fact-Decides}
use Rattle.sc_facts.specs.Facts.{has}
use Rattle.sc_sorts.specs.Sorts.{may_hold}
use Rattle.sc_rules.specs.Pairs.{ordered, equal}
use Rattle.sc_rules.specs.Boolean.{sign}
use Rattle.sc_rules.specs.Members.{within_of}
use Rattle.sc_classes.specs.Classes.{Merges}
use Rattle.sc_tree.specs.Events.{HasNoClash}
use Rattle.sc_model.specs.Settled.{IsBorneOut, IsSettledBy}
use Rattle.sc_model.specs.Modelling.{label_in}
use Rattle.sc_model.specs.Deciding.{AreLabelsOf, FollowsIn, IsDecidedIn, HasOtherLabels, HasMoves, IsTold}
use Rattle.sc_model.proofs.Held.{element_in_range}
use Rattle.sc_model.proofs.Following.{set_in_range}

-- what holds of each fact holds of one that stands there
all_has : (P : Fact → Type 0) (path : List Fact) (fact : Fact) → AllByRecursion P path → has path fact ≡ true → P fact
all_has P [] fact h e = absurd (false≢true e)
all_has P (x ∷ path) fact h e =
    elim (or_true (same_fact fact x) (has path fact) e) [
      | inl a ↦ subst P (sym ((same_fact-Decides fact x).0 a)) h.0
      | inr b ↦ all_has P path fact h.1 b
    ]

some_sign : (o : Option Bool) → is_some o ≡ true → (b : Bool) × (o ≡ Some b)
some_sign None h = absurd (false≢true h)
some_sign (Some b) h = (b, refl)

low_first : (e f : ℕ) → nat_lt f e ≡ false → e ≤ f
low_first e f h = grind arith

high_first : (e f : ℕ) → nat_lt f e ≡ true → f ≤ e
high_first e f h = grind arith

other_labels : (problem : Parts) (path : List Fact) (label : ℕ → ℕ) → AllByRecursion (HasOtherLabels problem label) path → (e f : ℕ) → IsIn (length problem.elements) e → IsIn (length problem.elements) f → equal path e f false ≡ true → label e ≢ label f
other_labels problem path label all e f in_e in_f h = by (nat_lt f e) refl
  where
    by : (b : Bool) → nat_lt f e ≡ b → label e ≢ label f
    by true g =
        let is : ordered e f ≡ (f, e) = ap (λ b. if b then (f, e) else (e, f)) g in
        let other = all_has (HasOtherLabels problem label) path (facts.Eq f e false) all (subst (λ (p : ℕ × ℕ). has path (facts.Eq p.0 p.1 false) ≡ true) is h) in
        λ same. other (high_first e f g) in_f in_e (sym same)
    by false g =
        let is : ordered e f ≡ (e, f) = ap (λ b. if b then (f, e) else (e, f)) g in
        all_has (HasOtherLabels problem label) path (facts.Eq e f false) all (subst (λ (p : ℕ × ℕ). has path (facts.Eq p.0 p.1 false) ≡ true) is h) (low_first e f g) in_e in_f

pub settled_is : (problem : Parts) (path : List Fact) (merges : Merges) (labels : List ℕ) → AllByRecursion (λ r. sign path r true ≡ true) problem.roots → HasNoClash path → AreLabelsOf problem path merges labels → AllByRecursion (HasOtherLabels problem (label_in labels)) path → ((s : ℕ) → IsIn (length problem.sets) s → FollowsIn problem path (label_in labels) s) → ((n : ℕ) → IsIn (length problem.formulas) n → HasMoves problem path n) → ((n : ℕ) → IsIn (length problem.formulas) n → IsBorneOut problem path n) → ((n : ℕ) → IsIn (length problem.formulas) n → IsTold problem path n) → ((s : ℕ) → IsIn (length problem.sets) s → IsDecidedIn problem path s) → IsSettledBy problem path (label_in labels)
settled_is problem path merges labels roots consistent are apart follows moved borne told decided = record {
  roots = roots;
  consistent = consistent;
  borne_out = λ n node b at e. borne n (item_in problem.formulas n node at) node b at e;
  decided = is_decided;
  ops = λ e s may. (follows s (set_in_range problem s e may) e (element_in_range problem s e may) may).op;
  singles = λ e s may. (follows s (set_in_range problem s e may) e (element_in_range problem s e may) may).single;
  moves = λ n s t e at may. moved n (item_in problem.formulas n _ at) s t at e (element_in_range problem s e may) may;
  told = λ n s t at said. told n (item_in problem.formulas n _ at) s t at said;
  same = are.same;
  apart = other_labels problem path (label_in labels) apart;
  congruent = λ e f s may_e may_f same.
      let a = some_sign (within_of path e s) (is_decided e s may_e) in
      let b = some_sign (within_of path f s) (is_decided f s may_f) in
      let to_e = (follows s (set_in_range problem s e may_e) e (element_in_range problem s e may_e) may_e).labelled a.0 a.1 in
      let to_f = (follows s (set_in_range problem s f may_f) f (element_in_range problem s f may_f) may_f).labelled b.0 b.1 in
      a.1 ∙ (sym to_e ∙ (ap (λ l. within_of path l s) same ∙ (to_f ∙ sym b.1)));
}
  where
    is_decided : (e s : ℕ) → may_hold problem s e ≡ true → is_some (within_of path e s) ≡ true
    is_decided e s may = decided s (set_in_range problem s e may) e (element_in_range problem s e may) may
