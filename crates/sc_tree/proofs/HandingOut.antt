-- A leaf that is handed out.
use Rattle.std.proofs.Common.{◌≡◌, ℕ, ◌+◌, true, List, [], ◌∷◌, Option, Some, None, refl, sym, ap, ◌∙◌, subst}
use Rattle.std.specs.Prelude.{is_some, slice_get, MatchOption}
use Rattle.std.proofs.lemmas.Option.{same_Some}
use Rattle.sc_base.specs.Numbered.{item_at}
use Rattle.sc_terms.specs.declared.problem.Parts.{Parts}
use Rattle.sc_facts.specs.Paths.{PathFacts}
use Rattle.sc_deriv.specs.declared.derivation.Taken.{Taken}
use Rattle.sc_deriv.specs.Taking.{path_after}
use Rattle.sc_tree.specs.declared.machine.Mark.TheVariants as marks
use Rattle.sc_tree.specs.declared.machine.Place.{Place}
use Rattle.sc_tree.specs.declared.seats.Holding.{Holding}
use Rattle.sc_tree.specs.Machine.{Kept, state, HasMark}
use Rattle.sc_tree.specs.Keeping.{IsKept}
use Rattle.sc_tree.specs.Answering.{IsOpenLeaf}
use Rattle.sc_tree.specs.Climbing.{steps_or, GoesTo, IsPathAfter}
use Rattle.sc_tree.proofs.Comes.{all_come}
use Rattle.sc_tree.proofs.Tried.{leaves_are_tried}
use Rattle.sc_tree.proofs.Kept.{top-open}

-- a list with a first item
pub first_of : (xs : List ℕ) (n : ℕ) → slice_get xs 0 ≡ Some n → (rest : List ℕ) × (xs ≡ n ∷ rest)
first_of [] n e = absurd cc
first_of (x ∷ xs) n e = (xs, ap (λ y. y ∷ xs) (same_Some x n e))

pub none_of : (xs : List ℕ) → slice_get xs 0 ≡ None → xs ≡ []
none_of [] e = refl
none_of (x ∷ xs) e = absurd cc

pub top_mark : (t : Kept) (places : List Place) (opened : List ℕ) (held : List Holding) (found : Option ℕ) (n : ℕ) → IsKept t.problem t.budget places opened held found t.journal → slice_get opened 0 ≡ Some n → HasMark (state t).cells n marks.Open
top_mark t places opened held found n k e =
    let top = first_of opened n e in
    top-open t.problem t.budget places opened top.0 held found t.journal n k top.1

pub goes_to : (t : Kept) (places : List Place) (opened : List ℕ) (held : List Holding) (found : Option ℕ) (n : ℕ) → IsKept t.problem t.budget places opened held found t.journal → HasMark (state t).cells n marks.Open → GoesTo places (state t).cells n
goes_to t places opened held found n k h =
    record { places_are = k.places_are; come = all_come t.problem t.journal; there = ap is_some h.1 }

-- the steps of an open leaf lead to its path
pub path_some : (t : Kept) (places : List Place) (opened : List ℕ) (held : List Holding) (found : Option ℕ) (n : ℕ) (problem : Parts) (steps : List Taken) → IsKept t.problem t.budget places opened held found t.journal → HasMark (state t).cells n marks.Open → t.problem ≡ problem → steps ≡ steps_or (item_at (state t).cells n) → is_some (path_after problem steps) ≡ true
path_some t places opened held found n problem steps k h about e =
    let c = h.0 in
    let own : steps ≡ c.steps = e ∙ ap steps_or h.1 in
    let tried = leaves_are_tried t.problem t.budget t.journal k.legal n c h.1 in
    ap is_some (ap (λ s. path_after problem s) own ∙ subst (λ p. path_after p c.steps ≡ Some c.path) about tried.leads)

pub open_leaf : (t : Kept) (places : List Place) (opened : List ℕ) (held : List Holding) (found : Option ℕ) (n : ℕ) (problem : Parts) (path : PathFacts) (steps : List Taken) → IsKept t.problem t.budget places opened held found t.journal → HasMark (state t).cells n marks.Open → t.problem ≡ problem → steps ≡ steps_or (item_at (state t).cells n) → IsPathAfter problem steps path → IsOpenLeaf t n path steps
open_leaf t places opened held found n problem path steps k h about e after =
    let c = h.0 in
    let own : steps ≡ c.steps = e ∙ ap steps_or h.1 in
    let tried = leaves_are_tried t.problem t.budget t.journal k.legal n c h.1 in
    let leads : path_after problem c.steps ≡ Some c.path = subst (λ p. path_after p c.steps ≡ Some c.path) about tried.leads in
    record {
      cell = c;
      is = h.1;
      was = h.2;
      roots = after.1 ∙ ap (λ (p : Parts). p.roots) (sym about);
      facts = same_Some path.facts c.path (sym after.0 ∙ (ap (λ s. path_after problem s) own ∙ leads));
      taken = own;
    }

-- the leaf that is taken off is the one that was seen
pub popped : (r : Option ℕ) (opened new : List ℕ) (n : ℕ) → slice_get opened 0 ≡ Some n → MatchOption r ((opened ≡ []) × (new ≡ [])) (λ top. opened ≡ top ∷ new) → opened ≡ n ∷ new
popped None opened new n e h = absurd (let none : None ≡ Some n = sym (ap (λ l. slice_get l 0) h.0) ∙ e in cc)
popped (Some top) opened new n e h = h ∙ ap (λ (x : ℕ). x ∷ new) (same_Some top n (sym (ap (λ l. slice_get l 0) h) ∙ e))

pub popped_count : (r : Option ℕ) (opened new : List ℕ) (n before after : ℕ) → slice_get opened 0 ≡ Some n → MatchOption r ((opened ≡ []) × (new ≡ [])) (λ top. opened ≡ top ∷ new) → MatchOption r (after ≡ before) (λ _. after + 1 ≡ before) → after + 1 ≡ before
popped_count None opened new n before after e h k = absurd (let none : None ≡ Some n = sym (ap (λ l. slice_get l 0) h.0) ∙ e in cc)
popped_count (Some top) opened new n before after e h k = k
