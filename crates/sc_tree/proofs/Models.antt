-- The model of a legal history makes the roots true.
use Rattle.std.proofs.Common.{◌≡◌, ℕ, Bool, true, false, cond, ◌⊎◌, inl, inr, List, [], ◌∷◌, Option, Some, None, subst}
use Rattle.std.specs.Bool.{MatchBool}
use Rattle.std.proofs.lemmas.Option.{same_Some}
use Rattle.sc_terms.specs.declared.problem.Parts.{Parts}
use Rattle.sc_base.specs.Numbered.{item_at}
use Rattle.sc_terms.specs.Values.{ValueMap, Shows}
use Rattle.sc_tree.specs.declared.machine.Mark.TheVariants as marks
use Rattle.sc_tree.specs.declared.machine.Event.{Event}
use Rattle.sc_tree.specs.declared.machine.Event.TheVariants as events
use Rattle.sc_tree.specs.declared.machine.Entry.{Entry}
use Rattle.sc_tree.specs.Events.{AllowsOn}
use Rattle.sc_tree.specs.Machine.{Cell, State, root_state, with_cell, marked, changed, is_free_for, touched, next_at, next, state_from, state_of, Goes, IsStep, IsLegalFrom, IsLegal}

module _ (problem : Parts) (budget : ℕ) where
  abbrev ShowsIfAny : Option ValueMap → Type 0
  ShowsIfAny model = (values : ValueMap) → model ≡ Some values → Shows problem values

  changed-shows : (s : State) (seat n : ℕ) (c d : Cell) (event : Event) → ShowsIfAny s.model → (event ≡ events.Take) ⊎ AllowsOn problem budget d.path d.steps event → ShowsIfAny (changed problem s seat n c event).model
  changed-shows s seat n c d events.Take shows may = shows
  changed-shows s seat n c d (events.Grow chain) shows may = shows
  changed-shows s seat n c d (events.Split step) shows may = shows
  changed-shows s seat n c d (events.Close closing) shows may = shows
  changed-shows s seat n c d (events.Spend cause) shows may = shows
  changed-shows s seat n c d (events.Found values) shows (inl other) = absurd cc
  changed-shows s seat n c d (events.Found values) shows (inr h) = λ other e. subst (Shows problem) (same_Some values other e) h

  goes-shows : (s : State) (e : Entry) (c : Cell) → ShowsIfAny s.model → Goes problem budget s e → ShowsIfAny (changed problem s e.seat e.leaf c e.event).model
  goes-shows s e c shows (inl h) = changed-shows s e.seat e.leaf c c e.event shows (inl h.1)
  goes-shows s e c shows (inr h) = changed-shows s e.seat e.leaf c h.place e.event shows (inr h.suits)

  over-shows : (s : State) (e : Entry) (c : Cell) (over : Bool) (P Q : Type 0) → ShowsIfAny s.model → MatchBool over P (Q × Goes problem budget s e) → ShowsIfAny (cond over (with_cell s e.leaf (marked c marks.Open)) (changed problem s e.seat e.leaf c e.event)).model
  over-shows s e c true P Q shows h = shows
  over-shows s e c false P Q shows h = goes-shows s e c shows h.1

  guarded-shows : (s : State) (e : Entry) (c : Cell) (free : Bool) → ShowsIfAny s.model → IsStep problem budget s e → ShowsIfAny (cond free (touched problem s e c) s).model
  guarded-shows s e c false shows h = shows
  guarded-shows s e c true shows h = over-shows s e c e.over _ _ shows h

  at-shows : (s : State) (e : Entry) (o : Option Cell) → ShowsIfAny s.model → IsStep problem budget s e → ShowsIfAny (next_at problem s e o).model
  at-shows s e None shows h = shows
  at-shows s e (Some c) shows h = guarded-shows s e c (is_free_for e.seat c.mark) shows h

  from-shows : (s : State) (es : List Entry) → ShowsIfAny s.model → IsLegalFrom problem budget s es → ShowsIfAny (state_from problem s es).model
  from-shows s [] shows legal = shows
  from-shows s (e ∷ es) shows legal = from-shows (next problem s e) es (at-shows s e (item_at s.cells e.leaf) shows legal.0) legal.1

pub models_show : (problem : Parts) (budget : ℕ) (journal : List Entry) → IsLegal problem budget journal → (values : ValueMap) → (state_of problem journal).model ≡ Some values → Shows problem values
models_show problem budget journal legal = from-shows problem budget (root_state problem) journal (λ values e. absurd cc) legal
