-- What a leaf allows.
use Rattle.std.proofs.Common.{◌≡◌, ◌≢◌, ℕ, zero, suc, ◌<◌, ◌≤◌, Bool, true, false, cond, List, [], ◌∷◌, ◌++◌, length, Option, Some, None, refl, sym, ap, subst, ◌∙◌, append-nil, length-append, arith}
use Rattle.std.specs.Prelude.{is_some, IsTrue}
use Rattle.std.specs.List.{AllByRecursion}
use Rattle.std.proofs.lemmas.Bool.{false≢true}
use Rattle.sc_base.specs.Numbered.{item_at}
use Rattle.sc_base.specs.Options.{◌>>=◌}
use Rattle.sc_base.proofs.Bools.{or_right}
use Rattle.sc_terms.specs.declared.nodes.Formula.{Formula}
use Rattle.sc_terms.specs.declared.problem.Parts.{Parts}
use Rattle.sc_terms.specs.Lookup.{formula_at}
use Rattle.sc_terms.specs.Conditions.{IsIn}
use Rattle.sc_facts.specs.declared.fact.Fact.{Fact}
use Rattle.sc_facts.specs.declared.fact.Fact.TheVariants as facts
use Rattle.sc_facts.specs.declared.name.FactName.{FactName}
use Rattle.sc_facts.specs.declared.name.FactName.TheVariants as names
use Rattle.sc_facts.specs.Same.{same_fact, same_fact-Decides}
use Rattle.sc_facts.specs.Facts.{has, root_facts}
use Rattle.sc_facts.specs.Paths.{with_facts}
use Rattle.sc_rules.specs.declared.step.PlainStep.TheVariants.{Cut}
use Rattle.sc_rules.specs.Boolean.{sign}
use Rattle.sc_rules.specs.Steps.{branches}
use Rattle.sc_deriv.specs.declared.derivation.Closing.TheVariants.{Clash}
use Rattle.sc_deriv.specs.declared.derivation.Step.{Step}
use Rattle.sc_deriv.specs.declared.derivation.Step.TheVariants.{Plain}
use Rattle.sc_deriv.specs.declared.derivation.Taken.{Taken}
use Rattle.sc_deriv.specs.declared.derivation.Reason.TheVariants.{Q2}
use Rattle.sc_deriv.specs.Acceptance.{clashes}
use Rattle.sc_deriv.specs.Taking.{path_after}
use Rattle.sc_tree.specs.declared.machine.Event.TheVariants as events
use Rattle.sc_tree.specs.Chains.{taken, grow, firsts}
use Rattle.sc_tree.specs.Lean.{IsWithin}
use Rattle.sc_tree.specs.Events.{HasNoClash, Closes, AllowsOn}
use Rattle.sc_branch.specs.Growing.{Held, IsOn, IsHeldAfter, Growth, IsGrown, GoesOn}
use Rattle.sc_branch.proofs.Steps.{path_keeps}

-- ---- growing
abbrev pub held : Parts → Growth → Held
held about g = record { problem = about; path = g.path; steps = g.steps }

module _ (problem : Parts) (budget : ℕ) (about : Parts) (h : Held) (old new rest : Growth) (chain : List Step) (is : h ≡ held about old) (none : old.chain ≡ []) (on : IsOn problem budget h.path.facts h.steps) (goes : GoesOn problem budget old new) (took : chain ≡ new.chain) (left : rest ≡ record { path = new.path; steps = new.steps; chain = [] }) where
  start : IsGrown problem budget (held about old) old
  start = record {
    on = subst (λ x. IsOn problem budget x.path.facts x.steps) is on;
    grown = ap (grow problem old.path.facts) none;
    path = refl;
    steps = sym (append-nil old.steps) ∙ ap (λ c. old.steps ++ firsts c) (sym none);
  }

  after : IsGrown problem budget (held about old) new
  after = goes (held about old) start

  pub taken_allowed : chain ≢ [] → AllowsOn problem budget h.path.facts h.steps (events.Grow chain)
  taken_allowed some =
      let steps : new.steps ≡ h.steps ++ firsts chain = after.steps ∙ (ap (λ x. x.steps ++ firsts new.chain) (sym is) ∙ ap (λ c. h.steps ++ firsts c) (sym took)) in
      let grown : grow problem h.path.facts chain ≡ Some new.path.facts = ap (grow problem h.path.facts) took ∙ (ap (λ x. grow problem x.path.facts new.chain) is ∙ after.grown) in
      (some, ap is_some grown, subst (IsWithin problem budget) steps after.on.within)

  pub taken_held : IsHeldAfter problem h (events.Grow chain) (held about rest)
  taken_held =
      subst (λ r. IsHeldAfter problem h (events.Grow chain) (held about r)) (sym left)
      (subst (λ x. IsHeldAfter problem x (events.Grow chain) (held about new)) (sym is) (subst (λ c. IsHeldAfter problem (held about old) (events.Grow c) (held about new)) (sym took) (after.grown, after.path, after.steps, refl)))

  pub nothing_held : chain ≡ [] → held about rest ≡ h
  nothing_held nothing =
      let empty : new.chain ≡ [] = sym took ∙ nothing in
      let facts : new.path.facts ≡ old.path.facts = let same : Some old.path.facts ≡ Some new.path.facts = ap (grow problem old.path.facts) (sym empty) ∙ after.grown in cc in
      let path : new.path ≡ old.path = after.path ∙ ap (with_facts old.path) facts in
      let steps : new.steps ≡ old.steps = after.steps ∙ (ap (λ c. old.steps ++ firsts c) empty ∙ append-nil old.steps) in
      ap (held about) left ∙ ((λ i. record { problem = about; path = path i; steps = steps i }) ∙ sym is)

pub no_items : {X : Type 0} (xs : List X) (b : Bool) → (IsTrue b → length xs ≡ 0) → b ≡ true → xs ≡ []
no_items [] b h e = refl
no_items (x ∷ xs) b h e = absurd (omega (arith, h (subst IsTrue (sym e) refl)))

-- ---- closing
pub close_allowed : (path : List Fact) (name : FactName) → clashes path name ≡ true → Closes path (Clash name)
close_allowed path name e = ap (λ b. cond b None (Some Q2)) e

-- ---- the roots
root_there : (rs : List ℕ) (r : ℕ) → has (root_facts (r ∷ rs)) (facts.Sign r true) ≡ true
root_there rs r = rw ((same_fact-Decides (facts.Sign r true) (facts.Sign r true)).1 refl) refl

pub roots_there : (problem : Parts) (path : List Fact) (steps : List Taken) → path_after problem steps ≡ Some path → AllByRecursion (λ r. sign path r true ≡ true) problem.roots
roots_there problem path steps leads = all problem.roots (λ x h. path_keeps problem (root_facts problem.roots) path steps leads x h)
  where
    all : (rs : List ℕ) → ((x : Fact) → has (root_facts rs) x ≡ true → has path x ≡ true) → AllByRecursion (λ r. sign path r true ≡ true) rs
    all [] keeps = tt
    all (r ∷ rs) keeps = (keeps (facts.Sign r true) (root_there rs r), all rs (λ x h. keeps x (or_right (same_fact x (facts.Sign r true)) (has (root_facts rs) x) h)))
