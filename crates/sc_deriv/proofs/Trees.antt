-- The judgement accepts exactly the closed trees, and refuses the first node that fails of the others.
use Rattle.std.proofs.Common.{◌≡◌, ℕ, suc, ◌+◌, Bool, true, false, List, [], ◌∷◌, ◌++◌, length, Option, Some, None, Result, Ok, Err, ◌⊎◌, inl, inr, refl, sym, ap, subst, ◌∙◌, append_assoc, append-nil, arith, length-append}
use Rattle.std.specs.Prelude.{if◌then◌else◌}
use Rattle.sc_terms.specs.declared.problem.Parts.{Parts}
use Rattle.sc_facts.specs.declared.fact.Fact.{Fact}
use Rattle.sc_deriv.specs.declared.derivation.Step.{Step}
use Rattle.sc_deriv.specs.declared.derivation.Closing.{Closing}
use Rattle.sc_deriv.specs.declared.derivation.Closing.TheVariants.{Clash}
use Rattle.sc_deriv.specs.declared.derivation.Node.{Node}
use Rattle.sc_deriv.specs.declared.derivation.Node.TheVariants as nodes
use Rattle.sc_deriv.specs.declared.derivation.Reason.{Reason}
use Rattle.sc_deriv.specs.declared.derivation.Reason.TheVariants.{Q1, Q2}
use Rattle.sc_deriv.specs.declared.derivation.Judgement.{Judgement}
use Rattle.sc_deriv.specs.declared.derivation.Judgement.TheVariants.{Accepted, Refused}
use Rattle.sc_deriv.specs.Acceptance.{step_branches, clashes, closing_fault, Closed, closing, one, two, Fails}
use Rattle.sc_deriv.specs.Acceptance as trees
use Rattle.sc_deriv.specs.Judging.{step_outcome, closing_outcome, outcome, go_on, judge, judgement_on}
use Rattle.sc_deriv.specs.Spelling.{step_count, branch_count, IsTree}
use Rattle.sc_deriv.specs.Spelling as spelling
use Rattle.sc_deriv.specs.Laws.{AcceptsClosedTrees, RefusesFirstFailure, is_of_nodes, FailsByNodes}
use Rattle.sc_deriv.proofs.Counting.{count_of_branches, some_branch, at_most_two}

module _ (problem : Parts) (lists : List (List Fact)) where
  -- what follows a closed tree is judged over the other paths
  closed-judged : (path : List Fact) (ns : List Node) → Closed problem lists path ns → (paths : List (List Fact)) (rest : List Node) (k : ℕ) → judge problem lists (path ∷ paths) (ns ++ rest) k ≡ judge problem lists paths rest (k + length ns)
  closed-judged path ns (closing _ c e) paths rest k = rw e refl
  closed-judged path ns (one _ branch step below e c) paths rest k =
      let count : (k + 1) + length below ≡ k + suc (length below) = omega arith in
      rw e (closed-judged (path ++ branch) below c paths rest (k + 1) ∙ ap (λ n. judge problem lists paths rest n) count)
  closed-judged path ns (two _ left right step first second e l r) paths rest k =
      let count : ((k + 1) + length first) + length second ≡ k + suc (length (first ++ second)) = omega (arith, length-append first second) in
      rw (e, append_assoc first second rest)
      (closed-judged (path ++ left) first l ((path ++ right) ∷ paths) (second ++ rest) (k + 1)
      ∙ closed-judged (path ++ right) second r paths rest ((k + 1) + length first)
      ∙ ap (λ n. judge problem lists paths rest n) count)

  fails-judged : (path : List Fact) (ns : List Node) (n : ℕ) (reason : Reason) → Fails problem lists path ns n reason → (paths : List (List Fact)) (rest : List Node) (k : ℕ) → judge problem lists (path ∷ paths) (ns ++ rest) k ≡ Refused (k + n) reason
  fails-judged path ns n reason (trees.Fails.step _ step below e) paths rest k = rw e refl
  fails-judged path ns n reason (trees.Fails.closing _ c below _ e) paths rest k = rw e refl
  fails-judged path ns n reason (trees.Fails.in_only _ branch step below m _ e f) paths rest k =
      let count : (k + 1) + m ≡ k + (1 + m) = omega arith in
      rw e (fails-judged (path ++ branch) below m reason f paths rest (k + 1) ∙ ap (λ x. Refused x reason) count)
  fails-judged path ns n reason (trees.Fails.in_first _ left right step first second m _ e f) paths rest k =
      let count : (k + 1) + m ≡ k + (1 + m) = omega arith in
      rw (e, append_assoc first second rest)
      (fails-judged (path ++ left) first m reason f ((path ++ right) ∷ paths) (second ++ rest) (k + 1) ∙ ap (λ x. Refused x reason) count)
  fails-judged path ns n reason (trees.Fails.in_second _ left right step first second m _ e l f) paths rest k =
      let count : ((k + 1) + length first) + m ≡ k + (1 + length first + m) = omega arith in
      rw (e, append_assoc first second rest)
      (closed-judged (path ++ left) first l ((path ++ right) ∷ paths) (second ++ rest) (k + 1)
      ∙ fails-judged (path ++ right) second m reason f paths rest ((k + 1) + length first)
      ∙ ap (λ x. Refused x reason) count)

  -- the nodes are a closed tree for each of the paths, one after another
  abbrev AllClosed : List (List Fact) → List Node → Type 0
  AllClosed [] ns = ns ≡ []
  AllClosed (path ∷ paths) ns = (first : List Node) × (rest : List Node) × (ns ≡ first ++ rest) × Closed problem lists path first × AllClosed paths rest

  go_on-accepted : (r : Result (List (List Fact)) Reason) (k : ℕ) (next : List (List Fact) → Judgement) → go_on r k next ≡ Accepted → (paths : List (List Fact)) × (r ≡ Ok paths) × (next paths ≡ Accepted)
  go_on-accepted (Ok paths) k next e = (paths, refl, e)
  go_on-accepted (Err reason) k next e = absurd cc

  -- after a closing
  all-closing : (path : List Fact) (paths : List (List Fact)) (c : Closing) (ns : List Node) (new : List (List Fact)) (o : Option Reason) → closing_fault lists path c ≡ o → closing_outcome o ≡ Ok new → AllClosed (new ++ paths) ns → AllClosed (path ∷ paths) (nodes.Closing c ∷ ns)
  all-closing path paths c ns new None e out all =
      let none : [] ≡ new = cc in
      (nodes.Closing c ∷ [], ns, refl, closing path c e, subst (λ p. AllClosed (p ++ paths) ns) (sym none) all)
  all-closing path paths c ns new (Some reason) e out all = absurd cc

  -- after a step
  all-step : (path : List Fact) (paths : List (List Fact)) (step : Step) (ns : List Node) (new : List (List Fact)) (o : Option (List (List Fact))) → step_branches problem path step ≡ o → step_outcome path o ≡ Ok new → AllClosed (new ++ paths) ns → AllClosed (path ∷ paths) (nodes.Step step ∷ ns)
  all-step path paths step ns new None e out all = absurd cc
  all-step path paths step ns new (Some []) e out all = absurd (some_branch step (count_of_branches problem path step [] e))
  all-step path paths step ns new (Some (b ∷ [])) e out all =
      let same : (path ++ b) ∷ [] ≡ new = cc in
      let one_more : AllClosed ((path ++ b) ∷ paths) ns = subst (λ p. AllClosed (p ++ paths) ns) (sym same) all in
      (nodes.Step step ∷ one_more.0, one_more.1, ap (λ xs. nodes.Step step ∷ xs) one_more.2, one path b step one_more.0 e one_more.3, one_more.4)
  all-step path paths step ns new (Some (b ∷ c ∷ [])) e out all =
      let same : (path ++ b) ∷ (path ++ c) ∷ [] ≡ new = cc in
      let both : AllClosed ((path ++ b) ∷ (path ++ c) ∷ paths) ns = subst (λ p. AllClosed (p ++ paths) ns) (sym same) all in
      let second = both.4 in (
        nodes.Step step ∷ both.0 ++ second.0,
        second.1,
        ap (λ xs. nodes.Step step ∷ xs) (both.2 ∙ ap (λ xs. both.0 ++ xs) second.2 ∙ sym (append_assoc both.0 second.0 second.1)),
        two path b c step both.0 second.0 e both.3 second.3,
        second.4,
      )
  all-step path paths step ns new (Some (b ∷ c ∷ d ∷ more)) e out all = absurd (at_most_two step (length more) (count_of_branches problem path step (b ∷ c ∷ d ∷ more) e))

  all-node : (path : List Fact) (paths : List (List Fact)) (node : Node) (ns : List Node) (new : List (List Fact)) → outcome problem lists path node ≡ Ok new → AllClosed (new ++ paths) ns → AllClosed (path ∷ paths) (node ∷ ns)
  all-node path paths (nodes.Step step) ns new e all = all-step path paths step ns new (step_branches problem path step) refl e all
  all-node path paths (nodes.Closing c) ns new e all = all-closing path paths c ns new (closing_fault lists path c) refl e all

  judged-closed : (ns : List Node) (paths : List (List Fact)) (k : ℕ) → judge problem lists paths ns k ≡ Accepted → AllClosed paths ns
  judged-closed [] [] k e = refl
  judged-closed [] (path ∷ paths) k e = absurd cc
  judged-closed (n ∷ ns) [] k e = absurd cc
  judged-closed (n ∷ ns) (path ∷ paths) k e =
      let next = go_on-accepted (outcome problem lists path n) (k + 1) (λ new. judge problem lists (new ++ paths) ns (k + 1)) e in
      all-node path paths n ns next.0 next.1 (judged-closed ns (next.0 ++ paths) (k + 1) next.2)

  -- a whole tree is closed or fails
  abbrev Decided : List Fact → List Node → Type 0
  Decided path ns = Closed problem lists path ns ⊎ ((n : ℕ) × (reason : Reason) × Fails problem lists path ns n reason)

  decided-closing : (path : List Fact) (c : Closing) (o : Option Reason) → closing_fault lists path c ≡ o → Decided path (nodes.Closing c ∷ [])
  decided-closing path c None e = inl (closing path c e)
  decided-closing path c (Some reason) e = inr (1, reason, trees.Fails.closing path c [] reason e)

  decided-one : (path : List Fact) (step : Step) (rest : List Node) (o : Option (List (List Fact))) → step_branches problem path step ≡ o → step_count step ≡ 1 → ((branch : List Fact) → Decided (path ++ branch) rest) → Decided path (nodes.Step step ∷ rest)
  decided-one path step rest None e count below = inr (1, Q1, trees.Fails.step path step rest e)
  decided-one path step rest (Some []) e count below = absurd (some_branch step (count_of_branches problem path step [] e))
  decided-one path step rest (Some (b ∷ [])) e count below =
      elim (below b) [ inl c ↦ inl (one path b step rest e c) | inr f ↦ inr (1 + f.0, f.1, trees.Fails.in_only path b step rest f.0 f.1 e f.2) ]
  decided-one path step rest (Some (b ∷ c ∷ more)) e count below =
      let two_more : suc (suc (length more)) ≡ 1 = count_of_branches problem path step (b ∷ c ∷ more) e ∙ count in
      absurd (omega (arith, two_more))

  decided-two : (path : List Fact) (step : Step) (first second : List Node) (o : Option (List (List Fact))) → step_branches problem path step ≡ o → step_count step ≡ 2 → ((branch : List Fact) → Decided (path ++ branch) first) → ((branch : List Fact) → Decided (path ++ branch) second) → Decided path (nodes.Step step ∷ first ++ second)
  decided-two path step first second None e count l r = inr (1, Q1, trees.Fails.step path step (first ++ second) e)
  decided-two path step first second (Some []) e count l r = absurd (some_branch step (count_of_branches problem path step [] e))
  decided-two path step first second (Some (b ∷ [])) e count l r =
      let one_more : 1 ≡ 2 = count_of_branches problem path step (b ∷ []) e ∙ count in
      absurd (omega (arith, one_more))
  decided-two path step first second (Some (b ∷ c ∷ [])) e count l r =
      elim (l b) [
        | inl left ↦ elim (r c) [
          | inl right ↦ inl (two path b c step first second e left right)
          | inr f ↦ inr (1 + length first + f.0, f.1, trees.Fails.in_second path b c step first second f.0 f.1 e left f.2)
        ]
        | inr f ↦ inr (1 + f.0, f.1, trees.Fails.in_first path b c step first second f.0 f.1 e f.2)
      ]
  decided-two path step first second (Some (b ∷ c ∷ d ∷ more)) e count l r = absurd (at_most_two step (length more) (count_of_branches problem path step (b ∷ c ∷ d ∷ more) e))

  decided-leaf : (path : List Fact) (node : Node) → branch_count node ≡ 0 → Decided path (node ∷ [])
  decided-leaf path (nodes.Step step) e = absurd (some_branch step (sym e))
  decided-leaf path (nodes.Closing c) e = decided-closing path c (closing_fault lists path c) refl

  decided-chain : (path : List Fact) (node : Node) (rest : List Node) → branch_count node ≡ 1 → ((branch : List Fact) → Decided (path ++ branch) rest) → Decided path (node ∷ rest)
  decided-chain path (nodes.Step step) rest e below = decided-one path step rest (step_branches problem path step) refl e below
  decided-chain path (nodes.Closing c) rest e below = absurd (omega (arith, e))

  decided-fork : (path : List Fact) (node : Node) (first second : List Node) → branch_count node ≡ 2 → ((branch : List Fact) → Decided (path ++ branch) first) → ((branch : List Fact) → Decided (path ++ branch) second) → Decided path (node ∷ first ++ second)
  decided-fork path (nodes.Step step) first second e l r = decided-two path step first second (step_branches problem path step) refl e l r
  decided-fork path (nodes.Closing c) first second e l r = absurd (omega (arith, e))

  tree-decided : (ns : List Node) → IsTree ns → (path : List Fact) → Decided path ns
  tree-decided ns (spelling.IsTree.leaf node e) path = decided-leaf path node e
  tree-decided ns (spelling.IsTree.one node rest e t) path = decided-chain path node rest e (λ b. tree-decided rest t (path ++ b))
  tree-decided ns (spelling.IsTree.two node first second e l r) path =
      decided-fork path node first second e (λ b. tree-decided first l (path ++ b)) (λ b. tree-decided second r (path ++ b))

  only-tree : (path : List Fact) (ns : List Node) → AllClosed (path ∷ []) ns → Closed problem lists path ns
  only-tree path ns all =
      let whole : ns ≡ all.0 = all.2 ∙ ap (λ xs. all.0 ++ xs) all.4 ∙ append-nil all.0 in
      subst (λ xs. Closed problem lists path xs) (sym whole) all.3

  closed-accepted : (path : List Fact) (ns : List Node) → Closed problem lists path ns → judgement_on problem lists path ns ≡ Accepted
  closed-accepted path ns c = ap (λ xs. judge problem lists (path ∷ []) xs 0) (sym (append-nil ns)) ∙ closed-judged path ns c [] [] 0

  fails-refused : (path : List Fact) (ns : List Node) (n : ℕ) (reason : Reason) → Fails problem lists path ns n reason → judgement_on problem lists path ns ≡ Refused n reason
  fails-refused path ns n reason f =
      let count : 0 + n ≡ n = omega arith in
      ap (λ xs. judge problem lists (path ∷ []) xs 0) (sym (append-nil ns)) ∙ fails-judged path ns n reason f [] [] 0 ∙ ap (λ x. Refused x reason) count

  refused-fails : (path : List Fact) (ns : List Node) (n : ℕ) (reason : Reason) → Decided path ns → judgement_on problem lists path ns ≡ Refused n reason → Fails problem lists path ns n reason
  refused-fails path ns n reason (inl c) e = let never : Accepted ≡ Refused n reason = sym (closed-accepted path ns c) ∙ e in absurd cc
  refused-fails path ns n reason (inr f) e =
      let same : Refused f.0 f.1 ≡ Refused n reason = sym (fails-refused path ns f.0 f.1 f.2) ∙ e in
      let same_number : f.0 ≡ n = cc in
      let same_reason : f.1 ≡ reason = cc in
      subst (λ x. Fails problem lists path ns x reason) same_number (subst (λ x. Fails problem lists path ns f.0 x) same_reason f.2)

pub accepts_closed_trees : AcceptsClosedTrees
accepts_closed_trees problem lists path ns =
    (λ e. only-tree problem lists path ns (judged-closed problem lists ns (path ∷ []) 0 e), λ c. closed-accepted problem lists path ns c)

pub refuses_first_failure : RefusesFirstFailure
refuses_first_failure problem lists path ns tree n reason =
    (λ e. refused-fails problem lists path ns n reason (tree-decided problem lists ns tree path) e, λ f. fails-refused problem lists path ns n reason f)

clash-fault : (b : Bool) (reason : Reason) → (if b then None else Some Q2) ≡ Some reason → is_of_nodes reason ≡ true
clash-fault true reason e = absurd cc
clash-fault false reason e = let same : Q2 ≡ reason = cc in subst (λ r. is_of_nodes r ≡ true) same refl

closing-fault : (lists : List (List Fact)) (path : List Fact) (c : Closing) (reason : Reason) → closing_fault lists path c ≡ Some reason → is_of_nodes reason ≡ true
closing-fault lists path (Clash name) reason e = clash-fault (clashes path name) reason e

pub fails_by_nodes : FailsByNodes
fails_by_nodes problem lists path ns n reason (trees.Fails.step _ step rest e) = refl
fails_by_nodes problem lists path ns n reason (trees.Fails.closing _ c rest _ e) = closing-fault lists path c reason e
fails_by_nodes problem lists path ns n reason (trees.Fails.in_only _ branch step rest m _ e f) = fails_by_nodes problem lists (path ++ branch) rest m reason f
fails_by_nodes problem lists path ns n reason (trees.Fails.in_first _ left right step first second m _ e f) = fails_by_nodes problem lists (path ++ left) first m reason f
fails_by_nodes problem lists path ns n reason (trees.Fails.in_second _ left right step first second m _ e l f) = fails_by_nodes problem lists (path ++ right) second m reason f
