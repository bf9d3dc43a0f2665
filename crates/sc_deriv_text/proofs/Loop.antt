-- Reading the nodes one after the other, as a loop does.
use Rattle.std.proofs.Common.{◌≡◌, ℕ, zero, suc, ◌-◌, ◌+◌, ◌≤◌, ◌<◌, List, [], ◌∷◌, ◌++◌, Result, Ok, Err, length, drop, refl, sym, ap, ◌∙◌, append_assoc, arith, length-append, subst, get_or, drop-cons, add-one}
use Rattle.sc_deriv.specs.declared.derivation.Node.{Node}
use Rattle.sc_deriv.specs.declared.derivation.Node.TheVariants as nodes
use Rattle.sc_rules.specs.declared.step.PlainStep.{PlainStep}
use Rattle.sc_rules.specs.declared.step.PlainStep.TheVariants as plain
use Rattle.sc_deriv.specs.declared.derivation.Step.TheVariants.{Plain}
use Rattle.sc_deriv.specs.Spelling.{plain_count, branch_count}
use Rattle.sc_sexpr.specs.declared.tree.Tree.{Tree}
use Rattle.sc_deriv_text.specs.Sexpr.{Sexpr, Cons, expr, exprs}
use Rattle.sc_deriv_text.specs.Reading.{◌>>=◌, Refusal, refusal, refused, node, tree_nodes, Fails}
use Rattle.sc_deriv_text.specs.declared.errors.TextError.{TextError}
use Rattle.sc_deriv_text.specs.declared.errors.TextError.TheVariants as errors

-- what was read before, and what is still read
abbrev pub with_front : List Node → Result (List Node) Refusal → Result (List Node) Refusal
with_front front read = read >>= λ ns. Ok (front ++ ns)

regroup : (front : List Node) (n : Node) (read : Result (List Node) Refusal) → with_front front (read >>= λ ns. Ok (n ∷ ns)) ≡ with_front (front ++ n ∷ []) read
regroup front n (Ok ns) = ap (λ (x : List Node). Ok x) (sym (append_assoc front (n ∷ []) ns))
regroup front n (Err f) = refl

-- where the reading stands after so many trees
pub record Stands (nodes : List Node) (due index : ℕ) (rest all : List Tree) : Type 0 where
  pub count : length nodes ≡ index
  pub few : due ≤ index + 1
  pub goes : with_front nodes (tree_nodes due (length nodes + 1) (exprs rest)) ≡ tree_nodes 1 1 (exprs all)

goes_one : (front : List Node) (due k : ℕ) (t ts : Sexpr) (n : Node) → refused k (node t) ≡ Ok n → with_front front (tree_nodes (suc due) k (Cons t ts)) ≡ with_front (front ++ n ∷ []) (tree_nodes (due + branch_count n) (k + 1) ts)
goes_one front due k t ts n e = rw e (regroup front n (tree_nodes (due + branch_count n) (k + 1) ts))

fails_one : (front : List Node) (due k : ℕ) (t ts : Sexpr) (f : Refusal) → refused k (node t) ≡ Err f → with_front front (tree_nodes (suc due) k (Cons t ts)) ≡ Err f
fails_one front due k t ts f e = rw e refl

counts_step : (s : PlainStep) → plain_count s ≤ 2
counts_step (plain.Cut n) = omega arith
counts_step (plain.Differ s t) = omega arith
counts_step s = omega arith

pub few_after : (n : Node) → branch_count n ≤ 2
few_after (nodes.Closing c) = omega arith
few_after (nodes.Step (Plain s)) = counts_step s

-- a node was read
pub goes_on : (old new : List Node) (due index k : ℕ) (t : Tree) (rest others all : List Tree) (n : Node) → Stands old due index rest all → rest ≡ t ∷ others → 0 < due → k ≡ length old → refused (k + 1) (node (expr t)) ≡ Ok n → new ≡ old ++ n ∷ []
    → Stands new (due - 1 + branch_count n) (index + 1) others all
goes_on old new zero index k t rest others all n s is lt same e made = absurd (omega (arith, lt))
goes_on old new (suc due) index k t rest others all n s is lt same e made =
    let len : length new ≡ length old + 1 = omega (arith, ap (length {A = Node}) made, length-append old (n ∷ [])) in
    let one : suc due - 1 ≡ due = omega arith in
    let read : refused (length old + 1) (node (expr t)) ≡ Ok n = subst (λ (m : ℕ). refused (m + 1) (node (expr t)) ≡ Ok n) same e in
    let before : with_front old (tree_nodes (suc due) (length old + 1) (Cons (expr t) (exprs others))) ≡ tree_nodes 1 1 (exprs all) = subst (λ (r : List Tree). with_front old (tree_nodes (suc due) (length old + 1) (exprs r)) ≡ tree_nodes 1 1 (exprs all)) is s.goes in
    record {
      count = omega (arith, len, s.count);
      few = omega (arith, s.few, few_after n);
      goes = rw (one, len, made) (sym (goes_one old due (length old + 1) (expr t) (exprs others) n read) ∙ before);
    }

-- a node was refused
refuses : (old : List Node) (due index k : ℕ) (t : Tree) (rest others all : List Tree) (f : Refusal) → Stands old due index rest all → rest ≡ t ∷ others → 0 < due → k ≡ length old → refused (k + 1) (node (expr t)) ≡ Err f
    → tree_nodes 1 1 (exprs all) ≡ Err f
refuses old zero index k t rest others all f s is lt same e = absurd (omega (arith, lt))
refuses old (suc due) index k t rest others all f s is lt same e =
    let read : refused (length old + 1) (node (expr t)) ≡ Err f = subst (λ (m : ℕ). refused (m + 1) (node (expr t)) ≡ Err f) same e in
    let before : with_front old (tree_nodes (suc due) (length old + 1) (Cons (expr t) (exprs others))) ≡ tree_nodes 1 1 (exprs all) = subst (λ (r : List Tree). with_front old (tree_nodes (suc due) (length old + 1) (exprs r)) ≡ tree_nodes 1 1 (exprs all)) is s.goes in
    sym before ∙ fails_one old due (length old + 1) (expr t) (exprs others) f read

-- a node was refused, or memory was wanting
pub fails : (old : List Node) (due index k : ℕ) (t : Tree) (rest others all : List Tree) (e : TextError) → Stands old due index rest all → rest ≡ t ∷ others → 0 < due → k ≡ length old → Fails e (refused (k + 1) (node (expr t))) → Fails e (tree_nodes 1 1 (exprs all))
fails old due index k t rest others all errors.Memory s is lt same e = tt
fails old due index k t rest others all (errors.Refused m r) s is lt same e = refuses old due index k t rest others all (refusal m r) s is lt same e

pub front_at : (ts : List Tree) (i : ℕ) (t : Tree) → i < length ts → t ≡ get_or ts i t → drop i ts ≡ t ∷ drop (i + 1) ts
front_at ts i t lt e = rw add-one (drop-cons ts i t lt ∙ ap (λ (x : Tree). x ∷ drop (suc i) ts) (sym e))
