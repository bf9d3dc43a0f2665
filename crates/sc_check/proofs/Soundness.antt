-- An accepted derivation refutes the assertions against which it is judged.
use Rattle.std.proofs.Common.{◌≡◌, ℕ, Bool, true, List, [], ◌∷◌, map, Result, Ok, Err, refl, sym, ap, ◌∙◌, subst}
use Rattle.std.specs.List.{AllByRecursion}
use Rattle.sc_sexpr.specs.Shapes.{Shape}
use Rattle.sc_terms.specs.declared.problem.Parts.{Parts}
use Rattle.sc_terms.specs.BankValues.{bank_meaning}
use Rattle.sc_terms.specs.Conditions.{MeaningsFit}
use Rattle.sc_terms.specs.Values.{meaning}
use Rattle.sc_facts.specs.Facts.{root_facts}
use Rattle.sc_deriv.specs.declared.derivation.Derivation.{Derivation}
use Rattle.sc_deriv.specs.declared.derivation.Node.{Node as Part}
use Rattle.sc_deriv.specs.declared.derivation.Judgement.{Judgement}
use Rattle.sc_deriv.specs.declared.derivation.Judgement.TheVariants.{Accepted}
use Rattle.sc_deriv.specs.Acceptance.{hypotheses_of, Closed}
use Rattle.sc_deriv.specs.Judging.{judgement_on}
use Rattle.sc_deriv.specs.Laws.{AcceptsClosedTrees, ClosedTreesRefute}
use Rattle.sc_deriv.proofs.Refutes.{unsatisfiable}
use Rattle.sc_deriv.proofs.Checked.{no_hypotheses}
use Rattle.sc_deriv_text.specs.Reading.{Refusal, ◌>>=◌, with_nodes, nodes_in, derivation_in, reading}
use Rattle.sc_deriv_text.specs.Sexpr.{plain}
use Rattle.sc_flatten.specs.Laws.{StocksAreProblems, MeaningsAgree}
use Rattle.sc_flatten.specs.Stock.{stock}
use Rattle.sc_check.specs.declared.finding.Finding.TheVariants as found
use Rattle.sc_check.specs.Lines.{judged}
use Rattle.sc_check.specs.Laws.{AcceptedRefute}

-- what was accepted was read
pub record IsAccepted (problem : Parts) (r : Result Derivation Refusal) : Type 0 where
  pub derivation : Derivation
  pub read : r ≡ Ok derivation
  pub closed : judgement_on problem (hypotheses_of derivation.lemmas) (root_facts problem.roots) derivation.nodes ≡ Accepted

accepted_is : (problem : Parts) (r : Result Derivation Refusal) → judged problem r ≡ Accepted → IsAccepted problem r
accepted_is problem (Ok d) e = record { derivation = d; read = refl; closed = e }
accepted_is problem (Err r) e = absurd cc

-- what is read has no lemmas
bound : (r : Result (List Part) Refusal) (d : Derivation) → (r >>= λ ns. Ok (with_nodes ns)) ≡ Ok d → d.lemmas ≡ []
bound (Ok ns) d e = let same : with_nodes ns ≡ d = cc in ap (λ (x : Derivation). x.lemmas) (sym same)
bound (Err r) d e = absurd cc

no_lemmas : (s : Shape) (d : Derivation) → reading s ≡ Ok d → d.lemmas ≡ []
unfolding derivation_in
no_lemmas s d e = bound (nodes_in (plain s)) d e

all_back : (p q : ℕ → Bool) (ns ms : List ℕ) → map p ns ≡ map q ms → AllByRecursion (λ m. q m ≡ true) ms → AllByRecursion (λ n. p n ≡ true) ns
all_back p q [] ms e h = tt
all_back p q (n ∷ ns) [] e h = absurd cc
all_back p q (n ∷ ns) (m ∷ ms) e h = (let same : p n ≡ q m = cc in same ∙ h.0, all_back p q ns ms (let rest : map p ns ≡ map q ms = cc in rest) h.1)

judgement_is : (j : Judgement) → found.Judged j ≡ found.Judged Accepted → j ≡ Accepted
judgement_is j e = cc

pub accepted_refute : AcceptsClosedTrees → ClosedTreesRefute → MeaningsFit → StocksAreProblems → MeaningsAgree → AcceptedRefute
accepted_refute accepts refute fit problems agree bank ns s is_bank are e i proper all =
    let a = accepted_is (stock bank ns) (reading s) (judgement_is (judged (stock bank ns) (reading s)) e) in
    let closed = (accepts (stock bank ns) (hypotheses_of a.derivation.lemmas) (root_facts (stock bank ns).roots) a.derivation.nodes).0 a.closed in
    let alone = subst (λ ls. Closed (stock bank ns) ls (root_facts (stock bank ns).roots) a.derivation.nodes) (no_hypotheses a.derivation.lemmas (no_lemmas s a.derivation a.read)) closed in
    unsatisfiable refute fit (stock bank ns) (problems bank ns is_bank are) a.derivation.nodes alone i proper
    (all_back (meaning (stock bank ns) i).truth (bank_meaning bank i).truth (stock bank ns).roots ns (agree bank ns is_bank are i proper) all)
