-- Tests of equality of derivations and their parts, and that each decides equality.
use Rattle.std.specs.Prelude.{◌≡◌, Bool, false, ◌&&◌, nat_eq}
use Rattle.std.specs.Bool.{Decides}
use Rattle.std.specs.Cmp.{unsigned_Decides}
use Rattle.std.specs.Cmp.Lexicographic.{pointwise, pointwise_decides}
use Rattle.std.proofs.Common.{ap}
use Rattle.std.proofs.lemmas.Bool.{false≢true}
use Rattle.sc_terms.specs.Same.{both-Decides}
use Rattle.sc_facts.specs.Same.{same_name, same_name-Decides, same_facts, same_facts-Decides}
use Rattle.sc_rules.specs.Same.{same_plain, same_plain-Decides}
use Rattle.sc_deriv.specs.declared.derivation.Step.{Step}
use Rattle.sc_deriv.specs.declared.derivation.Step.TheVariants.{Plain}
use Rattle.sc_deriv.specs.declared.derivation.Taken.{Taken}
use Rattle.sc_deriv.specs.declared.derivation.Closing.{Closing}
use Rattle.sc_deriv.specs.declared.derivation.Closing.TheVariants.{Clash}
use Rattle.sc_deriv.specs.declared.derivation.Node.{Node}
use Rattle.sc_deriv.specs.declared.derivation.Node.TheVariants as nodes
use Rattle.sc_deriv.specs.declared.derivation.Lemma.{Lemma}
use Rattle.sc_deriv.specs.declared.derivation.Derivation.{Derivation}

-- a test that decides the part decides what is made of it
through : {X Y : Type 0} {b : Bool} {x y : X} (make : X → Y) → (make x ≡ make y → x ≡ y) → Decides b (x ≡ y) → Decides b (make x ≡ make y)
through make back d = (λ e. ap make (d.0 e), λ e. d.1 (back e))

abbrev pub same_step : Step → Step → Bool
same_step (Plain a) (Plain b) = same_plain a b

pub same_step-Decides : (a b : Step) → Decides (same_step a b) (a ≡ b)
same_step-Decides (Plain a) (Plain b) = through Plain (λ e. cc) (same_plain-Decides a b)

abbrev pub same_taken : Taken → Taken → Bool
same_taken a b = same_step a.step b.step && nat_eq a.branch b.branch

pub same_taken-Decides : (a b : Taken) → Decides (same_taken a b) (a ≡ b)
same_taken-Decides a b =
    both-Decides _ _ (same_step-Decides a.step b.step) (unsigned_Decides a.branch b.branch) (λ p q. λ i. record { step = p i; branch = q i }) (λ e. ap (λ (t : Taken). t.step) e) (λ e. ap (λ (t : Taken). t.branch) e)

abbrev pub same_closing : Closing → Closing → Bool
same_closing (Clash a) (Clash b) = same_name a b

pub same_closing-Decides : (a b : Closing) → Decides (same_closing a b) (a ≡ b)
same_closing-Decides (Clash a) (Clash b) = through Clash (λ e. cc) (same_name-Decides a b)

abbrev pub same_node : Node → Node → Bool
same_node (nodes.Step a) (nodes.Step b) = same_step a b
same_node (nodes.Closing a) (nodes.Closing b) = same_closing a b
same_node _ _ = false

pub same_node-Decides : (a b : Node) → Decides (same_node a b) (a ≡ b)
same_node-Decides (nodes.Step a) (nodes.Step b) = through nodes.Step (λ e. cc) (same_step-Decides a b)
same_node-Decides (nodes.Closing a) (nodes.Closing b) = through nodes.Closing (λ e. cc) (same_closing-Decides a b)
same_node-Decides _ _ = (λ e. absurd (false≢true e), λ e. cc)

abbrev pub same_lemma : Lemma → Lemma → Bool
same_lemma a b = same_facts a.hypotheses b.hypotheses && pointwise same_node a.nodes b.nodes

pub same_lemma-Decides : (a b : Lemma) → Decides (same_lemma a b) (a ≡ b)
same_lemma-Decides a b =
    both-Decides _ _ (same_facts-Decides a.hypotheses b.hypotheses) (pointwise_decides same_node-Decides a.nodes b.nodes) (λ p q. λ i. record { hypotheses = p i; nodes = q i }) (λ e. ap (λ (l : Lemma). l.hypotheses) e) (λ e. ap (λ (l : Lemma). l.nodes) e)

abbrev pub same_derivation : Derivation → Derivation → Bool
same_derivation a b = pointwise same_lemma a.lemmas b.lemmas && pointwise same_node a.nodes b.nodes

pub same_derivation-Decides : (a b : Derivation) → Decides (same_derivation a b) (a ≡ b)
same_derivation-Decides a b =
    both-Decides _ _ (pointwise_decides same_lemma-Decides a.lemmas b.lemmas) (pointwise_decides same_node-Decides a.nodes b.nodes) (λ p q. λ i. record { lemmas = p i; nodes = q i }) (λ e. ap (λ (d : Derivation). d.lemmas) e) (λ e. ap (λ (d : Derivation). d.nodes) e)
