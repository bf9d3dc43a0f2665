-- Derivations that can be written down: whole trees, and names that are facts' names.
use Rattle.std.specs.Prelude.{◌≡◌, ℕ, ◌+◌, ◌-◌, nat_eq, Bool, true, false, ◌&&◌, if◌then◌else◌, List, [], ◌∷◌, ◌++◌}
use Rattle.std.specs.List.{list_all}
pub use Rattle.sc_terms.specs.Regions.{has_plus}
use Rattle.sc_facts.specs.declared.name.FactName.{FactName}
use Rattle.sc_facts.specs.declared.name.FactName.TheVariants as names
use Rattle.sc_rules.specs.declared.step.PlainStep.{PlainStep}
use Rattle.sc_rules.specs.declared.step.PlainStep.TheVariants as plain
use Rattle.sc_deriv.specs.declared.derivation.Step.{Step}
use Rattle.sc_deriv.specs.declared.derivation.Step.TheVariants as steps
use Rattle.sc_deriv.specs.declared.derivation.Closing.TheVariants.{Clash}
use Rattle.sc_deriv.specs.declared.derivation.Node.{Node}
use Rattle.sc_deriv.specs.declared.derivation.Node.TheVariants as nodes
use Rattle.sc_deriv.specs.declared.derivation.Derivation.{Derivation}
use Rattle.sc_deriv.specs.Acceptance.{is_ordered}

-- how many branches a step has
abbrev pub plain_count : PlainStep → ℕ
plain_count (plain.Cut name) = 2
plain_count (plain.Differ s t) = 2
plain_count _ = 1

abbrev pub step_count : Step → ℕ
step_count (steps.Plain step) = plain_count step

-- how many branches go on after a node
abbrev pub branch_count : Node → ℕ
branch_count (nodes.Step step) = step_count step
branch_count (nodes.Closing closing) = 0

-- the nodes are one whole tree in preorder
pub data IsTree : List Node → Type 0 where
  leaf : (node : Node) → branch_count node ≡ 0 → IsTree (node ∷ [])
  one : (node : Node) (rest : List Node) → branch_count node ≡ 1 → IsTree rest → IsTree (node ∷ rest)
  two : (node : Node) (first second : List Node) → branch_count node ≡ 2 → IsTree first → IsTree second → IsTree (node ∷ first ++ second)

-- whether the nodes are so many trees, one after another
abbrev pub closes : ℕ → List Node → Bool
closes open_count [] = nat_eq open_count 0
closes open_count (node ∷ nodes) = if nat_eq open_count 0 then false else closes (open_count - 1 + branch_count node) nodes

abbrev pub name_has_plus : FactName → Bool
name_has_plus (names.Empty cube) = has_plus cube.signs
name_has_plus _ = true

abbrev pub is_name : FactName → Bool
is_name name = is_ordered name && name_has_plus name

-- the names in the node are facts' names
abbrev pub is_node : Node → Bool
is_node (nodes.Step (steps.Plain (plain.Cut name))) = is_name name
is_node (nodes.Step (steps.Plain _)) = true
is_node (nodes.Closing (Clash name)) = is_name name

abbrev pub are_nodes : List Node → Bool
are_nodes nodes = list_all is_node nodes

-- No lemmas, since nothing names one; the nodes are one whole tree; and each name of a cut or clash is a fact's.
pub record IsSpelt (derivation : Derivation) : Type 0 where
  pub no_lemmas : derivation.lemmas ≡ []
  pub tree : IsTree derivation.nodes
  pub names : are_nodes derivation.nodes ≡ true
