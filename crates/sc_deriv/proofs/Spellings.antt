-- The count of open branches tells the whole trees.
use Rattle.std.proofs.Common.{◌≡◌, ℕ, zero, suc, ◌+◌, ◌-◌, Bool, true, false, ◌&&◌, IsTrue, List, length, [], ◌∷◌, ◌++◌, ◌⊎◌, inl, inr, ◌↔◌, refl, sym, ap, subst, ◌∙◌, append_assoc, append-nil, arith}
use Rattle.std.specs.Prelude.{nat_eq, if◌then◌else◌}
use Rattle.std.proofs.lemmas.Bool.{false≢true}
use Rattle.std.proofs.lemmas.List.{nil_from_length}
use Rattle.sc_base.proofs.Bools.{and_true}
use Rattle.sc_rules.specs.declared.step.PlainStep.TheVariants as plain
use Rattle.sc_deriv.specs.declared.derivation.Step.TheVariants.{Plain}
use Rattle.sc_deriv.specs.declared.derivation.Node.{Node}
use Rattle.sc_deriv.specs.declared.derivation.Node.TheVariants as nodes
use Rattle.sc_deriv.specs.declared.derivation.Derivation.{Derivation}
use Rattle.sc_deriv.specs.Spelling.{branch_count, IsTree, leaf, one, two, closes, are_nodes, IsSpelt}

not_zero : (k : ℕ) → nat_eq (suc k) 0 ≡ false
not_zero k = grind arith

closes-step : (k : ℕ) (node : Node) (ns : List Node) → closes (suc k) (node ∷ ns) ≡ closes (k + branch_count node) ns
closes-step k node ns =
    let count : suc k - 1 + branch_count node ≡ k + branch_count node = omega arith in
    ap (λ b. if b then false else closes (suc k - 1 + branch_count node) ns) (not_zero k) ∙ ap (λ n. closes n ns) count

tree-closes : (ns : List Node) → IsTree ns → (k : ℕ) (rest : List Node) → closes (suc k) (ns ++ rest) ≡ closes k rest
tree-closes ns (leaf node e) k rest =
    let count : k + branch_count node ≡ k = omega (arith, e) in
    closes-step k node rest ∙ ap (λ n. closes n rest) count
tree-closes ns (one node below e t) k rest =
    let count : k + branch_count node ≡ suc k = omega (arith, e) in
    closes-step k node (below ++ rest) ∙ ap (λ n. closes n (below ++ rest)) count ∙ tree-closes below t k rest
tree-closes ns (two node first second e l r) k rest =
    let count : k + branch_count node ≡ suc (suc k) = omega (arith, e) in
    closes-step k node ((first ++ second) ++ rest)
    ∙ ap (λ n. closes n ((first ++ second) ++ rest)) count
    ∙ ap (λ xs. closes (suc (suc k)) xs) (append_assoc first second rest)
    ∙ tree-closes first l (suc k) (second ++ rest)
    ∙ tree-closes second r k rest

-- so many trees, one after another
abbrev Forest : ℕ → List Node → Type 0
Forest zero ns = ns ≡ []
Forest (suc k) ns = (first : List Node) × (rest : List Node) × (ns ≡ first ++ rest) × IsTree first × Forest k rest

counts : (node : Node) → (branch_count node ≡ 0) ⊎ ((branch_count node ≡ 1) ⊎ (branch_count node ≡ 2))
counts (nodes.Step (Plain (plain.Cut name))) = inr (inr refl)
counts (nodes.Step (Plain (plain.Differ s t))) = inr (inr refl)
counts (nodes.Step (Plain _)) = inr (inl refl)
counts (nodes.Closing closing) = inl refl

grown-none : (k : ℕ) (node : Node) (ns : List Node) → branch_count node ≡ 0 → Forest (k + branch_count node) ns → Forest (suc k) (node ∷ ns)
grown-none k node ns e f =
    let count : k + branch_count node ≡ k = omega (arith, e) in
    (node ∷ [], ns, refl, leaf node e, subst (λ n. Forest n ns) count f)

grown-one : (k : ℕ) (node : Node) (ns : List Node) → branch_count node ≡ 1 → Forest (k + branch_count node) ns → Forest (suc k) (node ∷ ns)
grown-one k node ns e f =
    let count : k + branch_count node ≡ suc k = omega (arith, e) in
    let g : Forest (suc k) ns = subst (λ n. Forest n ns) count f in
    (node ∷ g.0, g.1, ap (λ xs. node ∷ xs) g.2, one node g.0 e g.3, g.4)

grown-two : (k : ℕ) (node : Node) (ns : List Node) → branch_count node ≡ 2 → Forest (k + branch_count node) ns → Forest (suc k) (node ∷ ns)
grown-two k node ns e f =
    let count : k + branch_count node ≡ suc (suc k) = omega (arith, e) in
    let g : Forest (suc (suc k)) ns = subst (λ n. Forest n ns) count f in
    let h = g.4 in (
      node ∷ g.0 ++ h.0,
      h.1,
      ap (λ xs. node ∷ xs) (g.2 ∙ ap (λ xs. g.0 ++ xs) h.2 ∙ sym (append_assoc g.0 h.0 h.1)),
      two node g.0 h.0 e g.3 h.3,
      h.4,
    )

closes-forest : (ns : List Node) (k : ℕ) → closes k ns ≡ true → Forest k ns
closes-forest [] zero e = refl
closes-forest [] (suc k) e = absurd (false≢true (sym (not_zero k) ∙ e))
closes-forest (node ∷ ns) zero e = absurd (false≢true e)
closes-forest (node ∷ ns) (suc k) e =
    let rest = closes-forest ns (k + branch_count node) (sym (closes-step k node ns) ∙ e) in
    elim (counts node) [
      | inl none ↦ grown-none k node ns none rest
      | inr some ↦ elim some [ inl a ↦ grown-one k node ns a rest | inr b ↦ grown-two k node ns b rest ]
    ]

only-tree : (ns : List Node) → Forest 1 ns → IsTree ns
only-tree ns f =
    let whole : ns ≡ f.0 = f.2 ∙ ap (λ xs. f.0 ++ xs) f.4 ∙ append-nil f.0 in
    subst IsTree (sym whole) f.3

pub closes_tells : (ns : List Node) → (closes 1 ns ≡ true) ↔ IsTree ns
closes_tells ns =
    (λ e. only-tree ns (closes-forest ns 1 e), λ t. ap (λ xs. closes 1 xs) (sym (append-nil ns)) ∙ tree-closes ns t 0 [])

pub spelt_if : (d : Derivation) (b : Bool) → length d.lemmas ≡ 0 → b ≡ (closes 1 d.nodes && are_nodes d.nodes) → IsTrue b ↔ IsSpelt d
spelt_if d b none e = (
  λ h.
      let both = and_true (closes 1 d.nodes) (are_nodes d.nodes) (sym e ∙ h) in
      record { no_lemmas = nil_from_length d.lemmas none; tree = (closes_tells d.nodes).0 both.0; names = both.1 },
  λ s. e ∙ rw ((closes_tells d.nodes).1 s.tree) s.names,
)

pub not_spelt : (d : Derivation) (b : Bool) → (length d.lemmas ≡ 0 → ⊥) → b ≡ false → IsTrue b ↔ IsSpelt d
not_spelt d b some e = (λ h. absurd (false≢true (sym e ∙ h)), λ s. absurd (some (ap length s.no_lemmas)))
