-- Tests of equality of nodes' parts, and that each decides equality.
use Rattle.std.specs.Prelude.{◌≡◌, Bool, true, false, not, ◌&&◌, nat_eq, ℤ, List, refl}
use Rattle.std.specs.Bool.{Decides}
use Rattle.std.specs.Ordering.{int_eq}
use Rattle.std.specs.Cmp.{unsigned_Decides, signed_Decides}
use Rattle.std.specs.Cmp.Lexicographic.{pointwise, pointwise_decides}
use Rattle.std.proofs.Common.{sym, ap}
use Rattle.std.proofs.lemmas.Bool.{false≢true}
use Rattle.sc_terms.specs.declared.atoms.Atom.{Atom}
use Rattle.sc_terms.specs.declared.atoms.Atom.TheVariants.{Int, Card, Diff, Size}
use Rattle.sc_terms.specs.declared.atoms.Sign.{Sign}
use Rattle.sc_terms.specs.declared.atoms.Sign.TheVariants.{Plus, Minus}
use Rattle.sc_terms.specs.declared.atoms.Cube.{Cube}
use Rattle.sc_terms.specs.declared.form.Row.{Row}
use Rattle.sc_terms.specs.declared.form.Affine.{Affine}
use Rattle.sc_terms.specs.declared.nodes.Sort.{Sort}
use Rattle.sc_terms.specs.declared.nodes.Sort.TheVariants as sorts
use Rattle.sc_terms.specs.declared.nodes.Formula.{Formula}
use Rattle.sc_terms.specs.declared.nodes.Formula.TheVariants as formulas
use Rattle.sc_terms.specs.declared.nodes.SetTerm.{SetTerm}
use Rattle.sc_terms.specs.declared.nodes.SetTerm.TheVariants as sets
use Rattle.sc_terms.specs.declared.nodes.Element.{Element}
use Rattle.sc_terms.specs.declared.nodes.Element.TheVariants as elements
use Rattle.sc_terms.specs.declared.nodes.Node.{Node}
use Rattle.sc_terms.specs.declared.nodes.Node.TheVariants as nodes

abbrev pub same_truth : Bool → Bool → Bool
same_truth true b = b
same_truth false b = not b

pub same_truth-Decides : (a b : Bool) → Decides (same_truth a b) (a ≡ b)
same_truth-Decides true true = (λ e. refl, λ e. refl)
same_truth-Decides true false = (λ e. sym e, λ e. sym e)
same_truth-Decides false true = (λ e. e, λ e. e)
same_truth-Decides false false = (λ e. refl, λ e. refl)

-- two tests at once decide a pair of equations
pub both-Decides : {P Q R : Type 0} (s t : Bool) → Decides s P → Decides t Q → (P → Q → R) → (R → P) → (R → Q) → Decides (s && t) R
both-Decides true t p q make first second = (λ e. make (p.0 refl) (q.0 e), λ r. q.1 (second r))
both-Decides false t p q make first second = (λ e. absurd (false≢true e), λ r. p.1 (first r))

abbrev pub same_sign : Sign → Sign → Bool
same_sign Plus Plus = true
same_sign Minus Minus = true
same_sign _ _ = false

pub same_sign-Decides : (a b : Sign) → Decides (same_sign a b) (a ≡ b)
same_sign-Decides Plus Plus = (λ e. refl, λ e. refl)
same_sign-Decides Minus Minus = (λ e. refl, λ e. refl)
same_sign-Decides _ _ = (λ e. absurd (false≢true e), λ e. cc)

abbrev pub same_cube : Cube → Cube → Bool
same_cube a b = nat_eq a.component b.component && pointwise same_sign a.signs b.signs

pub same_cube-Decides : (a b : Cube) → Decides (same_cube a b) (a ≡ b)
same_cube-Decides a b =
    both-Decides _ _ (unsigned_Decides a.component b.component) (pointwise_decides same_sign-Decides a.signs b.signs) (λ p q. λ i. record { component = p i; signs = q i }) (λ e. ap (λ (c : Cube). c.component) e) (λ e. ap (λ (c : Cube). c.signs) e)

abbrev pub same_atom : Atom → Atom → Bool
same_atom (Int m) (Int n) = nat_eq m n
same_atom (Card m) (Card n) = nat_eq m n
same_atom (Diff m) (Diff n) = nat_eq m n
same_atom (Size a) (Size b) = same_cube a b
same_atom _ _ = false

pub same_atom-Decides : (a b : Atom) → Decides (same_atom a b) (a ≡ b)
same_atom-Decides (Int m) (Int n) = (λ e. ap Int ((unsigned_Decides m n).0 e), λ e. (unsigned_Decides m n).1 cc)
same_atom-Decides (Card m) (Card n) = (λ e. ap Card ((unsigned_Decides m n).0 e), λ e. (unsigned_Decides m n).1 cc)
same_atom-Decides (Diff m) (Diff n) = (λ e. ap Diff ((unsigned_Decides m n).0 e), λ e. (unsigned_Decides m n).1 cc)
same_atom-Decides (Size a) (Size b) = (λ e. ap Size ((same_cube-Decides a b).0 e), λ e. (same_cube-Decides a b).1 cc)
same_atom-Decides _ _ = (λ e. absurd (false≢true e), λ e. cc)

abbrev pub same_term : ℤ × Atom → ℤ × Atom → Bool
same_term p q = int_eq p.0 q.0 && same_atom p.1 q.1

pub same_term-Decides : (p q : ℤ × Atom) → Decides (same_term p q) (p ≡ q)
same_term-Decides p q =
    both-Decides _ _ (signed_Decides p.0 q.0) (same_atom-Decides p.1 q.1) (λ e f. λ i. (e i, f i)) (λ e. ap (λ (t : ℤ × Atom). t.0) e) (λ e. ap (λ (t : ℤ × Atom). t.1) e)

abbrev pub same_form : List (ℤ × Atom) → List (ℤ × Atom) → Bool
same_form = pointwise same_term

pub same_form-Decides : (a b : List (ℤ × Atom)) → Decides (same_form a b) (a ≡ b)
same_form-Decides = pointwise_decides same_term-Decides

abbrev pub same_row : Row → Row → Bool
same_row a b = same_form a.form b.form && int_eq a.bound b.bound

pub same_row-Decides : (a b : Row) → Decides (same_row a b) (a ≡ b)
same_row-Decides a b =
    both-Decides _ _ (same_form-Decides a.form b.form) (signed_Decides a.bound b.bound) (λ e f. λ i. record { form = e i; bound = f i }) (λ e. ap (λ (r : Row). r.form) e) (λ e. ap (λ (r : Row). r.bound) e)

abbrev pub same_affine : Affine → Affine → Bool
same_affine a b = same_form a.form b.form && int_eq a.constant b.constant

pub same_affine-Decides : (a b : Affine) → Decides (same_affine a b) (a ≡ b)
same_affine-Decides a b =
    both-Decides _ _ (same_form-Decides a.form b.form) (signed_Decides a.constant b.constant) (λ e f. λ i. record { form = e i; constant = f i }) (λ e. ap (λ (r : Affine). r.form) e) (λ e. ap (λ (r : Affine). r.constant) e)

-- a test of two parts decides equality of what is made of them
one_part : {X Y : Type 0} {t : Bool} {a b : X} (make : X → Y) → Decides t (a ≡ b) → (make a ≡ make b → a ≡ b) → Decides t (make a ≡ make b)
one_part make d back = (λ e. ap make (d.0 e), λ e. d.1 (back e))

two_parts : {X Y Z : Type 0} (s t : Bool) {a c : X} {b d : Y} (make : X → Y → Z) → Decides s (a ≡ c) → Decides t (b ≡ d) → (make a b ≡ make c d → a ≡ c) → (make a b ≡ make c d → b ≡ d) → Decides (s && t) (make a b ≡ make c d)
two_parts s t make p q first second = both-Decides s t p q (λ e f. λ i. make (e i) (f i)) first second

abbrev pub same_sort : Sort → Sort → Bool
same_sort sorts.Bool sorts.Bool = true
same_sort sorts.Int sorts.Int = true
same_sort (sorts.Named m) (sorts.Named n) = nat_eq m n
same_sort sorts.SetInt sorts.SetInt = true
same_sort (sorts.SetNamed m) (sorts.SetNamed n) = nat_eq m n
same_sort _ _ = false

pub same_sort-Decides : (a b : Sort) → Decides (same_sort a b) (a ≡ b)
same_sort-Decides sorts.Bool sorts.Bool = (λ e. refl, λ e. refl)
same_sort-Decides sorts.Int sorts.Int = (λ e. refl, λ e. refl)
same_sort-Decides (sorts.Named m) (sorts.Named n) = one_part sorts.Named (unsigned_Decides m n) (λ e. cc)
same_sort-Decides sorts.SetInt sorts.SetInt = (λ e. refl, λ e. refl)
same_sort-Decides (sorts.SetNamed m) (sorts.SetNamed n) = one_part sorts.SetNamed (unsigned_Decides m n) (λ e. cc)
same_sort-Decides _ _ = (λ e. absurd (false≢true e), λ e. cc)

abbrev pub same_formula : Formula → Formula → Bool
same_formula formulas.True formulas.True = true
same_formula formulas.False formulas.False = true
same_formula (formulas.Flag m) (formulas.Flag n) = nat_eq m n
same_formula (formulas.Not m) (formulas.Not n) = nat_eq m n
same_formula (formulas.And a) (formulas.And b) = pointwise nat_eq a b
same_formula (formulas.Or a) (formulas.Or b) = pointwise nat_eq a b
same_formula (formulas.Iff a b) (formulas.Iff c d) = nat_eq a c && nat_eq b d
same_formula (formulas.Eq a b) (formulas.Eq c d) = nat_eq a c && nat_eq b d
same_formula (formulas.EqSet a b) (formulas.EqSet c d) = nat_eq a c && nat_eq b d
same_formula (formulas.Member a b) (formulas.Member c d) = nat_eq a c && nat_eq b d
same_formula (formulas.Le a) (formulas.Le b) = same_row a b
same_formula _ _ = false

pub same_formula-Decides : (a b : Formula) → Decides (same_formula a b) (a ≡ b)
same_formula-Decides formulas.True formulas.True = (λ e. refl, λ e. refl)
same_formula-Decides formulas.False formulas.False = (λ e. refl, λ e. refl)
same_formula-Decides (formulas.Flag m) (formulas.Flag n) = one_part formulas.Flag (unsigned_Decides m n) (λ e. cc)
same_formula-Decides (formulas.Not m) (formulas.Not n) = one_part formulas.Not (unsigned_Decides m n) (λ e. cc)
same_formula-Decides (formulas.And a) (formulas.And b) = one_part formulas.And (pointwise_decides unsigned_Decides a b) (λ e. cc)
same_formula-Decides (formulas.Or a) (formulas.Or b) = one_part formulas.Or (pointwise_decides unsigned_Decides a b) (λ e. cc)
same_formula-Decides (formulas.Iff a b) (formulas.Iff c d) = two_parts _ _ formulas.Iff (unsigned_Decides a c) (unsigned_Decides b d) (λ e. cc) (λ e. cc)
same_formula-Decides (formulas.Eq a b) (formulas.Eq c d) = two_parts _ _ formulas.Eq (unsigned_Decides a c) (unsigned_Decides b d) (λ e. cc) (λ e. cc)
same_formula-Decides (formulas.EqSet a b) (formulas.EqSet c d) = two_parts _ _ formulas.EqSet (unsigned_Decides a c) (unsigned_Decides b d) (λ e. cc) (λ e. cc)
same_formula-Decides (formulas.Member a b) (formulas.Member c d) = two_parts _ _ formulas.Member (unsigned_Decides a c) (unsigned_Decides b d) (λ e. cc) (λ e. cc)
same_formula-Decides (formulas.Le a) (formulas.Le b) = one_part formulas.Le (same_row-Decides a b) (λ e. cc)
same_formula-Decides _ _ = (λ e. absurd (false≢true e), λ e. cc)

abbrev pub same_set : SetTerm → SetTerm → Bool
same_set (sets.Const m s) (sets.Const n t) = nat_eq m n && same_sort s t
same_set (sets.Empty s) (sets.Empty t) = same_sort s t
same_set (sets.Single m) (sets.Single n) = nat_eq m n
same_set (sets.Union a b) (sets.Union c d) = nat_eq a c && nat_eq b d
same_set (sets.Inter a b) (sets.Inter c d) = nat_eq a c && nat_eq b d
same_set (sets.Minus a b) (sets.Minus c d) = nat_eq a c && nat_eq b d
same_set _ _ = false

pub same_set-Decides : (a b : SetTerm) → Decides (same_set a b) (a ≡ b)
same_set-Decides (sets.Const m s) (sets.Const n t) = two_parts _ _ sets.Const (unsigned_Decides m n) (same_sort-Decides s t) (λ e. cc) (λ e. cc)
same_set-Decides (sets.Empty s) (sets.Empty t) = one_part sets.Empty (same_sort-Decides s t) (λ e. cc)
same_set-Decides (sets.Single m) (sets.Single n) = one_part sets.Single (unsigned_Decides m n) (λ e. cc)
same_set-Decides (sets.Union a b) (sets.Union c d) = two_parts _ _ sets.Union (unsigned_Decides a c) (unsigned_Decides b d) (λ e. cc) (λ e. cc)
same_set-Decides (sets.Inter a b) (sets.Inter c d) = two_parts _ _ sets.Inter (unsigned_Decides a c) (unsigned_Decides b d) (λ e. cc) (λ e. cc)
same_set-Decides (sets.Minus a b) (sets.Minus c d) = two_parts _ _ sets.Minus (unsigned_Decides a c) (unsigned_Decides b d) (λ e. cc) (λ e. cc)
same_set-Decides _ _ = (λ e. absurd (false≢true e), λ e. cc)

abbrev pub same_element : Element → Element → Bool
same_element (elements.Const m s) (elements.Const n t) = nat_eq m n && same_sort s t
same_element (elements.Number a) (elements.Number b) = same_affine a b
same_element (elements.Diff a b) (elements.Diff c d) = nat_eq a c && nat_eq b d
same_element _ _ = false

pub same_element-Decides : (a b : Element) → Decides (same_element a b) (a ≡ b)
same_element-Decides (elements.Const m s) (elements.Const n t) = two_parts _ _ elements.Const (unsigned_Decides m n) (same_sort-Decides s t) (λ e. cc) (λ e. cc)
same_element-Decides (elements.Number a) (elements.Number b) = one_part elements.Number (same_affine-Decides a b) (λ e. cc)
same_element-Decides (elements.Diff a b) (elements.Diff c d) = two_parts _ _ elements.Diff (unsigned_Decides a c) (unsigned_Decides b d) (λ e. cc) (λ e. cc)
same_element-Decides _ _ = (λ e. absurd (false≢true e), λ e. cc)

abbrev pub same_node : Node → Node → Bool
same_node (nodes.Formula a) (nodes.Formula b) = same_formula a b
same_node (nodes.Set a) (nodes.Set b) = same_set a b
same_node (nodes.Element a) (nodes.Element b) = same_element a b
same_node _ _ = false

pub same_node-Decides : (a b : Node) → Decides (same_node a b) (a ≡ b)
same_node-Decides (nodes.Formula a) (nodes.Formula b) = one_part nodes.Formula (same_formula-Decides a b) (λ e. cc)
same_node-Decides (nodes.Set a) (nodes.Set b) = one_part nodes.Set (same_set-Decides a b) (λ e. cc)
same_node-Decides (nodes.Element a) (nodes.Element b) = one_part nodes.Element (same_element-Decides a b) (λ e. cc)
same_node-Decides _ _ = (λ e. absurd (false≢true e), λ e. cc)
