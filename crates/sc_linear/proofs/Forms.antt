-- Forms as coefficients of atoms, and forms in which one coefficient is changed.
use Rattle.std.proofs.Common.{◌≡◌, Bool, true, false, ℤ, pos, ◌+ℤ◌, List, [], ◌∷◌, ◌++◌, refl, sym, ap, subst, ◌∙◌, arith}
use Rattle.std.specs.Prelude.{if◌then◌else◌}
use Rattle.std.specs.declared.cmp.Ordering.{Ordering}
use Rattle.std.specs.declared.cmp.Ordering.TheVariants.{Less, Equal, Greater}
use Rattle.std.specs.Ordering.{int_eq, match_ordering, ordering_reverse, is_eq}
use Rattle.std.specs.List.{AllByRecursion}
use Rattle.std.specs.Cmp.{signed_Decides}
use Rattle.std.proofs.lemmas.Int.{ints}
use Rattle.std.proofs.lemmas.Bool.{false≢true}
use Rattle.sc_base.proofs.Integers.{all_weaker}
use Rattle.sc_terms.specs.declared.atoms.Atom.{Atom}
use Rattle.sc_terms.specs.Forms.{atom_cmp, IsForm}
use Rattle.sc_terms.specs.Orders.{atom_total, atom_ties}
use Rattle.sc_terms.specs.Same.{same_atom, same_atom-Decides}
use Rattle.sc_linear.specs.Rows.{coefficient, term, plus_term}
use Rattle.sc_linear.specs.Sums.{with_coefficient}

abbrev pub Form : Type 0
Form = List (ℤ × Atom)

-- ---- the order of atoms
pub by_cases : (P : Ordering → Type 0) (o : Ordering) → (o ≡ Less → P Less) → (o ≡ Equal → P Equal) → (o ≡ Greater → P Greater) → P o
by_cases P Less a b c = a refl
by_cases P Equal a b c = b refl
by_cases P Greater a b c = c refl

-- a proposition that holds in both cases of a test
pub by_test : (P : Bool → Type 0) (b : Bool) → (b ≡ true → P true) → (b ≡ false → P false) → P b
by_test P true first second = first refl
by_test P false first second = second refl

pub same_is : (a b : Atom) → atom_cmp a b ≡ Equal → a ≡ b
same_is a b e = (same_atom-Decides a b).0 (atom_ties a b ∙ ap is_eq e)

pub less_differs : (a b : Atom) → atom_cmp a b ≡ Less → same_atom a b ≡ false
less_differs a b e = atom_ties a b ∙ ap is_eq e

pub greater_differs : (a b : Atom) → atom_cmp a b ≡ Greater → same_atom a b ≡ false
greater_differs a b e = atom_ties a b ∙ ap is_eq e

pub equal_same : (a b : Atom) → atom_cmp a b ≡ Equal → same_atom a b ≡ true
equal_same a b e = atom_ties a b ∙ ap is_eq e

pub same_itself : (a : Atom) → same_atom a a ≡ true
same_itself a = (same_atom-Decides a a).1 refl

reverse_greater : (o : Ordering) → Greater ≡ ordering_reverse o → o ≡ Less
reverse_greater Less e = refl
reverse_greater Equal e = absurd cc
reverse_greater Greater e = absurd cc

reverse_less : (o : Ordering) → Less ≡ ordering_reverse o → o ≡ Greater
reverse_less Less e = absurd cc
reverse_less Equal e = absurd cc
reverse_less Greater e = refl

pub greater_less : (a b : Atom) → atom_cmp a b ≡ Greater → atom_cmp b a ≡ Less
greater_less a b e = reverse_greater (atom_cmp b a) (sym e ∙ atom_total.antisymm a b)

pub less_greater : (a b : Atom) → atom_cmp a b ≡ Less → atom_cmp b a ≡ Greater
less_greater a b e = reverse_less (atom_cmp b a) (sym e ∙ atom_total.antisymm a b)

-- all terms have atoms above this one
abbrev pub Above : Atom → Form → Type 0
Above a ts = AllByRecursion (λ q. atom_cmp a q.1 ≡ Less) ts

pub above_below : (a b : Atom) (ts : Form) → atom_cmp a b ≡ Less → Above b ts → Above a ts
above_below a b ts e h = all_weaker (λ q. atom_cmp b q.1 ≡ Less) (λ q. atom_cmp a q.1 ≡ Less) (λ q l. atom_total.trans a b q.1 e l) ts h

-- the first term of a form stands before the rest, and so does a lesser one
pub above_form : (a : Atom) (t : ℤ × Atom) (ts : Form) → atom_cmp a t.1 ≡ Less → IsForm (t ∷ ts) → Above a (t ∷ ts)
above_form a t ts e h = (e, above_below a t.1 ts e h.1)

-- ---- coefficients
pub coefficient_absent : (a : Atom) (ts : Form) → Above a ts → coefficient a ts ≡ pos 0
coefficient_absent a [] h = refl
coefficient_absent a (t ∷ ts) h = ap (λ b. if b then t.0 else coefficient a ts) (less_differs a t.1 h.0) ∙ coefficient_absent a ts h.1

coefficient_term_case : (x a : Atom) (c : ℤ) (rest : Form) (b : Bool) → int_eq c (pos 0) ≡ b → coefficient a rest ≡ pos 0
    → coefficient x ((if b then [] else (c, a) ∷ []) ++ rest) ≡ (if same_atom x a then c else coefficient x rest)
coefficient_term_case x a c rest false e h = refl
coefficient_term_case x a c rest true e h =
    let z : c ≡ pos 0 = (signed_Decides c (pos 0)).0 e in
    by_test (λ b. (same_atom x a ≡ b) → coefficient x rest ≡ (if b then c else coefficient x rest)) (same_atom x a)
    (λ s u. ap (λ (k : Atom). coefficient k rest) ((same_atom-Decides x a).0 s) ∙ (h ∙ sym z))
    (λ s u. refl)
    refl

coefficient_term : (x a : Atom) (c : ℤ) (rest : Form) → coefficient a rest ≡ pos 0 → coefficient x (term c a ++ rest) ≡ (if same_atom x a then c else coefficient x rest)
coefficient_term x a c rest h = coefficient_term_case x a c rest (int_eq c (pos 0)) refl h

append_nothing : (xs : Form) → xs ++ [] ≡ xs
append_nothing [] = refl
append_nothing (x ∷ xs) = ap (λ ys. x ∷ ys) (append_nothing xs)

shadowed : (b : Bool) (c d r : ℤ) → (if b then c else r) ≡ (if b then c else (if b then d else r))
shadowed true c d r = refl
shadowed false c d r = refl

swapped : (b d : Bool) (c e r : ℤ) → (b ≡ true → d ≡ true → ⊥) → (if d then e else (if b then c else r)) ≡ (if b then c else (if d then e else r))
swapped true true c e r h = absurd (h refl refl)
swapped true false c e r h = refl
swapped false true c e r h = refl
swapped false false c e r h = refl

-- no atom is two that differ
not_both : (x a b : Atom) → same_atom a b ≡ false → same_atom x a ≡ true → same_atom x b ≡ true → ⊥
not_both x a b differ e f =
    let p : a ≡ b = sym ((same_atom-Decides x a).0 e) ∙ (same_atom-Decides x b).0 f in
    false≢true (sym differ ∙ (same_atom-Decides a b).1 p)

-- the coefficient that was given, and the others as they were
pub coefficient_changed : (x a : Atom) (c : ℤ) (ts : Form) → IsForm ts → coefficient x (with_coefficient c a ts) ≡ (if same_atom x a then c else coefficient x ts)
coefficient_changed x a c [] h = ap (coefficient x) (sym (append_nothing (term c a))) ∙ coefficient_term x a c [] refl
coefficient_changed x a c (t ∷ ts) h =
    by_cases (λ o. coefficient x (match_ordering o (term c a ++ t ∷ ts) (term c a ++ ts) (t ∷ with_coefficient c a ts)) ≡ (if same_atom x a then c else coefficient x (t ∷ ts)))
    (atom_cmp a t.1)
    (λ e. coefficient_term x a c (t ∷ ts) (coefficient_absent a (t ∷ ts) (above_form a t ts e h)))
    (λ e.
    let same : a ≡ t.1 = same_is a t.1 e in
    coefficient_term x a c ts (coefficient_absent a ts (subst (λ (k : Atom). Above k ts) (sym same) h.1))
    ∙ subst (λ (k : Atom). (if same_atom x a then c else coefficient x ts) ≡ (if same_atom x a then c else (if same_atom x k then t.0 else coefficient x ts))) same (shadowed (same_atom x a) c t.0 (coefficient x ts)))
    (λ e. ap (λ z. if same_atom x t.1 then t.0 else z) (coefficient_changed x a c ts h.2) ∙ swapped (same_atom x a) (same_atom x t.1) c t.0 (coefficient x ts) (not_both x a t.1 (greater_differs a t.1 e)))

-- ---- forms stay forms
all_term : (P : ℤ × Atom → Type 0) (c : ℤ) (a : Atom) (rest : Form) (b : Bool) → P (c, a) → AllByRecursion P rest → AllByRecursion P ((if b then [] else (c, a) ∷ []) ++ rest)
all_term P c a rest true h k = k
all_term P c a rest false h k = (h, k)

pub all_changed : (P : ℤ × Atom → Type 0) (c : ℤ) (a : Atom) (ts : Form) → P (c, a) → AllByRecursion P ts → AllByRecursion P (with_coefficient c a ts)
all_changed P c a [] h k = subst (AllByRecursion P) (append_nothing (term c a)) (all_term P c a [] (int_eq c (pos 0)) h tt)
all_changed P c a (t ∷ ts) h k =
    by_cases (λ o. AllByRecursion P (match_ordering o (term c a ++ t ∷ ts) (term c a ++ ts) (t ∷ with_coefficient c a ts)))
    (atom_cmp a t.1)
    (λ e. all_term P c a (t ∷ ts) (int_eq c (pos 0)) h k)
    (λ e. all_term P c a ts (int_eq c (pos 0)) h k.1)
    (λ e. (k.0, all_changed P c a ts h k.1))

form_term : (c : ℤ) (a : Atom) (rest : Form) (b : Bool) → int_eq c (pos 0) ≡ b → Above a rest → IsForm rest → IsForm ((if b then [] else (c, a) ∷ []) ++ rest)
form_term c a rest true e h k = k
form_term c a rest false e h k = ((λ z. false≢true (sym e ∙ (signed_Decides c (pos 0)).1 z)), h, k)

pub form_changed : (c : ℤ) (a : Atom) (ts : Form) → IsForm ts → IsForm (with_coefficient c a ts)
form_changed c a [] h = subst IsForm (append_nothing (term c a)) (form_term c a [] (int_eq c (pos 0)) refl tt tt)
form_changed c a (t ∷ ts) h =
    by_cases (λ o. IsForm (match_ordering o (term c a ++ t ∷ ts) (term c a ++ ts) (t ∷ with_coefficient c a ts)))
    (atom_cmp a t.1)
    (λ e. form_term c a (t ∷ ts) (int_eq c (pos 0)) refl (above_form a t ts e h) h)
    (λ e. form_term c a ts (int_eq c (pos 0)) refl (subst (λ (k : Atom). Above k ts) (sym (same_is a t.1 e)) h.1) h.2)
    (λ e. (h.0, all_changed (λ q. atom_cmp t.1 q.1 ≡ Less) c a ts (greater_less a t.1 e) h.1, form_changed c a ts h.2))

-- ---- what is added to a coefficient
zero_first : (p : ℤ) → pos 0 +ℤ p ≡ p
zero_first p = omega (arith, ints)

-- p more at an atom is its coefficient with p added
pub plus_is_change : (p : ℤ) (a : Atom) (ts : Form) → IsForm ts → plus_term p a ts ≡ with_coefficient (coefficient a ts +ℤ p) a ts
plus_is_change p a [] h = ap (λ z. term z a) (sym (zero_first p))
plus_is_change p a (t ∷ ts) h =
    by_cases (λ o. match_ordering o (term p a ++ t ∷ ts) (term (t.0 +ℤ p) a ++ ts) (t ∷ plus_term p a ts)
    ≡ match_ordering o (term (coefficient a (t ∷ ts) +ℤ p) a ++ t ∷ ts) (term (coefficient a (t ∷ ts) +ℤ p) a ++ ts) (t ∷ with_coefficient (coefficient a (t ∷ ts) +ℤ p) a ts))
    (atom_cmp a t.1)
    (λ e. ap (λ z. term z a ++ t ∷ ts) (sym (ap (λ z. z +ℤ p) (coefficient_absent a (t ∷ ts) (above_form a t ts e h)) ∙ zero_first p)))
    (λ e. ap (λ b. term ((if b then t.0 else coefficient a ts) +ℤ p) a ++ ts) (sym (equal_same a t.1 e)))
    (λ e.
    ap (λ us. t ∷ us) (plus_is_change p a ts h.2)
    ∙ ap (λ b. t ∷ with_coefficient ((if b then t.0 else coefficient a ts) +ℤ p) a ts) (sym (greater_differs a t.1 e)))

pub form_plus : (p : ℤ) (a : Atom) (ts : Form) → IsForm ts → IsForm (plus_term p a ts)
form_plus p a ts h = subst IsForm (sym (plus_is_change p a ts h)) (form_changed (coefficient a ts +ℤ p) a ts h)

pub coefficient_plus : (x : Atom) (p : ℤ) (a : Atom) (ts : Form) → IsForm ts → coefficient x (plus_term p a ts) ≡ (if same_atom x a then coefficient a ts +ℤ p else coefficient x ts)
coefficient_plus x p a ts h = ap (coefficient x) (plus_is_change p a ts h) ∙ coefficient_changed x a (coefficient a ts +ℤ p) ts h

-- ---- a form is its coefficients
own_coefficient : (t : ℤ × Atom) (ts : Form) → coefficient t.1 (t ∷ ts) ≡ t.0
own_coefficient t ts = ap (λ b. if b then t.0 else coefficient t.1 ts) (same_itself t.1)

later_coefficient : (x : Atom) (t : ℤ × Atom) (ts : Form) → same_atom x t.1 ≡ false → coefficient x (t ∷ ts) ≡ coefficient x ts
later_coefficient x t ts e = ap (λ b. if b then t.0 else coefficient x ts) e

rest_same : (t u : ℤ × Atom) (ts us : Form) → t.1 ≡ u.1 → Above t.1 ts → Above u.1 us → ((x : Atom) → coefficient x (t ∷ ts) ≡ coefficient x (u ∷ us)) → (x : Atom) → coefficient x ts ≡ coefficient x us
rest_same t u ts us p h k e x =
    by_test (λ b. same_atom x t.1 ≡ b → coefficient x ts ≡ coefficient x us) (same_atom x t.1)
    (λ s w.
    let at : x ≡ t.1 = (same_atom-Decides x t.1).0 s in
    subst (λ (z : Atom). coefficient z ts ≡ coefficient z us) (sym at) (coefficient_absent t.1 ts h ∙ sym (coefficient_absent t.1 us (subst (λ (z : Atom). Above z us) (sym p) k))))
    (λ s w. sym (later_coefficient x t ts s) ∙ (e x ∙ later_coefficient x u us (subst (λ (z : Atom). same_atom x z ≡ false) p s)))
    refl

first_same : (t u : ℤ × Atom) → t.0 ≡ u.0 → t.1 ≡ u.1 → t ≡ u
first_same t u p q = λ i. (p i, q i)

pub form_is_coefficients : (xs ys : Form) → IsForm xs → IsForm ys → ((a : Atom) → coefficient a xs ≡ coefficient a ys) → xs ≡ ys
form_is_coefficients [] [] h k e = refl
form_is_coefficients [] (u ∷ us) h k e = absurd (k.0 (sym (own_coefficient u us) ∙ sym (e u.1)))
form_is_coefficients (t ∷ ts) [] h k e = absurd (h.0 (sym (own_coefficient t ts) ∙ e t.1))
form_is_coefficients (t ∷ ts) (u ∷ us) h k e =
    by_cases (λ o. t ∷ ts ≡ u ∷ us)
    (atom_cmp t.1 u.1)
    (λ l. absurd (h.0 (sym (own_coefficient t ts) ∙ (e t.1 ∙ coefficient_absent t.1 (u ∷ us) (above_form t.1 u us l k)))))
    (λ l.
    let p : t.1 ≡ u.1 = same_is t.1 u.1 l in
    let q : t.0 ≡ u.0 = sym (own_coefficient t ts) ∙ (e t.1 ∙ (ap (λ (z : Atom). coefficient z (u ∷ us)) p ∙ own_coefficient u us)) in
    let first : t ≡ u = first_same t u q p in
    let rest : ts ≡ us = form_is_coefficients ts us h.2 k.2 (rest_same t u ts us p h.1 k.1 e) in
    λ i. first i ∷ rest i)
    (λ l. absurd (k.0 (sym (own_coefficient u us) ∙ (sym (e u.1) ∙ coefficient_absent u.1 (t ∷ ts) (above_form u.1 t ts (greater_less t.1 u.1 l) h)))))
