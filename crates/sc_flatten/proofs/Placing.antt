-- Forms whose terms are put at their places, by the new numbers of their atoms.
use Rattle.std.proofs.Common.{◌≡◌, ◌≢◌, ℕ, zero, suc, ◌+◌, ◌<◌, ◌≤◌, cond, ℤ, pos, List, [], ◌∷◌, length, drop, get_or, ◌-◌, map, Option, Some, refl, sym, ap, subst, ◌∙◌, arith}
use Rattle.std.specs.List.{AllByRecursion}
use Rattle.std.specs.declared.cmp.Ordering.{Ordering}
use Rattle.std.specs.declared.cmp.Ordering.TheVariants.{Less, Equal, Greater}
use Rattle.std.specs.Ordering.{nat_cmp, is_lt, match_ordering, ordering_reverse}
use Rattle.std.specs.FinMap.{nat_cmp-IsAntisymmetric}
use Rattle.std.specs.BTreeMap.{insert_entry}
use Rattle.std.proofs.lemmas.List.{drop_more}
use Rattle.sc_base.specs.Numbered.{item_at}
use Rattle.sc_base.proofs.Integers.{all_weaker}
use Rattle.sc_terms.specs.declared.atoms.Atom.{Atom}
use Rattle.sc_terms.specs.declared.atoms.Atom.TheVariants as atoms
use Rattle.sc_terms.specs.Forms.{atom_cmp, IsForm}
use Rattle.sc_terms.specs.Orders.{atom_total}
use Rattle.sc_flatten.specs.Stock.{Numbering, number_in, atom_in, placed_term, form_in}
use Rattle.sc_flatten.specs.Numbered.{IsAmong, AtomListed, TermListed, FormListed}
use Rattle.sc_flatten.specs.Tables.{as_term}
use Rattle.sc_flatten.proofs.Firsts.{number_there}
use Rattle.sc_flatten.proofs.Falls.{all_placed}

-- ---- different items have different numbers
some_same : (m n : ℕ) → ◌≡◌ {A = Option ℕ} (Some m) (Some n) → m ≡ n
some_same m n e = cc

pub same_numbers : (ns : List ℕ) (m n : ℕ) → IsAmong ns m → IsAmong ns n → number_in ns m ≡ number_in ns n → m ≡ n
same_numbers ns m n h k e = some_same m n (sym (number_there ns m h) ∙ (ap (item_at ns) e ∙ number_there ns n k))

less_not_equal : ◌≡◌ {A = Ordering} Less Equal → ⊥
less_not_equal e = absurd cc

less_apart : (m n : ℕ) → nat_cmp m n ≡ Less → m ≡ n → ⊥
less_apart m n e s = less_not_equal (sym e ∙ (ap (λ k. nat_cmp k n) s ∙ tie n)) where
  tie : (k : ℕ) → nat_cmp k k ≡ Equal
  tie k = grind arith

-- the atoms aren't one
abbrev pub IsApart : Atom → Atom → Type 0
IsApart a b = atom_cmp a b ≡ Equal → ⊥

pub atoms_apart : (by : Numbering) (a b : Atom) → AtomListed by a → AtomListed by b → atom_cmp a b ≡ Less → IsApart (atom_in by a) (atom_in by b)
atoms_apart by (atoms.Int m) (atoms.Int n) h k e t = less_apart m n e (same_numbers by.ints m n h k (nat_cmp-IsAntisymmetric (number_in by.ints m) (number_in by.ints n) t))
atoms_apart by (atoms.Int m) (atoms.Card n) h k e t = less_not_equal t
atoms_apart by (atoms.Card m) (atoms.Int n) h k e t = absurd cc
atoms_apart by (atoms.Card m) (atoms.Card n) h k e t = less_apart m n e (same_numbers by.sets m n h k (nat_cmp-IsAntisymmetric (number_in by.sets m) (number_in by.sets n) t))
atoms_apart by (atoms.Diff m) b h k e t = absurd h
atoms_apart by (atoms.Size m) b h k e t = absurd h
atoms_apart by (atoms.Int m) (atoms.Diff n) h k e t = absurd k
atoms_apart by (atoms.Int m) (atoms.Size n) h k e t = absurd k
atoms_apart by (atoms.Card m) (atoms.Diff n) h k e t = absurd k
atoms_apart by (atoms.Card m) (atoms.Size n) h k e t = absurd k

-- the new atom of a form's first term is none of those of the others
pub first_apart : (by : Numbering) (p : ℤ × Atom) (ps : List (ℤ × Atom)) → AtomListed by p.1 → AllByRecursion (TermListed by) ps → AllByRecursion (λ q. atom_cmp p.1 q.1 ≡ Less) ps → AllByRecursion (λ q. IsApart (atom_in by p.1) q.1) (form_in by ps)
first_apart by p [] h k l = tt
first_apart by p (q ∷ qs) h k l = all_placed (λ r. IsApart (atom_in by p.1) r.1) (q.0, atom_in by q.1) (form_in by qs) (atoms_apart by p.1 q.1 h k.0.1 l.0) (first_apart by p qs h k.1 l.1)

-- ---- a map from atoms puts them at the same places
by_cases : (P : Ordering → Type 0) (o : Ordering) → (o ≡ Less → P Less) → (o ≡ Equal → P Equal) → (o ≡ Greater → P Greater) → P o
by_cases P Less a b c = a refl
by_cases P Equal a b c = b refl
by_cases P Greater a b c = c refl

pub placed_entry : (a : Atom) (z : ℤ) (es : List (Atom × ℤ)) → AllByRecursion (λ q. IsApart a q.1) (map as_term es) → map as_term (insert_entry atom_cmp es a z) ≡ placed_term (z, a) (map as_term es)
placed_entry a z [] h = refl
placed_entry a z (e ∷ es) h =
    by_cases (λ o. map as_term (match_ordering o ((a, z) ∷ e ∷ es) ((e.0, z) ∷ es) (e ∷ insert_entry atom_cmp es a z)) ≡ cond (is_lt o) ((z, a) ∷ as_term e ∷ map as_term es) (as_term e ∷ placed_term (z, a) (map as_term es)))
    (atom_cmp a e.0)
    (λ t. refl)
    (λ t. absurd (h.0 t))
    (λ t. ap (λ rest. as_term e ∷ rest) (placed_entry a z es h.1))

-- ---- the placed terms ascend
reverse_greater : (o : Ordering) → Greater ≡ ordering_reverse o → o ≡ Less
reverse_greater Less e = refl
reverse_greater Equal e = absurd cc
reverse_greater Greater e = absurd cc

greater_less : (a b : Atom) → atom_cmp a b ≡ Greater → atom_cmp b a ≡ Less
greater_less a b e = reverse_greater (atom_cmp b a) (sym e ∙ atom_total.antisymm a b)

pub placed_form : (p : ℤ × Atom) (qs : List (ℤ × Atom)) → (p.0 ≢ pos 0) → AllByRecursion (λ q. IsApart p.1 q.1) qs → IsForm qs → IsForm (placed_term p qs)
placed_form p [] z h f = (z, tt, tt)
placed_form p (q ∷ qs) z h f =
    by_cases (λ o. IsForm (cond (is_lt o) (p ∷ q ∷ qs) (q ∷ placed_term p qs)))
    (atom_cmp p.1 q.1)
    (λ t. (z, (t, all_weaker (λ r. atom_cmp q.1 r.1 ≡ Less) (λ r. atom_cmp p.1 r.1 ≡ Less) (λ r l. atom_total.trans p.1 q.1 r.1 t l) qs f.1), f))
    (λ t. absurd (h.0 t))
    (λ t. (f.0, all_placed (λ r. atom_cmp q.1 r.1 ≡ Less) p qs (greater_less p.1 q.1 t) f.1, placed_form p qs z h.1 f.2))

pub form_in_form : (by : Numbering) (form : List (ℤ × Atom)) → FormListed by form → IsForm (form_in by form)
form_in_form by [] h = tt
form_in_form by (p ∷ ps) h = placed_form (p.0, atom_in by p.1) (form_in by ps) h.0.0 (first_apart by p ps h.1.0.1 h.1.1 h.0.1) (form_in_form by ps (h.0.2, h.1.1))

-- ---- one term more is placed
form_drop : (by : Numbering) (form : List (ℤ × Atom)) (i : ℕ) → FormListed by form → FormListed by (drop i form)
form_drop by form zero h = h
form_drop by [] (suc i) h = h
form_drop by (p ∷ ps) (suc i) h = form_drop by ps i (h.0.2, h.1.1)

pub place_more : (by : Numbering) (form : List (ℤ × Atom)) (i : ℕ) (p : ℤ × Atom) (es next : List (Atom × ℤ)) → FormListed by form → 0 < i → i ≤ length form → p ≡ get_or form (i - 1) p → map as_term es ≡ form_in by (drop i form) → next ≡ insert_entry atom_cmp es (atom_in by p.1) p.0 → map as_term next ≡ form_in by (drop (i - 1) form)
place_more by form i p es next h some few is placed made =
    let back : i - 1 + 1 ≡ i = omega arith in
    let within : i - 1 < length form = omega arith in
    let whole : drop (i - 1) form ≡ p ∷ drop i form = drop_more form (i - 1) p within ∙ (λ j. sym is j ∷ drop (back j) form) in
    let listed : FormListed by (p ∷ drop i form) = subst (FormListed by) whole (form_drop by form (i - 1) h) in
    let apart : AllByRecursion (λ q. IsApart (atom_in by p.1) q.1) (map as_term es) = subst (AllByRecursion (λ q. IsApart (atom_in by p.1) q.1)) (sym placed) (first_apart by p (drop i form) listed.1.0.1 listed.1.1 listed.0.1) in
    ap (map as_term) made ∙ (placed_entry (atom_in by p.1) p.0 es apart ∙ (ap (placed_term (p.0, atom_in by p.1)) placed ∙ ap (form_in by) (sym whole)))
