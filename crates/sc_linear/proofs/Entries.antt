-- A map from atoms to coefficients as a form.
use Rattle.std.proofs.Common.{◌≡◌, ◌≢◌, ℕ, ◌+◌, ◌<◌, drop, get_or, length, append_assoc, Bool, true, false, cond, ℤ, pos, List, [], ◌∷◌, ◌++◌, Option, Some, refl, sym, ap, subst, ◌∙◌}
use Rattle.std.specs.Prelude.{if◌then◌else◌}
use Rattle.std.specs.declared.cmp.Ordering.TheVariants.{Less}
use Rattle.std.specs.Ordering.{int_eq, match_ordering, is_eq}
use Rattle.std.specs.Option.{unwrap_or}
use Rattle.std.specs.BTreeMap.{insert_entry, is_at}
use Rattle.std.specs.Map.{lookup, remove_entry}
use Rattle.std.specs.List.{AllByRecursion}
use Rattle.std.specs.Cmp.{signed_Decides}
use Rattle.std.proofs.lemmas.List.{drop_more}
use Rattle.sc_terms.specs.declared.atoms.Atom.{Atom}
use Rattle.sc_terms.specs.Forms.{atom_cmp, IsForm}
use Rattle.sc_terms.specs.Orders.{atom_ties}
use Rattle.sc_terms.specs.Same.{same_atom}
use Rattle.sc_linear.specs.Rows.{coefficient, term}
use Rattle.sc_linear.specs.Sums.{as_term, terms_of, with_coefficient}
use Rattle.sc_linear.proofs.Forms.{Form, by_cases, same_is, Above, above_below, less_greater}

abbrev pub Entries : Type 0
Entries = List (Atom × ℤ)

found_case : (c : ℤ) (rest : Option ℤ) (z : ℤ) (b s : Bool) → s ≡ b → z ≡ unwrap_or rest (pos 0) → (if s then c else z) ≡ unwrap_or (cond b (Some c) rest) (pos 0)
found_case c rest z true s f h = ap (λ k. if k then c else z) f
found_case c rest z false s f h = ap (λ k. if k then c else z) f ∙ h

-- the value found for an atom, or 0, is its coefficient
pub looked_up : (a : Atom) (es : Entries) → coefficient a (terms_of es) ≡ unwrap_or (lookup (is_at (atom_cmp a)) es) (pos 0)
looked_up a [] = refl
looked_up a (e ∷ es) = found_case e.1 (lookup (is_at (atom_cmp a)) es) (coefficient a (terms_of es)) (is_eq (atom_cmp a e.0)) (same_atom a e.0) (atom_ties a e.0) (looked_up a es)

term_there : (c : ℤ) (a : Atom) (b : Bool) → int_eq c (pos 0) ≡ b → c ≢ pos 0 → ◌≡◌ {A = Form} ((c, a) ∷ []) (if b then [] else (c, a) ∷ [])
term_there c a true e n = absurd (n ((signed_Decides c (pos 0)).0 e))
term_there c a false e n = refl

-- a coefficient that is not 0 is put at its place
pub inserted : (a : Atom) (c : ℤ) (es next : Entries) → c ≢ pos 0 → next ≡ insert_entry atom_cmp es a c → terms_of next ≡ with_coefficient c a (terms_of es)
inserted a c es next n e = ap terms_of e ∙ placed es where
  there : ◌≡◌ {A = Form} ((c, a) ∷ []) (term c a)
  there = term_there c a (int_eq c (pos 0)) refl n

  placed : (es : Entries) → terms_of (insert_entry atom_cmp es a c) ≡ with_coefficient c a (terms_of es)
  placed [] = there
  placed (e ∷ es) =
      by_cases (λ o. terms_of (match_ordering o ((a, c) ∷ e ∷ es) ((e.0, c) ∷ es) (e ∷ insert_entry atom_cmp es a c)) ≡ match_ordering o (term c a ++ as_term e ∷ terms_of es) (term c a ++ terms_of es) (as_term e ∷ with_coefficient c a (terms_of es)))
      (atom_cmp a e.0)
      (λ f. ap (λ ts. ts ++ as_term e ∷ terms_of es) there)
      (λ f. ap (λ (k : Atom). (c, k) ∷ terms_of es) (sym (same_is a e.0 f)) ∙ ap (λ ts. ts ++ terms_of es) there)
      (λ f. ap (λ ts. as_term e ∷ ts) (placed es))

-- the same for a copy of the atom, and a coefficient as it was read
pub entered : (a b : Atom) (c d : ℤ) (es next : Entries) → c ≢ pos 0 → next ≡ insert_entry atom_cmp es b d → b ≡ a → d ≡ c → terms_of next ≡ with_coefficient c a (terms_of es)
entered a b c d es next n e p q = inserted a c es next n (e ∙ (λ i. insert_entry atom_cmp es (p i) (q i)))

-- nothing is removed where the atom stands below all
nothing_there : (a : Atom) (es : Entries) → Above a (terms_of es) → remove_entry (is_at (atom_cmp a)) es ≡ es
nothing_there a [] h = refl
nothing_there a (e ∷ es) h = ap (λ o. cond (is_eq o) es (e ∷ remove_entry (is_at (atom_cmp a)) es)) h.0 ∙ ap (λ xs. e ∷ xs) (nothing_there a es h.1)

-- the coefficient 0 is no entry
pub removed : (a : Atom) (es next : Entries) → IsForm (terms_of es) → next ≡ remove_entry (is_at (atom_cmp a)) es → terms_of next ≡ with_coefficient (pos 0) a (terms_of es)
removed a es next h e = ap terms_of e ∙ gone es h where
  gone : (es : Entries) → IsForm (terms_of es) → terms_of (remove_entry (is_at (atom_cmp a)) es) ≡ with_coefficient (pos 0) a (terms_of es)
  gone [] h = refl
  gone (e ∷ es) h =
      by_cases (λ o. atom_cmp a e.0 ≡ o → terms_of (cond (is_eq o) es (e ∷ remove_entry (is_at (atom_cmp a)) es)) ≡ match_ordering o (as_term e ∷ terms_of es) (terms_of es) (as_term e ∷ with_coefficient (pos 0) a (terms_of es)))
      (atom_cmp a e.0)
      (λ f w. ap (λ xs. as_term e ∷ terms_of xs) (nothing_there a es (above_below a e.0 (terms_of es) f h.1)))
      (λ f w. refl)
      (λ f w. ap (λ ts. as_term e ∷ ts) (gone es h.2))
      refl

-- a term above all others is put at the end
pub put_last : (t : ℤ × Atom) (xs ts : Form) → IsForm (xs ++ t ∷ ts) → with_coefficient t.0 t.1 xs ≡ xs ++ t ∷ []
put_last t [] ts h = sym (term_there t.0 t.1 (int_eq t.0 (pos 0)) refl h.0)
put_last t (x ∷ xs) ts h =
    ap (λ o. match_ordering o (term t.0 t.1 ++ x ∷ xs) (term t.0 t.1 ++ xs) (x ∷ with_coefficient t.0 t.1 xs)) (less_greater x.1 t.1 (before x xs h.1))
    ∙ ap (λ ys. x ∷ ys) (put_last t xs ts h.2) where
      before : (x : ℤ × Atom) (xs : Form) → AllByRecursion (λ q. atom_cmp x.1 q.1 ≡ Less) (xs ++ t ∷ ts) → atom_cmp x.1 t.1 ≡ Less
      before x [] k = k.0
      before x (y ∷ ys) k = before x ys k.1

-- ---- copying a form, term after term
all_front : (P : ℤ × Atom → Type 0) (xs ys : Form) → AllByRecursion P (xs ++ ys) → AllByRecursion P xs
all_front P [] ys h = tt
all_front P (x ∷ xs) ys h = (h.0, all_front P xs ys h.1)

pub form_front : (xs ys : Form) → IsForm (xs ++ ys) → IsForm xs
form_front [] ys h = tt
form_front (x ∷ xs) ys h = (h.0, all_front (λ q. atom_cmp x.1 q.1 ≡ Less) xs ys h.1, form_front xs ys h.2)

pub one_copied : (done next ts : Form) (i : ℕ) (t : ℤ × Atom) → i < length ts → t ≡ get_or ts i t → IsForm ts → done ++ drop i ts ≡ ts → next ≡ with_coefficient t.0 t.1 done → next ++ drop (i + 1) ts ≡ ts
one_copied done next ts i t l at f h e =
    let d : drop i ts ≡ t ∷ drop (i + 1) ts = drop_more ts i t l ∙ ap (λ x. x ∷ drop (i + 1) ts) (sym at) in
    let whole : done ++ t ∷ drop (i + 1) ts ≡ ts = ap (λ xs. done ++ xs) (sym d) ∙ h in
    let last : next ≡ done ++ t ∷ [] = e ∙ put_last t done (drop (i + 1) ts) (subst IsForm (sym whole) f) in
    ap (λ xs. xs ++ drop (i + 1) ts) last ∙ (append_assoc done (t ∷ []) (drop (i + 1) ts) ∙ whole)
