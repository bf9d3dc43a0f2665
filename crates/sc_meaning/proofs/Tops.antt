-- The asked numbers: steps of loops over them, and their values.
use Rattle.std.proofs.Common.{◌≡◌, ℕ, zero, suc, ◌+◌, ◌<◌, ◌≤◌, ℤ, List, [], ◌∷◌, ◌++◌, take, drop, length, get_or, sym, ap, ◌∙◌, subst, arith, append_assoc, append-nil}
use Rattle.std.specs.List.{AllByRecursion}
use Rattle.std.proofs.lemmas.List.{drop_more, drop_all, take_all}
use Rattle.sc_base.proofs.Integers.{all_weaker}
use Rattle.sc_terms.specs.declared.atoms.Atom.{Atom}
use Rattle.sc_terms.specs.Conditions.{IsIn}
use Rattle.sc_terms.specs.Under.{atom_parts, form_parts}

-- ---- the greatest
pub item_within : (limit : ℕ) (ns : List ℕ) (i d : ℕ) → i < length ns → AllByRecursion (IsIn limit) ns → IsIn limit (get_or ns i d)
item_within limit [] i d lt h = absurd (omega arith)
item_within limit (n ∷ ns) zero d lt h = h.0
item_within limit (n ∷ ns) (suc i) d lt h = item_within limit ns i d (omega arith) h.1

taken_more : (P : ℕ → Type 0) (ns : List ℕ) (i d : ℕ) → i < length ns → AllByRecursion P (take i ns) → P (get_or ns i d) → AllByRecursion P (take (i + 1) ns)
taken_more P [] i d lt h p = absurd (omega arith)
taken_more P (n ∷ ns) zero d lt h p = (p, tt)
taken_more P (n ∷ ns) (suc i) d lt h p = (let e : suc (i + 1) ≡ suc i + 1 = omega arith in subst (λ k. AllByRecursion P (take k (n ∷ ns))) e (h.0, taken_more P ns i d (omega arith) h.1 p))

pub larger_next : (ns : List ℕ) (i d old new limit : ℕ) → i < length ns → AllByRecursion (IsIn limit) ns → old ≤ new → get_or ns i d ≤ new → AllByRecursion (IsIn old) (take i ns) → AllByRecursion (IsIn new) (take (i + 1) ns)
larger_next ns i d old new limit lt all a b h =
    taken_more (IsIn new) ns i d lt (all_weaker (IsIn old) (IsIn new) (λ m k. (k.0, raise m k.1)) (take i ns) h)
    (let p = item_within limit ns i d lt all in (p.0, b))
  where
    raise : (m : ℕ) → m ≤ old → m ≤ new
    raise m k = omega arith

pub all_there : (ns : List ℕ) (i g : ℕ) → length ns ≤ i → AllByRecursion (IsIn g) (take i ns) → AllByRecursion (IsIn g) ns
all_there ns i g past h = subst (AllByRecursion (IsIn g)) (take_all i ns past) h

-- ---- the numbers that a form names
pub named_next : (terms : List (ℤ × Atom)) (i : ℕ) (d : ℤ × Atom) (old new all : List ℕ) → i < length terms → d ≡ get_or terms i d → new ≡ old ++ atom_parts d.1 → old ++ form_parts (drop i terms) ≡ all → new ++ form_parts (drop (i + 1) terms) ≡ all
named_next terms i d old new all lt is e h =
    ap (λ ns. ns ++ form_parts (drop (i + 1) terms)) (e ∙ ap (λ (p : ℤ × Atom). old ++ atom_parts p.1) is)
    ∙ append_assoc old (atom_parts (get_or terms i d).1) (form_parts (drop (i + 1) terms))
    ∙ ap (λ ts. old ++ form_parts ts) (sym (drop_more terms i d lt))
    ∙ h

pub named_all : (terms : List (ℤ × Atom)) (i : ℕ) (ns all : List ℕ) → length terms ≤ i → ns ++ form_parts (drop i terms) ≡ all → ns ≡ all
named_all terms i ns all past h = sym (append-nil ns) ∙ ap (λ ts. ns ++ form_parts ts) (sym (drop_all i terms past)) ∙ h
