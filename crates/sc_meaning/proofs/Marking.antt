-- Steps of marking.
use Rattle.std.proofs.Common.{◌≡◌, ℕ, zero, suc, ◌+◌, ◌-◌, ◌<◌, Bool, true, false, ℤ, List, [], ◌∷◌, ◌++◌, length, drop, get_or, refl, sym, ap, ◌∙◌, arith}
use Rattle.std.specs.Prelude.{slice_set}
use Rattle.std.proofs.lemmas.List.{drop_more}
use Rattle.sc_terms.specs.declared.atoms.Atom.{Atom}
use Rattle.sc_terms.specs.declared.nodes.Node.{Node}
use Rattle.sc_terms.specs.Under.{atom_parts, form_parts}
use Rattle.sc_meaning.specs.Marks.{with_marks, swept_once, swept, unmarked}

pub unmarked_more : (n : ℕ) → unmarked n ++ false ∷ [] ≡ unmarked (n + 1)
unmarked_more zero = refl
unmarked_more (suc n) = ap (λ bs. false ∷ bs) (unmarked_more n) ∙ (let e : suc (n + 1) ≡ suc n + 1 = omega arith in ap unmarked e)

pub marks_joined : (ms ns : List ℕ) (marks : List Bool) → with_marks (ms ++ ns) marks ≡ with_marks ns (with_marks ms marks)
marks_joined [] ns marks = refl
marks_joined (m ∷ ms) ns marks = marks_joined ms ns (slice_set marks m true)

pub form_marked : (terms : List (ℤ × Atom)) (i : ℕ) (d : ℤ × Atom) (old new all : List Bool) → i < length terms → d ≡ get_or terms i d → new ≡ with_marks (atom_parts d.1) old → with_marks (form_parts (drop i terms)) old ≡ all → with_marks (form_parts (drop (i + 1) terms)) new ≡ all
form_marked terms i d old new all within is e h =
    ap (with_marks (form_parts (drop (i + 1) terms))) (e ∙ ap (λ (p : ℤ × Atom). with_marks (atom_parts p.1) old) is)
    ∙ sym (marks_joined (atom_parts (get_or terms i d).1) (form_parts (drop (i + 1) terms)) old)
    ∙ ap (λ ts. with_marks (form_parts ts) old) (sym (drop_more terms i d within))
    ∙ h

pub swept_more : (bank : List Node) (n : ℕ) (old new all : List Bool) → 0 < n → new ≡ swept_once bank n old → swept bank n old ≡ all → swept bank (n - 1) new ≡ all
swept_more bank zero old new all some e h = absurd (omega arith)
swept_more bank (suc n) old new all some e h =
    let back : suc n - 1 ≡ n = omega arith in
    (λ i. swept bank (back i) (e i)) ∙ h
