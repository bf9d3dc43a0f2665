-- Steps of a sum over the terms of a form.
use Rattle.std.proofs.Common.{◌≡◌, ℕ, zero, suc, ◌+◌, ◌<◌, ◌≤◌, ℤ, pos, ◌+ℤ◌, ◌*ℤ◌, List, [], ◌∷◌, length, drop, get_or, sym, ap, ◌∙◌, subst, arith}
use Rattle.std.specs.Prelude.{FitsSigned, Result, Ok, Err}
use Rattle.std.specs.Int.{w128}
use Rattle.std.specs.List.{AllByRecursion}
use Rattle.std.proofs.lemmas.Int.{ints}
use Rattle.std.proofs.lemmas.List.{drop_more, drop_all}
use Rattle.sc_terms.specs.declared.atoms.Atom.{Atom}
use Rattle.sc_terms.specs.BankValues.{no_parts}
use Rattle.sc_terms.specs.Meaning.{Valuation, atom_value, form_value}
use Rattle.sc_terms.specs.Values.{TermFits}
use Rattle.sc_meaning.specs.declared.error.EvalError.{EvalError}
use Rattle.sc_meaning.specs.declared.error.EvalError.TheVariants.{Wide, Memory}
use Rattle.sc_meaning.specs.Results.{Evaluates}

moved : (a b p s w : ℤ) → b ≡ a +ℤ p → a +ℤ (p +ℤ s) ≡ w → b +ℤ s ≡ w
moved a b p s w e h = omega (arith, ints)

module _ (v : Valuation) (terms : List (ℤ × Atom)) (i : ℕ) (d : ℤ × Atom) (within : i < length terms) where
  abbrev pub here : ℤ × Atom
  here = get_or terms i d

  pub sum_next : (a b w : ℤ) → b ≡ a +ℤ (here.0 *ℤ atom_value no_parts v here.1) → a +ℤ form_value no_parts v (drop i terms) ≡ w → b +ℤ form_value no_parts v (drop (i + 1) terms) ≡ w
  sum_next a b w e h =
      moved a b ((get_or terms i d).0 *ℤ atom_value no_parts v (get_or terms i d).1) (form_value no_parts v (drop (i + 1) terms)) w e
      (ap (λ xs. a +ℤ form_value no_parts v xs) (sym (drop_more terms i d within)) ∙ h)

  pub fits_next : TermFits no_parts v here → (AllByRecursion (TermFits no_parts v) (drop i terms) → AllByRecursion (TermFits no_parts v) terms) → AllByRecursion (TermFits no_parts v) (drop (i + 1) terms) → AllByRecursion (TermFits no_parts v) terms
  fits_next p h rest = h (subst (AllByRecursion (TermFits no_parts v)) (sym (drop_more terms i d within)) (p, rest))

  pub all_at : AllByRecursion (TermFits no_parts v) terms → TermFits no_parts v here
  all_at h = get terms i within h
    where
      get : (ts : List (ℤ × Atom)) (k : ℕ) → k < length ts → AllByRecursion (TermFits no_parts v) ts → TermFits no_parts v (get_or ts k d)
      get [] k l g = absurd (omega arith)
      get (t ∷ ts) zero l g = g.0
      get (t ∷ ts) (suc k) l g = get ts k (omega arith) g.1

pub all_there : (v : Valuation) (terms : List (ℤ × Atom)) (i : ℕ) → length terms ≤ i → (AllByRecursion (TermFits no_parts v) (drop i terms) → AllByRecursion (TermFits no_parts v) terms) → AllByRecursion (TermFits no_parts v) terms
all_there v terms i past h = h (subst (AllByRecursion (TermFits no_parts v)) (sym (drop_all i terms past)) tt)

sum_all : (v : Valuation) (terms : List (ℤ × Atom)) (i : ℕ) (a w : ℤ) → length terms ≤ i → a +ℤ form_value no_parts v (drop i terms) ≡ w → a ≡ w
sum_all v terms i a w past h =
    let e : a +ℤ pos 0 ≡ w = ap (λ xs. a +ℤ form_value no_parts v xs) (sym (drop_all i terms past)) ∙ h in omega (arith, ints)

pub all_added : (v : Valuation) (terms : List (ℤ × Atom)) (i : ℕ) (a b c w : ℤ) → length terms ≤ i → a +ℤ form_value no_parts v (drop i terms) ≡ w → b ≡ a +ℤ c → b ≡ w +ℤ c
all_added v terms i a b c w past h e = e ∙ ap (λ z. z +ℤ c) (sum_all v terms i a w past h)

-- a condition that holds may be added
pub with_condition : (P : Type 0) (a b : ℤ) (r : Result ℤ EvalError) → P → a ≡ b → Evaluates (FitsSigned w128 a) a r → Evaluates (P × FitsSigned w128 b) b r
with_condition P a b (Ok z) p e h = ((p, subst (FitsSigned w128) e h.0), h.1 ∙ e)
with_condition P a b (Err Wide) p e h = λ q. h (subst (FitsSigned w128) (sym e) q.1)
with_condition P a b (Err Memory) p e h = tt
