-- The constants of a bank keep their sorts as more constants are declared.
use Rattle.std.proofs.Common.{◌≡◌, ℕ, zero, suc, ℤ, List, [], ◌∷◌, ◌++◌, map, Some, refl, sym, ap, subst}
use Rattle.std.specs.Prelude.{slice_get}
use Rattle.sc_base.specs.Numbered.{item_at}
use Rattle.sc_terms.specs.declared.atoms.Atom.{Atom}
use Rattle.sc_terms.specs.declared.atoms.Atom.TheVariants as atoms
use Rattle.sc_terms.specs.declared.nodes.Node.{Node}
use Rattle.sc_terms.specs.declared.nodes.Node.TheVariants as nodes
use Rattle.sc_terms.specs.declared.nodes.Formula.{Formula}
use Rattle.sc_terms.specs.declared.nodes.Formula.TheVariants as formulas
use Rattle.sc_terms.specs.declared.nodes.SetTerm.{SetTerm}
use Rattle.sc_terms.specs.declared.nodes.SetTerm.TheVariants as sets
use Rattle.sc_terms.specs.declared.nodes.Element.{Element}
use Rattle.sc_terms.specs.declared.nodes.Element.TheVariants as elements
use Rattle.sc_terms.specs.declared.nodes.Sort.{Sort}
use Rattle.sc_terms.specs.Bank.{AtomHasSorts, FormHasSorts, FormulaHasSorts, SetHasSorts, ElementHasSorts, NodeHasSorts, HasSorts}
use Rattle.sc_stack.specs.declared.stack.Constant.{Constant}
use Rattle.sc_stack.specs.Names.{Names, sorts_of, with_constant}

get-more : {X : Type 0} (xs ys : List X) (k : ℕ) (x : X) → slice_get xs k ≡ Some x → slice_get (xs ++ ys) k ≡ Some x
get-more [] ys k x e = cc
get-more (z ∷ xs) ys zero x e = e
get-more (z ∷ xs) ys (suc k) x e = get-more xs ys k x e

item-more : {X : Type 0} (xs ys : List X) (n : ℕ) (x : X) → item_at xs n ≡ Some x → item_at (xs ++ ys) n ≡ Some x
item-more xs ys zero x e = cc
item-more xs ys (suc n) x e = get-more xs ys n x e

map-append : {X Y : Type 0} (f : X → Y) (xs ys : List X) → map f (xs ++ ys) ≡ map f xs ++ map f ys
map-append f [] ys = refl
map-append f (x ∷ xs) ys = ap (λ l. f x ∷ l) (map-append f xs ys)

module _ (known more : List Sort) where
  atom : (a : Atom) → AtomHasSorts known a → AtomHasSorts (known ++ more) a
  atom (atoms.Int c) h = item-more known more c _ h
  atom (atoms.Card s) h = h
  atom (atoms.Diff e) h = h
  atom (atoms.Size cube) h = h

  form : (ps : List (ℤ × Atom)) → FormHasSorts known ps → FormHasSorts (known ++ more) ps
  form [] h = _
  form (p ∷ ps) h = (atom p.1 h.0, form ps h.1)

  formula : (f : Formula) → FormulaHasSorts known f → FormulaHasSorts (known ++ more) f
  formula (formulas.Flag c) h = item-more known more c _ h
  formula (formulas.Le row) h = form row.form h
  formula formulas.True h = h
  formula formulas.False h = h
  formula (formulas.Not f) h = h
  formula (formulas.And fs) h = h
  formula (formulas.Or fs) h = h
  formula (formulas.Iff f g) h = h
  formula (formulas.Eq e f) h = h
  formula (formulas.EqSet s t) h = h
  formula (formulas.Member e s) h = h

  set : (s : SetTerm) → SetHasSorts known s → SetHasSorts (known ++ more) s
  set (sets.Const c sort) h = (item-more known more c sort h.0, h.1)
  set (sets.Empty sort) h = h
  set (sets.Single e) h = h
  set (sets.Union s t) h = h
  set (sets.Inter s t) h = h
  set (sets.Minus s t) h = h

  element : (e : Element) → ElementHasSorts known e → ElementHasSorts (known ++ more) e
  element (elements.Const c sort) h = (item-more known more c sort h.0, h.1)
  element (elements.Number affine) h = form affine.form h
  element (elements.Diff s t) h = h

  node : (x : Node) → NodeHasSorts known x → NodeHasSorts (known ++ more) x
  node (nodes.Formula f) h = formula f h
  node (nodes.Set s) h = set s h
  node (nodes.Element e) h = element e h

  pub sorts_with_more : (bank : List Node) → HasSorts known bank → HasSorts (known ++ more) bank
  sorts_with_more [] h = _
  sorts_with_more (x ∷ bank) h = (node x h.0, sorts_with_more bank h.1)

pub declarations_keep_sorts : (names : Names) (c : Constant) (bank : List Node) → HasSorts (sorts_of names) bank → HasSorts (sorts_of (with_constant names c)) bank
declarations_keep_sorts names c bank h =
    subst (λ known. HasSorts known bank) (sym (map-append (λ (c : Constant). c.sort) names.constants (c ∷ []))) (sorts_with_more (sorts_of names) (c.sort ∷ []) bank h)
