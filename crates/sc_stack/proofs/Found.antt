-- What a look-up finds.
use Rattle.std.proofs.Common.{◌≡◌, ℕ, Bool, true, false, cond, List, Option, Some, None, refl, sym, ap, subst, ◌∙◌}
use Rattle.std.specs.Prelude.{option_map, slice_get}
use Rattle.std.specs.Option.{option_or}
use Rattle.std.specs.Str.{bytes_eq}
use Rattle.sc_base.specs.Numbered.{item_at}
use Rattle.sc_base.specs.Options.{◌>>=◌}
use Rattle.sc_terms.specs.declared.nodes.Sort.{Sort}
use Rattle.sc_stack.specs.declared.stack.Constant.{Constant}
use Rattle.sc_stack.specs.declared.stack.Named.{Named}
use Rattle.sc_stack.specs.declared.stack.Named.TheVariants as named
use Rattle.sc_stack.specs.Names.{Names, look_up, first_of, sort_named, constant_named, sorts_of, sorts_in_force, constants_in_force, IsNumber, IsSort, SortIsFound, ConstantIsFound, IsNames}
use Rattle.sc_stack.proofs.Numbers.{item_at-map, number_of_item, all_at, first_of-some, all_get}

pub sort_at : (names : Names) (n : ℕ) → item_at (sorts_of names) n ≡ option_map (λ (c : Constant). c.sort) (item_at names.constants n)
sort_at names n = item_at-map (λ (c : Constant). c.sort) names.constants n

pub sort_of_constant : (names : Names) (n : ℕ) (c : Constant) → item_at names.constants n ≡ Some c → item_at (sorts_of names) n ≡ Some c.sort
sort_of_constant names n c e = sort_at names n ∙ ap (option_map (λ (c : Constant). c.sort)) e

-- whether something is a sort with the number, or a constant with the number and the sort
found_sort : (all : List (List ℕ)) (name : List ℕ) (n : ℕ) (o : Option (List ℕ)) (x : Named) → item_at all n ≡ o → (o >>= λ own. cond (bytes_eq name own) (Some (named.Sort n)) None) ≡ Some x → (x ≡ named.Sort n) × IsNumber all n
found_sort all name n None x at e = cc
found_sort all name n (Some own) x at e = (by (bytes_eq name own) e, number_of_item all n own at)
  where
    by : (b : Bool) → cond b (Some (named.Sort n)) None ≡ Some x → x ≡ named.Sort n
    by true e = cc
    by false e = cc

found_constant : (all : List Constant) (name : List ℕ) (n : ℕ) (o : Option Constant) (x : Named) → item_at all n ≡ o → (o >>= λ (c : Constant). cond (bytes_eq name c.name) (Some (named.Constant n c.sort)) None) ≡ Some x → (c : Constant) × ((x ≡ named.Constant n c.sort) × (item_at all n ≡ Some c))
found_constant all name n None x at e = cc
found_constant all name n (Some c) x at e = (c, (by (bytes_eq name c.name) e, at))
  where
    by : (b : Bool) → cond b (Some (named.Constant n c.sort)) None ≡ Some x → x ≡ named.Constant n c.sort
    by true e = cc
    by false e = cc

-- what is found is a sort or a constant
data Found (names : Names) : Named → Type 0 where
  IsSortFound : (n : ℕ) → IsNumber names.sorts n → Found names (named.Sort n)
  IsConstantFound : (n : ℕ) (c : Constant) → item_at names.constants n ≡ Some c → Found names (named.Constant n c.sort)

found : (names : Names) (name : List ℕ) (x : Named) → look_up names name ≡ Some x → Found names x
found names name x e = by (first_of (sort_named names.sorts name) (sorts_in_force names)) refl e
  where
    by : (o : Option Named) → first_of (sort_named names.sorts name) (sorts_in_force names) ≡ o → option_or o (first_of (constant_named names.constants name) (constants_in_force names)) ≡ Some x → Found names x
    by (Some y) first e =
        let one = first_of-some (sort_named names.sorts name) (sorts_in_force names) x (first ∙ e) in
        let is = found_sort names.sorts name one.0 (item_at names.sorts one.0) x refl one.1 in
        subst (Found names) (sym is.0) (IsSortFound one.0 is.1)
    by None first e =
        let one = first_of-some (constant_named names.constants name) (constants_in_force names) x e in
        let is = found_constant names.constants name one.0 (item_at names.constants one.0) x refl one.1 in
        subst (Found names) (sym is.1.0) (IsConstantFound one.0 is.0 is.1.1)

sort_law : (names : Names) (x : Named) → Found names x → (n : ℕ) → x ≡ named.Sort n → IsNumber names.sorts n
sort_law names _ (IsSortFound m h) n e = let same : m ≡ n = cc in subst (IsNumber names.sorts) same h
sort_law names _ (IsConstantFound m c at) n e = cc

constant_law : (names : Names) (x : Named) → Found names x → (n : ℕ) (sort : Sort) → x ≡ named.Constant n sort → (c : Constant) × ((item_at names.constants n ≡ Some c) × (c.sort ≡ sort))
constant_law names _ (IsSortFound m h) n sort e = cc
constant_law names _ (IsConstantFound m c at) n sort e = let same : m ≡ n = cc in (c, (subst (λ k. item_at names.constants k ≡ Some c) same at, cc))

pub sorts_have_numbers : (names : Names) (name : List ℕ) (n : ℕ) → look_up names name ≡ Some (named.Sort n) → IsNumber names.sorts n
sorts_have_numbers names name n e = sort_law names (named.Sort n) (found names name (named.Sort n) e) n refl

pub constants_are : (names : Names) (name : List ℕ) (n : ℕ) (sort : Sort) → look_up names name ≡ Some (named.Constant n sort) → (c : Constant) × ((item_at names.constants n ≡ Some c) × (c.sort ≡ sort))
constants_are names name n sort e = constant_law names (named.Constant n sort) (found names name (named.Constant n sort) e) n sort refl

pub constants_have_numbers : (names : Names) (name : List ℕ) (n : ℕ) (sort : Sort) → look_up names name ≡ Some (named.Constant n sort) → IsNumber names.constants n
constants_have_numbers names name n sort e = let c = constants_are names name n sort e in number_of_item names.constants n c.0 c.1.0

pub constants_have_sorts : (names : Names) (name : List ℕ) (n : ℕ) (sort : Sort) → look_up names name ≡ Some (named.Constant n sort) → item_at (sorts_of names) n ≡ Some sort
constants_have_sorts names name n sort e =
    let c = constants_are names name n sort e in
    sort_at names n ∙ ap (option_map (λ (c : Constant). c.sort)) c.1.0 ∙ ap Some c.1.1

pub constants_have_own_sorts : (names : Names) (name : List ℕ) (n : ℕ) (sort : Sort) → IsNames names → look_up names name ≡ Some (named.Constant n sort) → IsSort names sort
constants_have_own_sorts names name n sort stands e =
    let c = constants_are names name n sort e in
    subst (IsSort names) c.1.1 (all_at (λ (c : Constant). IsSort names c.sort) names.constants n c.0 stands.sorts_declared c.1.0)

pub own_sorts : (names : Names) (k n : ℕ) (name : List ℕ) → IsNames names → slice_get (sorts_in_force names) k ≡ Some n → item_at names.sorts n ≡ Some name → look_up names name ≡ Some (named.Sort n)
own_sorts names k n name stands at is = all_get (SortIsFound names) (sorts_in_force names) k n stands.sorts_found at name is

pub own_constants : (names : Names) (k n : ℕ) (c : Constant) → IsNames names → slice_get (constants_in_force names) k ≡ Some n → item_at names.constants n ≡ Some c → look_up names c.name ≡ Some (named.Constant n c.sort)
own_constants names k n c stands at is = all_get (ConstantIsFound names) (constants_in_force names) k n stands.constants_found at c is
