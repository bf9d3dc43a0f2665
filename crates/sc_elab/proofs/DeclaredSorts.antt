-- A sort that is read is built in, or made of a sort that was declared.
use Rattle.std.proofs.Common.{◌≡◌, ℕ, Bool, true, false, List, Option, Some, None, refl, subst}
use Rattle.std.specs.Prelude.{codes, if◌then◌else◌, Result, Ok, Err}
use Rattle.std.specs.Str.{bytes_eq}
use Rattle.sc_text.specs.declared.code.Code.{Code}
use Rattle.sc_text.specs.declared.code.Code.TheVariants as code
use Rattle.sc_sexpr.specs.Shapes.{Shape, Single, Listed, Shapes, Empty, More}
use Rattle.sc_terms.specs.declared.nodes.Sort.{Sort}
use Rattle.sc_terms.specs.declared.nodes.Sort.TheVariants as sorts
use Rattle.sc_stack.specs.declared.stack.Named.{Named}
use Rattle.sc_stack.specs.declared.stack.Named.TheVariants as named
use Rattle.sc_stack.specs.Names.{Names, look_up, IsNumber, IsSort}
use Rattle.sc_elab.specs.Words.{symbol_name}
use Rattle.sc_elab.specs.Sorts.{declared_sort, named_sort, named_sets, is_set_word, sets_of, sets_of_parts, token_sort, sort_of}
use Rattle.sc_elab.specs.Counts.{is_end}

-- sorts that are found have numbers
abbrev pub SortsHaveNumbers : Type 0
SortsHaveNumbers = (names : Names) (name : List ℕ) (n : ℕ) → look_up names name ≡ Some (named.Sort n) → IsNumber names.sorts n

abbrev read : Sort → Result Sort Code
read s = Ok s

same_sort_ok : (s t : Sort) → read s ≡ Ok t → s ≡ t
same_sort_ok s t e = cc

module _ (numbered : SortsHaveNumbers) (names : Names) where
  plain : (name : List ℕ) (found : Option Named) (sort : Sort) → look_up names name ≡ found → declared_sort sorts.Named found ≡ Ok sort → IsSort names sort
  plain name (Some (named.Sort n)) sort at e = subst (IsSort names) (same_sort_ok (sorts.Named n) sort e) (numbered names name n at)
  plain name (Some (named.Constant n s)) sort at e = cc
  plain name None sort at e = cc

  set : (name : List ℕ) (found : Option Named) (sort : Sort) → look_up names name ≡ found → declared_sort sorts.SetNamed found ≡ Ok sort → IsSort names sort
  set name (Some (named.Sort n)) sort at e = subst (IsSort names) (same_sort_ok (sorts.SetNamed n) sort e) (numbered names name n at)
  set name (Some (named.Constant n s)) sort at e = cc
  set name None sort at e = cc

  plain_named : (name : List ℕ) (sort : Sort) → named_sort names name ≡ Ok sort → IsSort names sort
  plain_named name sort e = by (bytes_eq (codes "Bool") name) (bytes_eq (codes "Int") name) e
    where
      by : (b c : Bool) → (if b then Ok sorts.Bool else if c then Err code.E8 else declared_sort sorts.Named (look_up names name)) ≡ Ok sort → IsSort names sort
      by true c e = subst (IsSort names) (same_sort_ok sorts.Bool sort e) _
      by false true e = cc
      by false false e = plain name (look_up names name) sort refl e

  set_named : (name : List ℕ) (sort : Sort) → named_sets names name ≡ Ok sort → IsSort names sort
  set_named name sort e = by (bytes_eq (codes "Bool") name) (bytes_eq (codes "Int") name) e
    where
      by : (b c : Bool) → (if b then Err code.E8 else if c then Err code.E8 else declared_sort sorts.SetNamed (look_up names name)) ≡ Ok sort → IsSort names sort
      by true c e = cc
      by false true e = cc
      by false false e = set name (look_up names name) sort refl e

  token : (o : Option (List ℕ)) (sort : Sort) → token_sort names o ≡ Ok sort → IsSort names sort
  token (Some name) sort e = plain_named name sort e
  token None sort e = cc

  behind_set : (o : Option (List ℕ)) (alone : Bool) (sort : Sort) → sets_of names o alone ≡ Ok sort → IsSort names sort
  behind_set (Some name) true sort e = set_named name sort e
  behind_set (Some name) false sort e = cc
  behind_set None true sort e = cc
  behind_set None false sort e = cc

  behind_head : (rest : Shapes) (sort : Sort) → sets_of_parts names rest ≡ Ok sort → IsSort names sort
  behind_head Empty sort e = cc
  behind_head (More s rest) sort e = behind_set (symbol_name s) (is_end rest) sort e

  headed : (b : Bool) (rest : Shapes) (sort : Sort) → (if b then sets_of_parts names rest else Err code.E8) ≡ Ok sort → IsSort names sort
  headed true rest sort e = behind_head rest sort e
  headed false rest sort e = cc

  pub read_sorts_are_declared : (t : Shape) (sort : Sort) → sort_of names t ≡ Ok sort → IsSort names sort
  read_sorts_are_declared (Single k text start line) sort e = token (symbol_name (Single k text start line)) sort e
  read_sorts_are_declared (Listed line Empty) sort e = cc
  read_sorts_are_declared (Listed line (More head rest)) sort e = headed (is_set_word (symbol_name head)) rest sort e
