-- What the reading of terms keeps.
use Rattle.std.proofs.Common.{◌≡◌, ℕ, ◌+◌, ◌<◌, List, [], ◌∷◌, ◌++◌, length, map, drop, get_or, refl, sym, ap, ◌∙◌, subst, append_assoc, append-nil}
use Rattle.std.specs.Prelude.{Ok, Err}
use Rattle.std.proofs.lemmas.List.{drop_more}
use Rattle.sc_sexpr.specs.declared.tree.Tree.{Tree}
use Rattle.sc_sexpr.specs.Shapes.{shape, shapes_of}
use Rattle.sc_terms.specs.declared.nodes.Node.{Node}
use Rattle.sc_terms.specs.declared.nodes.Sort.{Sort}
use Rattle.sc_terms.specs.declared.nodes.Sort.TheVariants as sorts
use Rattle.sc_terms.specs.Bank.{IsSetOf, IsElementOf, IsDeclaredSort, IsSetSort}
use Rattle.sc_stack.specs.Names.{Names, sorts_of}
use Rattle.sc_elab.specs.declared.error.ElabError.{ElabError}
use Rattle.sc_elab.specs.declared.error.ElabError.TheVariants as errors
use Rattle.sc_elab.specs.declared.meant.Meant.{Meant}
use Rattle.sc_elab.specs.States.{Outcome, Done, Fault, bind, Answers}
use Rattle.sc_elab.specs.Growth.{Grown, Gives, IsOfSort, IsMeant, AreMeant}
use Rattle.sc_elab.specs.Elab as spec
use Rattle.sc_elab.proofs.Growing.{same_grown, grown_twice, still_sort}

pub declared_is : (bank : List Node) (sort : Sort) (n : ℕ) → IsDeclaredSort sort → IsElementOf bank n → IsOfSort bank sort n
declared_is bank (sorts.Named k) n d h = h
declared_is bank sorts.Bool n d h = absurd d
declared_is bank sorts.Int n d h = absurd d
declared_is bank sorts.SetInt n d h = absurd d
declared_is bank (sorts.SetNamed k) n d h = absurd d

pub set_is : (bank : List Node) (sort : Sort) (n : ℕ) → IsSetSort sort → IsSetOf bank n → IsOfSort bank sort n
set_is bank sorts.SetInt n d h = h
set_is bank (sorts.SetNamed k) n d h = h
set_is bank sorts.Bool n d h = absurd d
set_is bank sorts.Int n d h = absurd d
set_is bank (sorts.Named k) n d h = absurd d

still_meant : (known : List Sort) (a b : List Node) (ms : List Meant) → Grown known a b → AreMeant a ms → AreMeant b ms
still_meant known a b [] g h = tt
still_meant known a b (m ∷ ms) g h = (still_sort m.sort known a b m.number g h.0, still_meant known a b ms g h.1)

one_more_meant : (bank : List Node) (ms : List Meant) (m : Meant) → AreMeant bank ms → IsMeant bank m → AreMeant bank (ms ++ m ∷ [])
one_more_meant bank [] m h is = (is, tt)
one_more_meant bank (x ∷ xs) m h is = (h.0, one_more_meant bank xs m h.1 is)

pub cut_at : (trees : List Tree) (i : ℕ) (x : Tree) → i < length trees → x ≡ get_or trees i x → drop i trees ≡ x ∷ drop (i + 1) trees
cut_at trees i x lt e = drop_more trees i x lt ∙ ap (λ y. y ∷ drop (i + 1) trees) (sym e)

-- what the trees that are left come to goes behind what is made
pub record Elaborates (names : Names) (whole : Outcome (List Meant)) (old : List Node) (made : List Meant) (left : List Tree) (bank : List Node) : Type 0 where
  pub same : whole ≡ bind (spec.terms names (shapes_of (map shape left)) bank) (λ ms b. Done (made ++ ms) b)
  pub made_are : AreMeant bank made
  pub grown : Grown (sorts_of names) old bank

behind : (made : List Meant) (m : Meant) (o : Outcome (List Meant)) → bind (bind o (λ ms b. Done (m ∷ ms) b)) (λ ms b. Done (made ++ ms) b) ≡ bind o (λ ms b. Done ((made ++ m ∷ []) ++ ms) b)
behind made m (Done ms b) = ap (λ xs. Done xs b) (sym (append_assoc made (m ∷ []) ms))
behind made m (Fault code b) = refl

module _ (names : Names) (whole : Outcome (List Meant)) (old : List Node) (made : List Meant) where
  pub elaborates_on : (x : Tree) (left : List Tree) (m : Meant) (bank new : List Node) → Elaborates names whole old made (x ∷ left) bank → Gives (sorts_of names) IsMeant (spec.term names (shape x) bank) bank (Ok m) new → Elaborates names whole old (made ++ m ∷ []) left new
  elaborates_on x left m bank new h g = record {
    same = h.same ∙ ap (λ o. bind (bind o (λ y b. bind (spec.terms names (shapes_of (map shape left)) b) (λ ms c. Done (y ∷ ms) c))) (λ ms b. Done (made ++ ms) b)) g.exact ∙ behind made m (spec.terms names (shapes_of (map shape left)) new);
    made_are = one_more_meant new made m (still_meant (sorts_of names) bank new made g.grown h.made_are) g.stands;
    grown = grown_twice (sorts_of names) old bank new h.grown g.grown;
  }

  fails : (x : Tree) (left : List Tree) (e : ElabError) (bank new : List Node) → Answers (spec.term names (shape x) bank) (Err e) new → Answers (bind (spec.terms names (shapes_of (map shape (x ∷ left))) bank) (λ ms b. Done (made ++ ms) b)) (Err e) new
  fails x left (errors.Fault code) bank new h = ap (λ o. bind (bind o (λ y b. bind (spec.terms names (shapes_of (map shape left)) b) (λ ms c. Done (y ∷ ms) c))) (λ ms b. Done (made ++ ms) b)) h
  fails x left errors.Memory bank new h = tt

  pub elaborates_stops : (x : Tree) (left : List Tree) (e : ElabError) (bank new : List Node) → Elaborates names whole old made (x ∷ left) bank → Gives (sorts_of names) IsMeant (spec.term names (shape x) bank) bank (Err e) new → Gives (sorts_of names) AreMeant whole old (Err e) new
  elaborates_stops x left e bank new h g = record {
    exact = subst (λ o. Answers o (Err e) new) (sym h.same) (fails x left e bank new g.exact);
    stands = tt;
    grown = grown_twice (sorts_of names) old bank new h.grown g.grown;
  }

  pub elaborates_memory : (left : List Tree) (bank new : List Node) → Elaborates names whole old made left bank → Grown (sorts_of names) bank new → Gives (sorts_of names) AreMeant whole old (Err errors.Memory) new
  elaborates_memory left bank new h g = record { exact = tt; stands = tt; grown = grown_twice (sorts_of names) old bank new h.grown g }

  pub elaborates_all : (bank : List Node) → Elaborates names whole old made [] bank → Gives (sorts_of names) AreMeant whole old (Ok made) bank
  elaborates_all bank h = record { exact = h.same ∙ ap (λ ms. Done ms bank) (append-nil made); stands = h.made_are; grown = h.grown }

none_before : (o : Outcome (List Meant)) → o ≡ bind o (λ ms c. Done ([] ++ ms) c)
none_before (Done ms c) = refl
none_before (Fault code c) = refl

pub elaborates_none : (names : Names) (trees : List Tree) (bank : List Node) → Elaborates names (spec.behind_head names (shapes_of (map shape trees)) bank) bank [] (drop 1 trees) bank
elaborates_none names [] bank = record { same = refl; made_are = tt; grown = same_grown (sorts_of names) bank }
elaborates_none names (t ∷ ts) bank = record { same = none_before (spec.terms names (shapes_of (map shape ts)) bank); made_are = tt; grown = same_grown (sorts_of names) bank }
