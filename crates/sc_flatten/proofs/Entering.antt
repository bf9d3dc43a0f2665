-- What the tables hold once all nodes of a list are entered.
use Rattle.std.proofs.Common.{◌≡◌, ℕ, Bool, true, false, cond, List, [], ◌∷◌, ◌++◌, refl, sym, ap, ◌∙◌}
use Rattle.std.specs.Prelude.{nat_eq, filter}
use Rattle.std.specs.Cmp.{nat_eq_equiv}
use Rattle.std.specs.List.{flat_map, AllByRecursion, IsDistinct}
use Rattle.std.proofs.lemmas.List.{append-nil, append_assoc}
use Rattle.std.proofs.lemmas.List.Folds.{list_any-append}
use Rattle.std.proofs.lemmas.Map.Keys.{IsDistinct-head, IsDistinct-tail}
use Rattle.indexmap.specs.IndexSet.{insert_key, insert_all}
use Rattle.sc_base.specs.Numbered.{item_at}
use Rattle.sc_terms.specs.declared.nodes.Node.{Node}
use Rattle.sc_terms.specs.Bank.{is_formula, is_set, is_element}
use Rattle.sc_terms.specs.Lookup.{is_listed}
use Rattle.sc_flatten.specs.declared.tables.Tables.{Tables}
use Rattle.sc_flatten.specs.Walk.{constants_at, firsts}
use Rattle.sc_flatten.specs.Tables.{Enters, HasFewInts, IsNumbering}
use Rattle.sc_flatten.proofs.Lists.{all_filter}

not_pushed : (x y : ℕ) (ks : List ℕ) → nat_eq x y ≡ false → is_listed y ks ≡ false → is_listed y (ks ++ x ∷ []) ≡ false
not_pushed x y ks e h =
    list_any-append (nat_eq y) ks (x ∷ []) ∙ rw (h, nat_eq_equiv.symm y x ∙ e) refl

-- different numbers that aren't there yet go behind those that are
inserted_new : (ks xs : List ℕ) → IsDistinct nat_eq xs → AllByRecursion (λ y. is_listed y ks ≡ false) xs → insert_all nat_eq ks xs ≡ ks ++ xs
inserted_new ks [] d h = sym (append-nil ks)
inserted_new ks (x ∷ xs) d h =
    let new : insert_key nat_eq ks x ≡ ks ++ x ∷ [] = ap (λ b. cond b ks (ks ++ x ∷ [])) h.0 in
    ap (λ l. insert_all nat_eq l xs) new
    ∙ (inserted_new (ks ++ x ∷ []) xs (IsDistinct-tail nat_eq x xs d) (both xs (IsDistinct-head nat_eq x xs d) h.1)
    ∙ append_assoc ks (x ∷ []) xs)
  where
    both : (ys : List ℕ) → AllByRecursion (λ y. nat_eq x y ≡ false) ys → AllByRecursion (λ y. is_listed y ks ≡ false) ys → AllByRecursion (λ y. is_listed y (ks ++ x ∷ []) ≡ false) ys
    both [] a b = tt
    both (y ∷ ys) a b = (not_pushed x y ks a.0 b.0, both ys a.1 b.1)

none_listed : (xs : List ℕ) → AllByRecursion (λ y. is_listed y [] ≡ false) xs
none_listed [] = tt
none_listed (x ∷ xs) = (refl, none_listed xs)

pub firsts_same : (xs : List ℕ) → IsDistinct nat_eq xs → firsts xs ≡ xs
firsts_same xs d = inserted_new [] xs d (none_listed xs)

distinct_filter : (t : ℕ → Bool) (xs : List ℕ) → IsDistinct nat_eq xs → IsDistinct nat_eq (filter t xs)
unfolding IsDistinct
distinct_filter t [] d = tt
distinct_filter t (x ∷ xs) d = kept (t x) (distinct_filter t xs (IsDistinct-tail nat_eq x xs d)) where
  kept : (b : Bool) → IsDistinct nat_eq (filter t xs) → IsDistinct nat_eq (cond b (x ∷ filter t xs) (filter t xs))
  kept true rest = (all_filter t (λ y. nat_eq x y ≡ false) xs (IsDistinct-head nat_eq x xs d), rest)
  kept false rest = rest

kind_entered : (t : ℕ → Bool) (order old new : List ℕ) → IsDistinct nat_eq order → old ≡ [] → new ≡ insert_all nat_eq old (filter t order) → new ≡ filter t order
kind_entered t order old new d e h = h ∙ (ap (λ ks. insert_all nat_eq ks (filter t order)) e ∙ firsts_same (filter t order) (distinct_filter t order d))

pub numbered : (bank : List Node) (order : List ℕ) (old new : Tables) → IsDistinct nat_eq order → old.formulas.keys ≡ [] → old.sets.keys ≡ [] → old.elements.keys ≡ [] → old.ints.keys ≡ [] → Enters bank order old new → HasFewInts new → IsNumbering bank order new
numbered bank order old new d a b c e h few = record {
  numbers = λ i. record {
    formulas = kind_entered (λ n. is_formula (item_at bank n)) order old.formulas.keys new.formulas.keys d a h.formulas i;
    sets = kind_entered (λ n. is_set (item_at bank n)) order old.sets.keys new.sets.keys d b h.sets i;
    elements = kind_entered (λ n. is_element (item_at bank n)) order old.elements.keys new.elements.keys d c h.elements i;
    ints = (h.ints ∙ ap (λ ks. insert_all nat_eq ks (flat_map (λ n. constants_at (item_at bank n)) order)) e) i;
  };
  few = few;
}
