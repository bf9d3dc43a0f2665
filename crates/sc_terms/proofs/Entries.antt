-- Entries in the order of their keys, and the finite map that they make.
use Rattle.std.proofs.Common.{◌≡◌, ℕ, Bool, true, false, cond, List, [], ◌∷◌, Option, Some, refl, sym, ap, ◌∙◌}
use Rattle.std.specs.List.{IsDistinct}
use Rattle.std.specs.Ordering.{int_eq, nat_cmp, eq_by_cmp, match_ordering}
use Rattle.std.specs.declared.cmp.Ordering.TheVariants.{Less, Equal, Greater}
use Rattle.std.specs.Cmp.{nat_cmp_total, eq_by_cmp_equiv}
use Rattle.std.specs.Map.{lookup}
use Rattle.std.specs.BTreeMap.{is_at, insert_entry}
use Rattle.std.specs.FinMap as map
use Rattle.std.specs.FinMap.{find, nat_cmp-IsAntisymmetric}
use Rattle.sc_base.proofs.Members.{IsDistinct-members}
use Rattle.sc_terms.specs.declared.interp.Value.{Value}
use Rattle.sc_terms.specs.declared.interp.Value.TheVariants.{Flag, Number, Set}
use Rattle.sc_terms.specs.Meaning.{IsInterpretation}
use Rattle.sc_terms.specs.Values.{IsProper, AreProper, elements_of, interpretation_of}

find-lookup : (q : ℕ) (es : List (ℕ × Value)) → find nat_cmp q es ≡ lookup (is_at (nat_cmp q)) es
find-lookup q [] = refl
find-lookup q (e ∷ es) = ap (cond (eq_by_cmp nat_cmp q e.0) (Some e.1)) (find-lookup q es)

pub get-lookup : (es : List (ℕ × Value)) (q : ℕ) → map.get {R = nat_cmp} (map.from_entries es) q ≡ lookup (is_at (nat_cmp q)) es
get-lookup es q = map.get-from_entries nat_cmp_total es q ∙ find-lookup q es

turned : (k q : ℕ) (v : Option Value) (w : Option Value) → cond (eq_by_cmp nat_cmp k q) v w ≡ cond (eq_by_cmp nat_cmp q k) v w
turned k q v w = ap (λ b. cond b v w) ((eq_by_cmp_equiv nat_cmp_total).symm k q)

-- entries that answer as those of es do, but at k
pub inserted : (es fs : List (ℕ × Value)) (k : ℕ) (v : Value) → ((q : ℕ) → lookup (is_at (nat_cmp q)) fs ≡ cond (is_at (nat_cmp k) q) (Some v) (lookup (is_at (nat_cmp q)) es)) → map.from_entries {R = nat_cmp} fs ≡ map.insert (map.from_entries es) k v
inserted es fs k v h =
    map.same_map nat_cmp_total nat_cmp-IsAntisymmetric _ _ (λ q. get-lookup fs q ∙ (h q ∙ (turned k q _ _ ∙ (ap (cond (eq_by_cmp nat_cmp q k) (Some v)) (sym (get-lookup es q)) ∙ sym (map.get-insert nat_cmp_total (map.from_entries es) k v q)))))

proper-placed : (b : Bool) (a c : List (ℕ × Value)) → AreProper a → AreProper c → AreProper (cond b a c)
proper-placed true a c h k = h
proper-placed false a c h k = k

pub AreProper-insert : (es : List (ℕ × Value)) (k : ℕ) (v : Value) → AreProper es → IsProper v → AreProper (insert_entry nat_cmp es k v)
AreProper-insert [] k v h p = (p, tt)
AreProper-insert (e ∷ es) k v h p =
    elim (nat_cmp k e.0) as (λ o. AreProper (match_ordering o ((k, v) ∷ e ∷ es) ((e.0, v) ∷ es) (e ∷ insert_entry nat_cmp es k v))) [
      | Less ↦ (p, h)
      | Equal ↦ (p, h.1)
      | Greater ↦ (h.0, AreProper-insert es k v h.1 p)
    ]

distinct_value : (v : Value) → IsProper v → IsDistinct int_eq (elements_of (Some v))
unfolding IsDistinct
distinct_value (Flag b) h = tt
distinct_value (Number z) h = tt
distinct_value (Set spans) h = IsDistinct-members spans h

distinct_cond : (b : Bool) (v : Value) (o : Option Value) → IsProper v → IsDistinct int_eq (elements_of o) → IsDistinct int_eq (elements_of (cond b (Some v) o))
distinct_cond true v o h k = distinct_value v h
distinct_cond false v o h k = k

distinct_found : (es : List (ℕ × Value)) (q : ℕ) → AreProper es → IsDistinct int_eq (elements_of (lookup (is_at (nat_cmp q)) es))
unfolding IsDistinct
distinct_found [] q h = tt
distinct_found (e ∷ es) q h = distinct_cond (is_at (nat_cmp q) e.0) e.1 (lookup (is_at (nat_cmp q)) es) h.0 (distinct_found es q h.1)

pub interprets : (es : List (ℕ × Value)) → AreProper es → IsInterpretation (interpretation_of (map.from_entries es))
interprets es h = λ c. rw (get-lookup es c) (distinct_found es c h)
