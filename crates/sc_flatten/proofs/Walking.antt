-- What a walk with a list of pending nodes keeps: the order in which nodes will be met, and that the parts of each node that is met are met, or pending before all nodes that aren't below it.
use Rattle.std.proofs.Common.{◌≡◌, ℕ, zero, suc, ◌+◌, ◌<◌, ◌≤◌, Bool, true, false, ◌||◌, cond, List, [], ◌∷◌, ◌++◌, length, ◌⊎◌, inl, inr, refl, sym, ap, subst, ◌∙◌, arith, length-append}
use Rattle.std.specs.Prelude.{nat_eq, nat_lt}
use Rattle.std.specs.List.{flat_map, AllByRecursion}
use Rattle.std.proofs.lemmas.Bool.{false≢true}
use Rattle.std.proofs.lemmas.List.{append-nil}
use Rattle.std.proofs.lemmas.List.Folds.{list_any-append}
use Rattle.std.proofs.lemmas.Grind.{flat_map-append}
use Rattle.indexmap.specs.IndexSet.{insert_key, insert_all}
use Rattle.sc_base.specs.Numbered.{item_at}
use Rattle.sc_base.proofs.Integers.{all_weaker}
use Rattle.sc_terms.specs.declared.nodes.Node.{Node}
use Rattle.sc_terms.specs.Bank.{is_formula, IsFormulaOf, IsBank}
use Rattle.sc_terms.specs.Conditions.{IsIn}
use Rattle.sc_terms.specs.Lookup.{is_listed}
use Rattle.sc_flatten.specs.Walk.{parts_at, preorder, met, order_of, visited, pending_after}
use Rattle.sc_flatten.specs.Numbered.{IsAmong}
use Rattle.sc_flatten.specs.Laws.{AreFormulasOf}
use Rattle.sc_flatten.proofs.Lists.{among_first, among_later, among_cases, among_left, among_right, among_either, among_some, all_from, all_joined}
use Rattle.sc_flatten.proofs.Below.{parts_below, item_within}

-- the first of the numbers, as long as they are below m
abbrev pub below_front : ℕ → List ℕ → List ℕ
below_front m [] = []
below_front m (n ∷ ns) = cond (nat_lt n m) (n ∷ below_front m ns) []

-- the number of parts of the nodes, up to the number k, that aren't met
abbrev pub unmet : List Node → ℕ → List ℕ → ℕ
unmet bank zero met = 0
unmet bank (suc k) met = cond (is_listed (suc k) met) 0 (length (parts_at (item_at bank (suc k)))) + unmet bank k met

pub record WalkStands (bank : List Node) (assertions done pending : List ℕ) : Type 0 where
  pub ends : insert_all nat_eq done (flat_map (preorder bank (length bank)) pending) ≡ order_of bank assertions
  pub range : AllByRecursion (IsIn (length bank)) pending
  pub parts : (m p : ℕ) → IsAmong done m → IsAmong (parts_at (item_at bank m)) p → IsAmong done p ⊎ IsAmong (below_front m pending) p

-- ---- the first numbers below one
front_cases : (m n p : ℕ) (ns : List ℕ) → IsAmong (below_front m (n ∷ ns)) p → (n < m) × ((p ≡ n) ⊎ IsAmong (below_front m ns) p)
front_cases m n p ns h = go (nat_lt n m) refl h where
  go : (b : Bool) → nat_lt n m ≡ b → IsAmong (cond b (n ∷ below_front m ns) []) p → (n < m) × ((p ≡ n) ⊎ IsAmong (below_front m ns) p)
  go true e k = (grind arith, among_cases p n (below_front m ns) k)
  go false e k = absurd (false≢true k)

front_more : (m n p : ℕ) (ns : List ℕ) → n < m → IsAmong (n ∷ below_front m ns) p → IsAmong (below_front m (n ∷ ns)) p
front_more m n p ns h k = let yes : nat_lt n m ≡ true = grind arith in subst (λ b. IsAmong (cond b (n ∷ below_front m ns) []) p) (sym yes) k

front_skip : (m p : ℕ) (ps rest : List ℕ) → AllByRecursion (λ q. q < m) ps → IsAmong (below_front m rest) p → IsAmong (below_front m (ps ++ rest)) p
front_skip m p [] rest h k = k
front_skip m p (q ∷ qs) rest h k = front_more m q p (qs ++ rest) h.0 (among_later p q (below_front m (qs ++ rest)) (front_skip m p qs rest h.1 k))

front_has : (m p : ℕ) (ps rest : List ℕ) → AllByRecursion (λ q. q < m) ps → IsAmong ps p → IsAmong (below_front m (ps ++ rest)) p
front_has m p [] rest h k = absurd (false≢true k)
front_has m p (q ∷ qs) rest h k =
    front_more m q p (qs ++ rest) h.0
    (elim (among_cases p q qs k) [
      | inl s ↦ subst (λ x. IsAmong (x ∷ below_front m (qs ++ rest)) p) s (among_first p (below_front m (qs ++ rest)))
      | inr t ↦ among_later p q (below_front m (qs ++ rest)) (front_has m p qs rest h.1 t)
    ])

-- ---- what is there adds nothing
absorbed : (done xs ys : List ℕ) → AllByRecursion (IsAmong done) xs → insert_all nat_eq done (xs ++ ys) ≡ insert_all nat_eq done ys
absorbed done [] ys h = refl
absorbed done (x ∷ xs) ys h =
    let same : insert_key nat_eq done x ≡ done = ap (λ b. cond b done (done ++ x ∷ [])) h.0 in
    ap (λ ks. insert_all nat_eq ks (xs ++ ys)) same ∙ absorbed done xs ys h.1

pub flat_map_same : (f g : ℕ → List ℕ) (xs : List ℕ) → AllByRecursion (λ x. f x ≡ g x) xs → flat_map f xs ≡ flat_map g xs
flat_map_same f g [] h = refl
flat_map_same f g (x ∷ xs) h = rw (h.0, flat_map_same f g xs h.1) refl

-- ---- how much isn't met
unmet_later : (bank : List Node) (k n : ℕ) (done : List ℕ) → k < n → unmet bank k (done ++ n ∷ []) ≡ unmet bank k done
unmet_later bank zero n done h = refl
unmet_later bank (suc k) n done h = rw (other, unmet_later bank k n done (omega arith)) refl where
  apart : nat_eq (suc k) n ≡ false
  apart = grind arith

  none : (b : Bool) → (b || (false || false)) ≡ b
  none true = refl
  none false = refl

  other : is_listed (suc k) (done ++ n ∷ []) ≡ is_listed (suc k) done
  other = list_any-append (nat_eq (suc k)) done (n ∷ []) ∙ (ap (λ b. is_listed (suc k) done || (b || false)) apart ∙ none (is_listed (suc k) done))

unmet_first : (bank : List Node) (k n : ℕ) (done : List ℕ) → IsIn k n → is_listed n done ≡ false → unmet bank k done ≡ length (parts_at (item_at bank n)) + unmet bank k (done ++ n ∷ [])
unmet_first bank zero n done h e = absurd (omega (arith, h.0, h.1))
unmet_first bank (suc k) n done h e = go (nat_eq (suc k) n) refl (unmet_first bank k n done) where
  own : (m : ℕ) → IsAmong (done ++ m ∷ []) m
  own m = among_right m done (m ∷ []) (among_first m [])

  none : (b : Bool) → (b || (false || false)) ≡ b
  none true = refl
  none false = refl

  other : nat_eq (suc k) n ≡ false → is_listed (suc k) (done ++ n ∷ []) ≡ is_listed (suc k) done
  other apart = list_any-append (nat_eq (suc k)) done (n ∷ []) ∙ (ap (λ b. is_listed (suc k) done || (b || false)) apart ∙ none (is_listed (suc k) done))

  at_n : n ≡ suc k → unmet bank (suc k) done ≡ length (parts_at (item_at bank n)) + unmet bank (suc k) (done ++ n ∷ [])
  at_n s =
      let missing : is_listed (suc k) done ≡ false = ap (λ m. is_listed m done) (sym s) ∙ e in
      let there : is_listed (suc k) (done ++ n ∷ []) ≡ true = ap (λ m. is_listed m (done ++ n ∷ [])) (sym s) ∙ own n in
      let rest : unmet bank k (done ++ n ∷ []) ≡ unmet bank k done = unmet_later bank k n done (omega arith) in
      let same : length (parts_at (item_at bank (suc k))) ≡ length (parts_at (item_at bank n)) = ap (λ m. length (parts_at (item_at bank m))) (sym s) in
      rw (missing, there) (omega (arith, rest, same))

  go : (b : Bool) → nat_eq (suc k) n ≡ b → (IsIn k n → is_listed n done ≡ false → unmet bank k done ≡ length (parts_at (item_at bank n)) + unmet bank k (done ++ n ∷ [])) → unmet bank (suc k) done ≡ length (parts_at (item_at bank n)) + unmet bank (suc k) (done ++ n ∷ [])
  go true g ih = at_n (grind arith)
  go false g ih =
      let low : n ≤ k = grind (arith, h.1) in
      let step = ih (h.0, low) e in
      rw (other g) (omega (arith, step))

module _ (bank : List Node) (is : IsBank bank) where
  -- no node lies deeper than its number
  preorder_deep : (d p : ℕ) → IsIn d p → preorder bank (suc d) p ≡ preorder bank d p
  preorder_deep zero p h = absurd (omega (arith, h.0, h.1))
  preorder_deep (suc d) p h =
      ap (λ rest. p ∷ rest)
      (flat_map_same (preorder bank (suc d)) (preorder bank d) (parts_at (item_at bank p))
      (all_from (λ q. preorder bank (suc d) q ≡ preorder bank d q) (parts_at (item_at bank p)) (λ q e. let low = parts_below bank is p q e in preorder_deep d q (low.0, omega (arith, low.1, h.1)))))

  all_below : (n : ℕ) → AllByRecursion (λ p. p < n) (parts_at (item_at bank n))
  all_below n = all_from (λ p. p < n) (parts_at (item_at bank n)) (λ p e. (parts_below bank is n p e).1)

  module _ (assertions done : List ℕ) (n : ℕ) (rest : List ℕ) (stands : WalkStands bank assertions done (n ∷ rest)) where
    -- all below a met node up to the first pending one is met
    all_met : (d m q : ℕ) → m ≤ n → IsAmong done m → IsAmong (preorder bank d m) q → IsAmong done q
    all_met zero m q h e k = absurd (false≢true k)
    all_met (suc d) m q h e k =
        elim (among_cases q m (flat_map (preorder bank d) (parts_at (item_at bank m))) k) [
          | inl s ↦ subst (IsAmong done) (sym s) e
          | inr t ↦
              let r = among_some (preorder bank d) (parts_at (item_at bank m)) q t in
              let low = parts_below bank is m r.0 r.1 in
              all_met d r.0 q (omega (arith, low.1)) (part_met m r.0 h (stands.parts m r.0 e r.1)) r.2
        ]
      where
        part_met : (m p : ℕ) → m ≤ n → IsAmong done p ⊎ IsAmong (below_front m (n ∷ rest)) p → IsAmong done p
        part_met m p h (inl a) = a
        part_met m p h (inr b) = absurd (omega (arith, (front_cases m n p rest b).0))

    skip : IsAmong done n → WalkStands bank assertions done rest
    skip e = record {
      ends = sym (absorbed done (preorder bank (length bank) n) (flat_map (preorder bank (length bank)) rest) (all_from (IsAmong done) (preorder bank (length bank) n) (λ q k. all_met (length bank) n q (omega arith) e k))) ∙ stands.ends;
      range = stands.range.1;
      parts = λ m p a b. still m p (stands.parts m p a b);
    }
      where
        still : (m p : ℕ) → IsAmong done p ⊎ IsAmong (below_front m (n ∷ rest)) p → IsAmong done p ⊎ IsAmong (below_front m rest) p
        still m p (inl a) = inl a
        still m p (inr b) = elim ((front_cases m n p rest b).1) [ inl s ↦ inl (subst (IsAmong done) (sym s) e) | inr t ↦ inr t ]

    met_ends : (depth : ℕ) → IsIn depth n → insert_all nat_eq done (flat_map (preorder bank depth) (n ∷ rest)) ≡ insert_all nat_eq (insert_key nat_eq done n) (flat_map (preorder bank depth) (parts_at (item_at bank n) ++ rest))
    met_ends zero h = absurd (omega (arith, h.0, h.1))
    met_ends (suc d) h =
        let same : flat_map (preorder bank d) (parts_at (item_at bank n)) ≡ flat_map (preorder bank (suc d)) (parts_at (item_at bank n)) =
        flat_map_same (preorder bank d) (preorder bank (suc d)) (parts_at (item_at bank n)) (all_from (λ q. preorder bank d q ≡ preorder bank (suc d) q) (parts_at (item_at bank n)) (λ q e. let low = parts_below bank is n q e in sym (preorder_deep d q (low.0, omega (arith, low.1, h.1))))) in
        ap (λ xs. insert_all nat_eq (insert_key nat_eq done n) (xs ++ flat_map (preorder bank (suc d)) rest)) same
        ∙ ap (insert_all nat_eq (insert_key nat_eq done n)) (sym (flat_map-append (preorder bank (suc d)) (parts_at (item_at bank n)) rest))

    meet : is_listed n done ≡ false → WalkStands bank assertions (done ++ n ∷ []) (parts_at (item_at bank n) ++ rest)
    meet e = record {
      ends =
          let new : insert_key nat_eq done n ≡ done ++ n ∷ [] = ap (λ b. cond b done (done ++ n ∷ [])) e in
          ap (λ ks. insert_all nat_eq ks (flat_map (preorder bank (length bank)) (parts_at (item_at bank n) ++ rest))) (sym new) ∙ (sym (met_ends (length bank) stands.range.0) ∙ stands.ends);
      range = all_joined (IsIn (length bank)) (parts_at (item_at bank n)) rest (all_from (IsIn (length bank)) (parts_at (item_at bank n)) (λ p k. let low = parts_below bank is n p k in (low.0, omega (arith, low.1, stands.range.0.1)))) stands.range.1;
      parts = λ m p a b. elim (among_either m done (n ∷ []) a) [ inl old ↦ of_old m p (stands.parts m p old b) | inr own ↦ elim (among_cases m n [] own) [ inl s ↦ of_new m p s b | inr none ↦ absurd (false≢true none) ] ];
    }
      where
        of_old : (m p : ℕ) → IsAmong done p ⊎ IsAmong (below_front m (n ∷ rest)) p → IsAmong (done ++ n ∷ []) p ⊎ IsAmong (below_front m (parts_at (item_at bank n) ++ rest)) p
        of_old m p (inl a) = inl (among_left p done (n ∷ []) a)
        of_old m p (inr b) =
            let c = front_cases m n p rest b in
            let above = c.0 in
            elim c.1 [
              | inl s ↦ inl (subst (IsAmong (done ++ n ∷ [])) (sym s) (among_right n done (n ∷ []) (among_first n [])))
              | inr t ↦ inr (front_skip m p (parts_at (item_at bank n)) rest (all_weaker (λ q. q < n) (λ q. q < m) (λ q g. omega arith) (parts_at (item_at bank n)) (all_below n)) t)
            ]

        of_new : (m p : ℕ) → m ≡ n → IsAmong (parts_at (item_at bank m)) p → IsAmong (done ++ n ∷ []) p ⊎ IsAmong (below_front m (parts_at (item_at bank n) ++ rest)) p
        of_new m p s b =
            inr (subst (λ k. IsAmong (below_front k (parts_at (item_at bank n) ++ rest)) p) (sym s) (front_has n p (parts_at (item_at bank n)) rest (all_below n) (subst (λ k. IsAmong (parts_at (item_at bank k)) p) s b)))

    -- a visit keeps what the walk keeps
    pub visit_keeps : WalkStands bank assertions (visited n done) (pending_after bank n done rest)
    visit_keeps = go (is_listed n done) refl where
      go : (b : Bool) → is_listed n done ≡ b → WalkStands bank assertions (cond b done (done ++ n ∷ [])) (cond b rest (parts_at (item_at bank n) ++ rest))
      go true e = skip e
      go false e = meet e

    -- and leaves less to do
    pub visit_less : length (pending_after bank n done rest) + unmet bank (length bank) (visited n done) < length (n ∷ rest) + unmet bank (length bank) done
    visit_less = go (is_listed n done) refl where
      go : (b : Bool) → is_listed n done ≡ b → length (cond b rest (parts_at (item_at bank n) ++ rest)) + unmet bank (length bank) (cond b done (done ++ n ∷ [])) < length (n ∷ rest) + unmet bank (length bank) done
      go true e = omega arith
      go false e = omega (arith, length-append (parts_at (item_at bank n)) rest, unmet_first bank (length bank) n done stands.range.0 e)

  pub walk_begins : (assertions : List ℕ) → AreFormulasOf bank assertions → WalkStands bank assertions [] (assertions ++ [])
  walk_begins assertions h = subst (WalkStands bank assertions []) (sym (append-nil assertions)) (record {
    ends = refl;
    range = all_weaker (IsFormulaOf bank) (IsIn (length bank)) (λ a k. item_within is_formula refl bank a k) assertions h;
    parts = λ m p a b. absurd (false≢true a);
  })

-- ---- the same by what calls say
module _ (bank : List Node) (is : IsBank bank) (assertions : List ℕ) where
  pub walk_starts : (done none pending : List ℕ) → AreFormulasOf bank assertions → done ≡ [] → none ≡ [] → pending ≡ assertions ++ none → WalkStands bank assertions done pending
  walk_starts done none pending h d e p =
      subst (λ ks. WalkStands bank assertions ks pending) (sym d) (subst (WalkStands bank assertions []) (sym (p ∙ ap (λ xs. assertions ++ xs) e)) (walk_begins bank is assertions h))

  module _ (n : ℕ) (done pending rest done' pending' : List ℕ) (popped : pending ≡ n ∷ rest) (done-is : done' ≡ visited n done) (pending-is : pending' ≡ pending_after bank n done rest) (stands : WalkStands bank assertions done pending) where
    stands_popped : WalkStands bank assertions done (n ∷ rest)
    stands_popped = subst (WalkStands bank assertions done) popped stands

    pub visited_keeps : WalkStands bank assertions done' pending'
    visited_keeps = subst (λ ks. WalkStands bank assertions ks pending') (sym done-is) (subst (WalkStands bank assertions (visited n done)) (sym pending-is) (visit_keeps bank is assertions done n rest stands_popped))

    pub visited_less : length pending' + unmet bank (length bank) done' < length pending + unmet bank (length bank) done
    visited_less = omega (arith, visit_less bank is assertions done n rest stands_popped, ap (λ xs. length xs) popped, ap (λ xs. length xs) pending-is, ap (unmet bank (length bank)) done-is)
