-- A root of a forest is hung below another one.
use Rattle.std.proofs.Common.{◌≡◌, ◌≢◌, ℕ, ◌+◌, ◌-◌, ◌<◌, ◌≤◌, Bool, true, false, cond, List, [], ◌∷◌, ◌++◌, ◌⊎◌, length, inl, inr, refl, sym, ap, subst, ◌∙◌, arith}
use Rattle.std.specs.Prelude.{nat_eq, nat_lt, slice_index, slice_set}
use Rattle.std.proofs.lemmas.List.{get_or-set_same, get_or-set_other, length-set}
use Rattle.std.proofs.lemmas.List.Sums.{fold-append}
use Rattle.std.proofs.Common.{length-append}
use Rattle.sc_classes.specs.Classes.{lesser, greater, united, least_of}
use Rattle.sc_classes.specs.Forests.{IsForest, StandsFor, raised}
use Rattle.sc_classes.proofs.Leasts.{same_number, lesser_cases, united_cases, united_same, pair_same}

pub alike : (m n : ℕ) → (m ≡ n) ⊎ (m ≢ n)
alike m n = by (nat_eq m n) refl
  where
    by : (b : Bool) → nat_eq m n ≡ b → (m ≡ n) ⊎ (m ≢ n)
    by true e = inl (same_number m n e)
    by false e = inr (λ s. absurd (grind arith))

lesser_turned : (m n : ℕ) → lesser m n ≡ lesser n m
lesser_turned m n =
    elim (lesser_cases m n) [
      | inl z ↦ elim (lesser_cases n m) [
        | inl w ↦ omega (arith, z.0, z.2, w.0, w.2)
        | inr w ↦ z.0 ∙ sym w.0
      ]
      | inr z ↦ elim (lesser_cases n m) [
        | inl w ↦ z.0 ∙ sym w.0
        | inr w ↦ omega (arith, z.0, z.2, w.0, w.2)
      ]
    ]

pub raised_over : (m n : ℕ) → (m < raised m n) × (n ≤ raised m n) × ((k : ℕ) → m < k → n ≤ k → raised m n ≤ k)
raised_over m n =
    elim (nat_lt m n) as (λ b. nat_lt m n ≡ b → (m < cond b n (m + 1)) × (n ≤ cond b n (m + 1)) × ((k : ℕ) → m < k → n ≤ k → cond b n (m + 1) ≤ k)) [
      | true ↦ λ e. (grind arith, omega arith, λ k g h. h)
      | false ↦ λ e. (omega arith, grind arith, λ k g h. omega (arith, g))
    ] refl

-- ---- on the way to a root
pub parent_low : (last : ℕ) (pairs : List (ℕ × ℕ)) (ps rs ls : List ℕ) (n : ℕ) → StandsFor last pairs ps rs ls → n ≤ last → slice_index ps n ≤ last
parent_low last pairs ps rs ls n s h = omega (arith, s.forest.inside n (omega (arith, h, s.parents_count)), s.parents_count)

pub parent_same : (last : ℕ) (pairs : List (ℕ × ℕ)) (ps rs ls : List ℕ) (n : ℕ) → StandsFor last pairs ps rs ls → n ≤ last → least_of pairs (slice_index ps n) ≡ least_of pairs n
parent_same last pairs ps rs ls n s h = s.forest.same n (omega (arith, h, s.parents_count))

pub parent_nearer : (last : ℕ) (pairs : List (ℕ × ℕ)) (ps rs ls : List ℕ) (n : ℕ) → StandsFor last pairs ps rs ls → n ≤ last → slice_index ps n ≢ n → length pairs - slice_index rs (slice_index ps n) < length pairs - slice_index rs n
parent_nearer last pairs ps rs ls n s h apart =
    let within : n < length ps = omega (arith, h, s.parents_count) in
    omega (arith, s.forest.rising n within apart, s.low (slice_index ps n) (s.forest.inside n within))

-- ---- a root is hung
module _ (least : ℕ → ℕ) (ps rs ls : List ℕ) (F : IsForest least ps rs ls) (rs_count : length rs ≡ length ps) (ls_count : length ls ≡ length ps)
    (p : ℕ × ℕ) (a b : ℕ) (a_in : a < length ps) (b_in : b < length ps) (a_top : slice_index ps a ≡ a) (b_top : slice_index ps b ≡ b) (apart : a ≢ b)
    (ends : ((least a ≡ least p.0) × (least b ≡ least p.1)) ⊎ ((least a ≡ least p.1) × (least b ≡ least p.0))) where
  abbrev rank : ℕ
  rank = raised (slice_index rs a) (slice_index rs b)

  abbrev low : ℕ
  low = lesser (slice_index ls a) (slice_index ls b)

  abbrev new-ps : List ℕ
  new-ps = slice_set ps a b

  abbrev new-rs : List ℕ
  new-rs = slice_set rs b rank

  abbrev new-ls : List ℕ
  new-ls = slice_set ls b low

  below : slice_index new-ps a ≡ b
  below = get_or-set_same ps a b 0 a_in

  beside : (n : ℕ) → n ≢ a → slice_index new-ps n ≡ slice_index ps n
  beside n ne = get_or-set_other ps a n b 0 ne

  rank_b : slice_index new-rs b ≡ rank
  rank_b = get_or-set_same rs b rank 0 (omega (arith, b_in, rs_count))

  rank_other : (n : ℕ) → n ≢ b → slice_index new-rs n ≡ slice_index rs n
  rank_other n ne = get_or-set_other rs b n rank 0 ne

  least_b : slice_index new-ls b ≡ low
  least_b = get_or-set_same ls b low 0 (omega (arith, b_in, ls_count))

  least_other : (n : ℕ) → n ≢ b → slice_index new-ls n ≡ slice_index ls n
  least_other n ne = get_or-set_other ls b n low 0 ne

  inner : {n : ℕ} → n < length new-ps → n < length ps
  inner {n} h = subst (λ k. n < k) (length-set ps a b) h

  outer : {n : ℕ} → n < length ps → n < length new-ps
  outer {n} h = subst (λ k. n < k) (sym (length-set ps a b)) h

  united_ends : united least p a ≡ united least p b
  united_ends =
      elim ends [
        | inl e ↦ united_same least p a p.0 e.0 ∙ (pair_same least p ∙ sym (united_same least p b p.1 e.1))
        | inr e ↦ united_same least p a p.1 e.0 ∙ (sym (pair_same least p) ∙ sym (united_same least p b p.0 e.1))
      ]

  -- the roots of the two classes are these
  either : (k : ℕ) → (k ≡ greater (least p.0) (least p.1)) ⊎ (k ≡ lesser (least p.0) (least p.1)) → (k ≡ least a) ⊎ (k ≡ least b)
  either k h =
      elim ends [
        | inl e ↦ elim (side k h) [ inl s ↦ inl (s ∙ sym e.0) | inr s ↦ inr (s ∙ sym e.1) ]
        | inr e ↦ elim (side k h) [ inl s ↦ inr (s ∙ sym e.1) | inr s ↦ inl (s ∙ sym e.0) ]
      ]
    where
      side : (k : ℕ) → (k ≡ greater (least p.0) (least p.1)) ⊎ (k ≡ lesser (least p.0) (least p.1)) → (k ≡ least p.0) ⊎ (k ≡ least p.1)
      side k (inl g) = elim (lesser_cases (least p.0) (least p.1)) [ inl z ↦ inr (g ∙ z.1) | inr z ↦ inl (g ∙ z.1) ]
      side k (inr g) = elim (lesser_cases (least p.0) (least p.1)) [ inl z ↦ inl (g ∙ z.0) | inr z ↦ inr (g ∙ z.0) ]

  upper : (n : ℕ) → n < length ps → slice_index ps n ≡ n → n ≢ a → (least n ≡ greater (least p.0) (least p.1)) ⊎ (least n ≡ lesser (least p.0) (least p.1)) → n ≡ b
  upper n h top ne e =
      elim (either (least n) e) [
        | inl s ↦ absurd (ne (F.one n a h a_in top a_top s))
        | inr s ↦ F.one n b h b_in top b_top s
      ]

  among : (k : ℕ) → (k ≡ least p.0) ⊎ (k ≡ least p.1) → (k ≡ greater (least p.0) (least p.1)) ⊎ (k ≡ lesser (least p.0) (least p.1))
  among k (inl g) = elim (lesser_cases (least p.0) (least p.1)) [ inl z ↦ inr (g ∙ sym z.0) | inr z ↦ inl (g ∙ sym z.1) ]
  among k (inr g) = elim (lesser_cases (least p.0) (least p.1)) [ inl z ↦ inl (g ∙ sym z.1) | inr z ↦ inr (g ∙ sym z.0) ]

  united_b : united least p b ≡ lesser (least p.0) (least p.1)
  united_b =
      elim (united_cases least p b) [
        | inl u ↦ u.1
        | inr u ↦ u.1 ∙ elim (among (least b) (elim ends [ inl e ↦ inr e.1 | inr e ↦ inl e.1 ])) [
          | inl g ↦ absurd (unlike (least b) (greater (least p.0) (least p.1)) u.0 g)
          | inr g ↦ g
        ]
      ]
    where
      unlike : (m n : ℕ) → nat_eq m n ≡ false → m ≡ n → ⊥
      unlike m n e g = grind arith

  low_is : low ≡ lesser (least p.0) (least p.1)
  low_is =
      let both : low ≡ lesser (least a) (least b) = λ i. lesser (F.tops a a_in a_top i) (F.tops b b_in b_top i) in
      both ∙ elim ends [
        | inl e ↦ λ i. lesser (e.0 i) (e.1 i)
        | inr e ↦ (λ i. lesser (e.0 i) (e.1 i)) ∙ lesser_turned (least p.1) (least p.0)
      ]

  hung_inside : (n : ℕ) → n < length ps → slice_index new-ps n < length ps
  hung_inside n h =
      elim (alike n a) [
        | inl e ↦ subst (λ k. slice_index new-ps k < length ps) (sym e) (subst (λ k. k < length ps) (sym below) b_in)
        | inr ne ↦ subst (λ k. k < length ps) (sym (beside n ne)) (F.inside n h)
      ]

  hung_same : (n : ℕ) → n < length ps → united least p (slice_index new-ps n) ≡ united least p n
  hung_same n h =
      elim (alike n a) [
        | inl e ↦ subst (λ k. united least p (slice_index new-ps k) ≡ united least p k) (sym e) (ap (united least p) below ∙ sym united_ends)
        | inr ne ↦ ap (united least p) (beside n ne) ∙ united_same least p (slice_index ps n) n (F.same n h)
      ]

  rank_grows : (n : ℕ) → slice_index rs n ≤ slice_index new-rs n
  rank_grows n =
      elim (alike n b) [
        | inl e ↦ subst (λ k. slice_index rs k ≤ slice_index new-rs k) (sym e) (omega (arith, (raised_over (slice_index rs a) (slice_index rs b)).1, rank_b))
        | inr ne ↦ omega (arith, rank_other n ne)
      ]

  hung_rising : (n : ℕ) → n < length ps → slice_index new-ps n ≢ n → slice_index new-rs n < slice_index new-rs (slice_index new-ps n)
  hung_rising n h moves =
      elim (alike n a) [
        | inl e ↦ subst (λ k. slice_index new-rs k < slice_index new-rs (slice_index new-ps k)) (sym e) (subst (λ k. slice_index new-rs a < slice_index new-rs k) (sym below) (omega (arith, rank_other a apart, rank_b, (raised_over (slice_index rs a) (slice_index rs b)).0)))
        | inr ne ↦
            let stays = beside n ne in
            let up : slice_index ps n ≢ n = λ e. moves (stays ∙ e) in
            let off : n ≢ b = λ e. up (ap (slice_index ps) e ∙ (b_top ∙ sym e)) in
            subst (λ k. slice_index new-rs n < slice_index new-rs k) (sym stays) (omega (arith, rank_other n off, F.rising n h up, rank_grows (slice_index ps n)))
      ]

  hung_tops : (n : ℕ) → n < length ps → slice_index new-ps n ≡ n → slice_index new-ls n ≡ united least p n
  hung_tops n h top =
      elim (alike n a) [
        | inl e ↦ absurd (apart (sym (sym below ∙ (ap (slice_index new-ps) (sym e) ∙ (top ∙ e)))))
        | inr ne ↦ elim (alike n b) [
          | inl e ↦ subst (λ k. slice_index new-ls k ≡ united least p k) (sym e) (least_b ∙ (low_is ∙ sym united_b))
          | inr off ↦
              let root : slice_index ps n ≡ n = sym (beside n ne) ∙ top in
              least_other n off ∙ (F.tops n h root ∙ elim (united_cases least p n) [
                | inl u ↦ absurd (off (upper n h root ne (inl u.0)))
                | inr u ↦ sym u.1
              ])
        ]
      ]

  not_hung : (n : ℕ) → slice_index new-ps n ≡ n → n ≢ a
  not_hung n top e = apart (sym (sym below ∙ (ap (slice_index new-ps) (sym e) ∙ (top ∙ e))))

  hung_one : (m n : ℕ) → m < length ps → n < length ps → slice_index new-ps m ≡ m → slice_index new-ps n ≡ n → united least p m ≡ united least p n → m ≡ n
  hung_one m n h k m_top n_top e =
      let m_off = not_hung m m_top in
      let n_off = not_hung n n_top in
      let m_root : slice_index ps m ≡ m = sym (beside m m_off) ∙ m_top in
      let n_root : slice_index ps n ≡ n = sym (beside n n_off) ∙ n_top in
      elim (united_cases least p m) [
        | inl u ↦ elim (united_cases least p n) [
          | inl w ↦ upper m h m_root m_off (inl u.0) ∙ sym (upper n k n_root n_off (inl w.0))
          | inr w ↦ upper m h m_root m_off (inl u.0) ∙ sym (upper n k n_root n_off (inr (sym w.1 ∙ (sym e ∙ u.1))))
        ]
        | inr u ↦ elim (united_cases least p n) [
          | inl w ↦ upper m h m_root m_off (inr (sym u.1 ∙ (e ∙ w.1))) ∙ sym (upper n k n_root n_off (inl w.0))
          | inr w ↦ F.one m n h k m_root n_root (sym u.1 ∙ (e ∙ w.1))
        ]
      ]

  pub hung : IsForest (united least p) new-ps new-rs new-ls
  hung = record {
    inside = λ n h. outer (hung_inside n (inner h));
    same = λ n h. hung_same n (inner h);
    rising = λ n h. hung_rising n (inner h);
    tops = λ n h. hung_tops n (inner h);
    one = λ m n h k. hung_one m n (inner h) (inner k);
  }

-- ---- and stands for one more pair
pub least_more : (pairs : List (ℕ × ℕ)) (p : ℕ × ℕ) → least_of (pairs ++ p ∷ []) ≡ united (least_of pairs) p
least_more pairs p = fold-append united (λ n. n) pairs (p ∷ [])

pub stands_hung : (last : ℕ) (pairs : List (ℕ × ℕ)) (ps rs ls : List ℕ) (p : ℕ × ℕ) (a b : ℕ) → StandsFor last pairs ps rs ls → a ≤ last → b ≤ last → slice_index ps a ≡ a → slice_index ps b ≡ b → a ≢ b →
    ((least_of pairs a ≡ least_of pairs p.0) × (least_of pairs b ≡ least_of pairs p.1)) ⊎ ((least_of pairs a ≡ least_of pairs p.1) × (least_of pairs b ≡ least_of pairs p.0)) →
    StandsFor last (pairs ++ p ∷ []) (slice_set ps a b) (slice_set rs b (raised (slice_index rs a) (slice_index rs b))) (slice_set ls b (lesser (slice_index ls a) (slice_index ls b)))
stands_hung last pairs ps rs ls p a b s a_in b_in a_top b_top apart ends =
    let a_within : a < length ps = omega (arith, a_in, s.parents_count) in
    let b_within : b < length ps = omega (arith, b_in, s.parents_count) in
    let r = raised (slice_index rs a) (slice_index rs b) in
    let longer : length (pairs ++ p ∷ []) ≡ length pairs + 1 = length-append pairs (p ∷ []) in
    record {
      forest = subst (λ f. IsForest f (slice_set ps a b) (slice_set rs b r) (slice_set ls b (lesser (slice_index ls a) (slice_index ls b)))) (sym (least_more pairs p))
          (hung (least_of pairs) ps rs ls s.forest (s.ranks_count ∙ sym s.parents_count) (s.leasts_count ∙ sym s.parents_count) p a b a_within b_within a_top b_top apart ends);
      parents_count = length-set ps a b ∙ s.parents_count;
      ranks_count = length-set rs b r ∙ s.ranks_count;
      leasts_count = length-set ls b (lesser (slice_index ls a) (slice_index ls b)) ∙ s.leasts_count;
      low = λ n h. elim (alike n b) [
        | inl e ↦ omega (arith, longer, subst (λ k. slice_index (slice_set rs b r) k ≡ r) (sym e) (get_or-set_same rs b r 0 (omega (arith, b_within, s.parents_count, s.ranks_count))), (raised_over (slice_index rs a) (slice_index rs b)).2 (length pairs + 1) (omega (arith, s.low a a_within)) (omega (arith, s.low b b_within)))
        | inr ne ↦ omega (arith, longer, get_or-set_other rs b n r 0 ne, s.low n (subst (λ k. n < k) (length-set ps a b) h))
      ];
    }

-- where the two are in one class already, nothing changes
united_alone : (least : ℕ → ℕ) (p : ℕ × ℕ) → least p.0 ≡ least p.1 → (n : ℕ) → united least p n ≡ least n
united_alone least p e n =
    elim (united_cases least p n) [
      | inl u ↦ elim (lesser_cases (least p.0) (least p.1)) [
        | inl z ↦ u.1 ∙ (z.0 ∙ (e ∙ (sym z.1 ∙ sym u.0)))
        | inr z ↦ u.1 ∙ (z.0 ∙ (sym e ∙ (sym z.1 ∙ sym u.0)))
      ]
      | inr u ↦ u.1
    ]

pub stands_same : (last : ℕ) (pairs : List (ℕ × ℕ)) (ps rs ls : List ℕ) (p : ℕ × ℕ) → StandsFor last pairs ps rs ls → least_of pairs p.0 ≡ least_of pairs p.1 → StandsFor last (pairs ++ p ∷ []) ps rs ls
stands_same last pairs ps rs ls p s e = record {
  forest = subst (λ f. IsForest f ps rs ls) (sym (least_more pairs p ∙ (λ i n. united_alone (least_of pairs) p e n i))) s.forest;
  parents_count = s.parents_count;
  ranks_count = s.ranks_count;
  leasts_count = s.leasts_count;
  low = λ n h. omega (arith, s.low n h, length-append pairs (p ∷ []));
}

-- a root's least is right
pub stands_least : (last : ℕ) (pairs : List (ℕ × ℕ)) (ps rs ls : List ℕ) (n top : ℕ) → StandsFor last pairs ps rs ls → top ≤ last → slice_index ps top ≡ top → least_of pairs top ≡ least_of pairs n → slice_index ls top ≡ least_of pairs n
stands_least last pairs ps rs ls n top s h root e = s.forest.tops top (omega (arith, h, s.parents_count)) root ∙ e

-- each number alone
pub stands_alone : (last : ℕ) (ps rs ls : List ℕ) → length ps ≡ last + 1 → length rs ≡ last + 1 → length ls ≡ last + 1 → ((n : ℕ) → n < length ps → slice_index ps n ≡ n) → ((n : ℕ) → n < length rs → slice_index rs n ≡ 0) → ((n : ℕ) → n < length ls → slice_index ls n ≡ n) → StandsFor last [] ps rs ls
stands_alone last ps rs ls pc rc lc own zeros leasts = record {
  forest = record {
    inside = λ n h. subst (λ k. k < length ps) (sym (own n h)) h;
    same = λ n h. own n h;
    rising = λ n h apart. absurd (apart (own n h));
    tops = λ n h e. leasts n (omega (arith, h, pc, lc));
    one = λ m n h k e g same. same;
  };
  parents_count = pc;
  ranks_count = rc;
  leasts_count = lc;
  low = λ n h. omega (arith, zeros n (omega (arith, h, pc, rc)));
}

pub stands_then : (last : ℕ) (pairs : List (ℕ × ℕ)) (ps rs ls : List ℕ) (p : ℕ × ℕ) (a b : ℕ) → StandsFor last pairs ps rs ls → a ≤ last → b ≤ last → slice_index ps a ≡ a → slice_index ps b ≡ b → a ≢ b →
    ((least_of pairs a ≡ least_of pairs p.0) × (least_of pairs b ≡ least_of pairs p.1)) ⊎ ((least_of pairs a ≡ least_of pairs p.1) × (least_of pairs b ≡ least_of pairs p.0)) →
    (new-pairs : List (ℕ × ℕ)) (new-ps new-rs new-ls : List ℕ) → new-pairs ≡ pairs ++ p ∷ [] → new-ps ≡ slice_set ps a b → new-rs ≡ slice_set rs b (raised (slice_index rs a) (slice_index rs b)) → new-ls ≡ slice_set ls b (lesser (slice_index ls a) (slice_index ls b)) →
    StandsFor last new-pairs new-ps new-rs new-ls
stands_then last pairs ps rs ls p a b s a_in b_in a_top b_top apart ends new-pairs new-ps new-rs new-ls pairs_are ps_are rs_are ls_are =
    subst (λ qs. StandsFor last qs new-ps new-rs new-ls) (sym pairs_are)
    (subst (λ qs. StandsFor last (pairs ++ p ∷ []) qs new-rs new-ls) (sym ps_are)
    (subst (λ qs. StandsFor last (pairs ++ p ∷ []) (slice_set ps a b) qs new-ls) (sym rs_are)
    (subst (λ qs. StandsFor last (pairs ++ p ∷ []) (slice_set ps a b) (slice_set rs b (raised (slice_index rs a) (slice_index rs b))) qs) (sym ls_are)
    (stands_hung last pairs ps rs ls p a b s a_in b_in a_top b_top apart ends))))
