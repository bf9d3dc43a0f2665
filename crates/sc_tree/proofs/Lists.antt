-- The open leaves and the seats' leaves after a cell changes.
use Rattle.std.proofs.Common.{◌≡◌, ℕ, zero, suc, ◌+◌, ◌<◌, ◌≤◌, Bool, true, false, not, cond, ◌||◌, ◌&&◌, ◌⊎◌, inl, inr, List, [], ◌∷◌, ◌++◌, length, Option, Some, None, refl, sym, ap, ◌∙◌, subst, arith}
use Rattle.std.specs.Prelude.{nat_eq}
use Rattle.std.specs.List.{list_any, slice_get}
use Rattle.std.specs.Cmp.{unsigned_Decides}
use Rattle.std.proofs.lemmas.Bool.{false≢true}
use Rattle.std.proofs.lemmas.Option.{same_Some}
use Rattle.sc_base.specs.Numbered.{item_at}
use Rattle.sc_tree.specs.declared.machine.Mark.{Mark}
use Rattle.sc_tree.specs.declared.machine.Mark.TheVariants as marks
use Rattle.sc_tree.specs.declared.seats.Holding.{Holding}
use Rattle.sc_tree.specs.Machine.{Cell, set_cell, marked, HoldsNone, HasMark, HasLeaf, is_live}
use Rattle.sc_tree.specs.Keeping.{is_in, ListsOpen, leaf_of, without, holding, ListsHeld, is_held, is_open, is_nil}
use Rattle.sc_tree.proofs.Cells.{item-append, item-past, item-within, item-set_other, item-set_same, item-set_back}

pub same_or_not : (m n : ℕ) → (m ≡ n) ⊎ (m ≡ n → ⊥)
same_or_not m n = by_test (nat_eq m n) refl where
  by_test : (b : Bool) → nat_eq m n ≡ b → (m ≡ n) ⊎ (m ≡ n → ⊥)
  by_test true e = inl ((unsigned_Decides m n).0 e)
  by_test false e = inr (λ h. false≢true (sym e ∙ (unsigned_Decides m n).1 h))

pub nat_eq-same : (n : ℕ) → nat_eq n n ≡ true
nat_eq-same n = (unsigned_Decides n n).1 refl

pub nat_eq-apart : (m n : ℕ) → (m ≡ n → ⊥) → nat_eq m n ≡ false
nat_eq-apart m n apart = by_test (nat_eq m n) refl where
  by_test : (b : Bool) → nat_eq m n ≡ b → b ≡ false
  by_test true e = absurd (apart ((unsigned_Decides m n).0 e))
  by_test false e = refl

-- marks after a cell is changed
pub mark-here : (cells : List Cell) (n : ℕ) (d c : Cell) → item_at cells n ≡ Some c → HasMark (set_cell cells n d) n d.mark
mark-here cells n d c is = (d, item-set_same cells n d c is, refl)

pub mark-there : (cells : List Cell) (n m : ℕ) (d : Cell) (mark : Mark) → (n ≡ m → ⊥) → HasMark cells m mark → HasMark (set_cell cells n d) m mark
mark-there cells n m d mark apart h = (h.0, item-set_other cells n m d h.0 apart h.1, h.2)

pub mark-unique : (cells : List Cell) (n : ℕ) (a b : Mark) → HasMark cells n a → HasMark cells n b → a ≡ b
mark-unique cells n a b p q = sym p.2 ∙ (ap (λ (c : Cell). c.mark) (same_Some p.0 q.0 (sym p.1 ∙ q.1)) ∙ q.2)

pub mark-back : (cells : List Cell) (n m : ℕ) (d c : Cell) (mark : Mark) → item_at cells n ≡ Some c → HasMark (set_cell cells n d) m mark → ((n ≡ m) × (d.mark ≡ mark)) ⊎ ((n ≡ m → ⊥) × HasMark cells m mark)
mark-back cells n m d c mark is h =
    elim (same_or_not n m) [
      | inl here ↦ inl (here, mark-unique (set_cell cells n d) m d.mark mark (subst (λ k. HasMark (set_cell cells n d) k d.mark) here (mark-here cells n d c is)) h)
      | inr apart ↦ inr (apart, elim (item-set_back cells n m d h.0 h.1) [ inl here ↦ absurd (apart here.0) | inr old ↦ (h.0, old, h.2) ])
    ]

-- the seats' leaves after one is taken away or added
leaf_of-without_by : (h : Holding) (hs : List Holding) (seat other : ℕ) (b : Bool) → nat_eq h.seat seat ≡ b → (seat ≡ other → ⊥) → leaf_of (without hs seat) other ≡ leaf_of hs other → leaf_of (cond (not b) (h ∷ without hs seat) (without hs seat)) other ≡ cond (nat_eq h.seat other) (Some h.leaf) (leaf_of hs other)
leaf_of-without_by h hs seat other true e apart rest = rest ∙ sym (ap (λ (t : Bool). cond t (Some h.leaf) (leaf_of hs other)) (nat_eq-apart h.seat other (λ same. apart (sym ((unsigned_Decides h.seat seat).0 e) ∙ same))))
leaf_of-without_by h hs seat other false e apart rest = ap (λ o. cond (nat_eq h.seat other) (Some h.leaf) o) rest

leaf_of-without : (held : List Holding) (seat other : ℕ) → (seat ≡ other → ⊥) → leaf_of (without held seat) other ≡ leaf_of held other
leaf_of-without [] seat other apart = refl
leaf_of-without (h ∷ hs) seat other apart = leaf_of-without_by h hs seat other (nat_eq h.seat seat) refl apart (leaf_of-without hs seat other apart)

leaf_of-gone_by : (h : Holding) (hs : List Holding) (seat : ℕ) (b : Bool) → nat_eq h.seat seat ≡ b → leaf_of (without hs seat) seat ≡ None → leaf_of (cond (not b) (h ∷ without hs seat) (without hs seat)) seat ≡ None
leaf_of-gone_by h hs seat true e rest = rest
leaf_of-gone_by h hs seat false e rest = ap (λ (t : Bool). cond t (Some h.leaf) (leaf_of (without hs seat) seat)) e ∙ rest

leaf_of-gone : (held : List Holding) (seat : ℕ) → leaf_of (without held seat) seat ≡ None
leaf_of-gone [] seat = refl
leaf_of-gone (h ∷ hs) seat = leaf_of-gone_by h hs seat (nat_eq h.seat seat) refl (leaf_of-gone hs seat)

leaf_of-add_other : (held : List Holding) (seat leaf other : ℕ) → (seat ≡ other → ⊥) → leaf_of (held ++ holding seat leaf ∷ []) other ≡ leaf_of held other
leaf_of-add_other [] seat leaf other apart = ap (λ (t : Bool). cond t (Some leaf) None) (nat_eq-apart seat other apart)
leaf_of-add_other (h ∷ hs) seat leaf other apart = ap (λ o. cond (nat_eq h.seat other) (Some h.leaf) o) (leaf_of-add_other hs seat leaf other apart)

leaf_of-add_same_by : (h : Holding) (hs more : List Holding) (seat leaf : ℕ) (b : Bool) → nat_eq h.seat seat ≡ b → cond b (Some h.leaf) (leaf_of hs seat) ≡ None → (leaf_of hs seat ≡ None → leaf_of more seat ≡ Some leaf) → cond b (Some h.leaf) (leaf_of more seat) ≡ Some leaf
leaf_of-add_same_by h hs more seat leaf true e none rest = absurd cc
leaf_of-add_same_by h hs more seat leaf false e none rest = rest none

leaf_of-add_same : (held : List Holding) (seat leaf : ℕ) → leaf_of held seat ≡ None → leaf_of (held ++ holding seat leaf ∷ []) seat ≡ Some leaf
leaf_of-add_same [] seat leaf none = ap (λ (t : Bool). cond t (Some leaf) None) (nat_eq-same seat)
leaf_of-add_same (h ∷ hs) seat leaf none = leaf_of-add_same_by h hs (hs ++ holding seat leaf ∷ []) seat leaf (nat_eq h.seat seat) refl none (leaf_of-add_same hs seat leaf)

-- a seat gives up its leaf, which gets another mark
pub held-given_up : (cells : List Cell) (held : List Holding) (seat n : ℕ) (c : Cell) (mark : Mark) → item_at cells n ≡ Some c → c.mark ≡ marks.Held seat → is_held mark ≡ false → ListsHeld cells held → ListsHeld (set_cell cells n (marked c mark)) (without held seat)
held-given_up cells held seat n c mark is own unheld lists =
    let new = set_cell cells n (marked c mark) in
    let mine : leaf_of held seat ≡ Some n = lists.all seat n (c, is, own) in
    record {
      all = λ s m h. elim (mark-back cells n m (marked c mark) c (marks.Held s) is h) [
        | inl here ↦ absurd (false≢true (sym unheld ∙ ap is_held here.1))
        | inr there ↦ leaf_of-without held seat s (λ same. there.0 (same_Some n m (sym mine ∙ (ap (leaf_of held) same ∙ lists.all s m there.1)))) ∙ lists.all s m there.1
      ];
      each = λ s m e. elim (same_or_not seat s) [
        | inl same ↦ absurd (let gone : None ≡ Some m = sym (leaf_of-gone held seat) ∙ (ap (leaf_of (without held seat)) same ∙ e) in cc)
        | inr apart ↦ (let old : HasLeaf cells s m = lists.each s m (sym (leaf_of-without held seat s apart) ∙ e) in
            mark-there cells n m (marked c mark) (marks.Held s) (λ here. apart (let two : marks.Held seat ≡ marks.Held s = mark-unique cells m (marks.Held seat) (marks.Held s) (subst (λ k. HasMark cells k (marks.Held seat)) here (c, is, own)) old in cc)) old)
      ];
    }

-- a leaf that was not open gets a mark that is not open
pub open-apart : (cells : List Cell) (opened : List ℕ) (n : ℕ) (c : Cell) (mark : Mark) → item_at cells n ≡ Some c → is_open c.mark ≡ false → is_open mark ≡ false → ListsOpen cells opened → ListsOpen (set_cell cells n (marked c mark)) opened
open-apart cells opened n c mark is before after lists =
    record {
      all = λ m h. elim (mark-back cells n m (marked c mark) c marks.Open is h) [
        | inl here ↦ absurd (false≢true (sym after ∙ ap is_open here.1))
        | inr there ↦ lists.all m there.1
      ];
      each = λ m e. (let old = lists.each m e in
          mark-there cells n m (marked c mark) marks.Open (λ here. false≢true (sym before ∙ ap is_open (mark-unique cells m c.mark marks.Open (subst (λ k. HasMark cells k c.mark) here (c, is, refl)) old))) old);
      once = lists.once;
    }

some-live : (cells : List Cell) (n : ℕ) (c : Cell) → slice_get cells n ≡ Some c → is_live c.mark ≡ true → list_any (λ (x : Cell). is_live x.mark) cells ≡ true
some-live [] n c e live = absurd cc
some-live (x ∷ xs) zero c e live = ap (λ (t : Bool). t || list_any (λ (y : Cell). is_live y.mark) xs) (ap (λ (y : Cell). is_live y.mark) (same_Some x c e) ∙ live)
some-live (x ∷ xs) (suc n) c e live = ap (λ (t : Bool). is_live x.mark || t) (some-live xs n c e live) ∙ or-true (is_live x.mark) where
  or-true : (b : Bool) → (b || true) ≡ true
  or-true true = refl
  or-true false = refl

pub mark-live : (cells : List Cell) (n : ℕ) (mark : Mark) → HasMark cells n mark → is_live mark ≡ true → list_any (λ (x : Cell). is_live x.mark) cells ≡ true
mark-live cells zero mark h live = absurd (let e : None ≡ Some h.0 = h.1 in cc)
mark-live cells (suc n) mark h live = some-live cells n h.0 h.1 (ap is_live h.2 ∙ live)

-- no cell is live where none is open and none is held
none-live_by : (mark : Mark) (b : Bool) → is_live mark ≡ b → (mark ≡ marks.Open → ⊥) → ((seat : ℕ) → mark ≡ marks.Held seat → ⊥) → b ≡ false
none-live_by marks.Open b e shut given = absurd (shut refl)
none-live_by (marks.Held seat) b e shut given = absurd (given seat refl)
none-live_by (marks.Closed closing) b e shut given = sym e
none-live_by (marks.Spent cause) b e shut given = sym e
none-live_by (marks.Parted step left) b e shut given = sym e

none-live : (cells : List Cell) → ((n : ℕ) (c : Cell) → slice_get cells n ≡ Some c → is_live c.mark ≡ false) → list_any (λ (x : Cell). is_live x.mark) cells ≡ false
none-live [] h = refl
none-live (x ∷ xs) h = ap (λ (t : Bool). t || list_any (λ (y : Cell). is_live y.mark) xs) (h 0 x refl) ∙ none-live xs (λ n c e. h (suc n) c e)

pub lists-live : (cells : List Cell) (opened : List ℕ) (held : List Holding) → ListsOpen cells opened → ListsHeld cells held → (is_nil opened && is_nil held) ≡ not (list_any (λ (x : Cell). is_live x.mark) cells)
lists-live cells [] [] opens holds =
    sym (ap not (none-live cells (λ n c e. none-live_by c.mark (is_live c.mark) refl (λ o. false≢true (opens.all (suc n) (c, e, o))) (λ s o. (let some : None ≡ Some (suc n) = holds.all s (suc n) (c, e, o) in cc)))))
lists-live cells [] (h ∷ hs) opens holds =
    sym (ap not (mark-live cells h.leaf (marks.Held h.seat) (holds.each h.seat h.leaf (ap (λ (t : Bool). cond t (Some h.leaf) (leaf_of hs h.seat)) (nat_eq-same h.seat))) refl))
lists-live cells (n ∷ ns) held opens holds =
    sym (ap not (mark-live cells n marks.Open (opens.each n (ap (λ (t : Bool). t || is_in n ns) (nat_eq-same n))) refl))

pub leaf_of-none : (cells : List Cell) (held : List Holding) (seat : ℕ) → ListsHeld cells held → HoldsNone cells seat → leaf_of held seat ≡ None
leaf_of-none cells held seat lists none = by_case (leaf_of held seat) refl where
  by_case : (o : Option ℕ) → leaf_of held seat ≡ o → o ≡ None
  by_case None e = refl
  by_case (Some n) e = absurd (none n (lists.each seat n e))

pub in-tail : (m n : ℕ) (ns : List ℕ) → (n ≡ m → ⊥) → is_in m (n ∷ ns) ≡ true → is_in m ns ≡ true
in-tail m n ns apart e = sym (ap (λ (t : Bool). t || is_in m ns) (nat_eq-apart m n (λ same. apart (sym same)))) ∙ e

pub in-more : (m n : ℕ) (ns : List ℕ) → is_in m ns ≡ true → is_in m (n ∷ ns) ≡ true
in-more m n ns e = by_case (nat_eq m n) where
  by_case : (b : Bool) → (b || is_in m ns) ≡ true
  by_case true = refl
  by_case false = e

pub opens-taken : (cells : List Cell) (n seat : ℕ) (rest : List ℕ) (c : Cell) → item_at cells n ≡ Some c → ListsOpen cells (n ∷ rest) → ListsOpen (set_cell cells n (marked c (marks.Held seat))) rest
opens-taken cells n seat rest c is lists =
    record {
      all = λ m h. elim (mark-back cells n m (marked c (marks.Held seat)) c marks.Open is h) [
        | inl here ↦ absurd (let e : marks.Held seat ≡ marks.Open = here.1 in cc)
        | inr there ↦ in-tail m n rest there.0 (lists.all m there.1)
      ];
      each = λ m e. mark-there cells n m (marked c (marks.Held seat)) marks.Open (λ here. false≢true (sym lists.once.0 ∙ (ap (λ k. is_in k rest) here ∙ e))) (lists.each m (in-more m n rest e));
      once = lists.once.1;
    }

pub holds-taken : (cells : List Cell) (held : List Holding) (n seat : ℕ) (c : Cell) → item_at cells n ≡ Some c → c.mark ≡ marks.Open → HoldsNone cells seat → ListsHeld cells held → ListsHeld (set_cell cells n (marked c (marks.Held seat))) (held ++ holding seat n ∷ [])
holds-taken cells held n seat c is mark none lists =
    let d = marked c (marks.Held seat) in
    let mine = leaf_of-add_same held seat n (leaf_of-none cells held seat lists none) in
    record {
      all = λ s m h. elim (mark-back cells n m d c (marks.Held s) is h) [
        | inl here ↦ (let seats : seat ≡ s = (let e : marks.Held seat ≡ marks.Held s = here.1 in cc) in subst (λ k. leaf_of (held ++ holding seat n ∷ []) s ≡ Some k) here.0 (subst (λ k. leaf_of (held ++ holding seat n ∷ []) k ≡ Some n) seats mine))
        | inr there ↦ leaf_of-add_other held seat n s (λ same. none m (subst (λ k. HasLeaf cells k m) (sym same) there.1)) ∙ lists.all s m there.1
      ];
      each = λ s m e. elim (same_or_not seat s) [
        | inl same ↦ (let number : n ≡ m = same_Some n m (sym mine ∙ (ap (leaf_of (held ++ holding seat n ∷ [])) same ∙ e)) in subst (λ k. HasLeaf (set_cell cells n d) k m) same (subst (λ k. HasLeaf (set_cell cells n d) seat k) number (mark-here cells n d c is)))
        | inr apart ↦ (let old : HasLeaf cells s m = lists.each s m (sym (leaf_of-add_other held seat n s apart) ∙ e) in mark-there cells n m d (marks.Held s) (λ here. (let two : marks.Open ≡ marks.Held s = mark-unique cells m marks.Open (marks.Held s) (subst (λ k. HasMark cells k marks.Open) here (c, is, mark)) old in absurd cc)) old)
      ];
    }

pub opens-reopened : (cells : List Cell) (n : ℕ) (opened : List ℕ) (c : Cell) → item_at cells n ≡ Some c → is_open c.mark ≡ false → ListsOpen cells opened → ListsOpen (set_cell cells n (marked c marks.Open)) (n ∷ opened)
opens-reopened cells n opened c is before lists =
    record {
      all = λ m h. elim (mark-back cells n m (marked c marks.Open) c marks.Open is h) [
        | inl here ↦ ap (λ (t : Bool). t || is_in m opened) ((unsigned_Decides m n).1 (sym here.0))
        | inr there ↦ in-more m n opened (lists.all m there.1)
      ];
      each = λ m e. elim (same_or_not n m) [
        | inl same ↦ subst (λ k. HasMark (set_cell cells n (marked c marks.Open)) k marks.Open) same (mark-here cells n (marked c marks.Open) c is)
        | inr apart ↦ mark-there cells n m (marked c marks.Open) marks.Open apart (lists.each m (in-tail m n opened apart e))
      ];
      once = (not-listed cells n opened c is before lists (is_in n opened) refl, lists.once);
    } where
      not-listed : (cs : List Cell) (k : ℕ) (ks : List ℕ) (d : Cell) → item_at cs k ≡ Some d → is_open d.mark ≡ false → ListsOpen cs ks → (b : Bool) → is_in k ks ≡ b → b ≡ false
      not-listed cs k ks d at shut all false e = refl
      not-listed cs k ks d at shut all true e = absurd (false≢true (sym shut ∙ ap is_open (mark-unique cs k d.mark marks.Open (d, at, refl) (all.each k e))))

-- a cell changes and keeps its mark
pub mark-kept : (cells : List Cell) (n m : ℕ) (d c : Cell) (mark : Mark) → item_at cells n ≡ Some c → d.mark ≡ c.mark → HasMark cells m mark → HasMark (set_cell cells n d) m mark
mark-kept cells n m d c mark is same h =
    elim (same_or_not n m) [
      | inl here ↦ subst (λ k. HasMark (set_cell cells n d) k mark) here (d, item-set_same cells n d c is, same ∙ mark-unique cells n c.mark mark (c, is, refl) (subst (λ k. HasMark cells k mark) (sym here) h))
      | inr apart ↦ mark-there cells n m d mark apart h
    ]

pub mark-was : (cells : List Cell) (n m : ℕ) (d c : Cell) (mark : Mark) → item_at cells n ≡ Some c → d.mark ≡ c.mark → HasMark (set_cell cells n d) m mark → HasMark cells m mark
mark-was cells n m d c mark is same h =
    elim (mark-back cells n m d c mark is h) [
      | inl here ↦ subst (λ k. HasMark cells k mark) here.0 (c, is, sym same ∙ here.1)
      | inr there ↦ there.1
    ]

pub opens-kept : (cells : List Cell) (n : ℕ) (d c : Cell) (opened : List ℕ) → item_at cells n ≡ Some c → d.mark ≡ c.mark → ListsOpen cells opened → ListsOpen (set_cell cells n d) opened
opens-kept cells n d c opened is same lists =
    record {
      all = λ m h. lists.all m (mark-was cells n m d c marks.Open is same h);
      each = λ m e. mark-kept cells n m d c marks.Open is same (lists.each m e);
      once = lists.once;
    }

pub holds-kept : (cells : List Cell) (n : ℕ) (d c : Cell) (held : List Holding) → item_at cells n ≡ Some c → d.mark ≡ c.mark → ListsHeld cells held → ListsHeld (set_cell cells n d) held
holds-kept cells n d c held is same lists =
    record {
      all = λ s m h. lists.all s m (mark-was cells n m d c (marks.Held s) is same h);
      each = λ s m e. mark-kept cells n m d c (marks.Held s) is same (lists.each s m e);
    }

-- two more cells, both open
item-beyond : (cells : List Cell) (a b c : Cell) (m : ℕ) → item_at (cells ++ a ∷ b ∷ []) m ≡ Some c → (item_at cells m ≡ Some c) ⊎ (((m ≡ suc (length cells)) × (c ≡ a)) ⊎ ((m ≡ suc (suc (length cells))) × (c ≡ b)))
item-beyond cells a b c zero e = absurd cc
item-beyond cells a b c (suc i) e = get-beyond cells a b c i e where
  get-beyond : (cs : List Cell) (x y z : Cell) (j : ℕ) → slice_get (cs ++ x ∷ y ∷ []) j ≡ Some z → (slice_get cs j ≡ Some z) ⊎ (((suc j ≡ suc (length cs)) × (z ≡ x)) ⊎ ((suc j ≡ suc (suc (length cs))) × (z ≡ y)))
  get-beyond [] x y z zero e = inr (inl (refl, sym (same_Some x z e)))
  get-beyond [] x y z (suc zero) e = inr (inr (refl, sym (same_Some y z e)))
  get-beyond [] x y z (suc (suc j)) e = absurd cc
  get-beyond (k ∷ cs) x y z zero e = inl e
  get-beyond (k ∷ cs) x y z (suc j) e =
      elim (get-beyond cs x y z j e) [
        | inl old ↦ inl old
        | inr (inl one) ↦ inr (inl (ap suc one.0, one.1))
        | inr (inr two) ↦ inr (inr (ap suc two.0, two.1))
      ]

pub mark-beyond : (cells : List Cell) (a b : Cell) (m : ℕ) (mark : Mark) → HasMark (cells ++ a ∷ b ∷ []) m mark → HasMark cells m mark ⊎ (((m ≡ suc (length cells)) × (a.mark ≡ mark)) ⊎ ((m ≡ suc (suc (length cells))) × (b.mark ≡ mark)))
mark-beyond cells a b m mark h =
    elim (item-beyond cells a b h.0 m h.1) [
      | inl old ↦ inl (h.0, old, h.2)
      | inr (inl one) ↦ inr (inl (one.0, ap (λ (c : Cell). c.mark) (sym one.1) ∙ h.2))
      | inr (inr two) ↦ inr (inr (two.0, ap (λ (c : Cell). c.mark) (sym two.1) ∙ h.2))
    ]

pub mark-front : (cells more : List Cell) (m : ℕ) (mark : Mark) → HasMark cells m mark → HasMark (cells ++ more) m mark
mark-front cells more m mark h = (h.0, item-append cells more m h.0 h.1, h.2)

mark-first : (cells : List Cell) (a b : Cell) → HasMark (cells ++ a ∷ b ∷ []) (suc (length cells)) a.mark
mark-first cells a b = (a, item-past cells a (b ∷ []), refl)

mark-second : (cells : List Cell) (a b : Cell) → HasMark (cells ++ a ∷ b ∷ []) (suc (suc (length cells))) b.mark
mark-second cells a b = (b, get-second cells a b, refl) where
  get-second : (cs : List Cell) (x y : Cell) → slice_get (cs ++ x ∷ y ∷ []) (suc (length cs)) ≡ Some y
  get-second [] x y = refl
  get-second (c ∷ cs) x y = get-second cs x y

listed-within : (cells : List Cell) (opened : List ℕ) (n : ℕ) → ListsOpen cells opened → is_in n opened ≡ true → n ≤ length cells
listed-within cells opened n lists e = let h = lists.each n e in item-within cells n h.0 h.1

not-beyond : (cells : List Cell) (opened : List ℕ) (n : ℕ) → ListsOpen cells opened → length cells < n → is_in n opened ≡ false
not-beyond cells opened n lists past = by_case (is_in n opened) refl where
  by_case : (b : Bool) → is_in n opened ≡ b → b ≡ false
  by_case false e = refl
  by_case true e = absurd (let within = listed-within cells opened n lists e in omega (arith, within, past))

is_in-first : (m n : ℕ) (ns : List ℕ) → m ≡ n → is_in m (n ∷ ns) ≡ true
is_in-first m n ns same = ap (λ (t : Bool). t || is_in m ns) ((unsigned_Decides m n).1 same)

pub opens-parted : (cells : List Cell) (a b : Cell) (opened : List ℕ) → a.mark ≡ marks.Open → b.mark ≡ marks.Open → ListsOpen cells opened → ListsOpen (cells ++ a ∷ b ∷ []) (suc (length cells) ∷ suc (suc (length cells)) ∷ opened)
opens-parted cells a b opened open_a open_b lists =
    let one = suc (length cells) in
    let two = suc (suc (length cells)) in
    record {
      all = λ m h. elim (mark-beyond cells a b m marks.Open h) [
        | inl old ↦ in-more m one (two ∷ opened) (in-more m two opened (lists.all m old))
        | inr (inl first) ↦ is_in-first m one (two ∷ opened) first.0
        | inr (inr second) ↦ in-more m one (two ∷ opened) (is_in-first m two opened second.0)
      ];
      each = λ m e. elim (same_or_not one m) [
        | inl here ↦ subst (λ k. HasMark (cells ++ a ∷ b ∷ []) k marks.Open) here (subst (λ k. HasMark (cells ++ a ∷ b ∷ []) one k) open_a (mark-first cells a b))
        | inr apart ↦ elim (same_or_not two m) [
          | inl there ↦ subst (λ k. HasMark (cells ++ a ∷ b ∷ []) k marks.Open) there (subst (λ k. HasMark (cells ++ a ∷ b ∷ []) two k) open_b (mark-second cells a b))
          | inr further ↦ mark-front cells (a ∷ b ∷ []) m marks.Open (lists.each m (in-tail m two opened further (in-tail m one (two ∷ opened) apart e)))
        ]
      ];
      once = (apart_all, (not-beyond cells opened two lists (omega arith), lists.once));
    } where
      apart_all : is_in (suc (length cells)) (suc (suc (length cells)) ∷ opened) ≡ false
      apart_all = ap (λ (t : Bool). t || is_in (suc (length cells)) opened) (nat_eq-apart (suc (length cells)) (suc (suc (length cells))) (λ e. omega (arith, e))) ∙ not-beyond cells opened (suc (length cells)) lists (omega arith)

pub holds-parted : (cells : List Cell) (a b : Cell) (held : List Holding) → a.mark ≡ marks.Open → b.mark ≡ marks.Open → ListsHeld cells held → ListsHeld (cells ++ a ∷ b ∷ []) held
holds-parted cells a b held open_a open_b lists =
    record {
      all = λ s m h. elim (mark-beyond cells a b m (marks.Held s) h) [
        | inl old ↦ lists.all s m old
        | inr (inl first) ↦ absurd (let e : marks.Open ≡ marks.Held s = sym open_a ∙ first.1 in cc)
        | inr (inr second) ↦ absurd (let e : marks.Open ≡ marks.Held s = sym open_b ∙ second.1 in cc)
      ];
      each = λ s m e. mark-front cells (a ∷ b ∷ []) m (marks.Held s) (lists.each s m e);
    }

-- a seat that holds a leaf is one of those who do
fewer-at_most : (xs : List Holding) (seat : ℕ) → length (without xs seat) ≤ length xs
fewer-at_most [] seat = omega arith
fewer-at_most (x ∷ xs) seat = by_case (nat_eq x.seat seat) (fewer-at_most xs seat) where
  by_case : (b : Bool) → length (without xs seat) ≤ length xs → length (cond (not b) (x ∷ without xs seat) (without xs seat)) ≤ suc (length xs)
  by_case true k = omega (arith, k)
  by_case false k = omega (arith, k)

fewer-by : (h : Holding) (hs : List Holding) (seat n : ℕ) (b : Bool) → cond b (Some h.leaf) (leaf_of hs seat) ≡ Some n → (leaf_of hs seat ≡ Some n → length (without hs seat) + 1 ≤ length hs) → length (cond (not b) (h ∷ without hs seat) (without hs seat)) + 1 ≤ suc (length hs)
fewer-by h hs seat n true k later = let m = fewer-at_most hs seat in omega (arith, m)
fewer-by h hs seat n false k later = let m = later k in omega (arith, m)

pub fewer : (held : List Holding) (seat n : ℕ) → leaf_of held seat ≡ Some n → length (without held seat) + 1 ≤ length held
fewer [] seat n e = absurd cc
fewer (h ∷ hs) seat n e = fewer-by h hs seat n (nat_eq h.seat seat) e (λ k. fewer hs seat n k)

-- a seat that was added is taken away again
without-none : (held : List Holding) (seat : ℕ) → leaf_of held seat ≡ None → without held seat ≡ held
without-none [] seat e = refl
without-none (h ∷ hs) seat e = by_test (nat_eq h.seat seat) e (λ k. without-none hs seat k) where
  by_test : (b : Bool) → cond b (Some h.leaf) (leaf_of hs seat) ≡ None → (leaf_of hs seat ≡ None → without hs seat ≡ hs) → cond (not b) (h ∷ without hs seat) (without hs seat) ≡ h ∷ hs
  by_test true k rest = absurd cc
  by_test false k rest = ap (λ l. h ∷ l) (rest k)

without-last : (hs : List Holding) (seat n : ℕ) → without (hs ++ holding seat n ∷ []) seat ≡ without hs seat
without-last [] seat n = ap (λ b. cond (not b) (holding seat n ∷ []) []) (nat_eq-same seat)
without-last (h ∷ hs) seat n = ap (λ l. cond (not (nat_eq h.seat seat)) (h ∷ l) l) (without-last hs seat n)

pub without-added : (cells : List Cell) (held : List Holding) (seat n : ℕ) → ListsHeld cells held → HoldsNone cells seat → without (held ++ holding seat n ∷ []) seat ≡ held
without-added cells held seat n lists none = without-last held seat n ∙ without-none held seat (leaf_of-none cells held seat lists none)
