-- Spans of two lists taken in the order of their starts, those that overlap or touch joined to one.
use Rattle.std.proofs.Common.{◌≡◌, ℕ, ◌+◌, ◌<◌, ◌≤◌, Bool, true, false, ◌&&◌, ◌||◌, ℤ, pos, ◌+ℤ◌, ◌<ℤ◌, ◌≤ℤ◌, List, [], ◌∷◌, ◌++◌, length, drop, get_or, refl, sym, ap, subst, ◌∙◌, arith}
use Rattle.std.specs.Prelude.{int_lt, int_le}
use Rattle.std.specs.Int.{int_max}
use Rattle.std.specs.List.{AllByRecursion}
use Rattle.std.proofs.lemmas.Int.{ints, clamps}
use Rattle.std.proofs.lemmas.List.{drop_more, drop_all}
use Rattle.std.proofs.lemmas.List.Folds.{list_any-append}
use Rattle.sc_base.specs.declared.span.Span.{Span}
use Rattle.sc_base.specs.Integers.{highest}
use Rattle.sc_base.specs.Spans.{contains_value, covers, IsSpan, AreApart}
use Rattle.sc_base.proofs.Integers.{all_weaker, all-append}
use Rattle.sc_runs.specs.Joins.{Goes, is_past, lengthened, BeginsBy, IsJoined}

-- ---- the last of a list
all_parts : (P : Span → Type 0) (xs ys : List Span) → AllByRecursion P (xs ++ ys) → AllByRecursion P xs × AllByRecursion P ys
all_parts P [] ys h = (tt, h)
all_parts P (x ∷ xs) ys h = let p = all_parts P xs ys h.1 in ((h.0, p.0), p.1)

apart_front : (ss : List Span) (l : Span) → AreApart (ss ++ l ∷ []) → AreApart ss × AllByRecursion (λ t. (t.high +ℤ pos 1) <ℤ l.low) ss × IsSpan l
apart_front [] l h = (tt, tt, h.0)
apart_front (s ∷ ss) l h =
    let p = apart_front ss l h.2 in
    let q = all_parts (λ t. (s.high +ℤ pos 1) <ℤ t.low) ss (l ∷ []) h.1 in
    ((h.0, q.0, p.0), (q.1.0, p.1), p.2)

apart_last : (ss : List Span) (l : Span) → AreApart ss → AllByRecursion (λ t. (t.high +ℤ pos 1) <ℤ l.low) ss → IsSpan l → AreApart (ss ++ l ∷ [])
apart_last [] l h k p = (p, tt, tt)
apart_last (s ∷ ss) l h k p = (h.0, all-append (λ t. (s.high +ℤ pos 1) <ℤ t.low) ss (l ∷ []) h.1 (k.0, tt), apart_last ss l h.2 k.1 p)

covers_one : (ss : List Span) (l : Span) (x : ℤ) → covers (ss ++ l ∷ []) x ≡ (covers ss x || contains_value x l)
covers_one ss l x = list_any-append (contains_value x) ss (l ∷ []) ∙ ap (λ b. covers ss x || b) (or_none (contains_value x l)) where
  or_none : (b : Bool) → (b || false) ≡ b
  or_none true = refl
  or_none false = refl

-- the first span of all
pub joined_first : (old new : List Span) (u : Span) → IsSpan u → old ≡ [] → new ≡ u ∷ [] → IsJoined old u new
joined_first old new u h e f =
    rw (e, f) (record { apart = (h, tt, tt); values = λ x. or_none (contains_value x u); starts = (omega (arith, ints), tt) }) where
      or_none : (b : Bool) → (b || false) ≡ b
      or_none true = refl
      or_none false = refl

past_says : (a b : ℤ) → int_lt (a +ℤ pos 1) b ≡ true → (a +ℤ pos 1) <ℤ b
past_says a b h = grind (arith, ints)

-- a span past the last one
pub joined_past : (front new : List Span) (l u : Span) → AreApart (front ++ l ∷ []) → IsSpan u → BeginsBy u.low (front ++ l ∷ []) → is_past l u ≡ true
    → new ≡ (front ++ l ∷ []) ++ u ∷ [] → IsJoined (front ++ l ∷ []) u new
joined_past front new l u h k b e f =
    let p = apart_front front l h in
    let g : (l.high +ℤ pos 1) <ℤ u.low = past_says l.high u.low e in
    let far : AllByRecursion (λ t. (t.high +ℤ pos 1) <ℤ u.low) (front ++ l ∷ []) =
    all-append (λ t. (t.high +ℤ pos 1) <ℤ u.low) front (l ∷ []) (all_weaker (λ t. (t.high +ℤ pos 1) <ℤ l.low) (λ t. (t.high +ℤ pos 1) <ℤ u.low) (λ t q. further t.high l.low l.high u.low q p.2.ordered g) front p.1) (g, tt) in
    rw f (record { apart = apart_last (front ++ l ∷ []) u h far k; values = λ x. covers_one (front ++ l ∷ []) u x; starts = all-append (λ t. t.low ≤ℤ u.low) (front ++ l ∷ []) (u ∷ []) b (omega (arith, ints), tt) }) where
      further : (a b c d : ℤ) → (a +ℤ pos 1) <ℤ b → b ≤ℤ c → (c +ℤ pos 1) <ℤ d → (a +ℤ pos 1) <ℤ d
      further a b c d q r s = omega (arith, ints)

longer_holds : (a b c d x : ℤ) → a ≤ℤ b → c ≤ℤ d → a ≤ℤ c → int_lt (b +ℤ pos 1) c ≡ false → (int_le a x && int_le x (int_max b d)) ≡ ((int_le a x && int_le x b) || (int_le c x && int_le x d))
longer_holds a b c d x h k l m = grind (arith, ints, clamps)

longer_proper : (l u : Span) → IsSpan l → IsSpan u → IsSpan (lengthened l u)
longer_proper l u h k = record { lower = h.lower; ordered = ordered l.low l.high u.high h.ordered; upper = upper l.high u.high highest h.upper k.upper } where
  ordered : (a b d : ℤ) → a ≤ℤ b → a ≤ℤ int_max b d
  ordered a b d h = grind (arith, ints, clamps)

  upper : (b d e : ℤ) → b ≤ℤ e → d ≤ℤ e → int_max b d ≤ℤ e
  upper b d e h k = grind (arith, ints, clamps)

or_assoc : (a b c : Bool) → (a || (b || c)) ≡ ((a || b) || c)
or_assoc true b c = refl
or_assoc false b c = refl

-- a span that overlaps or touches the last one
pub joined_longer : (front new : List Span) (l u : Span) → AreApart (front ++ l ∷ []) → IsSpan u → BeginsBy u.low (front ++ l ∷ []) → is_past l u ≡ false
    → new ≡ front ++ lengthened l u ∷ [] → IsJoined (front ++ l ∷ []) u new
joined_longer front new l u h k b e f =
    let p = apart_front front l h in
    let q = all_parts (λ t. t.low ≤ℤ u.low) front (l ∷ []) b in
    rw f (record {
      apart = apart_last front (lengthened l u) p.0 p.1 (longer_proper l u p.2 k);
      values = λ x. covers_one front (lengthened l u) x
          ∙ (ap (λ c. covers front x || c) (longer_holds l.low l.high u.low u.high x p.2.ordered k.ordered q.1.0 e)
          ∙ (or_assoc (covers front x) (contains_value x l) (contains_value x u) ∙ ap (λ c. c || contains_value x u) (sym (covers_one front l x))));
      starts = all-append (λ t. t.low ≤ℤ u.low) front (lengthened l u ∷ []) q.0 (q.1.0, tt);
    })

-- a list begins no lower than at a
abbrev pub Begins : ℤ → List Span → Type 0
Begins a [] = Unit {0}
Begins a (s ∷ ss) = a ≤ℤ s.low

le_holds : (a b : ℤ) → int_le a b ≡ true → a ≤ℤ b
le_holds a b h = grind (arith, ints)

le_fails : (a b : ℤ) → int_le a b ≡ false → b ≤ℤ a
le_fails a b h = grind (arith, ints)

-- ---- the loop
-- what is taken, with what is left of the two lists, holds what the two lists hold
pub record Joins (all ss ts left right : List Span) : Type 0 where
  pub apart : AreApart all
  pub left_apart : AreApart ss
  pub right_apart : AreApart ts
  pub left_goes : Goes all ss
  pub right_goes : Goes all ts
  pub values : (x : ℤ) → (covers all x || (covers ss x || covers ts x)) ≡ (covers left x || covers right x)

goes_none : (ss : List Span) → Goes [] ss
goes_none [] = tt
goes_none (s ∷ ss) = tt

pub joins_none : (left right : List Span) → AreApart left → AreApart right → Joins [] left right left right
joins_none left right h k = record { apart = tt; left_apart = h; right_apart = k; left_goes = goes_none left; right_goes = goes_none right; values = λ x. refl }

goes_same : (new : List Span) (s : Span) (ss : List Span) → AreApart (s ∷ ss) → BeginsBy s.low new → Goes new ss
goes_same new s [] h k = tt
goes_same new s (u ∷ us) h k = all_weaker (λ t. t.low ≤ℤ s.low) (λ t. t.low ≤ℤ u.low) (λ t g. rises t.low s.low s.high u.low g h.0.ordered h.1.0) new k where
  rises : (a b c d : ℤ) → a ≤ℤ b → b ≤ℤ c → (c +ℤ pos 1) <ℤ d → a ≤ℤ d
  rises a b c d h k l = omega (arith, ints)

goes_other : (new : List Span) (s : Span) (ts : List Span) → Begins s.low ts → BeginsBy s.low new → Goes new ts
goes_other new s [] h k = tt
goes_other new s (u ∷ us) h k = all_weaker (λ t. t.low ≤ℤ s.low) (λ t. t.low ≤ℤ u.low) (λ t g. rises t.low s.low u.low g h) new k where
  rises : (a b c : ℤ) → a ≤ℤ b → b ≤ℤ c → a ≤ℤ c
  rises a b c h k = omega (arith, ints)

or_left : (a b c d : Bool) → ((a || b) || (c || d)) ≡ (a || ((b || c) || d))
or_left true b c d = refl
or_left false true c d = refl
or_left false false c d = refl

or_right : (a b c d : Bool) → ((a || b) || (c || d)) ≡ (a || (c || (b || d)))
or_right true b c d = refl
or_right false true true d = refl
or_right false true false d = refl
or_right false false c d = refl

take_left : (all new : List Span) (s : Span) (ss ts left right : List Span) → Begins s.low ts → IsJoined all s new → Joins all (s ∷ ss) ts left right → Joins new ss ts left right
take_left all new s ss ts left right b n h =
    record {
      apart = n.apart;
      left_apart = h.left_apart.2;
      right_apart = h.right_apart;
      left_goes = goes_same new s ss h.left_apart n.starts;
      right_goes = goes_other new s ts b n.starts;
      values = λ x. ap (λ c. c || (covers ss x || covers ts x)) (n.values x) ∙ (or_left (covers all x) (contains_value x s) (covers ss x) (covers ts x) ∙ h.values x);
    }

take_right : (all new : List Span) (t : Span) (ss ts left right : List Span) → Begins t.low ss → IsJoined all t new → Joins all ss (t ∷ ts) left right → Joins new ss ts left right
take_right all new t ss ts left right b n h =
    record {
      apart = n.apart;
      left_apart = h.left_apart;
      right_apart = h.right_apart.2;
      left_goes = goes_other new t ss b n.starts;
      right_goes = goes_same new t ts h.right_apart n.starts;
      values = λ x. ap (λ c. c || (covers ss x || covers ts x)) (n.values x) ∙ (or_right (covers all x) (contains_value x t) (covers ss x) (covers ts x) ∙ h.values x);
    }

pub left_goes_on : (all ts left right more : List Span) (i : ℕ) (d : Span) → i < length more → Joins all (drop i more) ts left right → BeginsBy (get_or more i d).low all
left_goes_on all ts left right more i d l h = (subst (λ ss. Joins all ss ts left right) (drop_more more i d l) h).left_goes

pub right_goes_on : (all ss left right more : List Span) (j : ℕ) (d : Span) → j < length more → Joins all ss (drop j more) left right → BeginsBy (get_or more j d).low all
right_goes_on all ss left right more j d l h = (subst (λ ts. Joins all ss ts left right) (drop_more more j d l) h).right_goes

pub left_taken : (all new left right : List Span) (i j : ℕ) (d : Span) → i < length left → j < length right → int_le (get_or left i d).low (get_or right j d).low ≡ true → IsJoined all (get_or left i d) new
    → Joins all (drop i left) (drop j right) left right → Joins new (drop (i + 1) left) (drop j right) left right
left_taken all new left right i j d l m e n h =
    take_left all new (get_or left i d) (drop (i + 1) left) (drop j right) left right
    (subst (Begins (get_or left i d).low) (sym (drop_more right j d m)) (le_holds (get_or left i d).low (get_or right j d).low e)) n
    (subst (λ ss. Joins all ss (drop j right) left right) (drop_more left i d l) h)

pub right_taken : (all new left right : List Span) (i j : ℕ) (d : Span) → i < length left → j < length right → int_le (get_or left i d).low (get_or right j d).low ≡ false → IsJoined all (get_or right j d) new
    → Joins all (drop i left) (drop j right) left right → Joins new (drop i left) (drop (j + 1) right) left right
right_taken all new left right i j d l m e n h =
    take_right all new (get_or right j d) (drop i left) (drop (j + 1) right) left right
    (subst (Begins (get_or right j d).low) (sym (drop_more left i d l)) (le_fails (get_or left i d).low (get_or right j d).low e)) n
    (subst (λ ts. Joins all (drop i left) ts left right) (drop_more right j d m) h)

-- ---- what is left of one list
or_none : (b : Bool) → (b || false) ≡ b
or_none true = refl
or_none false = refl

pub rest_begins : (old ss : List Span) → AreApart old → AreApart ss → Goes old ss → Joins old ss [] old ss
rest_begins old ss h k g = record { apart = h; left_apart = k; right_apart = tt; left_goes = g; right_goes = tt; values = λ x. ap (λ b. covers old x || b) (or_none (covers ss x)) }

pub rest_next : (all new old rest more : List Span) (i : ℕ) (d : Span) → i < length more → IsJoined all (get_or more i d) new → Joins all (drop i more) [] old rest → Joins new (drop (i + 1) more) [] old rest
rest_next all new old rest more i d l n h = take_left all new (get_or more i d) (drop (i + 1) more) [] old rest tt n (subst (λ ss. Joins all ss [] old rest) (drop_more more i d l) h)

pub rest_ends : (all old rest more : List Span) (i : ℕ) → length more ≤ i → Joins all (drop i more) [] old rest → (x : ℤ) → covers all x ≡ (covers old x || covers rest x)
rest_ends all old rest more i l h x = sym (or_none (covers all x)) ∙ (subst (λ ss. Joins all ss [] old rest) (drop_all i more l) h).values x

pub left_ends : (all new left right : List Span) (i j : ℕ) → length right ≤ j → Joins all (drop i left) (drop j right) left right → ((x : ℤ) → covers new x ≡ (covers all x || covers (drop i left) x)) → (x : ℤ) → covers new x ≡ (covers left x || covers right x)
left_ends all new left right i j l h f x =
    f x ∙ (ap (λ b. covers all x || b) (sym (or_none (covers (drop i left) x))) ∙ (subst (λ ts. Joins all (drop i left) ts left right) (drop_all j right l) h).values x)

pub right_ends : (all new left right : List Span) (i j : ℕ) → length left ≤ i → Joins all (drop i left) (drop j right) left right → ((x : ℤ) → covers new x ≡ (covers all x || covers (drop j right) x)) → (x : ℤ) → covers new x ≡ (covers left x || covers right x)
right_ends all new left right i j l h f x = f x ∙ (subst (λ ss. Joins all ss (drop j right) left right) (drop_all i left l) h).values x
