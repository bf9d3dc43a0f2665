-- A step that brings something new in each of its two branches keeps a lean path lean in both.
use Rattle.std.proofs.Common.{◌≡◌, ◌≢◌, append_assoc, ℕ, zero, suc, ◌+◌, Bool, true, false, not, ◌&&◌, ◌||◌, cond, nat_eq, nat_lt, List, [], ◌∷◌, ◌++◌, Option, Some, None, refl, sym, ap, subst, ◌∙◌}
use Rattle.std.specs.Prelude.{⊤}
use Rattle.std.specs.List.{list_all, AllByRecursion}
use Rattle.std.proofs.lemmas.Bool.{false≢true}
use Rattle.std.proofs.lemmas.List.Folds.{list_any-append}
use Rattle.sc_base.specs.Numbered.{item_at}
use Rattle.sc_base.specs.Options.{◌>>=◌}
use Rattle.sc_base.proofs.Bools.{and_true}
use Rattle.sc_terms.specs.declared.nodes.Element.{Element}
use Rattle.sc_terms.specs.declared.nodes.Element.TheVariants as elements
use Rattle.sc_terms.specs.declared.problem.Parts.{Parts}
use Rattle.sc_terms.specs.Lookup.{is_diff_of, diff_from, diff_of}
use Rattle.sc_facts.specs.declared.fact.Fact.{Fact}
use Rattle.sc_facts.specs.declared.fact.Fact.TheVariants as facts
use Rattle.sc_facts.specs.declared.name.FactName.{FactName}
use Rattle.sc_facts.specs.declared.name.FactName.TheVariants as names
use Rattle.sc_facts.specs.Same.{same_fact, same_fact-Decides}
use Rattle.sc_facts.specs.Facts.{has, named, root_facts}
use Rattle.sc_rules.specs.declared.step.PlainStep.{PlainStep}
use Rattle.sc_rules.specs.declared.step.PlainStep.TheVariants as plain
use Rattle.sc_rules.specs.Pairs.{ordered, same_set}
use Rattle.sc_rules.specs.Members.{tells_apart, differing, differ_of}
use Rattle.sc_rules.specs.Steps.{one, names_fact, cut_of, branches}
use Rattle.sc_deriv.specs.declared.derivation.Step.{Step}
use Rattle.sc_deriv.specs.declared.derivation.Step.TheVariants.{Plain}
use Rattle.sc_deriv.specs.declared.derivation.Taken.{Taken}
use Rattle.sc_deriv.specs.Acceptance.{step_branches}
use Rattle.sc_deriv.specs.Taking.{concluded, path_from, path_after}
use Rattle.sc_tree.specs.Chains.{taken}
use Rattle.sc_tree.specs.Lean.{Key, Brings, Says, with_ordered_pair, fact_key, key, IsLeanOn, LeanFrom, Lean, brings_more}
use Rattle.sc_tree.specs.Laws.{SplitsAreLean}

-- ---- facts of a longer path
has_more : (path more : List Fact) (x : Fact) → has (path ++ more) x ≡ (has path x || has more x)
has_more path more x = list_any-append (same_fact x) path more

or_left : (a b : Bool) → a ≡ true → (a || b) ≡ true
or_left true b e = refl
or_left false b e = absurd (false≢true e)

has_still : (path more : List Fact) (x : Fact) → has path x ≡ true → has (path ++ more) x ≡ true
has_still path more x h = has_more path more x ∙ or_left (has path x) (has more x) h

-- ---- the differing element of a pair in order
or-swap : (a b : Bool) → (a || b) ≡ (b || a)
or-swap true true = refl
or-swap true false = refl
or-swap false true = refl
or-swap false false = refl

diff-test : (s t : ℕ) (e : Element) → is_diff_of t s e ≡ is_diff_of s t e
diff-test s t (elements.Const c sort) = refl
diff-test s t (elements.Number affine) = refl
diff-test s t (elements.Diff a b) = or-swap (nat_eq a t && nat_eq b s) (nat_eq a s && nat_eq b t)

diff-turned : (k : ℕ) (es : List Element) (s t : ℕ) → diff_from k es t s ≡ diff_from k es s t
diff-turned k [] s t = refl
diff-turned k (e ∷ es) s t = ap (λ b. cond b (Some k) (diff_from (k + 1) es t s)) (diff-test s t e) ∙ ap (λ o. cond (is_diff_of s t e) (Some k) o) (diff-turned (k + 1) es s t)

diff-ordered : (problem : Parts) (s t : ℕ) → diff_of problem (ordered s t).0 (ordered s t).1 ≡ diff_of problem s t
diff-ordered problem s t = by (nat_lt t s)
  where
    by : (b : Bool) → diff_of problem (cond {A = ℕ × ℕ} b (t, s) (s, t)).0 (cond {A = ℕ × ℕ} b (t, s) (s, t)).1 ≡ diff_of problem s t
    by true = diff-turned 1 problem.elements s t
    by false = refl

-- ---- what the keys of the steps taken say of the path
-- the facts of one of the branches of a split by a differing element stand on the path
abbrev pub IsTold : Parts → List Fact → ℕ → ℕ → Type 0
IsTold problem path s t = (d : ℕ) × (b : Bool) × (diff_of problem s t ≡ Some d) × (list_all (has path) (tells_apart d (s, t) b) ≡ true)

abbrev pub KeyStands : Parts → List Fact → Key → Type 0
KeyStands problem path (Brings f) = has path f ≡ true
KeyStands problem path (Says (Plain (plain.Differ s t))) = IsTold problem path s t
KeyStands problem path (Says step) = ⊤

abbrev pub KeysStand : Parts → List Fact → List Key → Type 0
KeysStand problem path keys = AllByRecursion (KeyStands problem path) keys

all-still : (path more fs : List Fact) → list_all (has path) fs ≡ true → list_all (has (path ++ more)) fs ≡ true
all-still path more [] h = refl
all-still path more (f ∷ fs) h =
    let both = and_true (has path f) (list_all (has path) fs) h in
    ap (λ b. b && list_all (has (path ++ more)) fs) (has_still path more f both.0) ∙ all-still path more fs both.1

key-still : (problem : Parts) (path more : List Fact) (k : Key) → KeyStands problem path k → KeyStands problem (path ++ more) k
key-still problem path more (Brings f) h = has_still path more f h
key-still problem path more (Says (Plain (plain.Differ s t))) h = (h.0, h.1, h.2, all-still path more (tells_apart h.0 (s, t) h.1) h.3)
key-still problem path more (Says (Plain _)) h = tt

keys-still : (problem : Parts) (path more : List Fact) (keys : List Key) → KeysStand problem path keys → KeysStand problem (path ++ more) keys
keys-still problem path more [] h = tt
keys-still problem path more (k ∷ keys) h = (key-still problem path more k h.0, keys-still problem path more keys h.1)

-- ---- a step's key stands on the path behind it
has-last : (path : List Fact) (f : Fact) → has (path ++ f ∷ []) f ≡ true
has-last path f = has_more path (f ∷ []) f ∙ by (has path f) (same_fact f f) ((same_fact-Decides f f).1 refl)
  where
    by : (a b : Bool) → b ≡ true → (a || (b || false)) ≡ true
    by true b e = refl
    by false true e = refl
    by false false e = absurd (false≢true e)

-- a key of one fact, where a row's step is not a split by a differing element
one-key : (problem : Parts) (path : List Fact) (step : Step) (f : Fact) → ((s t : ℕ) → with_ordered_pair step ≡ Plain (plain.Differ s t) → ⊥) → KeyStands problem (path ++ f ∷ []) (fact_key step f)
one-key problem path step (facts.Row row) never = says (with_ordered_pair step) never
  where
    says : (x : Step) → ((s t : ℕ) → x ≡ Plain (plain.Differ s t) → ⊥) → KeyStands problem (path ++ facts.Row row ∷ []) (Says x)
    says (Plain (plain.Differ s t)) h = absurd (h s t refl)
    says (Plain _) h = tt
one-key problem path step (facts.Sign g b) never = has-last path (facts.Sign g b)
one-key problem path step (facts.Member e s b) never = has-last path (facts.Member e s b)
one-key problem path step (facts.Eq e f b) never = has-last path (facts.Eq e f b)
one-key problem path step (facts.EqSet s t b) never = has-last path (facts.EqSet s t b)
one-key problem path step (facts.Empty cube b) never = has-last path (facts.Empty cube b)

-- the key of any step that is no split by a differing element
plain-key : (problem : Parts) (path : List Fact) (step : Step) (bs : List Fact) → ((s t : ℕ) → with_ordered_pair step ≡ Plain (plain.Differ s t) → ⊥) → KeyStands problem (path ++ bs) (key step bs)
plain-key problem path step [] never = says (with_ordered_pair step) never
  where
    says : (x : Step) → ((s t : ℕ) → x ≡ Plain (plain.Differ s t) → ⊥) → KeyStands problem (path ++ []) (Says x)
    says (Plain (plain.Differ s t)) h = absurd (h s t refl)
    says (Plain _) h = tt
plain-key problem path step (f ∷ []) never = one-key problem path step f never
plain-key problem path step (f ∷ g ∷ fs) never = says (with_ordered_pair step) never
  where
    says : (x : Step) → ((s t : ℕ) → x ≡ Plain (plain.Differ s t) → ⊥) → KeyStands problem (path ++ f ∷ g ∷ fs) (Says x)
    says (Plain (plain.Differ s t)) h = absurd (h s t refl)
    says (Plain _) h = tt

has-all : (path fs : List Fact) → list_all (has (path ++ fs)) fs ≡ true
has-all path fs = by path fs
  where
    by : (p gs : List Fact) → list_all (has (p ++ gs)) gs ≡ true
    by p [] = refl
    by p (g ∷ gs) = ap (λ b. b && list_all (has (p ++ g ∷ gs)) gs) (here p g gs) ∙ shift p g gs (by (p ++ g ∷ []) gs)
      where
        here : (q : List Fact) (x : Fact) (xs : List Fact) → has (q ++ x ∷ xs) x ≡ true
        here q x xs = has_more q (x ∷ xs) x ∙ join (has q x) (same_fact x x) (has xs x) ((same_fact-Decides x x).1 refl)
          where
            join : (a b c : Bool) → b ≡ true → (a || (b || c)) ≡ true
            join true b c e = refl
            join false true c e = refl
            join false false c e = absurd (false≢true e)

        shift : (q : List Fact) (x : Fact) (xs : List Fact) → list_all (has ((q ++ x ∷ []) ++ xs)) xs ≡ true → list_all (has (q ++ x ∷ xs)) xs ≡ true
        shift q x xs h = subst (λ p. list_all (has p) xs ≡ true) (append_assoc q (x ∷ []) xs) h

-- the two branches of a split by a differing element
branch-of : (o : Option ℕ) (pair : ℕ × ℕ) (branch : ℕ) (bs : List Fact) → ((o >>= λ d. Some (tells_apart d pair true ∷ tells_apart d pair false ∷ [])) >>= λ lists. item_at lists branch) ≡ Some bs → (d : ℕ) × (b : Bool) × (o ≡ Some d) × (bs ≡ tells_apart d pair b)
branch-of None pair branch bs e = absurd cc
branch-of (Some d) pair zero bs e = absurd cc
branch-of (Some d) pair (suc zero) bs e = (d, true, refl, cc)
branch-of (Some d) pair (suc (suc zero)) bs e = (d, false, refl, cc)
branch-of (Some d) pair (suc (suc (suc n))) bs e = absurd cc

differing-is : (problem : Parts) (path : List Fact) (s t d : ℕ) → differing problem path s t ≡ Some d → diff_of problem s t ≡ Some d
differing-is problem path s t d e = by (same_set path s t false) e
  where
    by : (b : Bool) → cond b (diff_of problem s t) None ≡ Some d → diff_of problem s t ≡ Some d
    by true h = h
    by false h = absurd cc

told-key : (d : ℕ) (pair : ℕ × ℕ) (b : Bool) (step : Step) → key step (tells_apart d pair b) ≡ Says (with_ordered_pair step)
told-key d pair true step = refl
told-key d pair false step = refl

differ-key : (problem : Parts) (path : List Fact) (s t branch : ℕ) (bs : List Fact) → (differ_of problem path s t >>= λ lists. item_at lists branch) ≡ Some bs → KeyStands problem (path ++ bs) (key (Plain (plain.Differ s t)) bs)
differ-key problem path s t branch bs e =
    let is = branch-of (differing problem path s t) (ordered s t) branch bs e in
    let diff : diff_of problem (ordered s t).0 (ordered s t).1 ≡ Some is.0 = diff-ordered problem s t ∙ differing-is problem path s t is.0 is.2 in
    let says : key (Plain (plain.Differ s t)) bs ≡ Says (Plain (plain.Differ (ordered s t).0 (ordered s t).1)) = ap (key (Plain (plain.Differ s t))) is.3 ∙ told-key is.0 (ordered s t) is.1 (Plain (plain.Differ s t)) in
    let told : IsTold problem (path ++ bs) (ordered s t).0 (ordered s t).1 = (is.0, is.1, diff, subst (λ fs. list_all (has (path ++ bs)) fs ≡ true) is.3 (has-all path bs)) in
    subst (KeyStands problem (path ++ bs)) (sym says) told

step-key : (problem : Parts) (path : List Fact) (step : PlainStep) (branch : ℕ) (bs : List Fact) → concluded problem path (taken (Plain step) branch) ≡ Some bs → KeyStands problem (path ++ bs) (key (Plain step) bs)
step-key problem path (plain.Differ s t) branch bs e = differ-key problem path s t branch bs e
step-key problem path (plain.Atom n) branch bs e = plain-key problem path (Plain (plain.Atom n)) bs (λ s t h. absurd cc)
step-key problem path (plain.All n p) branch bs e = plain-key problem path (Plain (plain.All n p)) bs (λ s t h. absurd cc)
step-key problem path (plain.Unit n p) branch bs e = plain-key problem path (Plain (plain.Unit n p)) bs (λ s t h. absurd cc)
step-key problem path (plain.Cut name) branch bs e = plain-key problem path (Plain (plain.Cut name)) bs (λ s t h. absurd cc)
step-key problem path (plain.Op x y z) branch bs e = plain-key problem path (Plain (plain.Op x y z)) bs (λ s t h. absurd cc)
step-key problem path (plain.Single x y) branch bs e = plain-key problem path (Plain (plain.Single x y)) bs (λ s t h. absurd cc)
step-key problem path (plain.Unsingle x y) branch bs e = plain-key problem path (Plain (plain.Unsingle x y)) bs (λ s t h. absurd cc)
step-key problem path (plain.Carry x y z) branch bs e = plain-key problem path (Plain (plain.Carry x y z)) bs (λ s t h. absurd cc)
step-key problem path (plain.Apart x y z) branch bs e = plain-key problem path (Plain (plain.Apart x y z)) bs (λ s t h. absurd cc)
step-key problem path (plain.Move x y z) branch bs e = plain-key problem path (Plain (plain.Move x y z)) bs (λ s t h. absurd cc)
step-key problem path (plain.SetApart x y z) branch bs e = plain-key problem path (Plain (plain.SetApart x y z)) bs (λ s t h. absurd cc)
step-key problem path (plain.EqRefl x) branch bs e = plain-key problem path (Plain (plain.EqRefl x)) bs (λ s t h. absurd cc)
step-key problem path (plain.EqStep x y z) branch bs e = plain-key problem path (Plain (plain.EqStep x y z)) bs (λ s t h. absurd cc)
step-key problem path (plain.SeqRefl x) branch bs e = plain-key problem path (Plain (plain.SeqRefl x)) bs (λ s t h. absurd cc)
step-key problem path (plain.SeqStep x y z) branch bs e = plain-key problem path (Plain (plain.SeqStep x y z)) bs (λ s t h. absurd cc)

-- ---- a step that brings something new in either branch has a key of its own
lacks-one : (path : List Fact) (f : Fact) → brings_more path (f ∷ []) ≡ true → has path f ≡ false
lacks-one path f e = by (has path f) e
  where
    by : (a : Bool) → not (a && true) ≡ true → a ≡ false
    by true h = absurd (false≢true h)
    by false h = refl

lacks-all : (path fs : List Fact) → brings_more path fs ≡ true → list_all (has path) fs ≡ true → ⊥
lacks-all path fs more all = by (list_all (has path) fs) more all
  where
    by : (a : Bool) → not a ≡ true → a ≡ true → ⊥
    by true h g = absurd (false≢true h)
    by false h g = absurd (false≢true g)

-- the key stands on no path that lacks something of both branches
abbrev IsFresh : Parts → List Fact → Key → Type 0
IsFresh problem path k = KeyStands problem path k → ⊥

fresh-among : (problem : Parts) (path : List Fact) (keys : List Key) (k : Key) → KeysStand problem path keys → IsFresh problem path k → AllByRecursion (λ other. other ≢ k) keys
fresh-among problem path [] k stand fresh = tt
fresh-among problem path (x ∷ keys) k stand fresh = (λ same. fresh (subst (KeyStands problem path) same stand.0), fresh-among problem path keys k stand.1 fresh)

name-key : (problem : Parts) (path : List Fact) (step : Step) (name : FactName) (b : Bool) → has path (named name b) ≡ false → IsFresh problem path (key step (named name b ∷ []))
name-key problem path step (names.Sign f) b never h = false≢true (sym never ∙ h)
name-key problem path step (names.Member e s) b never h = false≢true (sym never ∙ h)
name-key problem path step (names.Eq e f) b never h = false≢true (sym never ∙ h)
name-key problem path step (names.EqSet s t) b never h = false≢true (sym never ∙ h)
name-key problem path step (names.Empty cube) b never h = false≢true (sym never ∙ h)

no-two : (o : Option Fact) (first second : List Fact) → one o ≡ Some (first ∷ second ∷ []) → ⊥
no-two None first second e = absurd cc
no-two (Some f) first second e = absurd cc

cut-lists : (name : FactName) (b : Bool) (first second : List Fact) → cond b (Some ((named name true ∷ []) ∷ (named name false ∷ []) ∷ [])) None ≡ Some (first ∷ second ∷ []) → (first ≡ named name true ∷ []) × (second ≡ named name false ∷ [])
cut-lists name true first second e = (cc, cc)
cut-lists name false first second e = absurd cc

differ-lists : (o : Option ℕ) (pair : ℕ × ℕ) (first second : List Fact) → (o >>= λ d. Some (tells_apart d pair true ∷ tells_apart d pair false ∷ [])) ≡ Some (first ∷ second ∷ []) → (d : ℕ) × (o ≡ Some d) × (first ≡ tells_apart d pair true) × (second ≡ tells_apart d pair false)
differ-lists None pair first second e = absurd cc
differ-lists (Some d) pair first second e = (d, refl, cc, cc)

module _ (problem : Parts) (path first second : List Fact) where
  cut-new : (name : FactName) (b : Bool) (bs : List Fact) → bs ≡ named name b ∷ [] → brings_more path bs ≡ true → IsFresh problem path (key (Plain (plain.Cut name)) bs)
  cut-new name b bs is more = subst (λ fs. IsFresh problem path (key (Plain (plain.Cut name)) fs)) (sym is) (name-key problem path (Plain (plain.Cut name)) name b (lacks-one path (named name b) (subst (λ fs. brings_more path fs ≡ true) is more)))

  told-new : (s t d : ℕ) → diff_of problem (ordered s t).0 (ordered s t).1 ≡ Some d → brings_more path (tells_apart d (ordered s t) true) ≡ true → brings_more path (tells_apart d (ordered s t) false) ≡ true → IsTold problem path (ordered s t).0 (ordered s t).1 → ⊥
  told-new s t d diff left right told = by told.1 told.3
    where
      same : told.0 ≡ d
      same = some-same told.0 d (sym told.2 ∙ diff)
        where
          some-same : (x y : ℕ) → Some x ≡ Some y → x ≡ y
          some-same x y e = cc

      by : (b : Bool) → list_all (has path) (tells_apart told.0 (ordered s t) b) ≡ true → ⊥
      by true all = lacks-all path (tells_apart d (ordered s t) true) left (subst (λ x. list_all (has path) (tells_apart x (ordered s t) true) ≡ true) same all)
      by false all = lacks-all path (tells_apart d (ordered s t) false) right (subst (λ x. list_all (has path) (tells_apart x (ordered s t) false) ≡ true) same all)

  differ-new : (s t : ℕ) (bs : List Fact) (is : differ_of problem path s t ≡ Some (first ∷ second ∷ [])) → brings_more path first ≡ true → brings_more path second ≡ true → (b : Bool) → bs ≡ tells_apart (differ-lists (differing problem path s t) (ordered s t) first second is).0 (ordered s t) b → IsFresh problem path (key (Plain (plain.Differ s t)) bs)
  differ-new s t bs is more_first more_second b same stands = told-new s t d diff left right told
    where
      lists : (d : ℕ) × (differing problem path s t ≡ Some d) × (first ≡ tells_apart d (ordered s t) true) × (second ≡ tells_apart d (ordered s t) false)
      lists = differ-lists (differing problem path s t) (ordered s t) first second is

      d : ℕ
      d = lists.0

      diff : diff_of problem (ordered s t).0 (ordered s t).1 ≡ Some d
      diff = diff-ordered problem s t ∙ differing-is problem path s t d lists.1

      left : brings_more path (tells_apart d (ordered s t) true) ≡ true
      left = subst (λ fs. brings_more path fs ≡ true) lists.2 more_first

      right : brings_more path (tells_apart d (ordered s t) false) ≡ true
      right = subst (λ fs. brings_more path fs ≡ true) lists.3 more_second

      says : key (Plain (plain.Differ s t)) bs ≡ Says (Plain (plain.Differ (ordered s t).0 (ordered s t).1))
      says = ap (key (Plain (plain.Differ s t))) same ∙ told-key d (ordered s t) b (Plain (plain.Differ s t))

      told : IsTold problem path (ordered s t).0 (ordered s t).1
      told = subst (KeyStands problem path) says stands

  new-keys : (step : PlainStep) → branches problem path step ≡ Some (first ∷ second ∷ []) → brings_more path first ≡ true → brings_more path second ≡ true → IsFresh problem path (key (Plain step) first) × IsFresh problem path (key (Plain step) second)
  new-keys (plain.Cut name) is left right =
      let lists = cut-lists name (names_fact problem name) first second is in
      (cut-new name true first lists.0 left, cut-new name false second lists.1 right)
  new-keys (plain.Differ s t) is left right =
      let lists = differ-lists (differing problem path s t) (ordered s t) first second is in
      (differ-new s t first is left right true lists.2, differ-new s t second is left right false lists.3)
  new-keys (plain.Atom n) is left right = absurd (no-two _ first second is)
  new-keys (plain.All n p) is left right = absurd (no-two _ first second is)
  new-keys (plain.Unit n p) is left right = absurd (no-two _ first second is)
  new-keys (plain.Op x y z) is left right = absurd (no-two _ first second is)
  new-keys (plain.Single x y) is left right = absurd (no-two _ first second is)
  new-keys (plain.Unsingle x y) is left right = absurd (no-two _ first second is)
  new-keys (plain.Carry x y z) is left right = absurd (no-two _ first second is)
  new-keys (plain.Apart x y z) is left right = absurd (no-two _ first second is)
  new-keys (plain.Move x y z) is left right = absurd (no-two _ first second is)
  new-keys (plain.SetApart x y z) is left right = absurd (no-two _ first second is)
  new-keys (plain.EqRefl x) is left right = absurd (no-two _ first second is)
  new-keys (plain.EqStep x y z) is left right = absurd (no-two _ first second is)
  new-keys (plain.SeqRefl x) is left right = absurd (no-two _ first second is)
  new-keys (plain.SeqStep x y z) is left right = absurd (no-two _ first second is)

taken-key : (problem : Parts) (path : List Fact) (step : Step) (branch : ℕ) (bs : List Fact) → concluded problem path (taken step branch) ≡ Some bs → KeyStands problem (path ++ bs) (key step bs)
taken-key problem path (Plain step) branch bs e = step-key problem path step branch bs e

lean-more : (problem : Parts) (path new : List Fact) (keys : List Key) (steps : List Taken) (t : Taken) (bs : List Fact) → LeanFrom problem path keys steps → path_from problem path steps ≡ Some new → KeysStand problem path keys → concluded problem new t ≡ Some bs → brings_more new bs ≡ true → IsFresh problem new (key t.step bs) → LeanFrom problem path keys (steps ++ t ∷ [])
lean-more problem path new keys [] t bs lean e stand c more fresh =
    let same : path ≡ new = cc in
    subst (λ o. IsLeanOn path keys t.step o (λ p ks. LeanFrom problem p ks [])) (sym (subst (λ p. concluded problem p t ≡ Some bs) (sym same) c))
    (record { more = subst (λ p. brings_more p bs ≡ true) (sym same) more; apart = fresh-among problem path keys (key t.step bs) stand (subst (λ p. IsFresh problem p (key t.step bs)) (sym same) fresh) }, tt)
lean-more problem path new keys (s ∷ steps) t bs lean e stand c more fresh =
    by (concluded problem path s) refl (λ fs eq l h. lean-more problem (path ++ fs) new (key s.step fs ∷ keys) steps t bs l h (taken-key problem path s.step s.branch fs eq, keys-still problem path fs keys stand) c more fresh) lean e
  where
    by : (o : Option (List Fact)) → concluded problem path s ≡ o → ((fs : List Fact) → concluded problem path s ≡ Some fs → LeanFrom problem (path ++ fs) (key s.step fs ∷ keys) steps → path_from problem (path ++ fs) steps ≡ Some new → LeanFrom problem (path ++ fs) (key s.step fs ∷ keys) (steps ++ t ∷ [])) → IsLeanOn path keys s.step o (λ p ks. LeanFrom problem p ks steps) → (o >>= (λ facts. path_from problem (path ++ facts) steps)) ≡ Some new → IsLeanOn path keys s.step o (λ p ks. LeanFrom problem p ks (steps ++ t ∷ []))
    by None eq rest l h = absurd l
    by (Some fs) eq rest l h = (l.0, rest fs eq l.1 h)

-- ---- so both longer lists of steps are lean
pub splits_are_lean : SplitsAreLean
splits_are_lean problem steps path (Plain step) first second lean leads is more_first more_second =
    let keys = new-keys problem path first second step is more_first more_second in (
      lean-more problem (root_facts problem.roots) path [] steps (taken (Plain step) 1) first lean leads tt (ap (λ o. o >>= (λ bs. item_at bs 1)) is) more_first keys.0,
      lean-more problem (root_facts problem.roots) path [] steps (taken (Plain step) 2) second lean leads tt (ap (λ o. o >>= (λ bs. item_at bs 2)) is) more_second keys.1,
    )
