-- What the leaves' marks tell.
use Rattle.std.proofs.Common.{◌≡◌, ℕ, zero, suc, ◌+◌, Bool, true, false, not, ◌||◌, List, [], ◌∷◌, map, Some, None, refl, sym, ap, ◌∙◌, subst, arith, append-nil}
use Rattle.std.specs.Prelude.{is_some, slice_get}
use Rattle.std.specs.List.{list_any}
use Rattle.std.proofs.lemmas.Bool.{false≢true}
use Rattle.std.proofs.lemmas.Option.{same_Some}
use Rattle.sc_base.specs.Numbered.{item_at}
use Rattle.sc_terms.specs.declared.problem.Parts.{Parts}
use Rattle.sc_terms.specs.Conditions.{IsProblem}
use Rattle.sc_facts.specs.Facts.{root_facts}
use Rattle.sc_deriv.specs.declared.derivation.Node.{Node}
use Rattle.sc_deriv.specs.declared.derivation.Lemma.{Lemma}
use Rattle.sc_deriv.specs.Acceptance.{Closed, hypotheses_of}
use Rattle.sc_deriv.specs.Laws.{LemmasFollow}
use Rattle.sc_tree.specs.declared.machine.Cause.{Cause}
use Rattle.sc_tree.specs.declared.machine.Mark.{Mark}
use Rattle.sc_tree.specs.declared.machine.Mark.TheVariants as marks
use Rattle.sc_tree.specs.declared.machine.Place.{Place}
use Rattle.sc_tree.specs.declared.machine.Entry.{Entry}
use Rattle.sc_tree.specs.Machine.{Cell, State, Kept, state, state_of, is_live, has_answer, HasMark, IsLegal}
use Rattle.sc_tree.specs.Keeping.{place_of, is_spent}
use Rattle.sc_tree.specs.Trying.{IsRight, AreTried}
use Rattle.sc_tree.specs.Reading.{is_ended, IsAhead, IsReadable, AreClosed, tree_nodes}
use Rattle.sc_tree.specs.Verdicts.{NoneLive, SomeSpent, Refutes, IsUnknown}
use Rattle.sc_tree.proofs.Cells.{item-within}
use Rattle.sc_tree.proofs.Lists.{mark-live}
use Rattle.sc_tree.proofs.Kept.{length-map}
use Rattle.sc_tree.proofs.Sound.{root_is}
use Rattle.sc_tree.proofs.Tried.{leaves_are_tried}
use Rattle.sc_tree.proofs.ClosedTrees.{tree_closed}
use Rattle.sc_tree.proofs.Spelt.{closed_is_tree, closed_is_named}

pub spent-mark : (mark : Mark) → is_spent mark ≡ true → (cause : Cause) × (mark ≡ marks.Spent cause)
spent-mark marks.Open e = absurd (false≢true e)
spent-mark (marks.Held seat) e = absurd (false≢true e)
spent-mark (marks.Closed closing) e = absurd (false≢true e)
spent-mark (marks.Spent cause) e = (cause, refl)
spent-mark (marks.Parted step left) e = absurd (false≢true e)

later : (x : Cell) (cells : List Cell) → SomeSpent cells → SomeSpent (x ∷ cells)
later x cells h = by_number h.0 h.2 where
  by_number : (n : ℕ) → HasMark cells n (marks.Spent h.1) → SomeSpent (x ∷ cells)
  by_number zero k = absurd (let e : None ≡ Some k.0 = k.1 in cc)
  by_number (suc n) k = (suc (suc n), h.1, k)

spent-by : (x : Cell) (cells : List Cell) (b : Bool) → is_spent x.mark ≡ b → (list_any (λ (p : Place). is_spent p.mark) (map place_of cells) ≡ true → SomeSpent cells) → (b || list_any (λ (p : Place). is_spent p.mark) (map place_of cells)) ≡ true → SomeSpent (x ∷ cells)
spent-by x cells true t rest e = let m = spent-mark x.mark t in (1, m.0, (x, refl, m.1))
spent-by x cells false t rest e = later x cells (rest e)

pub spent-some : (cells : List Cell) → list_any (λ (p : Place). is_spent p.mark) (map place_of cells) ≡ true → SomeSpent cells
spent-some [] e = absurd (false≢true e)
spent-some (x ∷ cells) e = spent-by x cells (is_spent x.mark) refl (λ k. spent-some cells k) e

or-true : (b : Bool) → (b || true) ≡ true
or-true true = refl
or-true false = refl

some-get : (cells : List Cell) (n : ℕ) (c : Cell) → slice_get cells n ≡ Some c → is_spent c.mark ≡ true → list_any (λ (p : Place). is_spent p.mark) (map place_of cells) ≡ true
some-get [] n c e spent = absurd cc
some-get (x ∷ xs) zero c e spent = ap (λ (t : Bool). t || list_any (λ (p : Place). is_spent p.mark) (map place_of xs)) (ap (λ (y : Cell). is_spent y.mark) (same_Some x c e) ∙ spent)
some-get (x ∷ xs) (suc n) c e spent = ap (λ (t : Bool). is_spent x.mark || t) (some-get xs n c e spent) ∙ or-true (is_spent x.mark)

some-at : (cells : List Cell) (n : ℕ) (c : Cell) → item_at cells n ≡ Some c → is_spent c.mark ≡ true → list_any (λ (p : Place). is_spent p.mark) (map place_of cells) ≡ true
some-at cells zero c e spent = absurd cc
some-at cells (suc n) c e spent = some-get cells n c e spent

pub some-spent : (cells : List Cell) → SomeSpent cells → list_any (λ (p : Place). is_spent p.mark) (map place_of cells) ≡ true
some-spent cells h = some-at cells h.0 h.2.0 h.2.1 (ap is_spent h.2.2)

-- where there is an answer and no model no leaf is live
pub none_live : (s : State) → has_answer s ≡ true → s.model ≡ None → NoneLive s.cells
none_live s over none n c e = by_test (is_live c.mark) refl where
  shut : (b : Bool) → (false || not b) ≡ true → b ≡ false
  shut true k = absurd (false≢true k)
  shut false k = refl

  dead : list_any (λ (x : Cell). is_live x.mark) s.cells ≡ false
  dead = shut _ (sym (ap (λ o. is_some o || not (list_any (λ (x : Cell). is_live x.mark) s.cells)) none) ∙ over)

  by_test : (b : Bool) → is_live c.mark ≡ b → b ≡ false
  by_test false t = refl
  by_test true t = absurd (false≢true (sym dead ∙ mark-live s.cells n c.mark (c, e, refl) t))

ended-by : (mark : Mark) → is_live mark ≡ false → ((cause : Cause) → mark ≡ marks.Spent cause → ⊥) → is_ended mark ≡ true
ended-by marks.Open dead unspent = absurd (false≢true (sym dead))
ended-by (marks.Held seat) dead unspent = absurd (false≢true (sym dead))
ended-by (marks.Closed closing) dead unspent = refl
ended-by (marks.Spent cause) dead unspent = absurd (unspent cause refl)
ended-by (marks.Parted step left) dead unspent = refl

-- and where none was given up each is closed
pub all_closed : (s : State) → has_answer s ≡ true → s.model ≡ None → (SomeSpent s.cells → ⊥) → AreClosed s.cells
all_closed s over none unspent n c e = ended-by c.mark (none_live s over none n c e) (λ cause m. unspent (n, cause, (c, e, m)))

get-back : (cells : List Cell) (n : ℕ) (p : Place) → slice_get (map place_of cells) n ≡ Some p → (c : Cell) × (slice_get cells n ≡ Some c) × (p ≡ place_of c)
get-back [] n p e = absurd cc
get-back (x ∷ xs) zero p e = (x, refl, sym (same_Some (place_of x) p e))
get-back (x ∷ xs) (suc n) p e = get-back xs n p e

pub place-back : (cells : List Cell) (n : ℕ) (p : Place) → item_at (map place_of cells) n ≡ Some p → (c : Cell) × (item_at cells n ≡ Some c) × (p ≡ place_of c)
place-back cells zero p e = absurd cc
place-back cells (suc n) p e = get-back cells n p e

ahead-by : (problem : Parts) (budget : ℕ) (cells : List Cell) (n : ℕ) (c : Cell) (mark : Mark) → IsRight problem budget cells n c.path c.steps mark → IsAhead (map place_of cells) n mark
ahead-by problem budget cells n c marks.Open h = tt
ahead-by problem budget cells n c (marks.Held seat) h = tt
ahead-by problem budget cells n c (marks.Closed closing) h = tt
ahead-by problem budget cells n c (marks.Spent cause) h = tt
ahead-by problem budget cells n c (marks.Parted step left) h =
    let within = item-within cells (left + 1) h.4.0 h.4.1 in
    let long = length-map place_of cells in
    (h.2, omega (arith, within, long))

-- so its places can be read
pub readable : (problem : Parts) (budget : ℕ) (journal : List Entry) → IsLegal problem budget journal → AreClosed (state_of problem journal).cells → IsReadable (map place_of (state_of problem journal).cells)
readable problem budget journal legal closed =
    let cells = (state_of problem journal).cells in
    record {
      ended = λ n p e. (let c = place-back cells n p e in ap (λ (q : Place). is_ended q.mark) c.2 ∙ closed n c.0 c.1);
      ahead = λ n p e. (let c = place-back cells n p e in subst (λ (q : Place). IsAhead (map place_of cells) n q.mark) (sym c.2) (ahead-by problem budget cells n c.0 c.0.mark (leaves_are_tried problem budget journal legal n c.0 c.1).right));
    }

map-some : (cells : List Cell) (c : Cell) → item_at cells 1 ≡ Some c → is_some (item_at (map place_of cells) 1) ≡ true
map-some [] c e = absurd cc
map-some (x ∷ xs) c e = refl

pub root_there : (problem : Parts) (budget : ℕ) (journal : List Entry) → IsLegal problem budget journal → is_some (item_at (map place_of (state_of problem journal).cells) 1) ≡ true
root_there problem budget journal legal =
    let root = root_is problem budget journal legal in
    map-some (state_of problem journal).cells root.0 root.1

-- what is unknown
pub unknown : (t : Kept) (problem : Parts) → t.problem ≡ problem → IsLegal t.problem t.budget t.journal → has_answer (state t) ≡ true → (state t).model ≡ None → SomeSpent (state t).cells → IsUnknown problem t.budget t
unknown t problem about legal over none spent =
    record {
      about = about;
      limit = refl;
      legal = subst (λ p. IsLegal p t.budget t.journal) about legal;
      ended = none_live (state t) over none;
      spent = spent;
      tried = subst (λ p. AreTried p t.budget (state t).cells) about (leaves_are_tried t.problem t.budget t.journal legal);
    }

-- the derivation that a tree is whose leaves are all closed
pub refutes : (t : Kept) (problem : Parts) (lemmas : List Lemma) (ns : List Node) → t.problem ≡ problem → IsLegal t.problem t.budget t.journal → AreClosed (state t).cells → IsProblem problem → LemmasFollow → ns ≡ tree_nodes t → lemmas ≡ [] → Refutes problem (record { lemmas = lemmas; nodes = ns })
unfolding hypotheses_of
refutes t problem lemmas ns about legal closed proper follow nodes_are none_are =
    let tree : Closed problem [] (root_facts problem.roots) (tree_nodes t) = subst (λ p. Closed p [] (root_facts p.roots) (tree_nodes t)) about (tree_closed t.problem t.budget t.journal legal closed) in
    let own : Closed problem [] (root_facts problem.roots) ns = subst (λ l. Closed problem [] (root_facts problem.roots) l) (sym nodes_are) tree in
    record {
      spelt = record { no_lemmas = none_are; tree = closed_is_tree problem [] ns own; names = closed_is_named problem [] ns own };
      closed = subst (λ l. Closed problem (hypotheses_of l) (root_facts problem.roots) ns) (sym none_are) own;
      none = λ i is holds. follow problem proper [] tt [] ns (subst (λ p. Closed problem [] p ns) (sym (append-nil (root_facts problem.roots))) own) i is holds tt;
    }
