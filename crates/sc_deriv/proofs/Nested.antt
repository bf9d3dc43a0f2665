-- The branches that wait stay the same while the current one grows.
use Rattle.std.proofs.Common.{◌≡◌, ◌≢◌, ℕ, ◌≤◌, Bool, true, false, List, [], ◌∷◌, ◌++◌, take, length, Result, Ok, Err, OnOk, OnErr, refl, sym, ap, arith, length-append, length-take}
use Rattle.std.proofs.lemmas.List.{take-append-le}
use Rattle.sc_facts.specs.declared.fact.Fact.{Fact}
use Rattle.sc_facts.specs.Paths.{PathFacts, root_count, with_facts}
use Rattle.sc_deriv.specs.declared.walk.Turn.{Turn}
use Rattle.sc_deriv.specs.OpenPaths.{waiting, IsNested, open_paths, first_path, other_paths}

pub nested_below : (roots m n : ℕ) (turns : List Turn) → m ≤ n → IsNested roots m turns → IsNested roots n turns
nested_below roots m n [] le h = tt
nested_below roots m n (turn ∷ turns) le h = (h.0, omega (arith, h.1), h.2)

pub waiting-append : (roots : ℕ) (path more : List Fact) (turns : List Turn) → IsNested roots (length path) turns → waiting (path ++ more) turns ≡ waiting path turns
waiting-append roots path more [] h = refl
waiting-append roots path more (turn ∷ turns) h =
    ap (λ base. (base ++ turn.facts) ∷ waiting base turns) (take-append-le turn.count path more h.1)

-- after the current branch has grown
pub nested_after_extend : {T E : Type 0} (r : Result T E) (old new : PathFacts) (facts : List Fact) (turns : List Turn) → OnOk r (new ≡ with_facts old (old.facts ++ facts)) → OnErr r (new ≡ old) → IsNested (root_count old) (length old.facts) turns → IsNested (root_count new) (length new.facts) turns
nested_after_extend (Ok x) old new facts turns ok err h =
    rw ok (nested_below (root_count old) (length old.facts) (length (old.facts ++ facts)) turns (omega (arith, length-append old.facts facts)) h)
nested_after_extend (Err x) old new facts turns ok err h = rw err h

pub extended : {T E : Type 0} (r : Result T E) (going : Bool) (old new : PathFacts) (facts : List Fact) (turns : List Turn) (now : List (List Fact)) → open_paths going old.facts turns ≡ now → now ≢ [] → IsNested (root_count old) (length old.facts) turns → OnOk r (new ≡ with_facts old (old.facts ++ facts)) → OnOk r (open_paths going new.facts turns ≡ (first_path now ++ facts) ∷ other_paths now)
extended (Ok x) true old new facts turns now view some h ok =
    rw (ok, ← view) (ap (λ rest. (old.facts ++ facts) ∷ rest) (waiting-append (root_count old) old.facts facts turns h))
extended (Ok x) false old new facts turns now view some h ok = absurd (some (sym view))
extended (Err x) going old new facts turns now view some h ok = tt

-- after the branch that waited last is taken up
pub nested_after_turn : {T E : Type 0} (r : Result T E) (path cut new : PathFacts) (turn : Turn) (turns : List Turn) (facts : List Fact) → IsNested (root_count path) (length path.facts) (turn ∷ turns) → cut ≡ with_facts path (take turn.count path.facts) → OnOk r (new ≡ with_facts cut (cut.facts ++ facts)) → OnErr r (new ≡ cut) → IsNested (root_count new) (length new.facts) turns
nested_after_turn r path cut new turn turns facts h e ok err =
    nested_after_extend r cut new facts turns ok err (rw e (nested_below (root_count path) turn.count (length (take turn.count path.facts)) turns (omega (arith, h.1, length-take turn.count path.facts)) h.2))

pub turned : {T E : Type 0} (r : Result T E) (going : Bool) (path cut new : PathFacts) (turn : Turn) (turns : List Turn) (facts : List Fact) (now : List (List Fact)) → facts ≡ turn.facts → open_paths going path.facts (turn ∷ turns) ≡ now → now ≢ [] → IsNested (root_count path) (length path.facts) (turn ∷ turns) → cut ≡ with_facts path (take turn.count path.facts) → OnOk r (new ≡ with_facts cut (cut.facts ++ facts)) → OnOk r (open_paths going new.facts turns ≡ other_paths now)
turned (Ok x) true path cut new turn turns facts now own view some h e ok =
    let base = take turn.count path.facts in
    let deep : IsNested (root_count path) (length base) turns = nested_below (root_count path) turn.count (length base) turns (omega (arith, h.1, length-take turn.count path.facts)) h.2 in
    rw (ok, e, own, ← view) (ap (λ rest. (base ++ turn.facts) ∷ rest) (waiting-append (root_count path) base turn.facts turns deep))
turned (Ok x) false path cut new turn turns facts now own view some h e ok = absurd (some (sym view))
turned (Err x) going path cut new turn turns facts now own view some h e ok = tt
