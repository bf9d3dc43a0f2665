-- Forests that grow by one link after the other.
use Rattle.std.proofs.Common.{◌≡◌, ℕ, ◌+◌, ◌<◌, List, [], ◌∷◌, length, drop, get_or, refl, subst, arith}
use Rattle.std.specs.Prelude.{slice_index, fold}
use Rattle.std.specs.List.{AllByRecursion}
use Rattle.std.proofs.lemmas.List.{drop_more}
use Rattle.sc_flatten.specs.Classes.{joined, least_of}
use Rattle.sc_flatten.specs.Forests.{IsLow, IsForest, Joins}
use Rattle.sc_flatten.proofs.Leasts.{IsOwn, joined_own}

-- some classes have this forest, and the links that are left make them those of all links
pub record ForestStands (links rest : List (ℕ × ℕ)) (parents : List ℕ) : Type 0 where
  pub low : IsLow parents
  pub least : ℕ → ℕ
  pub own : IsOwn least
  pub forest : IsForest least parents
  pub ends : fold joined least rest ≡ least_of links

pub forest_begins : (links : List (ℕ × ℕ)) (parents : List ℕ) → ((n : ℕ) → n < length parents → slice_index parents n ≡ n) → ForestStands links links parents
forest_begins links parents h = record {
  low = λ n k. omega (arith, h n k);
  least = λ n. n;
  own = λ n. refl;
  forest = record { same = h; tops = λ n k e. refl };
  ends = refl;
}

pub forest_grows : (links rest : List (ℕ × ℕ)) (p : ℕ × ℕ) (old new : List ℕ) → IsLow new → Joins old new p.0 p.1 → ForestStands links (p ∷ rest) old → ForestStands links rest new
forest_grows links rest p old new low joins f = record {
  low = low;
  least = joined f.least p;
  own = joined_own f.least p f.own;
  forest = joins f.least f.own f.forest;
  ends = f.ends;
}

pub forest_ends : (links : List (ℕ × ℕ)) (parents : List ℕ) → ForestStands links [] parents → IsForest (least_of links) parents
forest_ends links parents f = subst (λ l. IsForest l parents) f.ends f.forest

pub forest_more : (links : List (ℕ × ℕ)) (i : ℕ) (d : ℕ × ℕ) (old new : List ℕ) → i < length links → IsLow new → Joins old new (get_or links i d).0 (get_or links i d).1 → ForestStands links (drop i links) old → ForestStands links (drop (i + 1) links) new
forest_more links i d old new within low joins f =
    forest_grows links (drop (i + 1) links) (get_or links i d) old new low joins (subst (λ rest. ForestStands links rest old) (drop_more links i d within) f)

pub range_more : {X : Type 0} (P : X → Type 0) (xs : List X) (i : ℕ) (d : X) → i < length xs → AllByRecursion P (drop i xs) → AllByRecursion P (drop (i + 1) xs)
range_more P xs i d within h = (subst (AllByRecursion P) (drop_more xs i d within) h).1
