-- The values that are read off a path.
use Rattle.std.specs.Prelude.{◌≡◌, ◌≤◌, ℕ, Bool, true, ◌&&◌, ◌||◌, if◌then◌else◌, ℤ, pos, List, [], ◌∷◌, ◌++◌, length, map, Some, None, Option}
use Rattle.std.specs.FinMap as finmap
use Rattle.sc_base.specs.declared.span.Span.{Span}
use Rattle.sc_base.specs.Numbered.{item_at}
use Rattle.sc_base.specs.Integers.{has_element}
use Rattle.sc_base.specs.Spans.{members}
use Rattle.sc_terms.specs.declared.interp.Value.{Value}
use Rattle.sc_terms.specs.declared.interp.Value.TheVariants.{Flag, Number, Set}
use Rattle.sc_terms.specs.declared.problem.Parts.{Parts}
use Rattle.sc_terms.specs.Meaning.{IsInterpretation}
use Rattle.sc_terms.specs.Values.{ValueMap, Holds, Shows, interpretation_of, meaning}
use Rattle.sc_terms.specs.Lookup.{is_listed, list_or_none}
use Rattle.sc_terms.specs.Conditions.{IsIn, IsProblem}
use Rattle.sc_facts.specs.declared.fact.Fact.{Fact}
use Rattle.sc_facts.specs.declared.fact.Fact.TheVariants as facts
use Rattle.sc_facts.specs.Same.{same_fact}
use Rattle.sc_facts.specs.Facts.{has}
use Rattle.sc_sorts.specs.Sorts.{may_hold}
use Rattle.sc_sorts.specs.Posed.{NamesFlag, NamesSet, NamesElement, IsOfScript, IsIntless, NodesFit}
use Rattle.sc_rules.specs.Boolean.{sign}
use Rattle.sc_rules.specs.Members.{within}
use Rattle.sc_model.specs.Settled.{IsSettledBy}

-- whether the path puts element e into set s, of whose members' sort it is
abbrev pub is_put : Parts → List Fact → ℕ → ℕ → Bool
is_put problem path e s = may_hold problem s e && within path e s true

-- x is the label of an element that the path puts into set s
abbrev pub IsLabelIn : Parts → List Fact → (ℕ → ℕ) → ℕ → ℤ → Type 0
IsLabelIn problem path label s x = (e : ℕ) × (is_put problem path e s ≡ true) × (x ≡ pos (label e))

-- the integers are the labels of the elements that the path puts into set s
pub record AreLabelsIn (problem : Parts) (path : List Fact) (label : ℕ → ℕ) (s : ℕ) (xs : List ℤ) : Type 0 where
  pub each : (x : ℤ) → has_element xs x ≡ true → IsLabelIn problem path label s x
  pub all : (e : ℕ) → is_put problem path e s ≡ true → has_element xs (pos (label e)) ≡ true

-- the value of a constant: a truth value is true where the path says so, an element is its label, and a set has the labels of the elements that the path puts into it
abbrev pub IsReadOff : Parts → List Fact → (ℕ → ℕ) → ℕ → Value → Type 0
IsReadOff problem path label c (Flag b) = (n : ℕ) × NamesFlag problem n c × (b ≡ sign path n true)
IsReadOff problem path label c (Number z) = (n : ℕ) × NamesElement problem n c × (z ≡ pos (label n))
IsReadOff problem path label c (Set spans) = (n : ℕ) × NamesSet problem n c × AreLabelsIn problem path label n (members spans)

abbrev pub AreReadOff : Parts → List Fact → (ℕ → ℕ) → ValueMap → Type 0
AreReadOff problem path label m = (c : ℕ) (value : Value) → finmap.get m c ≡ Some value → IsReadOff problem path label c value

abbrev pub HasValue : ValueMap → ℕ → Type 0
HasValue m c = finmap.contains_key m c ≡ true

-- Each constant of the problem, and nothing else, has a value, which is read off the path.
pub record IsModelOf (problem : Parts) (path : List Fact) (label : ℕ → ℕ) (m : ValueMap) : Type 0 where
  pub read_off : AreReadOff problem path label m
  pub flags : (n c : ℕ) → NamesFlag problem n c → HasValue m c
  pub sets : (n c : ℕ) → NamesSet problem n c → HasValue m c
  pub elements : (n c : ℕ) → NamesElement problem n c → HasValue m c

abbrev pub number_or_none : Option ℕ → ℕ
number_or_none None = 0
number_or_none (Some n) = n

-- the label of the element with a number, where the labels stand in the order of the elements
abbrev pub label_in : List ℕ → ℕ → ℕ
label_in labels e = number_or_none (item_at labels e)

-- the labels of those of the elements that could be members of set n
abbrev pub labels_of : Parts → (ℕ → ℕ) → ℕ → List ℕ → List ℕ
labels_of problem label n [] = []
labels_of problem label n (e ∷ es) = (if may_hold problem n e then label e ∷ [] else []) ++ labels_of problem label n es

-- what the n-th of the lists holds
abbrev pub members_in : List (List ℕ) → ℕ → List ℕ
members_in lists n = list_or_none (item_at lists n)

-- so many lists, the n-th of which holds the elements that the facts put into set n
pub record Gathers (count : ℕ) (path : List Fact) (lists : List (List ℕ)) : Type 0 where
  pub counted : length lists ≡ count
  pub listed : (n e : ℕ) → IsIn count n → is_listed e (members_in lists n) ≡ has path (facts.Member e n true)

-- the lists have what one more fact puts into a set
pub record Gathered (fact : Fact) (old new : List (List ℕ)) : Type 0 where
  pub counted : length new ≡ length old
  pub listed : (n e : ℕ) → IsIn (length old) n → is_listed e (members_in new n) ≡ (is_listed e (members_in old n) || same_fact (facts.Member e n true) fact)

-- the integers are these numbers
abbrev pub HasNumbers : List ℕ → List ℤ → Type 0
HasNumbers numbers xs = (x : ℤ) → has_element xs x ≡ has_element (map pos numbers) x

-- the value is the set of these integers
abbrev pub IsSetOf : List ℤ → Value → Type 0
IsSetOf xs value = (spans : List Span) × (value ≡ Set spans) × (members spans ≡ xs)

-- values were added that are read off the path
pub record Fills (problem : Parts) (path : List Fact) (label : ℕ → ℕ) (old new : ValueMap) : Type 0 where
  pub read_off : AreReadOff problem path label old → AreReadOff problem path label new
  pub kept : (c : ℕ) → HasValue old c → HasValue new c

-- The values that are read off a settled path make the problem true.
abbrev pub SettledPathsHaveModels : Type 0
SettledPathsHaveModels =
    (problem : Parts) → IsProblem problem → IsOfScript problem → IsIntless problem → (path : List Fact) (label : ℕ → ℕ) → IsSettledBy problem path label →
    (m : ValueMap) → IsModelOf problem path label m → IsInterpretation (interpretation_of m) → Shows problem m

-- Values that are read off any path, make the roots true, and give the nodes numbers that fit 128 bits, make the problem true: they name its constants alone.
abbrev pub ReadOffValuesShow : Type 0
ReadOffValuesShow =
    (problem : Parts) (path : List Fact) (label : ℕ → ℕ) (m : ValueMap) → IsModelOf problem path label m →
    IsInterpretation (interpretation_of m) → Holds problem (interpretation_of m) → NodesFit problem (meaning problem (interpretation_of m)) → Shows problem m
