-- Tests of equality of facts and of their names, and that each decides equality.
use Rattle.std.specs.Prelude.{◌≡◌, ℕ, Bool, false, ◌&&◌, nat_eq, List}
use Rattle.std.specs.Bool.{Decides}
use Rattle.std.specs.Cmp.{unsigned_Decides}
use Rattle.std.specs.Cmp.Lexicographic.{pointwise, pointwise_decides}
use Rattle.std.proofs.Common.{ap}
use Rattle.std.proofs.lemmas.Bool.{false≢true}
use Rattle.sc_terms.specs.Same.{both-Decides, same_truth, same_truth-Decides, same_cube, same_cube-Decides, same_row, same_row-Decides}
use Rattle.sc_facts.specs.declared.fact.Fact.{Fact}
use Rattle.sc_facts.specs.declared.fact.Fact.TheVariants.{Sign, Member, Eq, EqSet, Row, Empty}
use Rattle.sc_facts.specs.declared.name.FactName.{FactName}
use Rattle.sc_facts.specs.declared.name.FactName.TheVariants as names

abbrev pub same_fact : Fact → Fact → Bool
same_fact (Sign f s) (Sign g t) = nat_eq f g && same_truth s t
same_fact (Member e s a) (Member f t b) = nat_eq e f && (nat_eq s t && same_truth a b)
same_fact (Eq e f a) (Eq g h b) = nat_eq e g && (nat_eq f h && same_truth a b)
same_fact (EqSet s t a) (EqSet u v b) = nat_eq s u && (nat_eq t v && same_truth a b)
same_fact (Row a) (Row b) = same_row a b
same_fact (Empty c a) (Empty d b) = same_cube c d && same_truth a b
same_fact _ _ = false

-- two numbers and a sign
abbrev Signed : Type 0
Signed = ℕ × ℕ × Bool

signed-Decides : (m n : ℕ) (s : Bool) (m' n' : ℕ) (s' : Bool) → Decides (nat_eq m m' && (nat_eq n n' && same_truth s s')) (◌≡◌ {A = Signed} (m, n, s) (m', n', s'))
signed-Decides m n s m' n' s' =
    let inner : Decides (nat_eq n n' && same_truth s s') (◌≡◌ {A = ℕ × Bool} (n, s) (n', s')) = both-Decides _ _ (unsigned_Decides n n') (same_truth-Decides s s') (λ p q. λ i. (p i, q i)) (λ e. ap (λ (t : ℕ × Bool). t.0) e) (λ e. ap (λ (t : ℕ × Bool). t.1) e) in
    both-Decides _ _ (unsigned_Decides m m') inner (λ p q. λ i. (p i, (q i).0, (q i).1)) (λ e. ap (λ (t : Signed). t.0) e) (λ e. λ i. ((e i).1, (e i).2))

-- a test that decides the arguments decides what is made of them
through : {X Y : Type 0} {b : Bool} {x y : X} (make : X → Y) → (make x ≡ make y → x ≡ y) → Decides b (x ≡ y) → Decides b (make x ≡ make y)
through make back d = (λ e. ap make (d.0 e), λ e. d.1 (back e))

pub same_fact-Decides : (a b : Fact) → Decides (same_fact a b) (a ≡ b)
same_fact-Decides (Sign f s) (Sign g t) =
    both-Decides _ _ (unsigned_Decides f g) (same_truth-Decides s t) (λ p q. λ i. Sign (p i) (q i)) (λ e. cc) (λ e. cc)
same_fact-Decides (Member e s a) (Member f t b) = through (λ (x : Signed). Member x.0 x.1 x.2) (λ e. cc) (signed-Decides e s a f t b)
same_fact-Decides (Eq e s a) (Eq f t b) = through (λ (x : Signed). Eq x.0 x.1 x.2) (λ e. cc) (signed-Decides e s a f t b)
same_fact-Decides (EqSet e s a) (EqSet f t b) = through (λ (x : Signed). EqSet x.0 x.1 x.2) (λ e. cc) (signed-Decides e s a f t b)
same_fact-Decides (Row a) (Row b) = through Row (λ e. cc) (same_row-Decides a b)
same_fact-Decides (Empty c a) (Empty d b) =
    both-Decides _ _ (same_cube-Decides c d) (same_truth-Decides a b) (λ p q. λ i. Empty (p i) (q i)) (λ e. cc) (λ e. cc)
same_fact-Decides _ _ = (λ e. absurd (false≢true e), λ e. cc)

abbrev pub same_facts : List Fact → List Fact → Bool
same_facts = pointwise same_fact

pub same_facts-Decides : (a b : List Fact) → Decides (same_facts a b) (a ≡ b)
same_facts-Decides = pointwise_decides same_fact-Decides

abbrev pub same_name : FactName → FactName → Bool
same_name (names.Sign f) (names.Sign g) = nat_eq f g
same_name (names.Member e s) (names.Member f t) = nat_eq e f && nat_eq s t
same_name (names.Eq e f) (names.Eq g h) = nat_eq e g && nat_eq f h
same_name (names.EqSet s t) (names.EqSet u v) = nat_eq s u && nat_eq t v
same_name (names.Empty c) (names.Empty d) = same_cube c d
same_name _ _ = false

pair-Decides : {Y : Type 0} (make : ℕ → ℕ → Y) (m n m' n' : ℕ) → (make m n ≡ make m' n' → m ≡ m') → (make m n ≡ make m' n' → n ≡ n') → Decides (nat_eq m m' && nat_eq n n') (make m n ≡ make m' n')
pair-Decides make m n m' n' first second =
    both-Decides _ _ (unsigned_Decides m m') (unsigned_Decides n n') (λ p q. λ i. make (p i) (q i)) first second

pub same_name-Decides : (a b : FactName) → Decides (same_name a b) (a ≡ b)
same_name-Decides (names.Sign f) (names.Sign g) = through names.Sign (λ e. cc) (unsigned_Decides f g)
same_name-Decides (names.Member e s) (names.Member f t) = pair-Decides names.Member e s f t (λ e. cc) (λ e. cc)
same_name-Decides (names.Eq e s) (names.Eq f t) = pair-Decides names.Eq e s f t (λ e. cc) (λ e. cc)
same_name-Decides (names.EqSet e s) (names.EqSet f t) = pair-Decides names.EqSet e s f t (λ e. cc) (λ e. cc)
same_name-Decides (names.Empty c) (names.Empty d) = through names.Empty (λ e. cc) (same_cube-Decides c d)
same_name-Decides _ _ = (λ e. absurd (false≢true e), λ e. cc)
