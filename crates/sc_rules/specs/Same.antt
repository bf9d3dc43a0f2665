-- A test of equality of steps, and that it decides equality.
use Rattle.std.specs.Prelude.{◌≡◌, ℕ, Bool, false, ◌&&◌, nat_eq}
use Rattle.std.specs.Bool.{Decides}
use Rattle.std.specs.Cmp.{unsigned_Decides}
use Rattle.std.proofs.Common.{ap}
use Rattle.std.proofs.lemmas.Bool.{false≢true}
use Rattle.sc_terms.specs.Same.{both-Decides}
use Rattle.sc_facts.specs.Same.{same_name, same_name-Decides}
use Rattle.sc_rules.specs.declared.step.PlainStep.{PlainStep}
use Rattle.sc_rules.specs.declared.step.PlainStep.TheVariants.{Atom, All, Unit, Cut, Op, Single, Unsingle, Carry, Apart, Move, SetApart, EqRefl, EqStep, SeqRefl, SeqStep, Differ}

abbrev pub same_plain : PlainStep → PlainStep → Bool
same_plain (Atom m) (Atom n) = nat_eq m n
same_plain (All m p) (All n q) = nat_eq m n && nat_eq p q
same_plain (Unit m p) (Unit n q) = nat_eq m n && nat_eq p q
same_plain (Cut a) (Cut b) = same_name a b
same_plain (Op k m p) (Op l n q) = nat_eq k l && (nat_eq m n && nat_eq p q)
same_plain (Single m p) (Single n q) = nat_eq m n && nat_eq p q
same_plain (Unsingle m p) (Unsingle n q) = nat_eq m n && nat_eq p q
same_plain (Carry k m p) (Carry l n q) = nat_eq k l && (nat_eq m n && nat_eq p q)
same_plain (Apart k m p) (Apart l n q) = nat_eq k l && (nat_eq m n && nat_eq p q)
same_plain (Move k m p) (Move l n q) = nat_eq k l && (nat_eq m n && nat_eq p q)
same_plain (SetApart k m p) (SetApart l n q) = nat_eq k l && (nat_eq m n && nat_eq p q)
same_plain (EqRefl m) (EqRefl n) = nat_eq m n
same_plain (EqStep k m p) (EqStep l n q) = nat_eq k l && (nat_eq m n && nat_eq p q)
same_plain (SeqRefl m) (SeqRefl n) = nat_eq m n
same_plain (SeqStep k m p) (SeqStep l n q) = nat_eq k l && (nat_eq m n && nat_eq p q)
same_plain (Differ m p) (Differ n q) = nat_eq m n && nat_eq p q
same_plain _ _ = false

-- a test that decides the part decides what is made of it
through : {X Y : Type 0} {b : Bool} {x y : X} (make : X → Y) → (make x ≡ make y → x ≡ y) → Decides b (x ≡ y) → Decides b (make x ≡ make y)
through make back d = (λ e. ap make (d.0 e), λ e. d.1 (back e))

pair-Decides : {Y : Type 0} (make : ℕ → ℕ → Y) (m n m' n' : ℕ) → (make m n ≡ make m' n' → m ≡ m') → (make m n ≡ make m' n' → n ≡ n') → Decides (nat_eq m m' && nat_eq n n') (make m n ≡ make m' n')
pair-Decides make m n m' n' first second =
    both-Decides _ _ (unsigned_Decides m m') (unsigned_Decides n n') (λ p q. λ i. make (p i) (q i)) first second

-- three numbers
abbrev Three : Type 0
Three = ℕ × ℕ × ℕ

three-Decides : (k m p l n q : ℕ) → Decides (nat_eq k l && (nat_eq m n && nat_eq p q)) (◌≡◌ {A = Three} (k, m, p) (l, n, q))
three-Decides k m p l n q =
    let inner : Decides (nat_eq m n && nat_eq p q) (◌≡◌ {A = ℕ × ℕ} (m, p) (n, q)) = both-Decides _ _ (unsigned_Decides m n) (unsigned_Decides p q) (λ e f. λ i. (e i, f i)) (λ e. ap (λ (t : ℕ × ℕ). t.0) e) (λ e. ap (λ (t : ℕ × ℕ). t.1) e) in
    both-Decides _ _ (unsigned_Decides k l) inner (λ e f. λ i. (e i, (f i).0, (f i).1)) (λ e. ap (λ (t : Three). t.0) e) (λ e. λ i. ((e i).1, (e i).2))

pub same_plain-Decides : (a b : PlainStep) → Decides (same_plain a b) (a ≡ b)
same_plain-Decides (Atom m) (Atom n) = through Atom (λ e. cc) (unsigned_Decides m n)
same_plain-Decides (All m p) (All n q) = pair-Decides All m p n q (λ e. cc) (λ e. cc)
same_plain-Decides (Unit m p) (Unit n q) = pair-Decides Unit m p n q (λ e. cc) (λ e. cc)
same_plain-Decides (Cut a) (Cut b) = through Cut (λ e. cc) (same_name-Decides a b)
same_plain-Decides (Op k m p) (Op l n q) = through (λ (x : Three). Op x.0 x.1 x.2) (λ e. cc) (three-Decides k m p l n q)
same_plain-Decides (Single m p) (Single n q) = pair-Decides Single m p n q (λ e. cc) (λ e. cc)
same_plain-Decides (Unsingle m p) (Unsingle n q) = pair-Decides Unsingle m p n q (λ e. cc) (λ e. cc)
same_plain-Decides (Carry k m p) (Carry l n q) = through (λ (x : Three). Carry x.0 x.1 x.2) (λ e. cc) (three-Decides k m p l n q)
same_plain-Decides (Apart k m p) (Apart l n q) = through (λ (x : Three). Apart x.0 x.1 x.2) (λ e. cc) (three-Decides k m p l n q)
same_plain-Decides (Move k m p) (Move l n q) = through (λ (x : Three). Move x.0 x.1 x.2) (λ e. cc) (three-Decides k m p l n q)
same_plain-Decides (SetApart k m p) (SetApart l n q) = through (λ (x : Three). SetApart x.0 x.1 x.2) (λ e. cc) (three-Decides k m p l n q)
same_plain-Decides (EqRefl m) (EqRefl n) = through EqRefl (λ e. cc) (unsigned_Decides m n)
same_plain-Decides (EqStep k m p) (EqStep l n q) = through (λ (x : Three). EqStep x.0 x.1 x.2) (λ e. cc) (three-Decides k m p l n q)
same_plain-Decides (SeqRefl m) (SeqRefl n) = through SeqRefl (λ e. cc) (unsigned_Decides m n)
same_plain-Decides (SeqStep k m p) (SeqStep l n q) = through (λ (x : Three). SeqStep x.0 x.1 x.2) (λ e. cc) (three-Decides k m p l n q)
same_plain-Decides (Differ m p) (Differ n q) = pair-Decides Differ m p n q (λ e. cc) (λ e. cc)
same_plain-Decides _ _ = (λ e. absurd (false≢true e), λ e. cc)
