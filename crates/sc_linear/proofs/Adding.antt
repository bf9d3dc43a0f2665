-- Adding the terms of a form one after another, and the first operation that passes 128 bits.
use Rattle.std.proofs.Common.{◌≡◌, ℕ, zero, suc, ◌+◌, ◌<◌, ◌≤◌, Bool, true, false, ℤ, pos, ◌+ℤ◌, ◌*ℤ◌, List, [], ◌∷◌, ◌++◌, drop, get_or, length, refl, sym, ap, subst, ◌∙◌, Ok, Err, arith}
use Rattle.std.specs.Prelude.{if◌then◌else◌, IfOk, IsErrAnd}
use Rattle.std.specs.declared.result.Result.{Result}
use Rattle.std.proofs.lemmas.List.{drop_more, drop_all}
use Rattle.std.proofs.lemmas.Int.{ints}
use Rattle.sc_terms.specs.declared.atoms.Atom.{Atom}
use Rattle.sc_terms.specs.declared.form.Row.{Row}
use Rattle.sc_terms.specs.Forms.{IsForm}
use Rattle.sc_terms.specs.Same.{same_atom, same_atom-Decides}
use Rattle.sc_linear.specs.declared.exact.LinearError.{LinearError}
use Rattle.sc_linear.specs.declared.exact.LinearError.TheVariants.{Wide, Memory}
use Rattle.sc_linear.specs.Exact.{fits, Operation, exact_value, unless_wide, IsExact}
use Rattle.sc_linear.specs.Rows.{coefficient, plus_term, form_sum, scaled_addition, form_operations, sum_operations, sum_row, added}
use Rattle.sc_linear.specs.Sums.{with_coefficient}
use Rattle.sc_linear.specs.Laws.{IsSum}
use Rattle.sc_linear.proofs.Forms.{Form, Above, less_greater, greater_differs, coefficient_absent, coefficient_changed, coefficient_plus, plus_is_change, form_plus, form_changed}

-- ---- answers
pub ok_is : {A : Type 0} (x y : A) → (let r : Result A LinearError = Ok x in r) ≡ Ok y → x ≡ y
ok_is x y h = cc

pub err_ok : {A X : Type 0} (e : LinearError) (y : A) → (let r : Result A LinearError = Err e in r) ≡ Ok y → X
err_ok e y h = cc

pub err_is : {A : Type 0} (e f : LinearError) → (let r : Result A LinearError = Err e in r) ≡ Err f → e ≡ f
err_is e f h = cc

ok_err : {A X : Type 0} (x : A) (e : LinearError) → (let r : Result A LinearError = Ok x in r) ≡ Err e → X
ok_err x e h = cc

-- operations that all stay within 128 bits are passed over
passed_case : {A B : Type 0} (b : Bool) (e : LinearError) (r : Result A LinearError) (s : A) (q w : Result B LinearError) → (r ≡ Ok s → q ≡ w) → (if b then r else Err e) ≡ Ok s → (if b then q else Err e) ≡ w
passed_case true e r s q w f h = f h
passed_case false e r s q w f h = err_ok e s h

pub passed : {A B : Type 0} (ps os : List Operation) (v s : A) (x : B) → unless_wide ps v ≡ Ok s → unless_wide (ps ++ os) x ≡ unless_wide os x
passed [] os v s x h = refl
passed (p ∷ ps) os v s x h = passed_case (fits (exact_value p)) (Wide p.op p.a p.b) (unless_wide ps v) s (unless_wide (ps ++ os) x) (unless_wide os x) (passed ps os v s x) h

value_case : {A : Type 0} (b : Bool) (e : LinearError) (r : Result A LinearError) (v s : A) → (r ≡ Ok s → v ≡ s) → (if b then r else Err e) ≡ Ok s → v ≡ s
value_case true e r v s f h = f h
value_case false e r v s f h = err_ok e s h

pub value_is : {A : Type 0} (ps : List Operation) (v s : A) → unless_wide ps v ≡ Ok s → v ≡ s
value_is [] v s h = ok_is v s h
value_is (p ∷ ps) v s h = value_case (fits (exact_value p)) (Wide p.op p.a p.b) (unless_wide ps v) v s (value_is ps v s) h

-- the first that does not stay within 128 bits is the answer
stopped_case : {A B : Type 0} (b : Bool) (f e : LinearError) (r : Result A LinearError) (q : Result B LinearError) → (r ≡ Err e → q ≡ Err e) → (if b then r else Err f) ≡ Err e → (if b then q else Err f) ≡ Err e
stopped_case true f e r q g h = g h
stopped_case false f e r q g h = ap Err (err_is f e h)

pub stopped : {A B : Type 0} (ps os : List Operation) (v : A) (x : B) (e : LinearError) → unless_wide ps v ≡ Err e → unless_wide (ps ++ os) x ≡ Err e
stopped [] os v x e h = ok_err v e h
stopped (p ∷ ps) os v x e h = stopped_case (fits (exact_value p)) (Wide p.op p.a p.b) e (unless_wide ps v) (unless_wide (ps ++ os) x) (stopped ps os v x e) h

no_more : (ps : List Operation) → ps ++ [] ≡ ps
no_more [] = refl
no_more (p ∷ ps) = ap (λ qs. p ∷ qs) (no_more ps)

pub all_passed : {A B : Type 0} (ps : List Operation) (v s : A) (x : B) → unless_wide ps v ≡ Ok s → unless_wide ps x ≡ Ok x
all_passed ps v s x h = ap (λ qs. unless_wide qs x) (sym (no_more ps)) ∙ passed ps [] v s x h

pub same_stop : {A B : Type 0} (ps : List Operation) (v : A) (x : B) (e : LinearError) → unless_wide ps v ≡ Err e → unless_wide ps x ≡ Err e
same_stop ps v x e h = ap (λ qs. unless_wide qs x) (sym (no_more ps)) ∙ stopped ps [] v x e h

-- ---- one term more is added
pub form_drop : (form : Form) (i : ℕ) → IsForm form → IsForm (drop i form)
form_drop form zero h = h
form_drop [] (suc i) h = h
form_drop (p ∷ ps) (suc i) h = form_drop ps i h.2

-- a change at an atom that stands before all of a form's changes no operation on these
operations_stay : (m c : ℤ) (a : Atom) (xs us : Form) → IsForm xs → Above a us → form_operations m (with_coefficient c a xs) us ≡ form_operations m xs us
operations_stay m c a xs [] h k = refl
operations_stay m c a xs (u ∷ us) h k =
    let differ : same_atom u.1 a ≡ false = greater_differs u.1 a (less_greater a u.1 k.0) in
    let same : coefficient u.1 (with_coefficient c a xs) ≡ coefficient u.1 xs = coefficient_changed u.1 a c xs h ∙ ap (λ b. if b then c else coefficient u.1 xs) differ in
    let rest : form_operations m (with_coefficient c a xs) us ≡ form_operations m xs us = operations_stay m c a xs us h k.1 in
    λ i. scaled_addition (same i) u.0 m ++ rest i

-- what is left to add, and the sum so far, say the same after one term more
pub one_more : (m s : ℤ) (xs next ys : Form) (i : ℕ) (t : ℤ × Atom) (all : Result Form LinearError) → i < length ys → t ≡ get_or ys i t → IsForm ys → IsForm xs
    → unless_wide (scaled_addition (coefficient t.1 xs) t.0 m) (coefficient t.1 xs +ℤ (m *ℤ t.0)) ≡ Ok s → next ≡ with_coefficient s t.1 xs
    → unless_wide (form_operations m xs (drop i ys)) (form_sum m xs (drop i ys)) ≡ all → unless_wide (form_operations m next (drop (i + 1) ys)) (form_sum m next (drop (i + 1) ys)) ≡ all
one_more m s xs next ys i t all l at f g h e w =
    let us : Form = drop (i + 1) ys in
    let d : drop i ys ≡ t ∷ us = drop_more ys i t l ∙ ap (λ x. x ∷ us) (sym at) in
    let whole : IsForm (t ∷ us) = subst IsForm d (form_drop ys i f) in
    let v : coefficient t.1 xs +ℤ (m *ℤ t.0) ≡ s = value_is (scaled_addition (coefficient t.1 xs) t.0 m) (coefficient t.1 xs +ℤ (m *ℤ t.0)) s h in
    let made : plus_term (m *ℤ t.0) t.1 xs ≡ next = plus_is_change (m *ℤ t.0) t.1 xs g ∙ (ap (λ z. with_coefficient z t.1 xs) v ∙ sym e) in
    let operations : form_operations m next us ≡ form_operations m xs us = ap (λ zs. form_operations m zs us) e ∙ operations_stay m s t.1 xs us g whole.1 in
    let before : unless_wide (form_operations m xs (drop i ys)) (form_sum m xs (drop i ys)) ≡ unless_wide (form_operations m xs us) (form_sum m next us) =
    ap (λ zs. unless_wide (form_operations m xs zs) (form_sum m xs zs)) d
    ∙ (passed (scaled_addition (coefficient t.1 xs) t.0 m) (form_operations m xs us) (coefficient t.1 xs +ℤ (m *ℤ t.0)) s (form_sum m (plus_term (m *ℤ t.0) t.1 xs) us) h
    ∙ ap (λ zs. unless_wide (form_operations m xs us) (form_sum m zs us)) made) in
    ap (λ os. unless_wide os (form_sum m next us)) operations ∙ (sym before ∙ w)

pub form_more : (c : ℤ) (a : Atom) (xs next : Form) → IsForm xs → next ≡ with_coefficient c a xs → IsForm next
form_more c a xs next h e = subst IsForm (sym e) (form_changed c a xs h)

-- where one term can't be added, that is the answer
one_fails : (m : ℤ) (xs ys : Form) (i : ℕ) (t : ℤ × Atom) (e : LinearError) (all : Result Form LinearError) → i < length ys → t ≡ get_or ys i t
    → IsExact (Err e) (unless_wide (scaled_addition (coefficient t.1 xs) t.0 m) (coefficient t.1 xs +ℤ (m *ℤ t.0)))
    → unless_wide (form_operations m xs (drop i ys)) (form_sum m xs (drop i ys)) ≡ all → IsExact (Err e) all
one_fails m xs ys i t Memory all l at h w = tt
one_fails m xs ys i t (Wide op a b) all l at h w =
    let us : Form = drop (i + 1) ys in
    let d : drop i ys ≡ t ∷ us = drop_more ys i t l ∙ ap (λ x. x ∷ us) (sym at) in
    sym w ∙ (ap (λ zs. unless_wide (form_operations m xs zs) (form_sum m xs zs)) d
    ∙ stopped (scaled_addition (coefficient t.1 xs) t.0 m) (form_operations m xs us) (coefficient t.1 xs +ℤ (m *ℤ t.0)) (form_sum m (plus_term (m *ℤ t.0) t.1 xs) us) (Wide op a b) h)

-- what is left to add, and the sum so far, say what the whole does
abbrev pub GoesOn : ℤ → Form → Form → Form → ℕ → Type 0
GoesOn m old xs ys i = unless_wide (form_operations m xs (drop i ys)) (form_sum m xs (drop i ys)) ≡ unless_wide (form_operations m old ys) (form_sum m old ys)

-- the same for numbers as they were read
pub read_more : (m n a b s r : ℤ) (old xs next ys : Form) (i : ℕ) (t : ℤ × Atom) → i < length ys → t ≡ get_or ys i t → IsForm ys → IsForm xs → GoesOn m old xs ys i
    → unless_wide (scaled_addition a b n) (a +ℤ (n *ℤ b)) ≡ Ok s → next ≡ with_coefficient r t.1 xs → n ≡ m → a ≡ coefficient t.1 xs → b ≡ t.0 → r ≡ s → IsForm next × GoesOn m old next ys (i + 1)
read_more m n a b s r old xs next ys i t l at f g w h e pn pa pb pr =
    let made : next ≡ with_coefficient s t.1 xs = e ∙ ap (λ z. with_coefficient z t.1 xs) pr in
    let sum : unless_wide (scaled_addition (coefficient t.1 xs) t.0 m) (coefficient t.1 xs +ℤ (m *ℤ t.0)) ≡ Ok s = subst (λ q. q ≡ Ok s) (λ k. unless_wide (scaled_addition (pa k) (pb k) (pn k)) (pa k +ℤ (pn k *ℤ pb k))) h in
    (form_more s t.1 xs next g made, one_more m s xs next ys i t (unless_wide (form_operations m old ys) (form_sum m old ys)) l at f g sum made w)

pub read_fails : (m n k a b : ℤ) (old xs ys : Form) (i : ℕ) (t : ℤ × Atom) (e : LinearError) → i < length ys → t ≡ get_or ys i t → GoesOn k old xs ys i
    → IsExact (Err e) (unless_wide (scaled_addition a b n) (a +ℤ (n *ℤ b))) → k ≡ m → n ≡ m → a ≡ coefficient t.1 xs → b ≡ t.0 → IsExact (Err e) (unless_wide (form_operations m old ys) (form_sum m old ys))
read_fails m n k a b old xs ys i t e l at w h pk pn pa pb =
    one_fails m xs ys i t e (unless_wide (form_operations m old ys) (form_sum m old ys)) l at
    (subst (IsExact (Err e)) (λ j. unless_wide (scaled_addition (pa j) (pb j) (pn j)) (pa j +ℤ (pn j *ℤ pb j))) h)
    (subst (λ z. GoesOn z old xs ys i) pk w)

-- where nothing is left, the sum is made
pub none_left : (m : ℤ) (xs ys : Form) (i : ℕ) (all : Result Form LinearError) → length ys ≤ i → unless_wide (form_operations m xs (drop i ys)) (form_sum m xs (drop i ys)) ≡ all → all ≡ Ok xs
none_left m xs ys i all l w = sym w ∙ ap (λ zs. unless_wide (form_operations m xs zs) (form_sum m xs zs)) (drop_all i ys l)

-- ---- the coefficients, and then the bound
row_made : (a b : Row) (m bound : ℤ) (form : Form) → unless_wide (form_operations m a.form b.form) (form_sum m a.form b.form) ≡ Ok form
    → unless_wide (scaled_addition a.bound b.bound m) (a.bound +ℤ (m *ℤ b.bound)) ≡ Ok bound → added a b m ≡ Ok (record { form = form; bound = bound })
row_made a b m bound form h k =
    let f : form_sum m a.form b.form ≡ form = value_is (form_operations m a.form b.form) (form_sum m a.form b.form) form h in
    let g : a.bound +ℤ (m *ℤ b.bound) ≡ bound = value_is (scaled_addition a.bound b.bound m) (a.bound +ℤ (m *ℤ b.bound)) bound k in
    passed (form_operations m a.form b.form) (scaled_addition a.bound b.bound m) (form_sum m a.form b.form) form (sum_row a b m) h
    ∙ (all_passed (scaled_addition a.bound b.bound m) (a.bound +ℤ (m *ℤ b.bound)) bound (sum_row a b m) k
    ∙ (λ i. Ok (record { form = f i; bound = g i })))

form_fails : (a b : Row) (m : ℤ) (e : LinearError) → IsExact (Err e) (unless_wide (form_operations m a.form b.form) (form_sum m a.form b.form)) → IsExact (Err e) (added a b m)
form_fails a b m Memory h = tt
form_fails a b m (Wide op p q) h = stopped (form_operations m a.form b.form) (scaled_addition a.bound b.bound m) (form_sum m a.form b.form) (sum_row a b m) (Wide op p q) h

bound_fails : (a b : Row) (m : ℤ) (form : Form) (e : LinearError) → unless_wide (form_operations m a.form b.form) (form_sum m a.form b.form) ≡ Ok form
    → IsExact (Err e) (unless_wide (scaled_addition a.bound b.bound m) (a.bound +ℤ (m *ℤ b.bound))) → IsExact (Err e) (added a b m)
bound_fails a b m form Memory h k = tt
bound_fails a b m form (Wide op p q) h k =
    passed (form_operations m a.form b.form) (scaled_addition a.bound b.bound m) (form_sum m a.form b.form) form (sum_row a b m) h
    ∙ same_stop (scaled_addition a.bound b.bound m) (a.bound +ℤ (m *ℤ b.bound)) (sum_row a b m) (Wide op p q) k

-- the same for numbers and terms as they were read
abbrev pub FormGives : ℤ → Form → Form → Result Form LinearError
FormGives m xs ys = unless_wide (form_operations m xs ys) (form_sum m xs ys)

abbrev pub BoundGives : ℤ → ℤ → ℤ → Result ℤ LinearError
BoundGives m a b = unless_wide (scaled_addition a b m) (a +ℤ (m *ℤ b))

pub read_form_fails : (a b : Row) (m n : ℤ) (ys : Form) (e : LinearError) → IsExact (Err e) (FormGives n a.form ys) → n ≡ m → ys ≡ b.form → IsExact (Err e) (added a b m)
read_form_fails a b m n ys e h pn py = form_fails a b m e (subst (IsExact (Err e)) (λ j. FormGives (pn j) a.form (py j)) h)

pub read_bound_fails : (a b : Row) (m n k p q : ℤ) (ys form : Form) (e : LinearError) → FormGives n a.form ys ≡ Ok form → IsExact (Err e) (BoundGives k p q) → n ≡ m → ys ≡ b.form → k ≡ m → p ≡ a.bound → q ≡ b.bound → IsExact (Err e) (added a b m)
read_bound_fails a b m n k p q ys form e h f pn py pk pp pq =
    bound_fails a b m form e (subst (λ r. r ≡ Ok form) (λ j. FormGives (pn j) a.form (py j)) h) (subst (IsExact (Err e)) (λ j. BoundGives (pk j) (pp j) (pq j)) f)

pub read_row : (a b : Row) (m n k p q s r : ℤ) (ys form : Form) → FormGives n a.form ys ≡ Ok form → BoundGives k p q ≡ Ok s → n ≡ m → ys ≡ b.form → k ≡ m → p ≡ a.bound → q ≡ b.bound → r ≡ s → added a b m ≡ Ok (record { form = form; bound = r })
read_row a b m n k p q s r ys form h f pn py pk pp pq pr =
    row_made a b m s form (subst (λ w. w ≡ Ok form) (λ j. FormGives (pn j) a.form (py j)) h) (subst (λ w. w ≡ Ok s) (λ j. BoundGives (pk j) (pp j) (pq j)) f)
    ∙ (λ j. Ok (record { form = form; bound = sym pr j }))

-- an error that is handed on
pub kept : {A : Type 0} (r : Result A LinearError) (e : LinearError) (all : Result A LinearError) → IsErrAnd r (λ k. k ≡ e) → IsExact {A = A} (Err e) all → IsExact r all
kept (Ok x) e all h k = absurd h
kept (Err x) e all h k = subst (λ (z : LinearError). IsExact (Err z) all) (sym h) k

-- ---- every coefficient of a sum
pub form_sum_form : (m : ℤ) (xs ys : Form) → IsForm xs → IsForm (form_sum m xs ys)
form_sum_form m xs [] h = h
form_sum_form m xs (y ∷ ys) h = form_sum_form m (plus_term (m *ℤ y.0) y.1 xs) ys (form_plus (m *ℤ y.0) y.1 xs h)

own_sum : (z m y : ℤ) → (z +ℤ (m *ℤ y)) +ℤ (m *ℤ pos 0) ≡ z +ℤ (m *ℤ y)
own_sum z m y = omega (arith, ints)

sum_case : (x : Atom) (m : ℤ) (xs : Form) (y : ℤ × Atom) (ys : Form) (b : Bool) → same_atom x y.1 ≡ b → Above y.1 ys
    → (if b then coefficient y.1 xs +ℤ (m *ℤ y.0) else coefficient x xs) +ℤ (m *ℤ coefficient x ys) ≡ coefficient x xs +ℤ (m *ℤ (if b then y.0 else coefficient x ys))
sum_case x m xs y ys false e h = refl
sum_case x m xs y ys true e h =
    let same : x ≡ y.1 = (same_atom-Decides x y.1).0 e in
    let absent : coefficient x ys ≡ pos 0 = ap (λ (k : Atom). coefficient k ys) same ∙ coefficient_absent y.1 ys h in
    ap (λ z. (coefficient y.1 xs +ℤ (m *ℤ y.0)) +ℤ (m *ℤ z)) absent ∙ (own_sum (coefficient y.1 xs) m y.0 ∙ ap (λ (k : Atom). coefficient k xs +ℤ (m *ℤ y.0)) (sym same))

pub form_sum_coefficient : (x : Atom) (m : ℤ) (xs ys : Form) → IsForm xs → IsForm ys → coefficient x (form_sum m xs ys) ≡ coefficient x xs +ℤ (m *ℤ coefficient x ys)
form_sum_coefficient x m xs [] h k = nothing (coefficient x xs) m where
  nothing : (z m : ℤ) → z ≡ z +ℤ (m *ℤ pos 0)
  nothing z m = omega (arith, ints)
form_sum_coefficient x m xs (y ∷ ys) h k =
    form_sum_coefficient x m (plus_term (m *ℤ y.0) y.1 xs) ys (form_plus (m *ℤ y.0) y.1 xs h) k.2
    ∙ (ap (λ z. z +ℤ (m *ℤ coefficient x ys)) (coefficient_plus x (m *ℤ y.0) y.1 xs h)
    ∙ sum_case x m xs y ys (same_atom x y.1) refl k.1)

pub exact_is_sum : (a b r : Row) (m : ℤ) → IsForm a.form → IsForm b.form → added a b m ≡ Ok r → IsSum a b m r
exact_is_sum a b r m h k e =
    subst (IsSum a b m) (value_is (sum_operations a b m) (sum_row a b m) r e)
    (record { form = form_sum_form m a.form b.form h; coefficients = λ x. form_sum_coefficient x m a.form b.form h k; bound = refl })

pub exact_gives_sum : (a b : Row) (m : ℤ) (r : Result Row LinearError) → IsForm a.form → IsForm b.form → IsExact r (added a b m) → IfOk r (λ row. IsSum a b m row)
exact_gives_sum a b m (Ok row) h k e = exact_is_sum a b row m h k e
exact_gives_sum a b m (Err e) h k f = tt
