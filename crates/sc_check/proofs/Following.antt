-- A script that is followed item by item.
use Rattle.std.proofs.Common.{◌≡◌, ℕ, true, false, Result, Ok, Err, List, [], ◌∷◌, ◌++◌, Option, Some, refl, sym, ap, ◌∙◌, subst, inl, inr}
use Rattle.std.specs.Result.{OnOk, is_err}
use Rattle.sc_base.proofs.Integers.{all_weaker, all-append}
use Rattle.sc_sexpr.specs.declared.item.Fault.{Fault}
use Rattle.sc_sexpr.specs.declared.item.Item.TheVariants as item
use Rattle.sc_sexpr.specs.Scans.{Piece}
use Rattle.sc_sexpr.specs.View.{View, keeping, answer}
use Rattle.sc_session.specs.declared.tracing.Traced.{Traced}
use Rattle.sc_session.specs.declared.tracing.Traced.TheVariants as traced
use Rattle.sc_session.specs.Scripts.{Item, IsTold, most_bytes}
use Rattle.sc_session.specs.States.{State, start, IsSession}
use Rattle.sc_session.specs.Courses.{fault_line}
use Rattle.sc_session.specs.Tracing.{step, IsStepped, GoesOn, TracesKeep}
use Rattle.sc_check.specs.Judging.{AreOf, AreAllOf}
use Rattle.sc_check.specs.Reports.{Standing, standing, behind_trace, behind_item, follow, fresh, Next, none, more, Follows, EndsScript}
use Rattle.sc_check.specs.Following.{IsLeft, IsStopped, IsUnended}

-- the item that a splitter gave
pub next_item : (v w : View) (line : ℕ) (text : List ℕ) (i : Item) → (answer v).item ≡ item.Top line → w ≡ keeping w.kept (answer v).view → Some text ≡ w.given → IsTold (record { text = text; line = line }) i → Next v i w
next_item v w line text i is e given told = record {
  text = text;
  item = is ∙ ap item.Top (sym told.line);
  view = e;
  given = sym given;
  told = subst (λ l. IsTold (record { text = text; line = l }) i) (sym told.line) told;
}

follow_one_more : (s : Option Standing) (is : List Item) (i : Item) → follow s (is ++ i ∷ []) ≡ behind_item (follow s is) i
follow_one_more s [] i = refl
follow_one_more s (j ∷ is) i = follow_one_more (behind_item s j) is i

-- what was done so far
pub record Under (v w : View) (s : Standing) : Type 0 where
  pub follows : Follows v s w
  pub formulas : AreAllOf s.session s.asked
  pub last : w.last ≡ true
  pub granted : w.granted ≡ most_bytes

pub begins : (v : View) (s : State) (asked : List (List ℕ)) → s ≡ start → asked ≡ [] → v.last ≡ true → v.granted ≡ most_bytes → Under v v (standing s asked)
begins v s asked e none_yet last granted =
    subst (λ x. Under v v (standing x asked)) (sym e)
    (subst (λ ns. Under v v (standing start ns)) (sym none_yet) (record { follows = record { items = []; gives = none; follows = refl }; formulas = tt; last = last; granted = granted }))

module _ (keep : TracesKeep) (v x y : View) (s t : State) (asked : List (List ℕ)) (session : IsSession s) (under : Under v x (standing s asked))
    (line : ℕ) (text : List ℕ) (is : (answer x).item ≡ item.Top line) (view : y ≡ keeping y.kept (answer x).view) (given : Some text ≡ y.given) (last : y.last ≡ x.last) (granted : y.granted ≡ x.granted) where
  abbrev piece : Piece
  piece = record { text = text; line = line }

  next : (i : Item) → IsTold piece i → Next x i y
  next i told = next_item x y line text i is view given told

  follows_by : (i : Item) → IsTold piece i → (q : Standing) → behind_trace (step s i).given (step s i).session asked ≡ Some q → Follows v q y
  follows_by i told q e = record {
    items = under.follows.items ++ i ∷ [];
    gives = more under.follows.items x y i under.follows.gives (next i told);
    follows = follow_one_more (Some fresh) under.follows.items i ∙ ap (λ o. behind_item o i) under.follows.follows ∙ e;
  }

  still : (i : Item) → GoesOn (step s i).given → t ≡ (step s i).session → AreAllOf t asked
  still i goes e = subst (λ u. AreAllOf u asked) (sym e) (all_weaker (AreOf s) (AreOf (step s i).session) (λ ns h. keep.keeps s i ns session goes h) asked under.formulas)

  pub goes : IsStepped s piece traced.Nothing t → Under v y (standing t asked)
  goes k = record {
    follows = follows_by k.i k.told (standing t asked) (ap (λ g. behind_trace g (step s k.i).session asked) (sym k.gives) ∙ ap (λ u. Some (standing u asked)) (sym k.leaves));
    formulas = still k.i (subst GoesOn k.gives tt) k.leaves;
    last = last ∙ under.last;
    granted = granted ∙ under.granted;
  }

  pub asks : (ns : List ℕ) → IsStepped s piece (traced.Proof ns) t → Under v y (standing t (asked ++ ns ∷ []))
  asks ns k =
      let on : GoesOn (step s k.i).given = subst GoesOn k.gives tt in
      let in_force : AreOf s ns = subst (AreOf s) (sym (keep.asks s k.i ns (sym k.gives))) session.sorted.assertions in
      let more_one : AreOf t ns = subst (λ u. AreOf u ns) (sym k.leaves) (keep.keeps s k.i ns session on in_force) in
      record {
        follows = follows_by k.i k.told (standing t (asked ++ ns ∷ [])) (ap (λ g. behind_trace g (step s k.i).session asked) (sym k.gives) ∙ ap (λ u. Some (standing u (asked ++ ns ∷ []))) (sym k.leaves));
        formulas = all-append (AreOf t) asked (ns ∷ []) (still k.i on k.leaves) (more_one, tt);
        last = last ∙ under.last;
        granted = granted ∙ under.granted;
      }

  abbrev ends_by : (g : Traced) (k : IsStepped s piece g t) → EndsScript (standing s asked) x g y
  ends_by g k = record { i = k.i; next = next k.i k.told; ends = sym k.gives }

  pub leaves : IsStepped s piece traced.Exit t → IsLeft v asked y t
  leaves k = record {
    script = s;
    before = x;
    follows = under.follows;
    leaves = ends_by traced.Exit k;
    terms = ap (λ (u : State). u.bank) k.leaves;
    formulas = still k.i (subst GoesOn k.gives tt) k.leaves;
    last = last ∙ under.last;
    granted = granted ∙ under.granted;
  }

  pub errs : (bytes : List ℕ) → IsStepped s piece (traced.Error bytes) t → IsStopped v bytes
  errs bytes k = record { script = standing s asked; before = x; follows = under.follows; why = inl (y, ends_by (traced.Error bytes) k) }

-- what holds of a call that succeeds
pub on_ok : {A B : Type 0} (r : Result A B) (P : Type 0) → OnOk r P → is_err r ≡ false → P
on_ok (Ok x) P h e = h
on_ok (Err x) P h e = absurd cc

pub faulty : (v x : View) (s : Standing) (f : Fault) (bytes : List ℕ) → Under v x s → (answer x).item ≡ item.Bad f → bytes ≡ fault_line f → IsStopped v bytes
faulty v x s f bytes u is e = record { script = s; before = x; follows = u.follows; why = inr (f, is, e) }

pub unended : (v x : View) (s : Standing) → Under v x s → (answer x).item ≡ item.End → IsUnended v
unended v x s u is = record { script = s; before = x; follows = u.follows; at_end = is }
