-- The responses so far, and those that are left.
use Rattle.std.proofs.Common.{◌≡◌, ℕ, ◌+◌, ◌<◌, ◌^◌, Bool, true, false, List, [], ◌∷◌, ◌++◌, length, Option, Some, None, unwrap_or, Result, Ok, Err, refl, sym, ap, ◌∙◌, append_assoc, append-nil, subst, inl, inr}
use Rattle.std.specs.Prelude.{◌⊎◌}
use Rattle.sc_io.specs.Moments.{SinkMoment}
use Rattle.sc_io.specs.declared.put.PutError.{PutError}
use Rattle.sc_io.specs.declared.put.PutError.TheVariants as put
use Rattle.sc_io.specs.Writing.{IsWritten, IsCutByFault, IsCutByMemory, PutGives}
use Rattle.sc_io.proofs.Writings.{nothing_written, then_written, then_cut_by_fault, then_cut_by_memory, cut_by_fault_within, cut_by_memory_within}
use Rattle.sc_sexpr.specs.declared.item.Fault.{Fault}
use Rattle.sc_sexpr.specs.declared.item.Last.{Last}
use Rattle.sc_sexpr.specs.declared.item.Last.TheVariants as last
use Rattle.sc_sexpr.specs.Scans.{Reading, stops, with_top}
use Rattle.sc_sexpr.specs.Laws.{IsReady}
use Rattle.sc_sexpr.specs.Trees.{IsItem}
use Rattle.sc_terms.specs.declared.problem.Parts.{Parts}
use Rattle.sc_tree.specs.declared.verdict.Verdict.{Verdict}
use Rattle.sc_tree.specs.Verdicts.{IsJust}
use Rattle.sc_session.specs.Giving.{IsGiven}
use Rattle.sc_session.specs.Said.{Said}
use Rattle.sc_session.specs.Said as response
use Rattle.sc_session.specs.Scripts.{Item, Script, IsTold, AreTold, IsScriptOf}
use Rattle.sc_session.specs.States.{State, start, with_verdict, IsSession}
use Rattle.sc_session.specs.Effects.{Effect, Answers, Checks, turn, verdict_line}
use Rattle.sc_session.specs.Doing.{HasEffect}
use Rattle.sc_session.specs.Meaning.{Assertion, asserted_by, Says, IsRight}
use Rattle.sc_session.specs.Courses.{Course, behind, done, failed, fault_line, at_last, course, course_after, course_of, AreJust, just_after, HasVerdicts, HasFirstVerdicts}
use Rattle.sc_session.specs.Laws.{SayTheSame}
use Rattle.sc_solve.specs.declared.ending.Ending.{Ending}
use Rattle.sc_solve.specs.declared.ending.Ending.TheVariants as ending
use Rattle.sc_solve.specs.Answering.{bytes_of, end_of, ended_with, IsCut, IsUnanswered, AnswerGives, RefuseGives}
use Rattle.sc_solve.specs.Ends.{responses, Responds}

-- What was done of a script, and what is left of it: the responses so far, and then those that are left, are all, whatever verdicts come.
pub record Underway (budget : ℕ) (whole : Script) (before now : SinkMoment) (s : State) (r : Reading) : Type 0 where
  pub items : List Item
  pub terms : List Assertion
  pub written : List ℕ
  pub told : AreTold r.tops items
  pub ends : whole.last ≡ r.last
  pub says : Says s terms
  pub course : (vs : List Verdict) → course_of whole (s.verdicts ++ vs) ≡ behind written (course s items whole.last vs)
  pub just : (may_miss : Bool) (vs : List Verdict) → AreJust may_miss budget s terms items vs → AreJust may_miss budget start [] whole.items (s.verdicts ++ vs)
  pub out : IsWritten before now written

pub begins : (law : SayTheSame) (budget : ℕ) (whole : Script) (a : SinkMoment) (s : State) (r : Reading) → s ≡ start → IsScriptOf r whole → Underway budget whole a a s r
begins law budget whole a s r e is =
    subst (λ x. Underway budget whole a a x r) (sym e) (record {
      items = whole.items;
      terms = [];
      written = [];
      told = is.items;
      ends = is.last;
      says = law.starts;
      course = λ vs. refl;
      just = λ may_miss vs h. h;
      out = nothing_written a;
    })

-- ---- one item of a course
unfolded : (s : State) (i : Item) (is : List Item) (l : Last) (vs : List Verdict) → course s (i ∷ is) l vs ≡ course_after (turn s i) s vs (λ t us. course t is l us)
unfolding course
unfolded s i is l vs = refl

unfolded_just : (may_miss : Bool) (budget : ℕ) (s : State) (terms : List Assertion) (i : Item) (is : List Item) (vs : List Verdict) → just_after may_miss budget (turn s i) s terms i vs (λ t more us. AreJust may_miss budget t more is us) → AreJust may_miss budget s terms (i ∷ is) vs
unfolding AreJust
unfolded_just may_miss budget s terms i is vs h = h

ended : (s : State) (l : Last) (vs : List Verdict) → course s [] l vs ≡ at_last l
unfolding course
ended s l vs = refl

ended_just : (may_miss : Bool) (budget : ℕ) (s : State) (terms : List Assertion) (vs : List Verdict) → vs ≡ [] → AreJust may_miss budget s terms [] vs
unfolding AreJust
ended_just may_miss budget s terms vs e = e

behind_twice : (x y : List ℕ) (c : Course) → behind x (behind y c) ≡ behind (x ++ y) c
behind_twice x y c = ap (λ b. record { bytes = b; fails = c.fails }) (sym (append_assoc x y c.bytes))

-- what is said where nothing more comes
plain : (whole : Script) (s : State) (c : Course) → course_of whole (s.verdicts ++ []) ≡ c → course_of whole s.verdicts ≡ c
plain whole s c e = ap (course_of whole) (sym (append-nil s.verdicts)) ∙ e

plain_just : (may_miss : Bool) (budget : ℕ) (whole : Script) (s : State) → AreJust may_miss budget start [] whole.items (s.verdicts ++ []) → AreJust may_miss budget start [] whole.items s.verdicts
plain_just may_miss budget whole s h = subst (AreJust may_miss budget start [] whole.items) (append-nil s.verdicts) h

-- no verdicts are just where they may be fewer
none_after : (budget : ℕ) (e : Effect) (s : State) (terms : List Assertion) (i : Item) (is : List Item) → ((t : State) (more : List Assertion) → AreJust true budget t more is []) → just_after true budget e s terms i [] (λ t more us. AreJust true budget t more is us)
none_after budget (Answers (response.Text bytes) t) s terms i is rest = rest t (terms ++ asserted_by s i)
none_after budget (Answers (response.Error bytes) t) s terms i is rest = refl
none_after budget (Answers (response.Exit bytes) t) s terms i is rest = refl
none_after budget (Checks problem) s terms i is rest = refl

none_yet : (budget : ℕ) (s : State) (terms : List Assertion) (is : List Item) → AreJust true budget s terms is []
none_yet budget s terms [] = ended_just true budget s terms [] refl
none_yet budget s terms (i ∷ is) = unfolded_just true budget s terms i is [] (none_after budget (turn s i) s terms i is (λ t more. none_yet budget t more is))

-- a response was given, and the course is what was written, the response, and more
pub record IsMoved (budget : ℕ) (whole : Script) (t : State) (written given : List ℕ) : Type 0 where
  pub rest : Course
  pub course : course_of whole t.verdicts ≡ behind written (behind given rest)
  pub first : HasFirstVerdicts budget whole t.verdicts

-- the course is what was written and these last bytes
pub record IsOver (budget : ℕ) (whole : Script) (t : State) (written given : List ℕ) (fails : Bool) : Type 0 where
  pub course : course_of whole t.verdicts ≡ behind written (record { bytes = given; fails = fails })
  pub all : HasVerdicts budget whole t.verdicts

module _ (law : SayTheSame) (budget : ℕ) (whole : Script) (before now : SinkMoment) (s : State) (session : IsSession s) where
  -- ---- an item that is the next one
  module _ (i : Item) (is : List Item) (terms : List Assertion) (written : List ℕ) (says : Says s terms)
      (all : (vs : List Verdict) → course_of whole (s.verdicts ++ vs) ≡ behind written (course s (i ∷ is) whole.last vs))
      (just : (may_miss : Bool) (vs : List Verdict) → AreJust may_miss budget s terms (i ∷ is) vs → AreJust may_miss budget start [] whole.items (s.verdicts ++ vs)) where
    next_course : (e : Effect) → turn s i ≡ e → (vs : List Verdict) → course_of whole (s.verdicts ++ vs) ≡ behind written (course_after e s vs (λ t us. course t is whole.last us))
    next_course e at vs = all vs ∙ ap (behind written) (unfolded s i is whole.last vs) ∙ ap (λ x. behind written (course_after x s vs (λ t us. course t is whole.last us))) at

    next_just : (e : Effect) → turn s i ≡ e → (may_miss : Bool) (vs : List Verdict) → just_after may_miss budget e s terms i vs (λ t more us. AreJust may_miss budget t more is us) → AreJust may_miss budget start [] whole.items (s.verdicts ++ vs)
    next_just e at may_miss vs h =
        just may_miss vs (unfolded_just may_miss budget s terms i is vs (subst (λ x. just_after may_miss budget x s terms i vs (λ t more us. AreJust may_miss budget t more is us)) (sym at) h))

    -- the verdict that a check-sat gave comes before those that follow
    one_more : (v : Verdict) (vs : List Verdict) → (s.verdicts ++ v ∷ []) ++ vs ≡ s.verdicts ++ v ∷ vs
    one_more v vs = append_assoc s.verdicts (v ∷ []) vs

    checked_right : (problem : Parts) (v : Verdict) → turn s i ≡ Checks problem → IsGiven problem budget v → IsRight terms v
    checked_right problem v at j = law.right s terms budget v session says (subst (λ p. IsJust p budget v) (law.checks s i problem at) j.just)

    -- the script goes on
    module _ (after : SinkMoment) (t : State) (r : Reading) (bytes : List ℕ) (told : AreTold r.tops is) (ends : whole.last ≡ r.last) (out : IsWritten before after (written ++ bytes)) where
      goes_by : (e : Effect) → turn s i ≡ e → HasEffect s e budget (response.Text bytes) t → Underway budget whole before after t r
      goes_by (Answers q u) at d =
          let text : turn s i ≡ Answers (response.Text bytes) t = at ∙ ap (λ x. Answers x u) (sym d.0) ∙ ap (Answers (response.Text bytes)) (sym d.1) in
          let same : t.verdicts ≡ s.verdicts = law.keeps s t i (response.Text bytes) text in
          record {
            items = is;
            terms = terms ++ asserted_by s i;
            written = written ++ bytes;
            told = told;
            ends = ends;
            says = law.goes_on s t terms i bytes session says text;
            course = λ vs. ap (λ x. course_of whole (x ++ vs)) same ∙ next_course (Answers (response.Text bytes) t) text vs ∙ behind_twice written bytes (course t is whole.last vs);
            just = λ may_miss vs h. subst (λ x. AreJust may_miss budget start [] whole.items (x ++ vs)) (sym same) (next_just (Answers (response.Text bytes) t) text may_miss vs h);
            out = out;
          }
      goes_by (Checks problem) at (v, j, line, new) =
          let given : bytes ≡ verdict_line v = cc in
          subst (λ x. Underway budget whole before after x r) (sym new) (record {
            items = is;
            terms = terms;
            written = written ++ bytes;
            told = told;
            ends = ends;
            says = law.checked s terms v says;
            course = λ vs. ap (course_of whole) (one_more v vs) ∙ next_course (Checks problem) at (v ∷ vs) ∙ behind_twice written (verdict_line v) (course (with_verdict s v) is whole.last vs) ∙ ap (λ x. behind (written ++ x) (course (with_verdict s v) is whole.last vs)) (sym given);
            just = λ may_miss vs h. subst (AreJust may_miss budget start [] whole.items) (sym (one_more v vs)) (next_just (Checks problem) at may_miss (v ∷ vs) (j, checked_right problem v at j, h));
            out = out;
          })

    -- a response was given
    module _ (t : State) where
      moved_text : (e : Effect) (r : Said) → turn s i ≡ e → HasEffect s e budget r t → IsMoved budget whole t written (bytes_of r)
      moved_text (Answers (response.Text bytes) u) r at d =
          let text : turn s i ≡ Answers (response.Text bytes) t = at ∙ ap (Answers (response.Text bytes)) (sym d.1) in
          let same : t.verdicts ≡ s.verdicts = law.keeps s t i (response.Text bytes) text in
          record {
            rest = course t is whole.last [];
            course = ap (course_of whole) (same ∙ sym (append-nil s.verdicts)) ∙ next_course (Answers (response.Text bytes) t) text [] ∙ ap (λ x. behind written (behind (bytes_of x) (course t is whole.last []))) (sym d.0);
            first = subst (AreJust true budget start [] whole.items) (append-nil s.verdicts ∙ sym same) (next_just (Answers (response.Text bytes) t) text true [] (none_yet budget t (terms ++ asserted_by s i) is));
          }
      moved_text (Answers (response.Error bytes) u) r at d =
          let text : turn s i ≡ Answers (response.Error bytes) t = at ∙ ap (Answers (response.Error bytes)) (sym d.1) in
          let same : t.verdicts ≡ s.verdicts = law.keeps s t i (response.Error bytes) text in
          record {
            rest = failed [];
            course = ap (course_of whole) (same ∙ sym (append-nil s.verdicts)) ∙ next_course (Answers (response.Error bytes) t) text [] ∙ ap (λ x. behind written (failed x)) (sym (append-nil bytes)) ∙ ap (λ x. behind written (behind (bytes_of x) (failed []))) (sym d.0);
            first = subst (AreJust true budget start [] whole.items) (append-nil s.verdicts ∙ sym same) (next_just (Answers (response.Error bytes) t) text true [] refl);
          }
      moved_text (Answers (response.Exit bytes) u) r at d =
          let text : turn s i ≡ Answers (response.Exit bytes) t = at ∙ ap (Answers (response.Exit bytes)) (sym d.1) in
          let same : t.verdicts ≡ s.verdicts = law.keeps s t i (response.Exit bytes) text in
          record {
            rest = done [];
            course = ap (course_of whole) (same ∙ sym (append-nil s.verdicts)) ∙ next_course (Answers (response.Exit bytes) t) text [] ∙ ap (λ x. behind written (done x)) (sym (append-nil bytes)) ∙ ap (λ x. behind written (behind (bytes_of x) (done []))) (sym d.0);
            first = subst (AreJust true budget start [] whole.items) (append-nil s.verdicts ∙ sym same) (next_just (Answers (response.Exit bytes) t) text true [] refl);
          }
      moved_text (Checks problem) r at (v, j, line, new) =
          record {
            rest = course (with_verdict s v) is whole.last [];
            course = ap (λ (x : State). course_of whole x.verdicts) new ∙ next_course (Checks problem) at (v ∷ []) ∙ ap (λ x. behind written (behind (bytes_of x) (course (with_verdict s v) is whole.last []))) (sym line);
            first = subst (λ (x : State). AreJust true budget start [] whole.items x.verdicts) (sym new) (next_just (Checks problem) at true (v ∷ []) (j, checked_right problem v at j, none_yet budget (with_verdict s v) terms is));
          }

      -- it ends the script
      over_error : (e : Effect) (bytes : List ℕ) → turn s i ≡ e → HasEffect s e budget (response.Error bytes) t → IsOver budget whole t written bytes true
      over_error (Answers q u) bytes at d =
          let text : turn s i ≡ Answers (response.Error bytes) t = at ∙ ap (λ x. Answers x u) (sym d.0) ∙ ap (Answers (response.Error bytes)) (sym d.1) in
          let same : t.verdicts ≡ s.verdicts = law.keeps s t i (response.Error bytes) text in
          record {
            course = ap (course_of whole) (same ∙ sym (append-nil s.verdicts)) ∙ next_course (Answers (response.Error bytes) t) text [];
            all = subst (AreJust false budget start [] whole.items) (append-nil s.verdicts ∙ sym same) (next_just (Answers (response.Error bytes) t) text false [] refl);
          }
      over_error (Checks problem) bytes at (v, j, line, new) = absurd cc

      over_exit : (e : Effect) (bytes : List ℕ) → turn s i ≡ e → HasEffect s e budget (response.Exit bytes) t → IsOver budget whole t written bytes false
      over_exit (Answers q u) bytes at d =
          let text : turn s i ≡ Answers (response.Exit bytes) t = at ∙ ap (λ x. Answers x u) (sym d.0) ∙ ap (Answers (response.Exit bytes)) (sym d.1) in
          let same : t.verdicts ≡ s.verdicts = law.keeps s t i (response.Exit bytes) text in
          record {
            course = ap (course_of whole) (same ∙ sym (append-nil s.verdicts)) ∙ next_course (Answers (response.Exit bytes) t) text [];
            all = subst (AreJust false budget start [] whole.items) (append-nil s.verdicts ∙ sym same) (next_just (Answers (response.Exit bytes) t) text false [] refl);
          }
      over_exit (Checks problem) bytes at (v, j, line, new) = absurd cc

-- ---- whole calls
-- the next item, and those behind it
record Head (budget : ℕ) (whole : Script) (s : State) (terms : List Assertion) (written : List ℕ) (text : List ℕ) (line : ℕ) (r : Reading) : Type 0 where
  item : Item
  items : List Item
  is : IsTold (record { text = text; line = line }) item
  told : AreTold r.tops items
  all : (vs : List Verdict) → course_of whole (s.verdicts ++ vs) ≡ behind written (course s (item ∷ items) whole.last vs)
  just : (may_miss : Bool) (vs : List Verdict) → AreJust may_miss budget s terms (item ∷ items) vs → AreJust may_miss budget start [] whole.items (s.verdicts ++ vs)

head_by : (budget : ℕ) (whole : Script) (s : State) (terms : List Assertion) (written : List ℕ) (text : List ℕ) (line : ℕ) (r : Reading) (items : List Item) → AreTold (record { text = text; line = line } ∷ r.tops) items → ((vs : List Verdict) → course_of whole (s.verdicts ++ vs) ≡ behind written (course s items whole.last vs)) → ((may_miss : Bool) (vs : List Verdict) → AreJust may_miss budget s terms items vs → AreJust may_miss budget start [] whole.items (s.verdicts ++ vs)) → Head budget whole s terms written text line r
head_by budget whole s terms written text line r [] told all just = absurd told
head_by budget whole s terms written text line r (i ∷ is) told all just = record { item = i; items = is; is = told.0; told = told.1; all = all; just = just }

none_left : (items : List Item) → AreTold [] items → items ≡ []
none_left [] told = refl
none_left (i ∷ is) told = absurd told

module _ (law : SayTheSame) (budget : ℕ) (whole : Script) (before now after : SinkMoment) (s t : State) (r : Reading) (u : Underway budget whole before now s r) where
  -- what was given, and cut short
  fault_cut : (given : List ℕ) → IsMoved budget whole t u.written given → IsCutByFault now after given → IsCutByFault before after (responses whole t.verdicts)
  fault_cut given m cut =
      subst (IsCutByFault before after) (sym (ap (λ (c : Course). c.bytes) m.course))
      (then_cut_by_fault before now after u.written (given ++ m.rest.bytes) u.out (cut_by_fault_within now after given m.rest.bytes cut))

  memory_cut : (given : List ℕ) → IsMoved budget whole t u.written given → IsCutByMemory now after given → IsCutByMemory before after (responses whole t.verdicts)
  memory_cut given m cut =
      subst (IsCutByMemory before after) (sym (ap (λ (c : Course). c.bytes) m.course))
      (then_cut_by_memory before now after u.written (given ++ m.rest.bytes) u.out (cut_by_memory_within now after given m.rest.bytes cut))

  all_written : (given : List ℕ) (fails : Bool) → IsOver budget whole t u.written given fails → IsWritten now after given → IsWritten before after (responses whole t.verdicts)
  all_written given fails o w = subst (IsWritten before after) (sym (ap (λ (c : Course). c.bytes) o.course)) (then_written before now after u.written given u.out w)

  -- nothing more was written
  unanswered : IsUnanswered s t now after → Responds budget whole before after ending.Memory t.verdicts
  unanswered n = (
    subst (AreJust true budget start [] whole.items) (append-nil s.verdicts ∙ sym n.verdicts) (u.just true [] (none_yet budget s u.terms u.items)),
    inr (record {
      front = u.written;
      rest = (course s u.items whole.last []).bytes;
      parts = ap (λ (c : Course). c.bytes) (ap (course_of whole) (n.verdicts ∙ sym (append-nil s.verdicts)) ∙ u.course []);
      written = subst (λ x. IsWritten before x u.written) (sym n.same) u.out;
    }),
  )

  module _ (session : IsSession s) (text : List ℕ) (line : ℕ) (left : Reading) (e : r ≡ with_top text line left) where
    head : Head budget whole s u.terms u.written text line left
    head = head_by budget whole s u.terms u.written text line left u.items (subst (λ (x : Reading). AreTold x.tops u.items) e u.told) u.course u.just

    pub goes : ((i : Item) → IsTold (record { text = text; line = line }) i → AnswerGives s t i budget now after None) → Underway budget whole before after t left
    goes gives =
        let h = head in
        let a = gives h.item h.is in
        goes_by law budget whole before now s session h.item h.items u.terms u.written u.says h.all h.just after t left a.0 h.told (u.ends ∙ ap (λ (x : Reading). x.last) e) (then_written before now after u.written a.0 u.out a.1.written) (turn s h.item) refl a.1.does

    moved : (i : Head budget whole s u.terms u.written text line left) (given : Said) → HasEffect s (turn s i.item) budget given t → IsMoved budget whole t u.written (bytes_of given)
    moved h given d = moved_text law budget whole before now s session h.item h.items u.terms u.written u.says h.all h.just t (turn s h.item) given refl d

    pub ends : (x : Ending) → ((i : Item) → IsTold (record { text = text; line = line }) i → AnswerGives s t i budget now after (Some x)) → Responds budget whole before after x t.verdicts
    ends ending.Done gives =
        let h = head in
        let a = gives h.item h.is in
        let o = over_exit law budget whole before now s session h.item h.items u.terms u.written u.says h.all h.just t (turn s h.item) a.0 refl a.1.does in
        (o.all, ap (λ (c : Course). c.fails) o.course, all_written a.0 false o a.1.written)
    ends ending.Error gives =
        let h = head in
        let a = gives h.item h.is in
        let o = over_error law budget whole before now s session h.item h.items u.terms u.written u.says h.all h.just t (turn s h.item) a.0 refl a.1.does in
        (o.all, ap (λ (c : Course). c.fails) o.course, all_written a.0 true o a.1.written)
    ends ending.ReadFault gives = gives head.item head.is
    ends ending.WriteFault gives =
        let h = head in
        let a = gives h.item h.is in
        let m = moved h a.given a.does in
        (m.first, fault_cut (bytes_of a.given) m a.cut)
    ends ending.Memory gives = by (gives head.item head.is)
      where
        by : (IsCut s t head.item budget (IsCutByMemory now after) ⊎ IsUnanswered s t now after) → Responds budget whole before after ending.Memory t.verdicts
        by (inl a) = let m = moved head a.given a.does in (m.first, inl (memory_cut (bytes_of a.given) m a.cut))
        by (inr n) = unanswered n

-- ---- behind the last item
module _ (budget : ℕ) (whole : Script) (before now after : SinkMoment) (s : State) (r : Reading) (u : Underway budget whole before now s r) (last : Last) (e : r ≡ record { tops = []; last = last }) where
  last_course : course_of whole s.verdicts ≡ behind u.written (at_last last)
  last_course =
      let none : u.items ≡ [] = none_left u.items (subst (λ (x : Reading). AreTold x.tops u.items) e u.told) in
      let ending : whole.last ≡ last = u.ends ∙ ap (λ (x : Reading). x.last) e in
      ap (course_of whole) (sym (append-nil s.verdicts)) ∙ u.course [] ∙ ap (λ is. behind u.written (course s is whole.last [])) none ∙ ap (behind u.written) (ended s whole.last []) ∙ ap (λ l. behind u.written (at_last l)) ending

  last_just : (may_miss : Bool) → AreJust may_miss budget start [] whole.items s.verdicts
  last_just may_miss =
      let none : u.items ≡ [] = none_left u.items (subst (λ (x : Reading). AreTold x.tops u.items) e u.told) in
      subst (AreJust may_miss budget start [] whole.items) (append-nil s.verdicts) (u.just may_miss [] (subst (λ is. AreJust may_miss budget s u.terms is []) (sym none) (ended_just may_miss budget s u.terms [] refl)))

pub at_end : (budget : ℕ) (whole : Script) (before now : SinkMoment) (s : State) (r : Reading) → r ≡ record { tops = []; last = last.End } → Underway budget whole before now s r → Responds budget whole before now ending.Done s.verdicts
at_end budget whole before now s r e u =
    let c = last_course budget whole before now now s r u last.End e in (
      last_just budget whole before now now s r u last.End e false,
      ap (λ (x : Course). x.fails) c,
      subst (IsWritten before now) (sym (append-nil u.written) ∙ sym (ap (λ (x : Course). x.bytes) c)) u.out,
    )

pub at_fault : (budget : ℕ) (whole : Script) (before now after : SinkMoment) (s : State) (r : Reading) (fault : Fault) → r ≡ stops fault → (x : Ending) → RefuseGives fault now after x → Underway budget whole before now s r → Responds budget whole before after x s.verdicts
at_fault budget whole before now after s r fault e ending.Error w u =
    let c = last_course budget whole before now after s r u (last.Bad fault) e in (
      last_just budget whole before now after s r u (last.Bad fault) e false,
      ap (λ (x : Course). x.fails) c,
      subst (IsWritten before after) (sym (ap (λ (x : Course). x.bytes) c)) (then_written before now after u.written (fault_line fault) u.out w),
    )
at_fault budget whole before now after s r fault e ending.WriteFault w u =
    let c = last_course budget whole before now after s r u (last.Bad fault) e in (
      last_just budget whole before now after s r u (last.Bad fault) e true,
      subst (IsCutByFault before after) (sym (ap (λ (x : Course). x.bytes) c)) (then_cut_by_fault before now after u.written (fault_line fault) u.out w),
    )
at_fault budget whole before now after s r fault e ending.Memory (inl w) u =
    let c = last_course budget whole before now after s r u (last.Bad fault) e in (
      last_just budget whole before now after s r u (last.Bad fault) e true,
      inl (subst (IsCutByMemory before after) (sym (ap (λ (x : Course). x.bytes) c)) (then_cut_by_memory before now after u.written (fault_line fault) u.out w)),
    )
at_fault budget whole before now after s r fault e ending.Memory (inr same) u =
    let c = last_course budget whole before now after s r u (last.Bad fault) e in (
      last_just budget whole before now after s r u (last.Bad fault) e true,
      inr (record { front = u.written; rest = fault_line fault; parts = ap (λ (x : Course). x.bytes) c; written = subst (λ x. IsWritten before x u.written) (sym same) u.out }),
    )
at_fault budget whole before now after s r fault e ending.Done w u = absurd w
at_fault budget whole before now after s r fault e ending.ReadFault w u = absurd w

-- ---- an item's response, and how its bytes were written
pub answered : (old new : State) (i : Item) (budget : ℕ) (before after : SinkMoment) (r : Said) (p : Result (Unit {0}) PutError) → HasEffect old (turn old i) budget r new → PutGives before after (bytes_of r) p → AnswerGives old new i budget before after (ended_with p (end_of r))
answered old new i budget before after (response.Text bytes) (Ok u) d w = (bytes, record { does = d; written = w })
answered old new i budget before after (response.Error bytes) (Ok u) d w = (bytes, record { does = d; written = w })
answered old new i budget before after (response.Exit bytes) (Ok u) d w = (bytes, record { does = d; written = w })
answered old new i budget before after r (Err put.Sink) d w = record { given = r; does = d; cut = w }
answered old new i budget before after r (Err put.Memory) d w = inl (record { given = r; does = d; cut = w })

-- the bytes of the item that a splitter gave
pub given_item : (given : Option (List ℕ)) (text : List ℕ) (line : ℕ) → Some text ≡ given → IsReady line given → IsItem text line × (line + length text < 2 ^ 64)
given_item (Some x) text line e ready =
    let same : x ≡ text = cc in
    (subst (λ t. IsItem t line) same ready.item, subst (λ t. line + length t < 2 ^ 64) same ready.lines)
given_item None text line e ready = absurd cc

pub given_text : (given : Option (List ℕ)) (text : List ℕ) → Some text ≡ given → unwrap_or given [] ≡ text
given_text (Some x) text e = cc
given_text None text e = absurd cc
