-- What a script prints where it is solved is accepted where it is followed.
use Rattle.std.proofs.Common.{◌≡◌, if◌then◌else◌, ℕ, zero, suc, ◌+◌, Bool, true, false, List, [], ◌∷◌, ◌++◌, length, cond, Option, Some, None, slice_get, Result, Ok, refl, sym, ap, ◌∙◌, append_assoc, append-nil, subst, inl, inr, arith}
use Rattle.std.specs.Prelude.{◌⊎◌}
use Rattle.std.specs.List.{AllZip, IsDistinct}
use Rattle.sc_text.specs.declared.code.Code.{Code}
use Rattle.sc_text.specs.Fronts.{front, gap}
use Rattle.sc_text.specs.Readings.{Lexeme, End, first, rest_of, Reads, Begins as BeginsWith, Whole}
use Rattle.sc_text.proofs.Readings.{one}
use Rattle.sc_sexpr.specs.declared.item.Last.{Last}
use Rattle.sc_sexpr.specs.View.{View}
use Rattle.sc_commands.specs.Commands.{CommandShape, GetProof}
use Rattle.sc_commands.specs.Forms.{command_of}
use Rattle.sc_terms.specs.declared.nodes.Node.{Node}
use Rattle.sc_terms.specs.declared.problem.Parts.{Parts}
use Rattle.sc_terms.specs.Bank.{IsBank, Begins}
use Rattle.sc_stack.specs.Names.{assertions_in_force}
use Rattle.sc_flatten.specs.Laws.{StocksStay}
use Rattle.sc_flatten.specs.Stock.{stock}
use Rattle.sc_facts.specs.Facts.{root_facts}
use Rattle.sc_deriv.specs.declared.derivation.Derivation.{Derivation}
use Rattle.sc_deriv.specs.declared.derivation.Judgement.TheVariants.{Accepted}
use Rattle.sc_deriv.specs.Acceptance.{hypotheses_of}
use Rattle.sc_deriv.specs.Spelling.{IsSpelt}
use Rattle.sc_deriv.specs.Laws.{AcceptsClosedTrees}
use Rattle.sc_deriv_text.specs.Laws.{TextsHaveTokens, ItemsHaveTokens}
use Rattle.sc_deriv_text.specs.Reading.{reading}
use Rattle.sc_deriv_text.specs.Sexpr.{tokens_of}
use Rattle.sc_deriv_text.specs.Spelling.{derivation_expr, Fits}
use Rattle.sc_deriv_text.specs.Text.{item_of, text_of}
use Rattle.sc_deriv_text.proofs.ReadBack.{shapes_read_back}
use Rattle.sc_tree.specs.declared.verdict.Verdict.{Verdict}
use Rattle.sc_tree.specs.Verdicts.{Refutes}
use Rattle.sc_session.specs.Said as said
use Rattle.sc_session.specs.declared.tracing.Traced.TheVariants as traced
use Rattle.sc_session.specs.Scripts.{Item, IsTold}
use Rattle.sc_session.specs.States.{State, start, with_verdict, proof}
use Rattle.sc_session.specs.Effects.{Effect, Answers, Checks, get_proof, effect_of, turn, verdict_line}
use Rattle.sc_session.specs.Giving.{IsGiven}
use Rattle.sc_session.specs.Meaning.{Assertion}
use Rattle.sc_session.specs.Courses.{Course, course_after, course, just_after, AreJust}
use Rattle.sc_session.specs.Tracing.{step, GoesOn}
use Rattle.sc_session.specs.Laws.{SayTheSame}
use Rattle.sc_session.specs.Proving.{Proves, ProofsRefute, beside, IsKnown, TracesGoAlong}
use Rattle.sc_check.specs.declared.finding.Finding.TheVariants as found
use Rattle.sc_check.specs.Lines.{Tally, judged, finding, finding_line, is_derivation, with_finding, tally}
use Rattle.sc_check.specs.Reports.{standing, follow, Judges}
use Rattle.sc_check.specs.Printed.{proof_for, with_proof, proofs_after, proofs, proofs_of, Prints, none, next, ProofsArePrinted, IsFollowed, IsCopyOf, derivations_in, accepted_lines, all_accepted, AreAccepted, PrintedAreAccepted, ChecksAcceptPrinted}
use Rattle.sc_check.proofs.Asking.{IsOther, kind_of, known_quiet, is_loud, goes_behind, session_is, last_ends}
use Rattle.sc_check.proofs.Growing.{Elaborates, IsSound, begins_then, grow, reach}

-- ---- the proofs of a course, and what is asked where it is followed
-- each derivation refutes the problem of the assertions at its place, and can be read back
abbrev Answered : List Node → List Derivation → List (List ℕ) → Type 0
Answered bank [] lists = Unit {0}
Answered bank (d ∷ ds) [] = ⊥
Answered bank (d ∷ ds) (ns ∷ lists) = Refutes (stock bank ns) d × Fits d × Answered bank ds lists

record Meets (bank : List Node) (before asked : List (List ℕ)) (ds : List Derivation) : Type 0 where
  news : List (List ℕ)
  parts : asked ≡ before ++ news
  answered : Answered bank ds news

said_is : {r q : said.Said} {s t : State} → Answers r s ≡ Answers q t → s ≡ t
said_is e = cc

module _
    (grows : Elaborates)
    (stocks : StocksStay) (refute : ProofsRefute) (along : TracesGoAlong) (same : SayTheSame)
    (may_miss : Bool) (budget : ℕ) (leaving : Item) (behind : List Item) (session : State) (asked : List (List ℕ)) (exits : (step session leaving).given ≡ traced.Exit) where
  abbrev final : List Node
  final = (step session leaving).session.bank

  abbrev Goes : State → List (List ℕ) → List Item → Type 0
  Goes s before is = follow (Some (standing (beside s []) before)) is ≡ Some (standing session asked)

  abbrev Ahead : List Item → Type 0
  Ahead is =
      (t : State) (vs : List Verdict) (terms : List Assertion) (before : List (List ℕ)) → IsSound t → Proves t → AreJust may_miss budget t terms (is ++ leaving ∷ behind) vs → Goes t before is → Meets final before asked (proofs t (is ++ leaving ∷ behind) vs)

  aside : (s : State) → IsSound s → IsSound (beside s [])
  aside s sound = record { bank = sound.bank; assertions = sound.assertions }

  back : (s : State) → IsSound (beside s []) → IsSound s
  back s sound = record { bank = sound.bank; assertions = sound.assertions }

  -- what is asked from here on, and the terms made
  reached : (s : State) (before : List (List ℕ)) (is : List Item) → IsSound s → Goes s before is → Begins s.bank final × Meets final before asked []
  reached s before is sound goes =
      let r = reach grows is (standing (beside s []) before) (standing session asked) (aside s sound) goes in
      let last = grow grows session leaving r.leads.sound (subst GoesOn (sym exits) tt) in
      (begins_then s.bank session.bank final r.leads.begins last.begins, record { news = r.news; parts = r.asked; answered = tt })

  -- ---- an item
  module _ (s : State) (vs : List Verdict) (terms : List Assertion) (before : List (List ℕ)) (i : Item) (is : List Item) (sound : IsSound s) (proves : Proves s) (goes : Goes s before (i ∷ is)) (ahead : Ahead is) where
    abbrev all : List Item
    all = is ++ leaving ∷ behind

    abbrev rest : State → List Verdict → List Derivation
    rest t us = proofs t all us

    abbrev Just : Effect → Type 0
    Just e = just_after may_miss budget e s terms i vs (λ t more us. AreJust may_miss budget t more all us)

    -- the session behind it
    sound_behind : (t : State) → (step (beside s []) i).session ≡ beside t [] → GoesOn (step (beside s []) i).given → IsSound t
    sound_behind t e g = back t (subst IsSound e (grow grows (beside s []) i (aside s sound) g).sound)

    no_more : Meets final before asked []
    no_more = (reached s before (i ∷ is) sound goes).1

    -- it asks for no derivation
    quietly : (t : State) (us : List Verdict) (more : List Assertion) → Proves t → AreJust may_miss budget t more all us → (step (beside s []) i).session ≡ beside t [] → (step (beside s []) i).given ≡ traced.Nothing → Meets final before asked (rest t us)
    quietly t us more holds just e given = ahead t us more before (sound_behind t e (subst GoesOn (sym given) tt)) holds just (goes_behind (beside s []) (beside t []) i is before (standing session asked) traced.Nothing goes e given)

    checks : (problem : Parts) (us : List Verdict) → turn s i ≡ Checks problem → just_after may_miss budget (Checks problem) s terms i us (λ t more ws. AreJust may_miss budget t more all ws) → Meets final before asked (proofs_after (Checks problem) s us rest)
    checks problem [] e just = no_more
    checks problem (v ∷ us) e just =
        let step_is = along.checked s [] i problem v e in
        quietly (with_verdict s v) us terms (refute.checked s budget v (subst (λ p. IsGiven p budget v) (same.checks s i problem e) just.0)) just.2 step_is.0 step_is.1

    other : ((ns : List ℕ) → (step (beside s []) i).given ≡ traced.Proof ns → ⊥) → (e : Effect) → turn s i ≡ e → Just e → Meets final before asked (proofs_after e s vs rest)
    other unasked (Answers (said.Text bytes) t) e just =
        let step_is = along.answered s t [] i (said.Text bytes) e in
        quietly t vs _ (refute.goes_on s t i bytes proves e) just step_is.0 (known_quiet s bytes (step (beside s []) i).given unasked step_is.1)
    other unasked (Answers (said.Error bytes) t) e just = no_more
    other unasked (Answers (said.Exit bytes) t) e just = no_more
    other unasked (Checks problem) e just = checks problem vs e just

    -- it is a get-proof
    proved : (d : Derivation) → proof s ≡ Some d → turn s i ≡ Answers (said.Text (text_of d)) s → ((step (beside s []) i).given ≡ traced.Nothing → ⊥) → Just (Answers (said.Text (text_of d)) s) → Meets final before asked (d ∷ rest s vs)
    proved d is_proof e loud just = by (along.answered s s [] i (said.Text (text_of d)) e)
      where
        by : ((step (beside s []) i).session ≡ beside s []) × IsKnown s (said.Text (text_of d)) (step (beside s []) i).given → Meets final before asked (d ∷ rest s vs)
        by (q, inl quiet) = absurd (loud quiet)
        by (q, inr (d', is_proof', text, given)) =
            let in_force : List ℕ = assertions_in_force s.names in
            let others = ahead s vs _ (before ++ in_force ∷ []) sound proves just (goes_behind (beside s []) (beside s []) i is before (standing session asked) (traced.Proof in_force) goes q given) in
            let grown = (reached s before (i ∷ is) sound goes).0 in
            let still : stock final in_force ≡ stock s.bank in_force = stocks s.bank final grown in_force sound.bank sound.assertions in
            record {
              news = in_force ∷ others.news;
              parts = others.parts ∙ append_assoc before (in_force ∷ []) others.news;
              answered = (subst (λ p. Refutes p d) (sym still) (proves d is_proof).0, (proves d is_proof).1, others.answered);
            }

    asks : (p : Option Derivation) → proof s ≡ p → (e : Effect) → turn s i ≡ e → e ≡ get_proof p s i.line → ((step (beside s []) i).given ≡ traced.Nothing → ⊥) → Just e → Meets final before asked (with_proof p (proofs_after e s vs rest))
    asks (Some d) is_proof e is made loud just =
        subst (λ x. Meets final before asked (d ∷ proofs_after x s vs rest)) (sym made)
        (proved d is_proof (is ∙ made) loud (subst Just made just))
    asks None is_proof e is made loud just = subst (λ x. Meets final before asked (proofs_after x s vs rest)) (sym made) no_more

    just_now : AreJust may_miss budget s terms (i ∷ all) vs → Just (turn s i)
    unfolding AreJust
    just_now just = just

    put : Meets final before asked (with_proof (proof_for (command_of i.shape) s) (proofs_after (turn s i) s vs rest)) → Meets final before asked (proofs s (i ∷ all) vs)
    unfolding proofs
    put m = m

    item : AreJust may_miss budget s terms (i ∷ all) vs → Meets final before asked (proofs s (i ∷ all) vs)
    item just = by (kind_of (command_of i.shape))
      where
        by : (command_of i.shape ≡ Ok GetProof) ⊎ IsOther (command_of i.shape) → Meets final before asked (proofs s (i ∷ all) vs)
        by (inl is) =
            put (subst (λ p. Meets final before asked (with_proof p (proofs_after (turn s i) s vs rest))) (ap (λ c. proof_for c s) (sym is))
            (asks (proof s) refl (turn s i) refl (ap (λ c. effect_of c s i.line) is) (is_loud s i is).0 (just_now just)))
        by (inr o) =
            put (subst (λ p. Meets final before asked (with_proof p (proofs_after (turn s i) s vs rest))) (sym (o.silent s))
            (other (o.unasked (beside s []) i.line) (turn s i) refl (just_now just)))

  all_meet : (is : List Item) → Ahead is
  all_meet [] s vs terms before sound proves just goes =
      let at = session_is (beside s []) session before asked goes in
      subst (Meets final before asked) (sym (last_ends along leaving behind s vs (ap (λ t. (step t leaving).given) at.0 ∙ exits))) (record { news = []; parts = sym at.1 ∙ sym (append-nil before); answered = tt })
  all_meet (i ∷ is) s vs terms before sound proves just goes = item s vs terms before i is sound proves goes (all_meet is) just

-- ---- copies
-- the k-th was asked for
record IsAsked (bank : List Node) (lists : List (List ℕ)) (k : ℕ) (d : Derivation) : Type 0 where
  assertions : List ℕ
  at : slice_get lists k ≡ Some assertions
  refutes : Refutes (stock bank assertions) d
  fits : Fits d

derivation_is : (d e : Derivation) → Some d ≡ Some e → d ≡ e
derivation_is d e h = cc

asked_at : (bank : List Node) (ds : List Derivation) (lists : List (List ℕ)) → Answered bank ds lists → (k : ℕ) (d : Derivation) → slice_get ds k ≡ Some d → IsAsked bank lists k d
asked_at bank [] lists a k d e = absurd cc
asked_at bank (x ∷ ds) [] a k d e = absurd a
asked_at bank (x ∷ ds) (ns ∷ lists) a zero d e = record { assertions = ns; at = refl; refutes = subst (Refutes (stock bank ns)) (derivation_is x d e) a.0; fits = subst Fits (derivation_is x d e) a.1 }
asked_at bank (x ∷ ds) (ns ∷ lists) a (suc k) d e = let r = asked_at bank ds lists a.2 k d e in record { assertions = r.assertions; at = r.at; refutes = r.refutes; fits = r.fits }

-- a text that is no more than these tokens
nothing_left : first true [] ≡ End Whole
unfolding first front gap
nothing_left = refl

begins_reads : (text : List ℕ) (ts : List Lexeme) → BeginsWith true text ts [] → Reads true text ts Whole
begins_reads text [] e = subst (λ x. first true x ≡ End Whole) (sym e) nothing_left
begins_reads text (t ∷ ts) (e, others) = (e, begins_reads (rest_of true text) ts others)

module _ (accepts : AcceptsClosedTrees) (have : TextsHaveTokens) (items_begin : ItemsHaveTokens) (bank : List Node) (asked : List (List ℕ)) where
  copy_reads : (d : Derivation) (i : Item) → IsSpelt d → Fits d → IsCopyOf d i → reading i.shape ≡ Ok d
  copy_reads d i spelt fits copy =
      let tokens_are = (one true (text_of d) copy.tokens (tokens_of (derivation_expr d)) Whole Whole copy.printed (have d spelt fits)).0 in
      shapes_read_back d spelt fits copy.piece.text copy.piece.line i.shape (subst (λ ts. Reads true copy.piece.text ts Whole) tokens_are copy.copied) copy.told.tokens

  copy_accepted : (k : ℕ) (d : Derivation) (i : Item) → IsAsked bank asked k d → IsCopyOf d i → finding bank (slice_get asked k) i.shape ≡ found.Judged Accepted
  copy_accepted k d i a copy =
      let problem : Parts = stock bank a.assertions in
      ap (λ o. finding bank o i.shape) a.at
      ∙ ap (λ r. found.Judged (judged problem r)) (copy_reads d i a.refutes.spelt a.fits copy)
      ∙ ap (λ j. found.Judged j) ((accepts problem (hypotheses_of d.lemmas) (root_facts problem.roots) d.nodes).1 a.refutes.closed)

  own_text : (d : Derivation) (i : Item) (line : ℕ) → IsSpelt d → Fits d → IsTold (record { text = item_of d; line = line }) i → IsCopyOf d i
  own_text d i line spelt fits told =
      let ts : List Lexeme = tokens_of (derivation_expr d) in
      record {
        tokens = ts;
        printed = have d spelt fits;
        piece = record { text = item_of d; line = line };
        copied = begins_reads (item_of d) ts (subst (λ x. BeginsWith true x ts []) (append-nil (item_of d)) ((items_begin d).1 spelt fits []));
        told = told;
      }

  -- the derivations that are still to come
  abbrev Come : ℕ → List Derivation → Type 0
  Come n ds = (k : ℕ) (d : Derivation) (i : Item) → slice_get ds k ≡ Some d → IsCopyOf d i → finding bank (slice_get asked (n + k)) i.shape ≡ found.Judged Accepted

  later : (n : ℕ) (d : Derivation) (ds : List Derivation) → Come n (d ∷ ds) → Come (suc n) ds
  later n d ds come k e i at copy =
      let shifted : n + suc k ≡ suc n + k = omega arith in
      subst (λ m. finding bank (slice_get asked m) i.shape ≡ found.Judged Accepted) shifted (come (suc k) e i at copy)

  next_line : (n : ℕ) → with_finding (all_accepted n) (found.Judged Accepted) ≡ all_accepted (suc n)
  next_line n = let one_more : n + 1 ≡ suc n = omega arith in ap (λ m. record { bytes = accepted_lines n ++ finding_line m (found.Judged Accepted); count = m; refused = false }) one_more

  judged_next : (n : ℕ) (d : Derivation) (ds : List Derivation) (i : Item) → Come n (d ∷ ds) → IsCopyOf d i → with_finding (all_accepted n) (finding bank (slice_get asked n) i.shape) ≡ all_accepted (suc n)
  judged_next n d ds i come copy =
      let here : n + 0 ≡ n = omega arith in
      ap (with_finding (all_accepted n)) (subst (λ m. finding bank (slice_get asked m) i.shape ≡ found.Judged Accepted) here (come 0 d i refl copy)) ∙ next_line n

  -- an item of the transcript
  one_item : (n : ℕ) (ds : List Derivation) (i : Item) (items : List Item) → Come n ds
      → ((m : ℕ) (es : List Derivation) → Come m es → AllZip IsCopyOf es (derivations_in items) → tally bank asked (all_accepted m) items ≡ all_accepted (m + length es))
      → (b : Bool) → is_derivation i.shape ≡ b → AllZip IsCopyOf ds (cond b (i ∷ derivations_in items) (derivations_in items))
      → tally bank asked (if b then with_finding (all_accepted n) (finding bank (slice_get asked n) i.shape) else all_accepted n) items ≡ all_accepted (n + length ds)
  one_item n ds i items come ahead false e zip = ahead n ds come zip
  one_item n [] i items come ahead true e zip = absurd zip
  one_item n (d ∷ ds) i items come ahead true e zip =
      let shifted : suc n + length ds ≡ n + suc (length ds) = omega arith in
      ap (λ t. tally bank asked t items) (judged_next n d ds i come zip.0) ∙ ahead (suc n) ds (later n d ds come) zip.1 ∙ ap all_accepted shifted

  no_items : (n : ℕ) (ds : List Derivation) → AllZip IsCopyOf ds [] → all_accepted n ≡ all_accepted (n + length ds)
  no_items n [] zip = let same : n ≡ n + 0 = omega arith in ap all_accepted same
  no_items n (d ∷ ds) zip = absurd zip

  all_lines : (items : List Item) (n : ℕ) (ds : List Derivation) → Come n ds → AllZip IsCopyOf ds (derivations_in items) → tally bank asked (all_accepted n) items ≡ all_accepted (n + length ds)
  all_lines [] n ds come zip = no_items n ds zip
  all_lines (i ∷ items) n ds come zip = one_item n ds i items come (all_lines items) (is_derivation i.shape) refl zip

  are_accepted : (ds : List Derivation) → ((k : ℕ) (d : Derivation) → slice_get ds k ≡ Some d → IsAsked bank asked k d) → AreAccepted bank asked ds
  are_accepted ds a =
      let copies : (k : ℕ) (d : Derivation) (i : Item) → slice_get ds k ≡ Some d → IsCopyOf d i → finding bank (slice_get asked k) i.shape ≡ found.Judged Accepted = λ k d i at. copy_accepted k d i (a k d at) in
      let come : Come 0 ds = λ k d i at copy. let shifted : k ≡ 0 + k = omega arith in subst (λ m. finding bank (slice_get asked m) i.shape ≡ found.Judged Accepted) shifted (copies k d i at copy) in
      record {
        own_texts = λ k d i line at. own_text d i line (a k d at).refutes.spelt (a k d at).fits;
        copies = copies;
        lines = λ items zip. let shifted : 0 + length ds ≡ length ds = omega arith in all_lines items 0 ds come zip ∙ ap all_accepted shifted;
      }

nothing_made : IsBank []
unfolding IsDistinct
nothing_made = record { stands = λ n x e. absurd cc; different = tt; few = omega arith }

-- what was judged was followed
pub followed_to : (v y : View) (t : Tally) (j : Judges v t y) (items later_items : List Item) → items ≡ j.follows.items ++ j.leaves.i ∷ later_items → IsFollowed items j.script.asked (step j.script.session j.leaves.i).session.bank
followed_to v y t j items later_items parts = record { before = j.follows.items; leaving = j.leaves.i; behind = later_items; session = j.script.session; parts = parts; follows = j.follows.follows; leaves = j.leaves.ends; terms = refl }

module _ (grows : Elaborates) (stocks : StocksStay) (refute : ProofsRefute) (along : TracesGoAlong) (same : SayTheSame) (accepts : AcceptsClosedTrees) (have : TextsHaveTokens) (items_begin : ItemsHaveTokens) where
  pub printed_are_accepted : PrintedAreAccepted
  printed_are_accepted may_miss budget script verdicts just asked bank f =
      let sound : IsSound start = record { bank = nothing_made; assertions = tt } in
      let just_parts = subst (λ is. AreJust may_miss budget start [] is verdicts) f.parts just in
      let m = all_meet grows stocks refute along same may_miss budget f.leaving f.behind f.session asked f.leaves f.before start verdicts [] [] sound refute.starts just_parts f.follows in
      let meets = subst (λ is. Meets (step f.session f.leaving).session.bank [] asked (proofs start is verdicts)) (sym f.parts) m in
      let there = subst (λ k. Answered k (proofs_of script verdicts) meets.news) (sym f.terms) meets.answered in
      are_accepted accepts have items_begin bank asked (proofs_of script verdicts) (λ k d at. asked_at bank (proofs_of script verdicts) asked (subst (Answered bank (proofs_of script verdicts)) (sym meets.parts) there) k d at)

  pub checks_accept_printed : ChecksAcceptPrinted
  checks_accept_printed may_miss budget script verdicts just v y t j later_items parts copies =
      j.tallied ∙ (printed_are_accepted may_miss budget script verdicts just j.script.asked (step j.script.session j.leaves.i).session.bank (followed_to v y t j script.items later_items parts)).lines j.items copies

-- ---- the texts stand in the responses
later_bytes : (bytes rest : List ℕ) (ds : List Derivation) → Prints ds rest → Prints ds (bytes ++ rest)
later_bytes bytes rest ds (none r) = none (bytes ++ r)
later_bytes bytes rest ds (next before after d es p) = subst (Prints (d ∷ es)) (append_assoc bytes before (text_of d ++ after)) (next (bytes ++ before) after d es p)

module _ (s : State) (vs : List Verdict) (i : Item) (is : List Item) (last : Last) (ahead : (t : State) (us : List Verdict) → Prints (proofs t is us) (course t is last us).bytes) where
  abbrev far : State → List Verdict → Course
  far t us = course t is last us

  abbrev beyond : State → List Verdict → List Derivation
  beyond t us = proofs t is us

  goes_by : (e : Effect) → Prints (proofs_after e s vs beyond) (course_after e s vs far).bytes
  goes_by (Answers (said.Text bytes) t) = later_bytes bytes (far t vs).bytes (beyond t vs) (ahead t vs)
  goes_by (Answers (said.Error bytes) t) = none bytes
  goes_by (Answers (said.Exit bytes) t) = none bytes
  goes_by (Checks problem) = by vs
    where
      by : (us : List Verdict) → Prints (proofs_after (Checks problem) s us beyond) (course_after (Checks problem) s us far).bytes
      by [] = none []
      by (v ∷ us) = later_bytes (verdict_line v) (far (with_verdict s v) us).bytes (beyond (with_verdict s v) us) (ahead (with_verdict s v) us)

  answers : (p : Option Derivation) → Prints (with_proof p (proofs_after (get_proof p s i.line) s vs beyond)) (course_after (get_proof p s i.line) s vs far).bytes
  answers (Some d) = next [] (far s vs).bytes d (beyond s vs) (ahead s vs)
  answers None = none _

  by_kind : (c : Result CommandShape Code) → (c ≡ Ok GetProof) ⊎ IsOther c → Prints (with_proof (proof_for c s) (proofs_after (effect_of c s i.line) s vs beyond)) (course_after (effect_of c s i.line) s vs far).bytes
  by_kind c (inl e) = subst (λ x. Prints (with_proof (proof_for x s) (proofs_after (effect_of x s i.line) s vs beyond)) (course_after (effect_of x s i.line) s vs far).bytes) (sym e) (answers (proof s))
  by_kind c (inr o) = subst (λ p. Prints (with_proof p (proofs_after (effect_of c s i.line) s vs beyond)) (course_after (effect_of c s i.line) s vs far).bytes) (sym (o.silent s)) (goes_by (effect_of c s i.line))

  one_prints : Prints (proofs s (i ∷ is) vs) (course s (i ∷ is) last vs).bytes
  unfolding proofs course
  one_prints = by_kind (command_of i.shape) (kind_of (command_of i.shape))

prints : (is : List Item) (last : Last) (s : State) (vs : List Verdict) → Prints (proofs s is vs) (course s is last vs).bytes
unfolding proofs course
prints [] last s vs = none _
prints (i ∷ is) last s vs = one_prints s vs i is last (prints is last)

pub proofs_are_printed : ProofsArePrinted
proofs_are_printed script verdicts = prints script.items script.last start verdicts
