-- Lines that are written one after the other.
use Rattle.std.proofs.Common.{◌≡◌, if◌then◌else◌, ℕ, ◌+◌, Bool, true, false, List, [], ◌∷◌, ◌++◌, Option, Some, None, Bor, option_map, is_some, ltb, length, get_or, slice_get, Result, Ok, Err, refl, sym, ap, ◌∙◌, subst, inl, inr}
use Rattle.std.proofs.lemmas.Bool.{ltb-true, ltb-false}
use Rattle.std.proofs.lemmas.Option.{slice_get_past, slice_get_read}
use Rattle.std.specs.Prelude.{◌↔◌, ◌==◌, IfOk, IfSome}
use Rattle.sc_io.specs.Moments.{SinkMoment}
use Rattle.sc_io.specs.Writing.{IsWritten, IsCutByFault, IsCutByMemory}
use Rattle.sc_io.proofs.Writings.{nothing_written, then_written, then_cut_by_fault, then_cut_by_memory}
use Rattle.sc_sexpr.specs.declared.item.Fault.{Fault}
use Rattle.sc_sexpr.specs.declared.item.Item.TheVariants as item
use Rattle.sc_sexpr.specs.Scans.{Piece}
use Rattle.sc_sexpr.specs.View.{View, keeping, answer}
use Rattle.sc_terms.specs.declared.nodes.Node.{Node}
use Rattle.sc_terms.specs.declared.problem.Parts.{Parts}
use Rattle.sc_facts.specs.declared.fact.Fact.{Fact}
use Rattle.sc_deriv.specs.declared.derivation.Node.{Node as Part}
use Rattle.sc_deriv.specs.declared.derivation.Reason.{Reason}
use Rattle.sc_deriv.specs.declared.derivation.Judgement.{Judgement}
use Rattle.sc_deriv.specs.declared.derivation.Judgement.TheVariants.{Accepted, Refused}
use Rattle.sc_deriv.specs.declared.derivation.Derivation.{Derivation}
use Rattle.sc_deriv.specs.Acceptance.{Closed, Fails, hypotheses_of}
use Rattle.sc_deriv_text.specs.Reading.{reading}
use Rattle.sc_flatten.specs.Stock.{stock}
use Rattle.sc_facts.specs.Facts.{root_facts}
use Rattle.sc_sexpr.specs.Shapes.{Shape}
use Rattle.sc_sexpr.specs.Trees.{Tokens, place_of, marks_of}
use Rattle.sc_terms.specs.declared.memory.Memory.{Memory}
use Rattle.sc_deriv.specs.Spelling.{IsTree, IsSpelt}
use Rattle.sc_deriv.specs.Judging.{judgement_on}
use Rattle.sc_deriv.specs.Laws.{AcceptsClosedTrees, RefusesFirstFailure}
use Rattle.sc_session.specs.Scripts.{Item, IsTold}
use Rattle.sc_session.specs.Courses.{fault_line}
use Rattle.sc_check.specs.declared.ending.Ending.{Ending}
use Rattle.sc_check.specs.declared.ending.Ending.TheVariants as ending
use Rattle.sc_check.specs.declared.finding.Finding.{Finding}
use Rattle.sc_check.specs.declared.judge.Count.{Count}
use Rattle.sc_check.specs.Lines.{Tally, no_lines, judged, finding, finding_line, is_derivation, with_finding, with_item, tally}
use Rattle.sc_check.specs.Reports.{none, more}
use Rattle.sc_check.specs.Judging.{Either, TellGives, IsItem, ItemGives, IsPassed, RefuseGives, ending_of, IsTallied, IsJudged, IsFaulty, IsStopped, TranscriptGives}
use Rattle.sc_check.proofs.Following.{next_item}

-- ---- an element that was looked up
pub looked_up : {X : Type 0} (xs : List X) (n : ℕ) (r : Option (Bor X)) → is_some r ≡ ltb n (length xs) → IfSome r (λ x. x.now ≡ get_or xs n x.now) → option_map (λ x. x.now) r ≡ slice_get xs n
looked_up xs n None within is = sym (slice_get_past xs n (ltb-false n (length xs) (sym within)))
looked_up xs n (Some x) within is = sym (slice_get_read xs (length xs) n x.now refl (ltb-true n (length xs) (sym within)) is)

-- ---- a judgement is exactly the definition's
pub exactly : AcceptsClosedTrees → RefusesFirstFailure → (problem : Parts) (lists : List (List Fact)) (path : List Fact) (nodes : List Part) → IsTree nodes → (j : Judgement) → ((j ≡ Accepted) ↔ Closed problem lists path nodes) → ((n : ℕ) (r : Reason) → (j ≡ Refused n r) ↔ Fails problem lists path nodes n r) → j ≡ judgement_on problem lists path nodes
exactly accepts refuses problem lists path nodes tree Accepted a b = sym ((accepts problem lists path nodes).1 (a.0 refl))
exactly accepts refuses problem lists path nodes tree (Refused n r) a b = sym ((refuses problem lists path nodes tree n r).1 ((b n r).0 refl))

-- and so is what is found of a derivation that was read
pub judged_if : AcceptsClosedTrees → RefusesFirstFailure → (bank : List Node) (assertions : List ℕ) (s : Shape) (problem : Parts) (d : Derivation) (r : Result Judgement Memory) → problem ≡ stock bank assertions → reading s ≡ Ok d → IsSpelt d →
    IfOk r (λ j. (j ≡ Accepted) ↔ Closed problem (hypotheses_of d.lemmas) (root_facts problem.roots) d.nodes) → IfOk r (λ j. (n : ℕ) (reason : Reason) → (j ≡ Refused n reason) ↔ Fails problem (hypotheses_of d.lemmas) (root_facts problem.roots) d.nodes n reason) →
    IfOk r (λ j. j ≡ judged (stock bank assertions) (reading s))
judged_if accepts refuses bank assertions s problem d (Err e) is read spelt a b = tt
judged_if accepts refuses bank assertions s problem d (Ok j) is read spelt a b =
    exactly accepts refuses problem (hypotheses_of d.lemmas) (root_facts problem.roots) d.nodes spelt.tree j a b ∙ ap (λ p. judged p (Ok d)) is ∙ ap (judged (stock bank assertions)) (sym read)

tally_one_more : (bank : List Node) (asked : List (List ℕ)) (t : Tally) (is : List Item) (i : Item) → tally bank asked t (is ++ i ∷ []) ≡ with_item bank asked (tally bank asked t is) i
tally_one_more bank asked t [] i = refl
tally_one_more bank asked t (j ∷ is) i = tally_one_more bank asked (with_item bank asked t j) is i

-- the lines so far were written and counted
pub record IsTallying (v w : View) (bank : List Node) (asked : List (List ℕ)) (c : Count) (before now : SinkMoment) : Type 0 where
  pub lines : Tally
  pub tallied : IsTallied v bank asked lines w
  pub count : lines.count ≡ c.number
  pub refused : lines.refused ≡ c.refused
  pub written : IsWritten before now lines.bytes
  pub last : w.last ≡ true

pub begins : (v : View) (bank : List Node) (asked : List (List ℕ)) (c : Count) (a : SinkMoment) → c ≡ record { number = 0; refused = false } → v.last ≡ true → IsTallying v v bank asked c a a
begins v bank asked c a e last = record {
  lines = no_lines;
  tallied = record { items = []; gives = none; tallied = refl };
  count = ap (λ (x : Count). x.number) (sym e);
  refused = ap (λ (x : Count). x.refused) (sym e);
  written = nothing_written a;
  last = last;
}

-- an item that was read, and passed over or judged
module _ (bank : List Node) (asked : List (List ℕ)) (text : List ℕ) (line : ℕ) (s : Shape) (tokens : Tokens (place_of text line) (marks_of s)) (c d : Count) (now after : SinkMoment) where
  item_of : (J : Finding → Type 0) (P : Type 0) → Either (is_derivation s) (J (finding bank (slice_get asked c.number) s)) P → IsItem bank asked (record { text = text; line = line }) c.number J P
  item_of J P e = record { i = record { shape = s; line = line }; told = record { tokens = tokens; line = refl }; line = e }

  pub passed : is_derivation s ≡ false → d ≡ c → after ≡ now → ItemGives bank asked (record { text = text; line = line }) c d now after (Ok tt)
  passed e same still = item_of _ _ (subst (λ b. Either b (TellGives (finding bank (slice_get asked c.number) s) c d now after (Ok tt)) (IsPassed c d now after)) (sym e) (same, still))

  told_by : (r : Result (Unit {0}) Ending) (P : Type 0) → is_derivation s ≡ true → TellGives (finding bank (slice_get asked c.number) s) c d now after r → IsItem bank asked (record { text = text; line = line }) c.number (λ f. TellGives f c d now after r) P
  told_by r P e w = item_of (λ f. TellGives f c d now after r) P (subst (λ b. Either b (TellGives (finding bank (slice_get asked c.number) s) c d now after r) P) (sym e) w)

  pub told_line : (r : Result (Unit {0}) Ending) → is_derivation s ≡ true → TellGives (finding bank (slice_get asked c.number) s) c d now after r → ItemGives bank asked (record { text = text; line = line }) c d now after r
  told_line (Ok u) e w = told_by (Ok u) (IsPassed c d now after) e w
  told_line (Err ending.Memory) e w = inl (told_by (Err ending.Memory) ⊥ e w)
  told_line (Err ending.WriteFault) e w = told_by (Err ending.WriteFault) ⊥ e w
  told_line (Err ending.Done) e w = absurd w
  told_line (Err ending.Error) e w = absurd w
  told_line (Err ending.ReadFault) e w = absurd w
  told_line (Err ending.Refused) e w = absurd w
  told_line (Err ending.Nothing) e w = absurd w

never : (b : Bool) → Either b ⊥ ⊥ → ⊥
never true h = h
never false h = h

module _ (v x y : View) (bank : List Node) (asked : List (List ℕ)) (c d : Count) (before now after : SinkMoment) (u : IsTallying v x bank asked c before now)
    (line : ℕ) (text : List ℕ) (is : (answer x).item ≡ item.Top line) (view : y ≡ keeping y.kept (answer x).view) (given : Some text ≡ y.given) (last : y.last ≡ x.last) where
  abbrev piece : Piece
  piece = record { text = text; line = line }

  abbrev found : Item → ℕ → Finding
  found i n = finding bank (slice_get asked n) i.shape

  tallied_by : (i : Item) → IsTold piece i → (t : Tally) → t ≡ with_item bank asked u.lines i → IsTallied v bank asked t y
  tallied_by i told t e = record {
    items = u.tallied.items ++ i ∷ [];
    gives = more u.tallied.items x y i u.tallied.gives (next_item x y line text i is view given told);
    tallied = e ∙ ap (λ q. with_item bank asked q i) u.tallied.tallied ∙ sym (tally_one_more bank asked no_lines u.tallied.items i);
  }

  -- the item is a derivation, or none
  judged_item : (i : Item) → is_derivation i.shape ≡ true → with_finding u.lines (found i c.number) ≡ with_item bank asked u.lines i
  judged_item i e = ap (λ n. with_finding u.lines (found i n)) (sym u.count) ∙ ap (λ b. if b then with_finding u.lines (found i u.lines.count) else u.lines) (sym e)

  passed_item : (i : Item) → is_derivation i.shape ≡ false → u.lines ≡ with_item bank asked u.lines i
  passed_item i e = ap (λ b. if b then with_finding u.lines (found i u.lines.count) else u.lines) (sym e)

  line_is : (f : Finding) → finding_line (u.lines.count + 1) f ≡ finding_line (c.number + 1) f
  line_is f = ap (λ n. finding_line (n + 1) f) u.count

  pub goes : ItemGives bank asked piece c d now after (Ok tt) → IsTallying v y bank asked d before after
  goes k = by (is_derivation k.i.shape) refl k.line
    where
      by : (b : Bool) → is_derivation k.i.shape ≡ b → Either b (TellGives (found k.i c.number) c d now after (Ok tt)) (IsPassed c d now after) → IsTallying v y bank asked d before after
      by true e (w, counted) = record {
        lines = with_finding u.lines (found k.i c.number);
        tallied = tallied_by k.i k.told (with_finding u.lines (found k.i c.number)) (judged_item k.i e);
        count = ap (λ n. n + 1) u.count ∙ ap (λ (q : Count). q.number) (sym counted);
        refused = rw u.refused (ap (λ (q : Count). q.refused) (sym counted));
        written = then_written before now after u.lines.bytes (finding_line (u.lines.count + 1) (found k.i c.number)) u.written (subst (IsWritten now after) (sym (line_is (found k.i c.number))) w);
        last = last ∙ u.last;
      }
      by false e (same, still) = record {
        lines = u.lines;
        tallied = tallied_by k.i k.told u.lines (passed_item k.i e);
        count = u.count ∙ ap (λ (q : Count). q.number) (sym same);
        refused = u.refused ∙ ap (λ (q : Count). q.refused) (sym same);
        written = subst (λ m. IsWritten before m u.lines.bytes) (sym still) u.written;
        last = last ∙ u.last;
      }

  -- the same, of a call that gave no error
  pub goes_by : (r : Result (Unit {0}) Ending) → ItemGives bank asked piece c d now after r → ((e : Ending) → r ≡ Err e → ⊥) → IsTallying v y bank asked d before after
  goes_by (Ok u) k good = goes k
  goes_by (Err e) k good = absurd (good e refl)

  -- the lines before it were written
  pub left_off : after ≡ now → IsStopped v bank asked (IsWritten before after)
  left_off still = record { lines = u.lines; behind = x; tallied = u.tallied; puts = subst (λ m. IsWritten before m u.lines.bytes) (sym still) u.written }

  cut_line : (Cut : List ℕ → Type 0) (Within : List ℕ → Type 0) → ((xs : List ℕ) → Cut xs → Within (u.lines.bytes ++ xs)) → (i : Item) → IsTold piece i → is_derivation i.shape ≡ true → Cut (finding_line (c.number + 1) (found i c.number)) → IsStopped v bank asked Within
  cut_line Cut Within cuts i told e w = record {
    lines = with_finding u.lines (found i c.number);
    behind = y;
    tallied = tallied_by i told (with_finding u.lines (found i c.number)) (judged_item i e);
    puts = cuts (finding_line (u.lines.count + 1) (found i c.number)) (subst Cut (sym (line_is (found i c.number))) w);
  }

  pub stops : (e : Ending) → ItemGives bank asked piece c d now after (Err e) → TranscriptGives v bank asked before after e
  stops ending.Memory (inr still) = inr (inl (left_off still))
  stops ending.Memory (inl k) = by (is_derivation k.i.shape) refl k.line
    where
      by : (b : Bool) → is_derivation k.i.shape ≡ b → Either b (TellGives (found k.i c.number) c d now after (Err ending.Memory)) (⊥) → TranscriptGives v bank asked before after ending.Memory
      by true e (inl w) = inl (cut_line (IsCutByMemory now after) (IsCutByMemory before after) (λ xs q. then_cut_by_memory before now after u.lines.bytes xs u.written q) k.i k.told e w)
      by true e (inr still) = inr (inl (left_off still))
      by false e bad = absurd bad
  stops ending.WriteFault k = by (is_derivation k.i.shape) refl k.line
    where
      by : (b : Bool) → is_derivation k.i.shape ≡ b → Either b (TellGives (found k.i c.number) c d now after (Err ending.WriteFault)) (⊥) → TranscriptGives v bank asked before after ending.WriteFault
      by true e w = inl (cut_line (IsCutByFault now after) (IsCutByFault before after) (λ xs q. then_cut_by_fault before now after u.lines.bytes xs u.written q) k.i k.told e w)
      by false e bad = absurd bad
  stops ending.Done k = absurd (never (is_derivation k.i.shape) k.line)
  stops ending.Error k = absurd (never (is_derivation k.i.shape) k.line)
  stops ending.ReadFault k = absurd (never (is_derivation k.i.shape) k.line)
  stops ending.Refused k = absurd (never (is_derivation k.i.shape) k.line)
  stops ending.Nothing k = absurd (never (is_derivation k.i.shape) k.line)

-- ---- behind the last item
module _ (v x : View) (bank : List Node) (asked : List (List ℕ)) (c : Count) (before now after : SinkMoment) (u : IsTallying v x bank asked c before now) where
  end_by : (r n : Bool) → IsJudged v bank asked before now (if r then ending.Refused else if n then ending.Nothing else ending.Done) → TranscriptGives v bank asked before now (if r then ending.Refused else if n then ending.Nothing else ending.Done)
  end_by true n j = j
  end_by false true j = j
  end_by false false j = j

  pub at_end : (answer x).item ≡ item.End → TranscriptGives v bank asked before now (ending_of c)
  at_end is = end_by c.refused (c.number == 0) (record {
    lines = u.lines;
    behind = x;
    tallied = u.tallied;
    at_end = is;
    ending = rw (u.refused, u.count) refl;
    written = u.written;
  })

  faulty : (Puts : List ℕ → Type 0) (f : Fault) → (answer x).item ≡ item.Bad f → Puts (u.lines.bytes ++ fault_line f) → IsFaulty v bank asked Puts
  faulty Puts f is p = record { lines = u.lines; behind = x; fault = f; tallied = u.tallied; bad = is; puts = p }

  pub at_fault : (f : Fault) (bytes : List ℕ) (e : Ending) → (answer x).item ≡ item.Bad f → bytes ≡ fault_line f → RefuseGives bytes now after e → TranscriptGives v bank asked before after e
  at_fault f bytes ending.Error is b w = faulty (IsWritten before after) f is (then_written before now after u.lines.bytes (fault_line f) u.written (subst (IsWritten now after) b w))
  at_fault f bytes ending.WriteFault is b w = inr (faulty (IsCutByFault before after) f is (then_cut_by_fault before now after u.lines.bytes (fault_line f) u.written (subst (IsCutByFault now after) b w)))
  at_fault f bytes ending.Memory is b w = inr (inr (faulty (IsCutByMemory before after) f is (then_cut_by_memory before now after u.lines.bytes (fault_line f) u.written (subst (IsCutByMemory now after) b w))))
  at_fault f bytes ending.Done is b w = absurd w
  at_fault f bytes ending.ReadFault is b w = absurd w
  at_fault f bytes ending.Refused is b w = absurd w
  at_fault f bytes ending.Nothing is b w = absurd w

  pub before_fault : IsStopped v bank asked (IsWritten before now)
  before_fault = record { lines = u.lines; behind = x; tallied = u.tallied; puts = u.written }
