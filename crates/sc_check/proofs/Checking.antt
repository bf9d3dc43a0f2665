-- What is said of a whole text, from what following its script and judging its derivations do.
use Rattle.std.proofs.Common.{◌≡◌, ◌⊎◌, ℕ, List, [], ◌++◌, inl, inr, sym, ap, ◌∙◌, subst}
use Rattle.sc_io.specs.Moments.{SinkMoment}
use Rattle.sc_io.specs.Writing.{IsWritten}
use Rattle.sc_io.proofs.Writings.{nothing_written}
use Rattle.sc_sexpr.specs.View.{View, widened, answer}
use Rattle.sc_sexpr.specs.declared.item.Fault.{Fault}
use Rattle.sc_sexpr.specs.declared.item.Item.TheVariants as item
use Rattle.sc_session.specs.declared.tracing.Traced.TheVariants as traced
use Rattle.sc_session.specs.States.{State}
use Rattle.sc_session.specs.Courses.{fault_line}
use Rattle.sc_check.specs.declared.ending.Ending.{Ending}
use Rattle.sc_check.specs.declared.ending.Ending.TheVariants as ending
use Rattle.sc_check.specs.Lines.{Tally, no_lines, tally}
use Rattle.sc_check.specs.Reports.{most_more, Standing, standing, Follows, EndsScript, IsWhole, Gives, Judges, Reports, error, unended, script_fault, judged, transcript_fault, nothing, lines, whole}
use Rattle.sc_check.specs.Gathering.{IsGathered}
use Rattle.sc_check.specs.Following.{IsLeft, IsStopped, IsUnended}
use Rattle.sc_check.specs.Judging.{RefuseGives, IsTallied, IsJudged, IsFaulty, TranscriptGives}
use Rattle.sc_check.specs.Ends.{Moment, JudgeGives, IsReported, IsChecked, CheckEnds}

-- ---- behind (exit)
module _ (v w y : View) (asked : List (List ℕ)) (s : State) (a b : SinkMoment) (left : IsLeft v asked w s) (wide : y ≡ widened w most_more) where
  judges : (t : Tally) (z : View) → IsTallied y s.bank asked t z → Judges v t z
  judges t z k = record {
    script = standing left.script asked;
    before = left.before;
    behind = w;
    items = k.items;
    follows = left.follows;
    leaves = left.leaves;
    gives = subst (λ x. Gives x k.items z) wide k.gives;
    tallied = k.tallied ∙ ap (λ bank. tally bank asked no_lines k.items) left.terms;
  }

  reported : (e : Ending) → IsJudged y s.bank asked a b e → IsReported v a b e
  reported e j = record {
    bytes = j.lines.bytes;
    reports = subst (Reports v j.lines.bytes) (sym j.ending) (judged j.lines j.behind (judges j.lines j.behind j.tallied) j.at_end);
    written = j.written;
  }

  faulty : (Puts : List ℕ → Type 0) (f : IsFaulty y s.bank asked Puts) → Reports v (f.lines.bytes ++ fault_line f.fault) ending.Error
  faulty Puts f = transcript_fault f.lines f.behind f.fault (judges f.lines f.behind f.tallied) f.bad

  pub judged_text : (e : Ending) → TranscriptGives y s.bank asked a b e → JudgeGives v a b e
  judged_text ending.Done j = reported ending.Done j
  judged_text ending.Refused j = reported ending.Refused j
  judged_text ending.Nothing j = reported ending.Nothing j
  judged_text ending.Error f = record { bytes = f.lines.bytes ++ fault_line f.fault; reports = faulty (IsWritten a b) f; written = f.puts }
  judged_text ending.ReadFault x = absurd x
  judged_text ending.WriteFault (inl k) = record { bytes = k.lines.bytes; says = lines k.lines k.behind (judges k.lines k.behind k.tallied); cut = k.puts }
  judged_text ending.WriteFault (inr f) = record { bytes = f.lines.bytes ++ fault_line f.fault; says = whole _ ending.Error (faulty _ f); cut = f.puts }
  judged_text ending.Memory (inl k) = record { bytes = k.lines.bytes; says = lines k.lines k.behind (judges k.lines k.behind k.tallied); part = inl k.puts }
  judged_text ending.Memory (inr (inl k)) = record { bytes = k.lines.bytes; says = lines k.lines k.behind (judges k.lines k.behind k.tallied); part = inr k.puts }
  judged_text ending.Memory (inr (inr f)) = record { bytes = f.lines.bytes ++ fault_line f.fault; says = whole _ ending.Error (faulty _ f); part = inl f.puts }

-- ---- a script that does not come to (exit)
stopped_why : (v : View) (bytes : List ℕ) (script : Standing) (before : View) → Follows v script before → ((x : View) × EndsScript script before (traced.Error bytes) x) ⊎ ((f : Fault) × ((answer before).item ≡ item.Bad f) × (bytes ≡ fault_line f)) → Reports v bytes ending.Error
stopped_why v bytes script before follows (inl w) = error script before w.0 bytes follows w.1
stopped_why v bytes script before follows (inr w) = subst (λ xs. Reports v xs ending.Error) (sym w.2) (script_fault script before w.0 follows w.1)

stopped_reports : (v : View) (bytes : List ℕ) → IsStopped v bytes → Reports v bytes ending.Error
stopped_reports v bytes k = stopped_why v bytes k.script k.before k.follows k.why

stopped_by : (v : View) (bytes : List ℕ) (a b : SinkMoment) (e : Ending) → IsStopped v bytes → RefuseGives bytes a b e → JudgeGives v a b e
stopped_by v bytes a b ending.Error k w = record { bytes = bytes; reports = stopped_reports v bytes k; written = w }
stopped_by v bytes a b ending.WriteFault k w = record { bytes = bytes; says = whole bytes ending.Error (stopped_reports v bytes k); cut = w }
stopped_by v bytes a b ending.Memory k w = record { bytes = bytes; says = whole bytes ending.Error (stopped_reports v bytes k); part = inl w }
stopped_by v bytes a b ending.Done k w = absurd w
stopped_by v bytes a b ending.ReadFault k w = absurd w
stopped_by v bytes a b ending.Refused k w = absurd w
stopped_by v bytes a b ending.Nothing k w = absurd w

pub stopped_text : (v : View) (bytes line : List ℕ) (a b : SinkMoment) (e : Ending) → bytes ≡ line → IsStopped v line → RefuseGives bytes a b e → JudgeGives v a b e
stopped_text v bytes line a b e same k w = stopped_by v line a b e k (subst (λ xs. RefuseGives xs a b e) same w)

pub unended_text : (v : View) (a : SinkMoment) → IsUnended v → JudgeGives v a a ending.Nothing
unended_text v a k = record { bytes = []; reports = unended k.script k.before k.follows k.at_end; written = nothing_written a }

pub wanting : (v : View) (a : SinkMoment) → JudgeGives v a a ending.Memory
wanting v a = record { bytes = []; says = nothing; part = inr (nothing_written a) }

-- ---- the whole input
module _ (before after : Moment) (text : List ℕ) (v : View) (gathered : IsGathered before.source after.source text) (split : IsWhole v text) where
  checked : (e : Ending) → JudgeGives v before.sink after.sink e → IsChecked before after e
  checked e r = record { text = text; gathered = gathered; splitter = v; whole = split; judged = r }

  pub check_ends : (e : Ending) → JudgeGives v before.sink after.sink e → CheckEnds before after e
  check_ends ending.Done r = checked ending.Done r
  check_ends ending.Refused r = checked ending.Refused r
  check_ends ending.Nothing r = checked ending.Nothing r
  check_ends ending.Error r = checked ending.Error r
  check_ends ending.ReadFault r = absurd r
  check_ends ending.WriteFault r = checked ending.WriteFault r
  check_ends ending.Memory r = inr (checked ending.Memory r)
