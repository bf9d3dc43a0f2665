-- The input of a check, and what is said of it.
use Rattle.std.specs.Prelude.{◌≡◌, ℕ, ◌==◌, true, if◌then◌else◌, List, [], ◌∷◌, ◌++◌, Option, Some, None}
use Rattle.sc_sexpr.specs.declared.item.Item.TheVariants as item
use Rattle.sc_sexpr.specs.declared.item.Fault.{Fault}
use Rattle.sc_sexpr.specs.View.{View, keeping, fresh_view, widened, answer}
use Rattle.sc_session.specs.declared.tracing.Traced.{Traced}
use Rattle.sc_session.specs.declared.tracing.Traced.TheVariants as traced
use Rattle.sc_session.specs.Scripts.{Item, IsTold, most_bytes}
use Rattle.sc_session.specs.States.{State, start}
use Rattle.sc_session.specs.Tracing.{step}
use Rattle.sc_session.specs.Courses.{fault_line}
use Rattle.sc_check.specs.declared.ending.Ending.{Ending}
use Rattle.sc_check.specs.declared.ending.Ending.TheVariants as ending
use Rattle.sc_check.specs.Lines.{Tally, no_lines, tally}

-- the most bytes behind the script
abbrev pub most_more : ℕ
most_more = 1152921504606846976

-- ---- the script
-- a session, and the assertions for which each get-proof asks
pub record Standing : Type 0 where
  pub session : State
  pub asked : List (List ℕ)

abbrev pub standing : State → List (List ℕ) → Standing
standing session asked = record { session = session; asked = asked }

-- behind a command, unless it ends the script
abbrev pub behind_trace : Traced → State → List (List ℕ) → Option Standing
behind_trace traced.Nothing t asked = Some (standing t asked)
behind_trace (traced.Proof assertions) t asked = Some (standing t (asked ++ assertions ∷ []))
behind_trace (traced.Error bytes) t asked = None
behind_trace traced.Exit t asked = None

abbrev pub behind_item : Option Standing → Item → Option Standing
behind_item (Some s) i = behind_trace (step s.session i).given (step s.session i).session s.asked
behind_item None i = None

-- behind these items, none of which ends the script
abbrev pub follow : Option Standing → List Item → Option Standing
follow s [] = s
follow s (i ∷ is) = follow (behind_item s i) is

-- nothing was done
abbrev pub fresh : Standing
fresh = standing start []

-- ---- the input
-- a splitter that has the whole text, and no more
pub record IsWhole (v : View) (text : List ℕ) : Type 0 where
  pub state : v.state ≡ (fresh_view most_bytes).state
  pub at_hand : v.text ≡ []
  pub unread : v.unread ≡ text
  pub room : v.room ≡ most_bytes
  pub limit : v.limit ≡ most_bytes
  pub granted : v.granted ≡ most_bytes
  pub last : v.last ≡ true
  pub over : v.over ≡ None

-- the item that comes next, as a tree
pub record Next (v : View) (i : Item) (w : View) : Type 0 where
  pub text : List ℕ
  pub item : (answer v).item ≡ item.Top i.line
  pub view : w ≡ keeping w.kept (answer v).view
  pub given : w.given ≡ Some text
  pub told : IsTold (record { text = text; line = i.line }) i

-- the items that come next
pub data Gives (v : View) : List Item → View → Type 0 where
  none : Gives v [] v
  more : (is : List Item) (w x : View) (i : Item) → Gives v is w → Next w i x → Gives v (is ++ i ∷ []) x

-- Behind these items of the script, none of which ends it, stands this.
pub record Follows (v : View) (s : Standing) (w : View) : Type 0 where
  pub items : List Item
  pub gives : Gives v items w
  pub follows : follow (Some fresh) items ≡ Some s

-- the next item ends the script so
pub record EndsScript (s : Standing) (w : View) (given : Traced) (x : View) : Type 0 where
  pub i : Item
  pub next : Next w i x
  pub ends : (step s.session i).given ≡ given

-- Behind (exit) more bytes may come. These are the lines of some items of the transcript.
pub record Judges (v : View) (t : Tally) (y : View) : Type 0 where
  pub script : Standing
  pub before : View
  pub behind : View
  pub items : List Item
  pub follows : Follows v script before
  pub leaves : EndsScript script before traced.Exit behind
  pub gives : Gives (widened behind most_more) items y
  pub tallied : t ≡ tally (step script.session leaves.i).session.bank script.asked no_lines items

-- ---- what is said
-- how a check ends with the transcript
abbrev pub ending_of : Tally → Ending
ending_of t = if t.refused then ending.Refused else if t.count == 0 then ending.Nothing else ending.Done

-- What is said of a whole input, and how the check ends: an item of the script, a fault of the text or the end of the input ends it.
pub data Reports (v : View) : List ℕ → Ending → Type 0 where
  error : (s : Standing) (w x : View) (bytes : List ℕ) → Follows v s w → EndsScript s w (traced.Error bytes) x → Reports v bytes ending.Error
  unended : (s : Standing) (w : View) → Follows v s w → (answer w).item ≡ item.End → Reports v [] ending.Nothing
  script_fault : (s : Standing) (w : View) (f : Fault) → Follows v s w → (answer w).item ≡ item.Bad f → Reports v (fault_line f) ending.Error
  judged : (t : Tally) (w : View) → Judges v t w → (answer w).item ≡ item.End → Reports v t.bytes (ending_of t)
  transcript_fault : (t : Tally) (w : View) (f : Fault) → Judges v t w → (answer w).item ≡ item.Bad f → Reports v (t.bytes ++ fault_line f) ending.Error

-- What is said up to some item of the input.
pub data Says (v : View) : List ℕ → Type 0 where
  nothing : Says v []
  lines : (t : Tally) (w : View) → Judges v t w → Says v t.bytes
  whole : (bytes : List ℕ) (e : Ending) → Reports v bytes e → Says v bytes
