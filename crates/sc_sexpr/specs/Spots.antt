-- Where a splitter stands among the tokens of the item at hand.
use Rattle.std.specs.Prelude.{◌≡◌, ℕ, ◌<◌, Bool, true, false, List, [], ◌∷◌, ◌++◌, length, take, drop}
use Rattle.sc_text.specs.declared.token.Kind.{Kind}
use Rattle.sc_text.specs.declared.mode.Mode.{Mode}
use Rattle.sc_text.specs.declared.mode.Mode.TheVariants as mode
use Rattle.sc_text.specs.declared.front.Front.TheVariants.{Token as Found}
use Rattle.sc_text.specs.declared.front.Run.TheVariants.{Ends}
use Rattle.sc_text.specs.Place.{Place}
use Rattle.sc_text.specs.Modes.{is_start, run}
use Rattle.sc_text.specs.Fronts.{gap, front, after_gap}
use Rattle.sc_text.specs.Answers.{token_start, token_line}
use Rattle.sc_sexpr.specs.declared.state.State.{State}
use Rattle.sc_sexpr.specs.Moves.{is_idle}
use Rattle.sc_sexpr.specs.Trees.{Mark, mark, behind_token, closes, place_of}

-- the tokens from one place to another
abbrev pub Leads : Place → List Mark → Place → Type 0
Leads p [] q = p ≡ q
Leads p (m ∷ ms) q = (k : Kind) × (n : ℕ) × (front p.last p.left ≡ Found k n) × (m ≡ mark k (take n (after_gap p.left)) (token_start p) (token_line p)) × Leads (behind_token p n) ms q

abbrev pub place_at : List ℕ → ℕ → ℕ → Place
place_at left start line = record { left = left; start = start; line = line; last = true }

-- The text's tokens so far leave these bytes at its end, and so many lists open, where these bytes come next.
pub record Spot (top depth : ℕ) (text rest ahead : List ℕ) : Type 0 where
  pub marks : List Mark
  pub from : ℕ
  pub line : ℕ
  pub leads : (more : List ℕ) → Leads (place_of (text ++ (ahead ++ more)) top) marks (place_at (rest ++ (ahead ++ more)) from line)
  pub deep : (m : Mark) (ms : List Mark) → closes 0 (marks ++ m ∷ ms) ≡ closes depth (m ∷ ms)

-- all of the bytes are white space and comments
abbrev pub IsGap : List ℕ → Bool → Type 0
IsGap rest comment = gap false rest ≡ record { len = length rest; comment = comment }

-- a token has begun
pub record IsPart (m : Mode) (rest : List ℕ) : Type 0 where
  pub gap_len : ℕ
  pub before : gap false rest ≡ record { len = gap_len; comment = false }
  pub begun : gap_len < length rest
  pub goes : run mode.Start (drop gap_len rest) ≡ Ends (length (drop gap_len rest)) m

abbrev pub Pending : Bool → Mode → Bool → List ℕ → Type 0
Pending true m comment rest = IsGap rest comment
Pending false m comment rest = IsPart m rest × (comment ≡ false)

pub record Reached (s : State) (text : List ℕ) : Type 0 where
  pub rest : List ℕ
  pub spot : Spot s.item_line s.depth text rest []
  pub pending : Pending (is_start s.mode) s.mode s.comment rest

abbrev pub at_hand_by : Bool → State → List ℕ → Type 0
at_hand_by true s text = text ≡ []
at_hand_by false s text = Reached s text

-- the bytes of the item at hand lead to the state
abbrev pub AtHand : State → List ℕ → Type 0
AtHand s text = at_hand_by (is_idle s) s text
