-- A literal is the same token before a line feed.
use Rattle.std.proofs.Common.{◌≡◌, if◌then◌else◌, ℕ, zero, suc, ◌+◌, ◌<◌, ◌≤◌, Bool, true, false, ◌||◌, ◌==◌, not, List, [], ◌∷◌, ◌++◌, length, take, Option, Some, None, refl, sym, ap, ◌∙◌, arith, subst}
use Rattle.sc_text.specs.declared.token.Kind.{Kind}
use Rattle.sc_text.specs.declared.token.Kind.TheVariants as kind
use Rattle.sc_text.specs.declared.mode.Mode.{Mode}
use Rattle.sc_text.specs.declared.mode.Mode.TheVariants as mode
use Rattle.sc_text.specs.declared.mode.Step.{Step}
use Rattle.sc_text.specs.declared.mode.Step.TheVariants as step
use Rattle.sc_text.specs.declared.front.Run.TheVariants.{Takes}
use Rattle.sc_text.specs.declared.front.Front.TheVariants.{Nothing, Token as Found}
use Rattle.sc_text.specs.Bytes.{is_white}
use Rattle.sc_text.specs.Modes.{whole, step_of, longer, after_step, run}
use Rattle.sc_text.specs.Fronts.{after_gap, ended, front_of, front}
use Rattle.sc_text.specs.Readings.{Literal, Begins}
use Rattle.sc_text.proofs.Found.{token_some, token_fits}
use Rattle.sc_sexpr.proofs.AtHand.{step_stops}
use Rattle.sc_sexpr.proofs.Running.{run_cons, run_empty, longer_token}
use Rattle.sc_sexpr.proofs.Walking.{outer, front_some, front_none}
use Rattle.sc_print.proofs.Tokens.{token}

-- only a literal with a quote that may be its last is one
quote_ends : (m : Mode) → whole m ≡ Some kind.Literal → step_of m 10 ≡ step.Stop kind.Literal
unfolding step_of
quote_ends mode.LiteralQuote e = refl
quote_ends m e = absurd cc

found_kind : (k : Kind) (j n : ℕ) → Found k j ≡ Found kind.Literal n → (k ≡ kind.Literal) × (j ≡ n)
found_kind k j n e = (cc, cc)

module _ (rest : List ℕ) where
  abbrev Again : Mode → List ℕ → ℕ → Type 0
  Again m ys n = run m (take n ys ++ 10 ∷ rest) ≡ Takes n kind.Literal

  ends_here : (m : Mode) (ys : List ℕ) → whole m ≡ Some kind.Literal → Again m ys 0
  ends_here m ys e = run_cons m 10 rest (step.Stop kind.Literal) (quote_ends m e)

  by_step : (s : Step) (m : Mode) (b : ℕ) (bs : List ℕ) (n : ℕ) → step_of m b ≡ s → front_of true (after_step s (λ x. run x bs)) ≡ Found kind.Literal n → ((m' : Mode) (j : ℕ) → front_of true (run m' bs) ≡ Found kind.Literal j → Again m' bs j) → Again m (b ∷ bs) n
  by_step (step.Go m') m b bs n st f ih =
      let longer_one : (j : ℕ) × (n ≡ j + 1) × (front_of true (run m' bs) ≡ Found kind.Literal j) = longer_token (run m' bs) kind.Literal n f in
      let more : suc longer_one.0 ≡ n = omega (arith, longer_one.1) in
      let same : longer_one.0 + 1 ≡ suc longer_one.0 = omega arith in
      subst (Again m (b ∷ bs)) more
      (run_cons m b (take longer_one.0 bs ++ 10 ∷ rest) (step.Go m') st ∙ ap longer (ih m' longer_one.0 longer_one.2) ∙ ap (λ k. Takes k kind.Literal) same)
  by_step (step.Close k) m b bs n st f ih =
      let is = found_kind k 1 n f in
      subst (Again m (b ∷ bs)) is.1 (run_cons m b (10 ∷ rest) (step.Close k) st ∙ ap (λ x. Takes 1 x) is.0)
  by_step (step.Stop k) m b bs n st f ih =
      let is = found_kind k 0 n f in
      subst (Again m (b ∷ bs)) is.1 (ends_here m (b ∷ bs) (step_stops m b k st ∙ ap (λ x. Some x) is.0))
  by_step step.Fault m b bs n st f ih = absurd cc

  at_end : (m : Mode) (n : ℕ) (w : Option Kind) → whole m ≡ w → ended 0 w ≡ Found kind.Literal n → Again m [] n
  at_end m n None is e = absurd cc
  at_end m n (Some k) is e = let found = found_kind k 0 n e in subst (Again m []) found.1 (ends_here m [] (is ∙ ap (λ x. Some x) found.0))

  literal_again : (ys : List ℕ) (m : Mode) (n : ℕ) → front_of true (run m ys) ≡ Found kind.Literal n → Again m ys n
  literal_again [] m n f = at_end m n (whole m) refl (ap (front_of true) (sym (run_empty m)) ∙ f)
  literal_again (b ∷ bs) m n f = by_step (step_of m b) m b bs n refl (ap (front_of true) (sym (run_cons m b bs (step_of m b) refl)) ∙ f) (λ m' j f'. literal_again bs m' j f')

  no_gap_by : (w c : Bool) → (if w then Some false else if c then Some true else None) ≡ None → not (w || c) ≡ true
  no_gap_by true c e = absurd cc
  no_gap_by false true e = absurd cc
  no_gap_by false false e = refl

  taken_length : (n : ℕ) (xs : List ℕ) → n ≤ length xs → length (take n xs) ≡ n
  taken_length zero xs le = refl
  taken_length (suc n) [] le = absurd (omega (arith, le))
  taken_length (suc n) (x ∷ xs) le = ap suc (taken_length n xs (omega (arith, le)))

  abbrev Literally : List ℕ → Type 0
  Literally literal = Begins true (literal ++ 10 ∷ rest) (Literal literal ∷ []) (10 ∷ rest)

  behind_gap : (left ys : List ℕ) (n : ℕ) → after_gap left ≡ ys → n ≤ length ys → 0 < n → front true left ≡ Found kind.Literal n → Literally (take n ys)
  behind_gap left [] n is le some f = absurd (let none : Nothing ≡ Found kind.Literal n = sym (front_none left is) ∙ f in cc)
  behind_gap left (b ∷ bs) zero is le some f = absurd (omega (arith, some))
  behind_gap left (b ∷ bs) (suc j) is le some f =
      let found = literal_again (b ∷ bs) mode.Start (suc j) (sym (front_some true left b bs is) ∙ f) in
      let len : suc j ≡ length (b ∷ take j bs) = sym (taken_length (suc j) (b ∷ bs) le) in
      token b (take j bs) (10 ∷ rest) kind.Literal (no_gap_by (is_white b) (b == 59) (outer left false b bs is).step) (ap (front_of true) found ∙ ap (λ k. Found kind.Literal k) len)

  pub literal_begins : (left : List ℕ) (n : ℕ) → front true left ≡ Found kind.Literal n → Literally (take n (after_gap left))
  literal_begins left n f = behind_gap left (after_gap left) n refl (token_fits true left kind.Literal n f) (token_some true left kind.Literal n f) f
