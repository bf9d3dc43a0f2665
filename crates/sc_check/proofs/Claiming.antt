-- An accepted derivation refutes the script's own assertions.
use Rattle.std.proofs.Common.{◌≡◌, ℕ, zero, suc, Bool, true, List, [], ◌∷◌, ◌++◌, map, Some, slice_get, refl, sym, ap, ◌∙◌, append_assoc, append-nil, subst}
use Rattle.std.specs.List.{AllByRecursion}
use Rattle.sc_sexpr.specs.Shapes.{Shape}
use Rattle.sc_terms.specs.declared.nodes.Node.{Node}
use Rattle.sc_terms.specs.Bank.{Begins}
use Rattle.sc_terms.specs.BankValues.{bank_meaning}
use Rattle.sc_stack.specs.Names.{assertions_in_force}
use Rattle.sc_flatten.specs.Laws.{StocksStay}
use Rattle.sc_deriv.specs.declared.derivation.Judgement.TheVariants.{Accepted}
use Rattle.sc_deriv_text.specs.Reading.{reading}
use Rattle.sc_session.specs.declared.tracing.Traced.{Traced}
use Rattle.sc_session.specs.declared.tracing.Traced.TheVariants as traced
use Rattle.sc_session.specs.Scripts.{Item}
use Rattle.sc_session.specs.States.{State, start, IsGrounded}
use Rattle.sc_session.specs.Meaning.{Assertion, asserted_by, is_true, Says}
use Rattle.sc_session.specs.Tracing.{step, GoesOn, IsInside, TracesKeep, TracesSay}
use Rattle.sc_check.specs.declared.finding.Finding.TheVariants as found
use Rattle.sc_check.specs.Lines.{judged, finding}
use Rattle.sc_check.specs.Reports.{standing, behind_trace, follow}
use Rattle.sc_check.specs.Laws.{AcceptedRefute}
use Rattle.sc_check.specs.Claims.{claimed_by, claims_from, AreContradictory, AcceptedRefuteScripts}
use Rattle.sc_check.proofs.Asking.{session_is}
use Rattle.sc_check.proofs.Growing.{Elaborates, IsSound, begins_then, grow, none_follows, reach}

all_back : (p : ℕ → Bool) (q : Assertion → Bool) (ns : List ℕ) (terms : List Assertion) → map p ns ≡ map q terms → AllByRecursion (λ a. q a ≡ true) terms → AllByRecursion (λ n. p n ≡ true) ns
all_back p q [] [] e h = tt
all_back p q [] (a ∷ more) e h = absurd cc
all_back p q (n ∷ ns) [] e h = absurd cc
all_back p q (n ∷ ns) (a ∷ more) e h = (let same : p n ≡ q a = cc in same ∙ h.0, all_back p q ns more (let rest : map p ns ≡ map q more = cc in rest) h.1)

-- what is accepted against these formulas shows that these terms contradict one another
abbrev IsWorth : List Node → List ℕ → List Assertion → Type 0
IsWorth bank ns terms = (s : Shape) → finding bank (Some ns) s ≡ found.Judged Accepted → AreContradictory terms

abbrev AreWorth : List Node → List (List ℕ) → List (List Assertion) → Type 0
AreWorth bank [] claimed = claimed ≡ []
AreWorth bank (ns ∷ lists) [] = ⊥
AreWorth bank (ns ∷ lists) (terms ∷ claimed) = IsWorth bank ns terms × AreWorth bank lists claimed

record Meets (bank : List Node) (before asked : List (List ℕ)) (claimed : List (List Assertion)) : Type 0 where
  news : List (List ℕ)
  parts : asked ≡ before ++ news
  worth : AreWorth bank news claimed

sound_of : (s : State) → IsGrounded s → IsSound s
sound_of s g = record { bank = g.bank; assertions = g.assertions }

module _
    (say : TracesSay) (keep : TracesKeep) (grows : Elaborates) (stocks : StocksStay) (refute : AcceptedRefute)
    (leaving : Item) (behind : List Item) (session : State) (asked : List (List ℕ)) (exits : (step session leaving).given ≡ traced.Exit) where
  abbrev final : List Node
  final = (step session leaving).session.bank

  abbrev Goes : State → List (List ℕ) → List Item → Type 0
  Goes s before is = follow (Some (standing s before)) is ≡ Some (standing session asked)

  grown : (s : State) (before : List (List ℕ)) (is : List Item) → IsGrounded s → Goes s before is → Begins s.bank final
  grown s before is g goes =
      let r = reach grows is (standing s before) (standing session asked) (sound_of s g) goes in
      let last = grow grows session leaving r.leads.sound (subst GoesOn (sym exits) tt) in
      begins_then s.bank session.bank final r.leads.begins last.begins

  worth_of : (s : State) (terms : List Assertion) → IsGrounded s → Says s terms → Begins s.bank final → IsWorth final (assertions_in_force s.names) terms
  worth_of s terms g says begins shape e i p all =
      let ns : List ℕ = assertions_in_force s.names in
      refute s.bank ns shape g.bank g.assertions (ap (λ q. found.Judged (judged q (reading shape))) (sym (stocks s.bank final begins ns g.bank g.assertions)) ∙ e) i p
      (all_back (bank_meaning s.bank i).truth (is_true i) ns terms (says i p) all)

  abbrev Ahead : List Item → Type 0
  Ahead is = (t : State) (terms : List Assertion) (before : List (List ℕ)) → IsGrounded t → Says t terms → Goes t before is → Meets final before asked (claims_from t terms (is ++ leaving ∷ behind))

  module _ (s : State) (terms : List Assertion) (before : List (List ℕ)) (i : Item) (is : List Item) (g : IsGrounded s) (says : Says s terms) (whole : Goes s before (i ∷ is)) (ahead : Ahead is) where
    abbrev t : State
    t = (step s i).session

    abbrev later : List (List Assertion)
    later = claims_from t (terms ++ asserted_by s i) (is ++ leaving ∷ behind)

    by_given : (x : Traced) → (step s i).given ≡ x → follow (behind_trace x t before) is ≡ Some (standing session asked) → Meets final before asked (claimed_by x terms later)
    by_given traced.Nothing e goes = let on = say.goes_on s terms i g says (subst IsInside (sym e) tt) in ahead t (terms ++ asserted_by s i) before on.0 on.1 goes
    by_given (traced.Proof ns) e goes =
        let on = say.goes_on s terms i g says (subst IsInside (sym e) tt) in
        let others = ahead t (terms ++ asserted_by s i) (before ++ ns ∷ []) on.0 on.1 goes in
        record {
          news = ns ∷ others.news;
          parts = others.parts ∙ append_assoc before (ns ∷ []) others.news;
          worth = (subst (λ ms. IsWorth final ms terms) (sym (keep.asks s i ns e)) (worth_of s terms g says (grown s before (i ∷ is) g whole)), others.worth);
        }
    by_given (traced.Error bytes) e goes = absurd (none_follows is (standing session asked) goes)
    by_given traced.Exit e goes = absurd (none_follows is (standing session asked) goes)

    one_meets : Meets final before asked (claims_from s terms (i ∷ is ++ leaving ∷ behind))
    unfolding claims_from
    one_meets = by_given (step s i).given refl whole

  ends : (s : State) (terms : List Assertion) → (step s leaving).given ≡ traced.Exit → claims_from s terms (leaving ∷ behind) ≡ []
  unfolding claims_from
  ends s terms e = ap (λ x. claimed_by x terms (claims_from (step s leaving).session (terms ++ asserted_by s leaving) behind)) e

  all_meet : (is : List Item) → Ahead is
  all_meet [] s terms before g says goes =
      let at = session_is s session before asked goes in
      record { news = []; parts = sym at.1 ∙ sym (append-nil before); worth = ends s terms (ap (λ u. (step u leaving).given) at.0 ∙ exits) }
  all_meet (i ∷ is) s terms before g says goes = one_meets s terms before i is g says goes (all_meet is)

looked_up : (bank : List Node) (lists : List (List ℕ)) (claimed : List (List Assertion)) → AreWorth bank lists claimed → (k : ℕ) (s : Shape) → finding bank (slice_get lists k) s ≡ found.Judged Accepted → (terms : List Assertion) × (slice_get claimed k ≡ Some terms) × AreContradictory terms
looked_up bank [] claimed w k s e = absurd cc
looked_up bank (ns ∷ lists) [] w k s e = absurd w
looked_up bank (ns ∷ lists) (terms ∷ claimed) w zero s e = (terms, refl, w.0 s e)
looked_up bank (ns ∷ lists) (terms ∷ claimed) w (suc k) s e = looked_up bank lists claimed w.1 k s e

pub accepted_refute_scripts : TracesSay → TracesKeep → Elaborates → StocksStay → AcceptedRefute → AcceptedRefuteScripts
accepted_refute_scripts say keep grows stocks refute items asked bank f k s e =
    let m = all_meet say keep grows stocks refute f.leaving f.behind f.session asked f.leaves f.before start [] [] say.starts.0 say.starts.1 f.follows in
    let worth = subst (λ is. AreWorth (step f.session f.leaving).session.bank m.news (claims_from start [] is)) (sym f.parts) m.worth in
    let there = subst (λ b. finding b (slice_get asked k) s ≡ found.Judged Accepted) f.terms e in
    let found_there = subst (λ xs. finding (step f.session f.leaving).session.bank (slice_get xs k) s ≡ found.Judged Accepted) m.parts there in
    let r = looked_up (step f.session f.leaving).session.bank m.news (claims_from start [] items) worth k s found_there in
    record { terms = r.0; stand = r.1; contradict = r.2 }
