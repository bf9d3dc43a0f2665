-- The derivation that is current refutes the problem of the assertions in force.
use Rattle.std.proofs.Common.{◌≡◌, if◌then◌else◌, nat_le, ℕ, suc, ◌-◌, arith, Bool, true, false, List, [], ◌∷◌, ◌++◌, length, Option, Some, None, Result, Ok, Err, refl, sym, ap, ◌∙◌, subst}
use Rattle.std.specs.Prelude.{⊤, codes, slice_get}
use Rattle.std.specs.Str.{bytes_eq}
use Rattle.sc_text.specs.declared.code.Code.{Code}
use Rattle.sc_commands.specs.Commands.{CommandShape, SetLogic, SetInfo, DeclareSort, DeclareConst, DeclareFun, Assert, CheckSat, GetProof, Echo, Exit}
use Rattle.sc_commands.specs.Forms.{command_of}
use Rattle.sc_terms.specs.declared.nodes.Node.{Node}
use Rattle.sc_terms.specs.declared.nodes.Sort.{Sort}
use Rattle.sc_terms.specs.Bank.{Begins}
use Rattle.sc_stack.specs.Names.{Names, fault_of, with_sort, with_constant, with_assertion, assertions_in_force}
use Rattle.sc_elab.specs.States.{Outcome, Done, Fault}
use Rattle.sc_elab.specs.Elab.{core}
use Rattle.sc_elab.specs.Sorts.{sort_of}
use Rattle.sc_flatten.specs.Stock.{stock}
use Rattle.sc_flatten.specs.Laws.{StocksStay}
use Rattle.sc_deriv.specs.declared.derivation.Derivation.{Derivation}
use Rattle.sc_tree.specs.declared.verdict.Verdict.{Verdict}
use Rattle.sc_tree.specs.declared.verdict.Verdict.TheVariants.{Sat, Unsat, Unknown}
use Rattle.sc_tree.specs.Verdicts.{Refutes, IsJust}
use Rattle.sc_deriv_text.specs.Spelling.{Fits}
use Rattle.sc_session.specs.Giving.{IsGiven}
use Rattle.sc_session.specs.Said.{Said}
use Rattle.sc_session.specs.Said as said
use Rattle.sc_session.specs.Scripts.{Item}
use Rattle.sc_session.specs.States.{State, start, with_bank, with_names, moved_on, with_verdict, current_verdict, derivation_of, proof, IsSession}
use Rattle.sc_session.specs.Effects.{Effect, Answers, Checks, declares, is_taken, declare_of, is_empty_list, assert_of, most_checks, get_proof, effect, effect_of, turn}
use Rattle.sc_session.specs.Proving.{Proves, ProofsRefute}
use Rattle.sc_session.proofs.Refusing.{FaultsGrow, refusals_leave}

either : {A : Type 0} (P : A → Type 0) (b : Bool) (x y : A) → P x → P y → P (if b then x else y)
either P true x y p q = p
either P false x y p q = q

-- where no check-sat is current there is no proof
none_current : (t : State) → t.current ≡ false → Proves t
none_current t e d is = absurd (let n : derivation_of None ≡ Some d = sym (ap (λ b. derivation_of (if b then slice_get t.verdicts (length t.verdicts - 1) else None)) e) ∙ is in cc)

-- ---- behind an answer that is no refusal
module _ (s : State) (line : ℕ) (holds : Proves s) where
  abbrev Stays : Effect → Type 0
  Stays (Answers (said.Text bytes) t) = Proves t
  Stays (Answers (said.Error bytes) t) = ⊤
  Stays (Answers (said.Exit bytes) t) = Proves t
  Stays (Checks problem) = ⊤

  declares_stay : (fault : Option Code) (names : Names) → Stays (declares fault names s line)
  declares_stay (Some c) names = tt
  declares_stay None names = none_current (moved_on (with_names s names)) refl

  declared_stays : (sort : Result Sort Code) (name : List ℕ) → Stays (declare_of sort name s line)
  declared_stays (Err c) name = tt
  declared_stays (Ok sort) name = declares_stay (fault_of s.names name (length s.names.constants)) (with_constant s.names (record { name = name; sort = sort }))

  asserted_stays : (o : Outcome ℕ) → Stays (assert_of o s line)
  asserted_stays (Fault c bank) = tt
  asserted_stays (Done n bank) = none_current (moved_on (with_names (with_bank s bank) (with_assertion s.names n))) refl

  proof_stays : (d : Option Derivation) → Stays (get_proof d s line)
  proof_stays (Some d) = holds
  proof_stays None = tt

  command_stays : (c : CommandShape) → Stays (effect s c line)
  command_stays SetLogic = holds
  command_stays SetInfo = holds
  command_stays (DeclareSort name arity) = either Stays (is_taken s.names name) _ _ tt (either Stays (bytes_eq (codes "0") arity) _ _ (declares_stay (fault_of s.names name (length s.names.sorts)) (with_sort s.names name)) tt)
  command_stays (DeclareConst name sort) = either Stays (is_taken s.names name) _ _ tt (declared_stays (sort_of s.names sort) name)
  command_stays (DeclareFun name arguments range) = either Stays (is_taken s.names name) _ _ tt (either Stays (is_empty_list arguments) _ _ (declared_stays (sort_of s.names range) name) tt)
  command_stays (Assert term) = asserted_stays (core term (record { bank = s.bank; names = s.names }))
  command_stays CheckSat = either Stays (nat_le most_checks s.checks) _ _ tt tt
  command_stays GetProof = proof_stays (proof s)
  command_stays (Echo literal) = holds
  command_stays Exit = holds

  item_stays : (c : Result CommandShape Code) → Stays (effect_of c s line)
  item_stays (Err c) = tt
  item_stays (Ok c) = command_stays c

-- ---- behind a refusal
-- the terms that a refused one left change no problem
longer : StocksStay → (s : State) (bank : List Node) → IsSession s → Begins s.bank bank → Proves s → Proves (with_bank s bank)
longer stay s bank session begins holds d is = let q = holds d is in (subst (λ p. Refutes p d) (sym (stay s.bank bank begins (assertions_in_force s.names) session.bank session.sorted.assertions)) q.0, q.1)

always : FaultsGrow → StocksStay → (s t : State) (i : Item) (r : Said) → IsSession s → Proves s → turn s i ≡ Answers r t → Proves t
always grow stay s t i (said.Text bytes) session holds e = subst (Stays s i.line holds) e (item_stays s i.line holds (command_of i.shape))
always grow stay s t i (said.Exit bytes) session holds e = subst (Stays s i.line holds) e (item_stays s i.line holds (command_of i.shape))
always grow stay s t i (said.Error bytes) session holds e =
    let left = refusals_leave grow s t i bytes e in
    subst Proves (sym left.1) (longer stay s t.bank session left.0 holds)

-- ---- the verdict that was given last
item_last : {X : Type 0} (xs : List X) (x : X) → slice_get (xs ++ x ∷ []) (length xs) ≡ Some x
item_last [] x = refl
item_last (y ∷ xs) x = item_last xs x

one_longer : {X : Type 0} (xs : List X) (x : X) → length (xs ++ x ∷ []) ≡ suc (length xs)
one_longer [] x = refl
one_longer (y ∷ xs) x = ap suc (one_longer xs x)

back : (n : ℕ) → suc n - 1 ≡ n
back n = omega arith

one_less : {X : Type 0} (xs : List X) (x : X) → length (xs ++ x ∷ []) - 1 ≡ length xs
one_less xs x = subst (λ n. n - 1 ≡ length xs) (sym (one_longer xs x)) (back (length xs))

given_last : (s : State) (v : Verdict) → current_verdict (with_verdict s v) ≡ Some v
given_last s v = ap (slice_get (s.verdicts ++ v ∷ [])) (one_less s.verdicts v) ∙ item_last s.verdicts v

just_refutes : (s : State) (budget : ℕ) (d : Derivation) (v : Verdict) → IsGiven (stock s.bank (assertions_in_force s.names)) budget v → derivation_of (Some v) ≡ Some d → Refutes (stock s.bank (assertions_in_force s.names)) d × Fits d
unfolding IsJust
just_refutes s budget d (Sat m) j e = absurd cc
just_refutes s budget d (Unknown t) j e = absurd cc
just_refutes s budget d (Unsat c) j e = let same : c ≡ d = cc in subst (λ x. Refutes (stock s.bank (assertions_in_force s.names)) x × Fits x) same (j.just, j.printable)

refuted : (s : State) (budget : ℕ) (v : Verdict) → IsGiven (stock s.bank (assertions_in_force s.names)) budget v → Proves (with_verdict s v)
refuted s budget v just d is = just_refutes s budget d v just (ap derivation_of (sym (given_last s v)) ∙ is)

pub proofs : FaultsGrow → StocksStay → ProofsRefute
proofs grow stay = record {
  starts = none_current start refl;
  goes_on = λ s t i bytes holds e. subst (Stays s i.line holds) e (item_stays s i.line holds (command_of i.shape));
  answered = always grow stay;
  checked = refuted;
}
