-- The formulas of a session say what the script's own terms say.
use Rattle.std.proofs.Common.{◌≡◌, if◌then◌else◌, nat_le, ℕ, Bool, true, false, List, [], ◌∷◌, ◌++◌, length, map, Option, Some, None, Result, Ok, Err, refl, sym, ap, ◌∙◌, append-nil, subst}
use Rattle.std.specs.Prelude.{codes}
use Rattle.std.specs.Str.{bytes_eq}
use Rattle.std.specs.List.{AllByRecursion}
use Rattle.sc_text.specs.declared.code.Code.{Code}
use Rattle.sc_text.specs.declared.code.Code.TheVariants as code
use Rattle.sc_sexpr.specs.Shapes.{Shape}
use Rattle.sc_commands.specs.Commands.{CommandShape, SetLogic, SetInfo, DeclareSort, DeclareConst, DeclareFun, Assert, CheckSat, GetProof, Echo, Exit}
use Rattle.sc_commands.specs.Forms.{command_of}
use Rattle.sc_terms.specs.declared.nodes.Node.{Node}
use Rattle.sc_terms.specs.declared.nodes.Sort.{Sort}
use Rattle.sc_terms.specs.declared.problem.Parts.{Parts}
use Rattle.sc_terms.specs.Bank.{IsBank, IsFormulaOf}
use Rattle.sc_terms.specs.BankValues.{bank_meaning}
use Rattle.sc_terms.specs.Meaning.{Interpretation, IsInterpretation}
use Rattle.sc_terms.specs.Values.{meaning}
use Rattle.sc_stack.specs.Names.{Names, fault_of, with_sort, with_constant, with_assertion, assertions_in_force}
use Rattle.sc_elab.specs.States.{State as Elaborating, Outcome, Done, Fault}
use Rattle.sc_elab.specs.Elab.{core}
use Rattle.sc_elab.specs.Sorts.{sort_of}
use Rattle.sc_elab.specs.Value.{term_value, truth}
use Rattle.sc_flatten.specs.Stock.{stock}
use Rattle.sc_flatten.specs.Laws.{MeaningsAgree}
use Rattle.sc_tree.specs.declared.verdict.Verdict.{Verdict}
use Rattle.sc_tree.specs.declared.verdict.Verdict.TheVariants.{Sat, Unsat, Unknown}
use Rattle.sc_tree.specs.Verdicts.{IsJust}
use Rattle.sc_deriv.specs.declared.derivation.Derivation.{Derivation}
use Rattle.sc_session.specs.Said.{Said}
use Rattle.sc_session.specs.Said as response
use Rattle.sc_session.specs.States.{State, with_bank, with_names, moved_on, proof, IsSession, IsGrounded}
use Rattle.sc_session.specs.Effects.{Effect, Answers, Checks, quiet, refuses, declares, is_taken, declare_sort, declare_of, is_empty_list, assert_of, most_checks, get_proof, effect, effect_of}
use Rattle.sc_session.specs.Meaning.{Assertion, asserts, asserts_of, is_true, Says, IsRight}
use Rattle.sc_session.specs.Laws.{SayTheSame}
use Rattle.sc_session.proofs.Standing.{sort_asserts_none, constant_asserts_none, one_more_assertion, map-append}

-- the answer is none that lets the script go on
answered : {r q : Said} {s t : State} → Answers r s ≡ Answers q t → (r ≡ q) × (s ≡ t)
answered e = (cc, cc)

-- a session's assertions are formulas of its bank
grounded : (s : State) → IsSession s → IsGrounded s
grounded s session = record { bank = session.bank; levels = session.names.levels; assertions = session.sorted.assertions }

-- ---- what lets the script go on is quiet, and the rest is refused
module _ (s t : State) (line : ℕ) (bytes : List ℕ) where
  refused : {A : Type 0} (c : Code) (u : State) → refuses line c u ≡ Answers (response.Text bytes) t → A
  refused c u e = absurd (let r = (answered e).0 in cc)

  unchecked : {A : Type 0} (problem : Parts) → Checks problem ≡ Answers (response.Text bytes) t → A
  unchecked problem e = absurd cc

  quiet_is : (u : State) → quiet u ≡ Answers (response.Text bytes) t → t ≡ u
  quiet_is u e = sym (answered e).1

  branch : {A : Type 0} (b : Bool) (x y : Effect) → (x ≡ Answers (response.Text bytes) t → A) → (y ≡ Answers (response.Text bytes) t → A) → (if b then x else y) ≡ Answers (response.Text bytes) t → A
  branch true x y f g e = f e
  branch false x y f g e = g e

  declared_is : (fault : Option Code) (names : Names) → declares fault names s line ≡ Answers (response.Text bytes) t → t ≡ moved_on (with_names s names)
  declared_is (Some c) names e = refused c s e
  declared_is None names e = quiet_is (moved_on (with_names s names)) e

-- ---- what a command does to the verdicts
either : {A : Type 0} (P : A → Type 0) (b : Bool) (x y : A) → P x → P y → P (if b then x else y)
either P true x y p q = p
either P false x y p q = q

module _ (s : State) (line : ℕ) where
  -- an effect that leaves the verdicts, or a check-sat of the stock
  abbrev Leaves : Effect → Type 0
  Leaves (Answers r t) = t.verdicts ≡ s.verdicts
  Leaves (Checks problem) = problem ≡ stock s.bank (assertions_in_force s.names)

  declares_leave : (fault : Option Code) (names : Names) → Leaves (declares fault names s line)
  declares_leave (Some c) names = refl
  declares_leave None names = refl

  declared_leaves : (sort : Result Sort Code) (name : List ℕ) → Leaves (declare_of sort name s line)
  declared_leaves (Err c) name = refl
  declared_leaves (Ok sort) name = declares_leave (fault_of s.names name (length s.names.constants)) (with_constant s.names (record { name = name; sort = sort }))

  asserted_leaves : (o : Outcome ℕ) → Leaves (assert_of o s line)
  asserted_leaves (Fault c bank) = refl
  asserted_leaves (Done n bank) = refl

  proof_leaves : (d : Option Derivation) → Leaves (get_proof d s line)
  proof_leaves (Some d) = refl
  proof_leaves None = refl

  command_leaves : (c : CommandShape) → Leaves (effect s c line)
  command_leaves SetLogic = refl
  command_leaves SetInfo = refl
  command_leaves (DeclareSort name arity) = either Leaves (is_taken s.names name) _ _ refl (either Leaves (bytes_eq (codes "0") arity) _ _ (declares_leave (fault_of s.names name (length s.names.sorts)) (with_sort s.names name)) refl)
  command_leaves (DeclareConst name sort) = either Leaves (is_taken s.names name) _ _ refl (declared_leaves (sort_of s.names sort) name)
  command_leaves (DeclareFun name arguments range) = either Leaves (is_taken s.names name) _ _ refl (either Leaves (is_empty_list arguments) _ _ (declared_leaves (sort_of s.names range) name) refl)
  command_leaves (Assert term) = asserted_leaves (core term (record { bank = s.bank; names = s.names }))
  command_leaves CheckSat = either Leaves (nat_le most_checks s.checks) (refuses line (code.E16 most_checks) s) (Checks (stock s.bank (assertions_in_force s.names))) refl refl
  command_leaves GetProof = proof_leaves (proof s)
  command_leaves (Echo literal) = refl
  command_leaves Exit = refl

  item_leaves : (c : Result CommandShape Code) → Leaves (effect_of c s line)
  item_leaves (Err c) = refl
  item_leaves (Ok c) = command_leaves c

kept : (s t : State) (line : ℕ) (r : Said) (c : Result CommandShape Code) → effect_of c s line ≡ Answers r t → t.verdicts ≡ s.verdicts
kept s t line r c e = subst (Leaves s line) e (item_leaves s line c)

is_stock : (s : State) (line : ℕ) (problem : Parts) (c : Result CommandShape Code) → effect_of c s line ≡ Checks problem → problem ≡ stock s.bank (assertions_in_force s.names)
is_stock s line problem c e = subst (Leaves s line) e (item_leaves s line c)

-- ---- meanings
module _
    (truths : (t : Shape) (e : Elaborating) (n : ℕ) (bank : List Node) → IsBank e.bank → core t e ≡ Done n bank → (i : Interpretation) → IsInterpretation i → (bank_meaning bank i).truth n ≡ truth (term_value e.names i t))
    (stays : (t : Shape) (e : Elaborating) (n : ℕ) (bank : List Node) → IsBank e.bank → core t e ≡ Done n bank → (i : Interpretation) → IsInterpretation i → (m : ℕ) → IsFormulaOf e.bank m → (bank_meaning bank i).truth m ≡ (bank_meaning e.bank i).truth m) where
  -- formulas that keep their truth
  still_true : (p q : ℕ → Bool) (Is : ℕ → Type 0) → ((m : ℕ) → Is m → p m ≡ q m) → (ns : List ℕ) → AllByRecursion Is ns → map p ns ≡ map q ns
  still_true p q Is same [] h = refl
  still_true p q Is same (n ∷ ns) h = ap (λ x. x ∷ map p ns) (same n h.0) ∙ ap (λ xs. q n ∷ xs) (still_true p q Is same ns h.1)

  -- nothing more is asserted
  pub same_says : (s t : State) (terms : List Assertion) → t.bank ≡ s.bank → assertions_in_force t.names ≡ assertions_in_force s.names → Says s terms → Says t (terms ++ [])
  same_says s t terms banks forces says i p =
      ap (λ bank. map (bank_meaning bank i).truth (assertions_in_force t.names)) banks ∙ ap (map (bank_meaning s.bank i).truth) forces ∙ says i p ∙ ap (map (is_true i)) (sym (append-nil terms))

  -- one more assertion
  pub more_says : (s : State) (terms : List Assertion) (term : Shape) (n : ℕ) (bank : List Node) → IsGrounded s → Says s terms → core term (record { bank = s.bank; names = s.names }) ≡ Done n bank → Says (moved_on (with_names (with_bank s bank) (with_assertion s.names n))) (terms ++ record { term = term; names = s.names } ∷ [])
  more_says s terms term n bank session says is i p =
      let new : (bank_meaning bank i).truth n ≡ truth (term_value s.names i term) = truths term (record { bank = s.bank; names = s.names }) n bank session.bank is i p in
      let kept_all : map (bank_meaning bank i).truth (assertions_in_force s.names) ≡ map (bank_meaning s.bank i).truth (assertions_in_force s.names) = still_true (bank_meaning bank i).truth (bank_meaning s.bank i).truth (IsFormulaOf s.bank) (stays term (record { bank = s.bank; names = s.names }) n bank session.bank is i p) (assertions_in_force s.names) session.assertions in
      let old : map (bank_meaning bank i).truth (assertions_in_force s.names) ≡ map (is_true i) terms = kept_all ∙ says i p in
      ap (map (bank_meaning bank i).truth) (one_more_assertion s.names n session.levels)
      ∙ map-append (bank_meaning bank i).truth (assertions_in_force s.names) (n ∷ [])
      ∙ ap (λ xs. xs ++ (bank_meaning bank i).truth n ∷ []) old
      ∙ ap (λ x. map (is_true i) terms ++ x ∷ []) new
      ∙ sym (map-append (is_true i) terms (record { term = term; names = s.names } ∷ []))

  module _ (s t : State) (terms : List Assertion) (line : ℕ) (bytes : List ℕ) (session : IsGrounded s) (says : Says s terms) where
    unchanged : t ≡ s → Says t (terms ++ [])
    unchanged e = same_says s t terms (ap (λ (x : State). x.bank) e) (ap (λ (x : State). assertions_in_force x.names) e) says

    named : (names : Names) → assertions_in_force names ≡ assertions_in_force s.names → t ≡ moved_on (with_names s names) → Says t (terms ++ [])
    named names none e = same_says s t terms (ap (λ (x : State). x.bank) e) (ap (λ (x : State). assertions_in_force x.names) e ∙ none) says

    declared : (sort : Result Sort Code) (name : List ℕ) → declare_of sort name s line ≡ Answers (response.Text bytes) t → Says t (terms ++ [])
    declared (Err c) name e = refused s t line bytes c s e
    declared (Ok sort) name e = named (with_constant s.names (record { name = name; sort = sort })) (constant_asserts_none s.names (record { name = name; sort = sort })) (declared_is s t line bytes (fault_of s.names name (length s.names.constants)) (with_constant s.names (record { name = name; sort = sort })) e)

    sort_declared : (name : List ℕ) → declare_sort name s line ≡ Answers (response.Text bytes) t → Says t (terms ++ [])
    sort_declared name e = named (with_sort s.names name) (sort_asserts_none s.names name) (declared_is s t line bytes (fault_of s.names name (length s.names.sorts)) (with_sort s.names name) e)

    asserted : (term : Shape) (o : Outcome ℕ) → core term (record { bank = s.bank; names = s.names }) ≡ o → assert_of o s line ≡ Answers (response.Text bytes) t → Says t (terms ++ record { term = term; names = s.names } ∷ [])
    asserted term (Fault c bank) is e = refused s t line bytes c (with_bank s bank) e
    asserted term (Done n bank) is e =
        subst (λ x. Says x (terms ++ record { term = term; names = s.names } ∷ [])) (sym (quiet_is s t line bytes (moved_on (with_names (with_bank s bank) (with_assertion s.names n))) e)) (more_says s terms term n bank session says is)

    proved : (d : Option Derivation) → get_proof d s line ≡ Answers (response.Text bytes) t → Says t (terms ++ [])
    proved (Some d) e = unchanged (sym (answered e).1)
    proved None e = refused s t line bytes code.E14 s e

  module _ (s t : State) (terms : List Assertion) (line : ℕ) (bytes : List ℕ) (session : IsGrounded s) (says : Says s terms) where
    commanded : (c : CommandShape) → effect s c line ≡ Answers (response.Text bytes) t → Says t (terms ++ asserts s.names c)
    commanded SetLogic e = unchanged s t terms line bytes session says (quiet_is s t line bytes s e)
    commanded SetInfo e = unchanged s t terms line bytes session says (quiet_is s t line bytes s e)
    commanded (DeclareSort name arity) e =
        branch s t line bytes (is_taken s.names name) _ _ (λ q. refused s t line bytes code.E9 s q)
        (branch s t line bytes (bytes_eq (codes "0") arity) _ _ (sort_declared s t terms line bytes session says name) (λ q. refused s t line bytes code.E8 s q))
        e
    commanded (DeclareConst name sort) e =
        branch s t line bytes (is_taken s.names name) _ _ (λ q. refused s t line bytes code.E9 s q) (declared s t terms line bytes session says (sort_of s.names sort) name) e
    commanded (DeclareFun name arguments range) e =
        branch s t line bytes (is_taken s.names name) _ _ (λ q. refused s t line bytes code.E9 s q)
        (branch s t line bytes (is_empty_list arguments) _ _ (declared s t terms line bytes session says (sort_of s.names range) name) (λ q. refused s t line bytes code.E8 s q))
        e
    commanded (Assert term) e = asserted s t terms line bytes session says term (core term (record { bank = s.bank; names = s.names })) refl e
    commanded CheckSat e =
        branch s t line bytes _ _ _ (λ q. refused s t line bytes (code.E16 most_checks) s q) (λ q. unchecked s t line bytes (stock s.bank (assertions_in_force s.names)) q) e
    commanded GetProof e = proved s t terms line bytes session says (proof s) e
    commanded (Echo literal) e = unchanged s t terms line bytes session says (sym (answered e).1)
    commanded Exit e = absurd (let r = (answered e).0 in cc)

    taken : (c : Result CommandShape Code) → effect_of c s line ≡ Answers (response.Text bytes) t → Says t (terms ++ asserts_of s.names c)
    taken (Err c) e = refused s t line bytes c s e
    taken (Ok c) e = commanded c e

  -- ---- verdicts
  all_over : (p : ℕ → Bool) (q : Assertion → Bool) (ns : List ℕ) (terms : List Assertion) → map p ns ≡ map q terms → AllByRecursion (λ n. p n ≡ true) ns → AllByRecursion (λ a. q a ≡ true) terms
  all_over p q [] [] e h = tt
  all_over p q [] (a ∷ more) e h = absurd cc
  all_over p q (n ∷ ns) [] e h = absurd cc
  all_over p q (n ∷ ns) (a ∷ more) e h = (let same : p n ≡ q a = cc in sym same ∙ h.0, all_over p q ns more (let rest : map p ns ≡ map q more = cc in rest) h.1)

  all_back : (p : ℕ → Bool) (q : Assertion → Bool) (ns : List ℕ) (terms : List Assertion) → map p ns ≡ map q terms → AllByRecursion (λ a. q a ≡ true) terms → AllByRecursion (λ n. p n ≡ true) ns
  all_back p q [] [] e h = tt
  all_back p q [] (a ∷ more) e h = absurd cc
  all_back p q (n ∷ ns) [] e h = absurd cc
  all_back p q (n ∷ ns) (a ∷ more) e h = (let same : p n ≡ q a = cc in same ∙ h.0, all_back p q ns more (let rest : map p ns ≡ map q more = cc in rest) h.1)

  right : MeaningsAgree → (s : State) (terms : List Assertion) (budget : ℕ) (v : Verdict) → IsSession s → Says s terms → IsJust (stock s.bank (assertions_in_force s.names)) budget v → IsRight terms v
  unfolding IsJust
  right agree s terms budget (Sat m) session says just =
      (just.proper, all_over (meaning (stock s.bank (assertions_in_force s.names)) _).truth (is_true _) _ terms (agree s.bank (assertions_in_force s.names) session.bank session.sorted.assertions _ just.proper ∙ says _ just.proper) just.holds)
  right agree s terms budget (Unsat d) session says just =
      λ i p h. just.none i p (all_back (meaning (stock s.bank (assertions_in_force s.names)) i).truth (is_true i) _ terms (agree s.bank (assertions_in_force s.names) session.bank session.sorted.assertions i p ∙ says i p) h)
  right agree s terms budget (Unknown t) session says just = tt

  pub say_the_same : MeaningsAgree → SayTheSame
  say_the_same agree = record {
    starts = λ i p. refl;
    goes_on = λ s t terms i bytes session says e. taken s t terms i.line bytes (grounded s session) says (command_of i.shape) e;
    keeps = λ s t i r e. kept s t i.line r (command_of i.shape) e;
    checks = λ s i problem e. is_stock s i.line problem (command_of i.shape) e;
    checked = λ s terms v says. says;
    right = right agree;
  }
