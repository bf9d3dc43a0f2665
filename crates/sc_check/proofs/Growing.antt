-- A script that is followed adds terms at the end of the bank alone.
use Rattle.std.proofs.Common.{◌≡◌, if◌then◌else◌, nat_le, ℕ, ◌≤◌, Bool, true, false, List, [], ◌∷◌, ◌++◌, length, Option, Some, None, Result, Ok, Err, refl, sym, ap, ◌∙◌, append_assoc, append-nil, subst, arith}
use Rattle.std.specs.Prelude.{codes}
use Rattle.std.specs.Str.{bytes_eq}
use Rattle.std.specs.List.{AllByRecursion}
use Rattle.sc_base.proofs.Integers.{all-append}
use Rattle.sc_text.specs.declared.code.Code.{Code}
use Rattle.sc_sexpr.specs.Shapes.{Shape}
use Rattle.sc_commands.specs.Commands.{CommandShape, SetLogic, SetInfo, DeclareSort, DeclareConst, DeclareFun, Assert, CheckSat, GetProof, Echo, Exit}
use Rattle.sc_commands.specs.Forms.{command_of}
use Rattle.sc_terms.specs.declared.nodes.Node.{Node}
use Rattle.sc_terms.specs.declared.nodes.Sort.{Sort}
use Rattle.sc_terms.specs.Bank.{IsBank, IsFormulaOf, Begins}
use Rattle.sc_stack.specs.Names.{Names, Level, fault_of, with_sort, with_constant, with_assertion, assertions_in_force}
use Rattle.sc_elab.specs.States.{State as Elaborating, Outcome, Done, Fault}
use Rattle.sc_elab.specs.Elab.{core}
use Rattle.sc_elab.specs.Sorts.{sort_of}
use Rattle.sc_session.specs.declared.tracing.Traced.{Traced}
use Rattle.sc_session.specs.declared.tracing.Traced.TheVariants as traced
use Rattle.sc_session.specs.Scripts.{Item}
use Rattle.sc_session.specs.States.{State}
use Rattle.sc_session.specs.Effects.{Effect, declares, is_taken, declare_of, is_empty_list, assert_of, most_checks}
use Rattle.sc_session.specs.Tracing.{Trace, followed, trace, trace_of, step, GoesOn}
use Rattle.sc_session.proofs.Standing.{still_formulas, sort_asserts_none, constant_asserts_none, one_more_assertion}
use Rattle.sc_check.specs.Reports.{Standing, standing, behind_trace, follow}

-- elaboration adds at the end of the bank
abbrev pub Elaborates : Type 0
Elaborates = (t : Shape) (e : Elaborating) (n : ℕ) (bank : List Node) → IsBank e.bank → core t e ≡ Done n bank → IsBank bank × Begins e.bank bank × IsFormulaOf bank n

-- the assertions in force are formulas of a bank
pub record IsSound (s : State) : Type 0 where
  pub bank : IsBank s.bank
  pub assertions : AllByRecursion (IsFormulaOf s.bank) (assertions_in_force s.names)

pub record LeadsTo (s t : State) : Type 0 where
  pub begins : Begins s.bank t.bank
  pub sound : IsSound t

pub begins_then : (a b c : List Node) → Begins a b → Begins b c → Begins a c
begins_then a b c p q = (p.0 ++ q.0, q.1 ∙ ap (λ k. k ++ q.0) p.1 ∙ append_assoc a p.0 q.0)

either : {A : Type 0} (P : A → Type 0) (b : Bool) (x y : A) → P x → P y → P (if b then x else y)
either P true x y p q = p
either P false x y p q = q

one_more : (bank : List Node) (names : Names) (n : ℕ) → IsFormulaOf bank n → AllByRecursion (IsFormulaOf bank) (assertions_in_force names) → AllByRecursion (IsFormulaOf bank) (assertions_in_force (with_assertion names n))
one_more bank names n f all = by names.levels refl
  where
    by : (ls : List Level) → names.levels ≡ ls → AllByRecursion (IsFormulaOf bank) (assertions_in_force (with_assertion names n))
    by [] e = subst (λ ls. AllByRecursion (IsFormulaOf bank) (assertions_in_force (with_assertion (record { sorts = names.sorts; constants = names.constants; levels = ls }) n))) (sym e) tt
    by (l ∷ ls) e =
        subst (AllByRecursion (IsFormulaOf bank)) (sym (one_more_assertion names n (subst (λ k. 1 ≤ length k) (sym e) (omega arith))))
        (all-append (IsFormulaOf bank) (assertions_in_force names) (n ∷ []) all (f, tt))

module _ (grows : Elaborates) (s : State) (sound : IsSound s) (line : ℕ) where
  -- unless the item is an error
  abbrev Grows : Trace → Type 0
  Grows t = GoesOn t.given → LeadsTo s t.session

  abbrev Leaves : Effect → Type 0
  Leaves e = Grows (followed s e)

  stays : (t : State) → t.bank ≡ s.bank → assertions_in_force t.names ≡ assertions_in_force s.names → LeadsTo s t
  stays t b a = record {
    begins = ([], b ∙ sym (append-nil s.bank));
    sound = record {
      bank = subst IsBank (sym b) sound.bank;
      assertions = subst (AllByRecursion (IsFormulaOf t.bank)) (sym a) (subst (λ k. AllByRecursion (IsFormulaOf k) (assertions_in_force s.names)) (sym b) sound.assertions);
    };
  }

  declares_leave : (fault : Option Code) (names : Names) → assertions_in_force names ≡ assertions_in_force s.names → Leaves (declares fault names s line)
  declares_leave (Some c) names e g = absurd g
  declares_leave None names e g = stays _ refl e

  declared_leaves : (sort : Result Sort Code) (name : List ℕ) → Leaves (declare_of sort name s line)
  declared_leaves (Err c) name g = absurd g
  declared_leaves (Ok sort) name g = declares_leave (fault_of s.names name (length s.names.constants)) (with_constant s.names (record { name = name; sort = sort })) (constant_asserts_none s.names (record { name = name; sort = sort })) g

  asserted_leaves : (term : Shape) (o : Outcome ℕ) → core term (record { bank = s.bank; names = s.names }) ≡ o → Leaves (assert_of o s line)
  asserted_leaves term (Fault c bank) is g = absurd g
  asserted_leaves term (Done n bank) is g =
      let made = grows term (record { bank = s.bank; names = s.names }) n bank sound.bank is in
      record { begins = made.1; sound = record { bank = made.0; assertions = one_more bank s.names n made.2 (still_formulas s.bank bank (assertions_in_force s.names) made.1 sound.assertions) } }

  command_grows : (c : CommandShape) → Grows (trace s c line)
  command_grows SetLogic = λ g. stays _ refl refl
  command_grows SetInfo = λ g. stays _ refl refl
  command_grows (DeclareSort name arity) =
      either Leaves (is_taken s.names name) _ _ (λ g. absurd g)
      (either Leaves (bytes_eq (codes "0") arity) _ _ (declares_leave (fault_of s.names name (length s.names.sorts)) (with_sort s.names name) (sort_asserts_none s.names name)) (λ g. absurd g))
  command_grows (DeclareConst name sort) = either Leaves (is_taken s.names name) _ _ (λ g. absurd g) (declared_leaves (sort_of s.names sort) name)
  command_grows (DeclareFun name arguments range) = either Leaves (is_taken s.names name) _ _ (λ g. absurd g) (either Leaves (is_empty_list arguments) _ _ (declared_leaves (sort_of s.names range) name) (λ g. absurd g))
  command_grows (Assert term) = asserted_leaves term (core term (record { bank = s.bank; names = s.names })) refl
  command_grows CheckSat = either Leaves (nat_le most_checks s.checks) _ _ (λ g. absurd g) (λ g. stays _ refl refl)
  command_grows GetProof = either Grows s.current _ _ (λ g. stays _ refl refl) (λ g. absurd g)
  command_grows (Echo literal) = λ g. stays _ refl refl
  command_grows Exit = λ g. stays _ refl refl

  item_grows : (c : Result CommandShape Code) → Grows (trace_of c s line)
  item_grows (Err c) = λ g. absurd g
  item_grows (Ok c) = command_grows c

pub grow : Elaborates → (s : State) (i : Item) → IsSound s → GoesOn (step s i).given → LeadsTo s (step s i).session
grow grows s i sound = item_grows grows s sound i.line (command_of i.shape)

-- ---- item by item
pub record Reaches (s e : Standing) : Type 0 where
  pub leads : LeadsTo s.session e.session
  pub news : List (List ℕ)
  pub asked : e.asked ≡ s.asked ++ news

pub none_follows : (is : List Item) (e : Standing) → follow None is ≡ Some e → ⊥
none_follows [] e h = cc
none_follows (i ∷ is) e h = none_follows is e h

standing_is : (s e : Standing) → Some s ≡ Some e → s ≡ e
standing_is s e h = cc

-- the items behind one
behind_one : Elaborates → (s e : Standing) (i : Item) (is : List Item) → IsSound s.session → ((q : Standing) → IsSound q.session → follow (Some q) is ≡ Some e → Reaches q e) → (g : Traced) → (step s.session i).given ≡ g → follow (behind_trace g (step s.session i).session s.asked) is ≡ Some e → Reaches s e
behind_one grows s e i is sound rest traced.Nothing given h =
    let one = grow grows s.session i sound (subst GoesOn (sym given) tt) in
    let others = rest (standing (step s.session i).session s.asked) one.sound h in
    record { leads = record { begins = begins_then s.session.bank (step s.session i).session.bank e.session.bank one.begins others.leads.begins; sound = others.leads.sound }; news = others.news; asked = others.asked }
behind_one grows s e i is sound rest (traced.Proof ns) given h =
    let one = grow grows s.session i sound (subst GoesOn (sym given) tt) in
    let others = rest (standing (step s.session i).session (s.asked ++ ns ∷ [])) one.sound h in
    record {
      leads = record { begins = begins_then s.session.bank (step s.session i).session.bank e.session.bank one.begins others.leads.begins; sound = others.leads.sound };
      news = ns ∷ others.news;
      asked = others.asked ∙ append_assoc s.asked (ns ∷ []) others.news;
    }
behind_one grows s e i is sound rest (traced.Error bytes) given h = absurd (none_follows is e h)
behind_one grows s e i is sound rest traced.Exit given h = absurd (none_follows is e h)

pub reach : Elaborates → (is : List Item) (s e : Standing) → IsSound s.session → follow (Some s) is ≡ Some e → Reaches s e
reach grows [] s e sound h =
    let same = standing_is s e h in
    subst (Reaches s) same (record { leads = record { begins = ([], sym (append-nil s.session.bank)); sound = sound }; news = []; asked = sym (append-nil s.asked) })
reach grows (i ∷ is) s e sound h = behind_one grows s e i is sound (λ q sound' h'. reach grows is q e sound' h') (step s.session i).given refl h
