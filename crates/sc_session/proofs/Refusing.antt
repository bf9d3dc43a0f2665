-- A refusal leaves the session.
use Rattle.std.proofs.Common.{◌≡◌, if◌then◌else◌, nat_le, ℕ, Bool, true, false, List, [], length, Option, Some, None, Result, Ok, Err, refl, sym, append-nil, subst}
use Rattle.std.specs.Prelude.{⊤, codes}
use Rattle.std.specs.Str.{bytes_eq}
use Rattle.sc_text.specs.declared.code.Code.{Code}
use Rattle.sc_sexpr.specs.Shapes.{Shape}
use Rattle.sc_commands.specs.Commands.{CommandShape, SetLogic, SetInfo, DeclareSort, DeclareConst, DeclareFun, Assert, CheckSat, GetProof, Echo, Exit}
use Rattle.sc_commands.specs.Forms.{command_of}
use Rattle.sc_terms.specs.declared.nodes.Node.{Node}
use Rattle.sc_terms.specs.declared.nodes.Sort.{Sort}
use Rattle.sc_terms.specs.Bank.{Begins}
use Rattle.sc_stack.specs.Names.{Names, fault_of, with_sort, with_constant}
use Rattle.sc_elab.specs.States.{State as Elaborating, Outcome, Done, Fault}
use Rattle.sc_elab.specs.Elab.{core}
use Rattle.sc_elab.specs.Sorts.{sort_of}
use Rattle.sc_deriv.specs.declared.derivation.Derivation.{Derivation}
use Rattle.sc_session.specs.Said as said
use Rattle.sc_session.specs.States.{State, with_bank, proof}
use Rattle.sc_session.specs.Effects.{Effect, Answers, Checks, declares, is_taken, declare_of, is_empty_list, assert_of, most_checks, get_proof, effect, effect_of}
use Rattle.sc_session.specs.Laws.{RefusalsLeave}

-- a refused term adds at the end of the bank
abbrev pub FaultsGrow : Type 0
FaultsGrow = (t : Shape) (e : Elaborating) (c : Code) (bank : List Node) → core t e ≡ Fault c bank → Begins e.bank bank

either : {A : Type 0} (P : A → Type 0) (b : Bool) (x y : A) → P x → P y → P (if b then x else y)
either P true x y p q = p
either P false x y p q = q

module _ (grow : FaultsGrow) (s : State) (line : ℕ) where
  abbrev IsLeft : State → Type 0
  IsLeft t = Begins s.bank t.bank × (t ≡ with_bank s t.bank)

  abbrev Leaves : Effect → Type 0
  Leaves (Answers (said.Text bytes) t) = ⊤
  Leaves (Answers (said.Error bytes) t) = IsLeft t
  Leaves (Answers (said.Exit bytes) t) = ⊤
  Leaves (Checks problem) = ⊤

  same : IsLeft s
  same = (([], sym (append-nil s.bank)), refl)

  declares_leave : (fault : Option Code) (names : Names) → Leaves (declares fault names s line)
  declares_leave (Some c) names = same
  declares_leave None names = tt

  declared_leaves : (sort : Result Sort Code) (name : List ℕ) → Leaves (declare_of sort name s line)
  declared_leaves (Err c) name = same
  declared_leaves (Ok sort) name = declares_leave (fault_of s.names name (length s.names.constants)) (with_constant s.names (record { name = name; sort = sort }))

  asserted_leaves : (term : Shape) (o : Outcome ℕ) → core term (record { bank = s.bank; names = s.names }) ≡ o → Leaves (assert_of o s line)
  asserted_leaves term (Fault c bank) is = (grow term (record { bank = s.bank; names = s.names }) c bank is, refl)
  asserted_leaves term (Done n bank) is = tt

  proof_leaves : (d : Option Derivation) → Leaves (get_proof d s line)
  proof_leaves (Some d) = tt
  proof_leaves None = same

  command_leaves : (c : CommandShape) → Leaves (effect s c line)
  command_leaves SetLogic = tt
  command_leaves SetInfo = tt
  command_leaves (DeclareSort name arity) = either Leaves (is_taken s.names name) _ _ same (either Leaves (bytes_eq (codes "0") arity) _ _ (declares_leave (fault_of s.names name (length s.names.sorts)) (with_sort s.names name)) same)
  command_leaves (DeclareConst name sort) = either Leaves (is_taken s.names name) _ _ same (declared_leaves (sort_of s.names sort) name)
  command_leaves (DeclareFun name arguments range) = either Leaves (is_taken s.names name) _ _ same (either Leaves (is_empty_list arguments) _ _ (declared_leaves (sort_of s.names range) name) same)
  command_leaves (Assert term) = asserted_leaves term (core term (record { bank = s.bank; names = s.names })) refl
  command_leaves CheckSat = either Leaves (nat_le most_checks s.checks) _ _ same tt
  command_leaves GetProof = proof_leaves (proof s)
  command_leaves (Echo literal) = tt
  command_leaves Exit = tt

  item_leaves : (c : Result CommandShape Code) → Leaves (effect_of c s line)
  item_leaves (Err c) = same
  item_leaves (Ok c) = command_leaves c

pub refusals_leave : FaultsGrow → RefusalsLeave
refusals_leave grow s t i bytes e = subst (Leaves grow s i.line) e (item_leaves grow s i.line (command_of i.shape))
