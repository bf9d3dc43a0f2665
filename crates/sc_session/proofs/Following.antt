-- What a command gives that is followed without solving.
use Rattle.std.proofs.Common.{◌≡◌, if◌then◌else◌, ℕ, Bool, true, false, List, Option, Some, None, Result, Ok, Err, length, refl, ap, ◌∙◌}
use Rattle.std.specs.Prelude.{⊤, codes, IfOk}
use Rattle.std.specs.Str.{bytes_eq}
use Rattle.sc_text.specs.declared.code.Code.{Code}
use Rattle.sc_sexpr.specs.Shapes.{Shape}
use Rattle.sc_sexpr.specs.Trees.{marks_of, Tokens, place_of}
use Rattle.sc_commands.specs.Commands.{CommandShape, SetLogic, SetInfo, DeclareSort, DeclareConst, DeclareFun, Assert, CheckSat, GetProof, Echo, Exit}
use Rattle.sc_commands.specs.Forms.{command_of}
use Rattle.sc_print.specs.Spelling.{spelt_error}
use Rattle.sc_terms.specs.declared.memory.Memory.{Memory}
use Rattle.sc_terms.specs.declared.nodes.Sort.{Sort}
use Rattle.sc_stack.specs.Names.{Names, fault_of, with_sort, with_constant}
use Rattle.sc_elab.specs.States.{Outcome, Done, Fault}
use Rattle.sc_elab.specs.Elab.{core}
use Rattle.sc_elab.specs.Sorts.{sort_of}
use Rattle.sc_session.specs.declared.response.Response.{Response}
use Rattle.sc_session.specs.declared.response.Response.TheVariants as response
use Rattle.sc_session.specs.Said as said
use Rattle.sc_session.specs.declared.tracing.Traced.{Traced}
use Rattle.sc_session.specs.declared.tracing.Traced.TheVariants as traced
use Rattle.sc_session.specs.States.{State}
use Rattle.sc_session.specs.Effects.{Effect, Answers, Checks, declares, is_taken, declare_of, is_empty_list, assert_of, effect}
use Rattle.sc_session.specs.Doing.{HasEffect, said_by}
use Rattle.sc_session.specs.Tracing.{Trace, given_by, followed, trace, trace_of, is_quick, IsTraced, IsStepped}

either : {A : Type 0} (P : A → Type 0) (b : Bool) (x y : A) → P x → P y → P (if b then x else y)
either P true x y p q = p
either P false x y p q = q

-- something is answered
abbrev IsAnswer : Effect → Type 0
IsAnswer (Answers r t) = ⊤
IsAnswer (Checks problem) = ⊥

-- what is known is what the trace gives
abbrev Agrees : Response → State → Trace → Type 0
Agrees r new t = (given_by r ≡ t.given) × (new ≡ t.session)

agree : (s : State) (e : Effect) (r : Response) (new : State) → IsAnswer e → HasEffect s e 0 (said_by r new) new → Agrees r new (followed s e)
agree s (Checks problem) r new a h = absurd a
agree s (Answers (said.Text b) t) (response.Text x) new a h = (refl, h.1)
agree s (Answers (said.Text b) t) response.Proof new a h = (refl, h.1)
agree s (Answers (said.Text b) t) (response.Error x) new a h = absurd (let e = h.0 in cc)
agree s (Answers (said.Text b) t) (response.Exit x) new a h = absurd (let e = h.0 in cc)
agree s (Answers (said.Error b) t) (response.Text x) new a h = absurd (let e = h.0 in cc)
agree s (Answers (said.Error b) t) response.Proof new a h = absurd (let e = h.0 in cc)
agree s (Answers (said.Error b) t) (response.Error x) new a h = (let e = h.0 in cc, h.1)
agree s (Answers (said.Error b) t) (response.Exit x) new a h = absurd (let e = h.0 in cc)
agree s (Answers (said.Exit b) t) (response.Text x) new a h = absurd (let e = h.0 in cc)
agree s (Answers (said.Exit b) t) response.Proof new a h = absurd (let e = h.0 in cc)
agree s (Answers (said.Exit b) t) (response.Error x) new a h = absurd (let e = h.0 in cc)
agree s (Answers (said.Exit b) t) (response.Exit x) new a h = (refl, h.1)

module _ (s : State) (line : ℕ) where
  declares_answer : (fault : Option Code) (names : Names) → IsAnswer (declares fault names s line)
  declares_answer (Some c) names = tt
  declares_answer None names = tt

  declared_answers : (sort : Result Sort Code) (name : List ℕ) → IsAnswer (declare_of sort name s line)
  declared_answers (Err c) name = tt
  declared_answers (Ok sort) name = declares_answer (fault_of s.names name (length s.names.constants)) (with_constant s.names (record { name = name; sort = sort }))

  asserted_answers : (o : Outcome ℕ) → IsAnswer (assert_of o s line)
  asserted_answers (Fault c bank) = tt
  asserted_answers (Done n bank) = tt

  pub quick_traced : (c : CommandShape) (r : Response) (new : State) → is_quick c ≡ true → HasEffect s (effect s c line) 0 (said_by r new) new → Agrees r new (trace s c line)
  quick_traced SetLogic r new q h = agree s (effect s SetLogic line) r new tt h
  quick_traced SetInfo r new q h = agree s (effect s SetInfo line) r new tt h
  quick_traced (DeclareSort name arity) r new q h = agree s (effect s (DeclareSort name arity) line) r new (either IsAnswer (is_taken s.names name) _ _ tt (either IsAnswer (bytes_eq (codes "0") arity) _ _ (declares_answer (fault_of s.names name (length s.names.sorts)) (with_sort s.names name)) tt)) h
  quick_traced (DeclareConst name sort) r new q h = agree s (effect s (DeclareConst name sort) line) r new (either IsAnswer (is_taken s.names name) _ _ tt (declared_answers (sort_of s.names sort) name)) h
  quick_traced (DeclareFun name arguments range) r new q h = agree s (effect s (DeclareFun name arguments range) line) r new (either IsAnswer (is_taken s.names name) _ _ tt (either IsAnswer (is_empty_list arguments) _ _ (declared_answers (sort_of s.names range) name) tt)) h
  quick_traced (Assert term) r new q h = agree s (effect s (Assert term) line) r new (asserted_answers (core term (record { bank = s.bank; names = s.names }))) h
  quick_traced CheckSat r new q h = absurd cc
  quick_traced GetProof r new q h = absurd cc
  quick_traced (Echo literal) r new q h = agree s (effect s (Echo literal) line) r new tt h
  quick_traced Exit r new q h = agree s (effect s Exit line) r new tt h

-- the tree that was read is the item's
pub stepped : (s : State) (text : List ℕ) (line : ℕ) (t : Shape) (c : Result CommandShape Code) (r : Result Traced Memory) (new : State) → Tokens (place_of text line) (marks_of t) → c ≡ command_of t → IsTraced (trace_of c s line) r new → IfOk r (λ given. IsStepped s (record { text = text; line = line }) given new)
stepped s text line t c (Ok given) new tokens is h = record { i = record { shape = t; line = line }; told = record { tokens = tokens; line = refl }; gives = h.0 ∙ ap (λ o. (trace_of o s line).given) is; leaves = h.1 ∙ ap (λ o. (trace_of o s line).session) is }
stepped s text line t c (Err m) new tokens is h = tt

-- the error of an item that is no command
pub refusal_traced : (s : State) (line : ℕ) (code : Code) (r : Result Traced Memory) → IfOk r (λ given. given ≡ traced.Error (spelt_error line code)) → IsTraced (trace_of (Err code) s line) r s
refusal_traced s line code (Ok given) h = (h, refl)
refusal_traced s line code (Err m) h = tt
