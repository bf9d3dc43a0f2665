-- What the steps of a call come to together.
use Rattle.std.proofs.Common.{◌≡◌, if◌then◌else◌, ℕ, suc, ◌+◌, ◌<◌, nat_eq, nat_le, arith, Bool, true, false, List, [], ◌∷◌, ◌++◌, length, map, Option, Some, None, Result, Ok, Err, refl, sym, ap, ◌∙◌, subst, rules}
use Rattle.std.specs.Prelude.{IfOk, codes}
use Rattle.std.specs.Str.{bytes_eq}
use Rattle.sc_text.specs.declared.code.Code.{Code}
use Rattle.sc_text.specs.declared.code.Code.TheVariants as code
use Rattle.sc_sexpr.specs.declared.tree.Tree.{Tree, List as Nested, the_lemmas}
use Rattle.sc_sexpr.specs.declared.tree.Items.{Items}
use Rattle.sc_sexpr.specs.Shapes.{Shape, Listed, shape, shapes_of}
use Rattle.sc_sexpr.specs.Trees.{marks_of, Tokens, place_of}
use Rattle.sc_commands.specs.Commands.{CommandShape}
use Rattle.sc_commands.specs.Forms.{command_of}
use Rattle.sc_print.specs.Spelling.{spelt_error}
use Rattle.sc_terms.specs.declared.memory.Memory.{Memory}
use Rattle.sc_terms.specs.declared.nodes.Node.{Node}
use Rattle.sc_terms.specs.declared.nodes.Sort.{Sort}
use Rattle.sc_terms.specs.declared.problem.Parts.{Parts}
use Rattle.sc_stack.specs.declared.stack.StackError.{StackError}
use Rattle.sc_stack.specs.declared.stack.StackError.TheVariants as errors
use Rattle.sc_stack.specs.Names.{Names, Declares, DeclaresSort, DeclaresConstant, fault_of, with_sort, with_constant, assertions_in_force}
use Rattle.sc_elab.specs.States as outcomes
use Rattle.sc_elab.specs.Elab.{core}
use Rattle.sc_elab.specs.Sorts.{sort_of}
use Rattle.sc_flatten.specs.Stock.{stock}
use Rattle.sc_tree.specs.declared.verdict.Verdict.{Verdict}
use Rattle.sc_tree.specs.Verdicts.{IsJust}
use Rattle.sc_session.specs.Giving.{IsPrintable}
use Rattle.sc_session.specs.declared.response.Response.{Response}
use Rattle.sc_session.specs.declared.response.Response.TheVariants as response
use Rattle.sc_session.specs.Scripts.{Item, IsTold}
use Rattle.sc_session.specs.States.{State, state, with_bank}
use Rattle.sc_session.specs.Effects.{Effect, Checks, refuses, declares, is_taken, if_free, declare_sort, declare, declare_of, is_empty_list, assert_of, check_sat, most_checks, declares_sort, effect_of, turn, verdict_line}
use Rattle.sc_session.specs.Doing.{IsTold as IsAnswer, current_behind, Does, said_by}
use Rattle.sc_session.proofs.Trees.{one_shape}

-- a declaration that was tried, and its response
pub declares_does : (old : State) (line b : ℕ) (fault : Option Code) (made names : Names) (number : ℕ) (tried : Result ℕ StackError) (current : Bool) (result : Result Response Memory) → Declares old.names fault made number tried names → IfOk result (IsAnswer tried line) → current ≡ current_behind tried old.current → Does old (declares fault made old line) b result (state old.bank names old.verdicts old.checks current)
declares_does old line b (Some code) made names number tried current (Err e) d told moves = refl
declares_does old line b None made names number tried current (Err e) d told moves = refl
declares_does old line b None made names number (Ok n) current (Ok r) d told moves =
    (ap (λ q. said_by q (state old.bank names old.verdicts old.checks current)) told, ap (λ ns. state old.bank ns old.verdicts old.checks current) d.2 ∙ ap (state old.bank made old.verdicts old.checks) moves)
declares_does old line b (Some code) made names number (Ok n) current (Ok r) d told moves = absurd (let e : Some code ≡ None = d.0 in cc)
declares_does old line b (Some code) made names number (Err (errors.Fault c)) current (Ok r) d told moves =
    let same : code ≡ c = cc in
    (ap (λ q. said_by q (state old.bank names old.verdicts old.checks current)) (subst (λ k. r ≡ response.Error (spelt_error line k)) (sym same) told), ap (λ ns. state old.bank ns old.verdicts old.checks current) d.1 ∙ ap (state old.bank old.names old.verdicts old.checks) moves)
declares_does old line b None made names number (Err (errors.Fault c)) current (Ok r) d told moves = absurd (let e : None ≡ Some c = d.0 in cc)
declares_does old line b fault made names number (Err errors.Memory) current (Ok r) d told moves = absurd told

-- ---- what a call finds of its session v, which is s
-- the name is free
pub if_free_does : (s v : State) (name : List ℕ) (line b : ℕ) (free : State → Effect) (r : Result Response Memory) (new : State) → v ≡ s → is_taken v.names name ≡ false → Does s (free s) b r new → Does s (if_free name s line (free s)) b r new
if_free_does s v name line b free r new e taken h =
    subst (λ c. Does s (if c then refuses line code.E9 s else free s) b r new) (sym (subst (λ x. is_taken x.names name ≡ false) e taken)) h

pub sort_declared : (s v : State) (name arity : List ℕ) (line b : ℕ) (names : Names) (tried : Result ℕ StackError) (current : Bool) (r : Result Response Memory) → v ≡ s → is_taken v.names name ≡ false → bytes_eq (codes "0") arity ≡ true → DeclaresSort v.names name tried names → IfOk r (IsAnswer tried line) → current ≡ current_behind tried v.current → Does s (declares_sort s name arity line) b r (state v.bank names v.verdicts v.checks current)
sort_declared s v name arity line b names tried current r e taken zero d told moves =
    if_free_does s v name line b (λ x. if bytes_eq (codes "0") arity then declare_sort name x line else refuses line code.E8 x) r (state v.bank names v.verdicts v.checks current) e taken
    (subst (λ c. Does s (if c then declare_sort name s line else refuses line code.E8 s) b r (state v.bank names v.verdicts v.checks current)) (sym zero)
    (subst (λ x. Does x (declare_sort name x line) b r (state v.bank names v.verdicts v.checks current)) e (declares_does v line b (fault_of v.names name (length v.names.sorts)) (with_sort v.names name) names (length v.names.sorts + 1) tried current r d told moves)))

pub constant_declared : (s v : State) (name : List ℕ) (shape : Shape) (line b : ℕ) (sort : Sort) (names : Names) (tried : Result ℕ StackError) (current : Bool) (r : Result Response Memory) → v ≡ s → Ok sort ≡ sort_of v.names shape → DeclaresConstant v.names (record { name = name; sort = sort }) tried names → IfOk r (IsAnswer tried line) → current ≡ current_behind tried v.current → Does s (declare name shape s line) b r (state v.bank names v.verdicts v.checks current)
constant_declared s v name shape line b sort names tried current r e is d told moves =
    subst (λ x. Does x (declare name shape x line) b r (state v.bank names v.verdicts v.checks current)) e
    (subst (λ o. Does v (declare_of o name v line) b r (state v.bank names v.verdicts v.checks current)) is
    (declares_does v line b (fault_of v.names name (length v.names.constants)) (with_constant v.names (record { name = name; sort = sort })) names (length v.names.constants + 1) tried current r d told moves))

pub is_asserted : (s v : State) (term : Shape) (line b n : ℕ) (bank : List Node) (r : Result Response Memory) (new : State) → v ≡ s → core term (record { bank = v.bank; names = v.names }) ≡ outcomes.Done n bank → ((old : State) (k : ℕ) → with_bank v bank ≡ with_bank old bank → Does old (assert_of (outcomes.Done n bank) old line) k r new) → Does s (assert_of (core term (record { bank = s.bank; names = s.names })) s line) b r new
is_asserted s v term line b n bank r new e is h =
    subst (λ x. Does x (assert_of (core term (record { bank = x.bank; names = x.names })) x line) b r new) e
    (subst (λ o. Does v (assert_of o v line) b r new) (sym is) (h v b refl))

below : (n : ℕ) → n < most_checks → nat_le most_checks n ≡ false
below n few = grind (arith, few)

pub is_checked : (s v : State) (line b : ℕ) (d : Verdict) (r : Response) (vs : List Verdict) (p : Parts) (ns : List ℕ) → v ≡ s → v.checks < most_checks → ns ≡ assertions_in_force v.names → p ≡ stock v.bank ns → IsJust p b d → IsPrintable d → r ≡ response.Text (verdict_line d) → vs ≡ v.verdicts ++ d ∷ [] → Does s (check_sat s line) b (Ok r) (state v.bank v.names vs (v.checks + 1) true)
is_checked s v line b d r vs p ns e few in_force problem just printable is more =
    let new : State = state v.bank v.names vs (v.checks + 1) true in
    subst (λ x. Does x (check_sat x line) b (Ok r) new) e
    (subst (λ c. Does v (if c then refuses line (code.E16 most_checks) v else Checks (stock v.bank (assertions_in_force v.names))) b (Ok r) new) (sym (below v.checks few))
    (d, record { just = subst (λ q. IsJust q b d) (problem ∙ ap (stock v.bank) in_force) just; printable = printable }, ap (λ q. said_by q new) is, ap (λ xs. state v.bank v.names xs (v.checks + 1) true) more))

-- a refusal
pub refuses_does : (s : State) (line b : ℕ) (c : Code) (r : Result Response Memory) (new : State) → IfOk r (λ x. x ≡ response.Error (spelt_error line c)) → new ≡ s → Does s (refuses line c s) b r new
refuses_does s line b c (Ok x) new h e = (ap (λ q. said_by q new) h, e)
refuses_does s line b c (Err m) new h e = ap (λ (x : State). x.verdicts) e

-- the list of arguments is empty
suc_not_zero : (n : ℕ) → nat_eq (suc n) 0 ≡ false
suc_not_zero n = grind arith

by_trees : (line : ℕ) (ts : List Tree) → is_empty_list (Listed line (shapes_of (map shape ts))) ≡ nat_eq (length ts) 0
by_trees line [] = refl
by_trees line (t ∷ ts) = sym (suc_not_zero (length ts))

listed : (items : Items) → shape (Nested items) ≡ Listed items.line (shapes_of (map shape items.trees.items))
listed items = search (rules, the_lemmas)

pub empty_list : (items : Items) → is_empty_list (shape (Nested items)) ≡ nat_eq (length items.trees.items) 0
empty_list items = ap is_empty_list (listed items) ∙ by_trees items.line items.trees.items

pub no_arguments : (s : State) (name : List ℕ) (items : Items) (range : Shape) (line b : ℕ) (r : Result Response Memory) (new : State) → nat_eq (length items.trees.items) 0 ≡ true → Does s (declare name range s line) b r new → Does s (if is_empty_list (shape (Nested items)) then declare name range s line else refuses line code.E8 s) b r new
no_arguments s name items range line b r new e h = subst (λ c. Does s (if c then declare name range s line else refuses line code.E8 s) b r new) (sym (empty_list items ∙ e)) h

pub arguments : (s : State) (name : List ℕ) (items : Items) (range : Shape) (line b : ℕ) (r : Result Response Memory) (new : State) → nat_eq (length items.trees.items) 0 ≡ false → Does s (refuses line code.E8 s) b r new → Does s (if is_empty_list (shape (Nested items)) then declare name range s line else refuses line code.E8 s) b r new
arguments s name items range line b r new e h = subst (λ c. Does s (if c then declare name range s line else refuses line code.E8 s) b r new) (sym (empty_list items ∙ e)) h

-- the tree that was read is the item's
pub item_does : (s : State) (text : List ℕ) (line b : ℕ) (t : Shape) (c : Result CommandShape Code) (r : Result Response Memory) (new : State) → Tokens (place_of text line) (marks_of t) → c ≡ command_of t → Does s (effect_of c s line) b r new → (i : Item) → IsTold (record { text = text; line = line }) i → Does s (turn s i) b r new
item_does s text line b t c r new tokens is h i told =
    let same : t ≡ i.shape = one_shape (place_of text line) t i.shape tokens told.tokens in
    subst (λ l. Does s (effect_of (command_of i.shape) s l) b r new) (sym told.line)
    (subst (λ o. Does s (effect_of o s line) b r new) (is ∙ ap command_of same) h)
