-- The names of the commands that are done.
use Rattle.std.proofs.Common.{◌≡◌, ℕ, Bool, true, false, ◌||◌, List, [], ◌∷◌, map, Option, Some, None, if◌then◌else◌, codes, refl, sym, subst}
use Rattle.std.specs.Prelude.{is_some, option_map, option_and_then}
use Rattle.std.specs.Str.{bytes_eq}
use Rattle.std.proofs.lemmas.Slice.Eq.{bytes_eq-Decides}
use Rattle.sc_text.specs.Names.{is_among, is_command}
use Rattle.sc_sexpr.specs.Shapes.{Shapes, Empty, More}
use Rattle.sc_commands.specs.Commands.{CommandShape, SetInfo, DeclareSort, Assert, CheckSat, GetProof, Exit}
use Rattle.sc_commands.specs.Forms
use Rattle.sc_commands.specs.Laws.{name_of, done}

-- what stands behind the head, to a command
abbrev pub Form : Type 0
Form = Shapes → Option CommandShape

-- a command's name and its form
pub record Entry : Type 0 where
  pub name : List ℕ
  pub form : Form

abbrev pub look_up : List Entry → List ℕ → Option Form
look_up [] word = None
look_up (e ∷ es) word = if bytes_eq e.name word then Some e.form else look_up es word

abbrev pub table : List Entry
table =
    record { name = codes "set-logic"; form = Forms.set_logic } ∷ record { name = codes "set-info"; form = Forms.set_info } ∷ record { name = codes "declare-sort"; form = Forms.declare_sort }
    ∷ record { name = codes "declare-const"; form = Forms.declare_const } ∷ record { name = codes "declare-fun"; form = Forms.declare_fun } ∷ record { name = codes "assert"; form = Forms.assert }
    ∷ record { name = codes "check-sat"; form = Forms.check_sat } ∷ record { name = codes "get-proof"; form = Forms.get_proof } ∷ record { name = codes "echo"; form = Forms.echo } ∷ record { name = codes "exit"; form = Forms.exit } ∷ []

some_if : (b : Bool) (f : Form) (o : Option Form) (r : Bool) → is_some o ≡ r → is_some (if b then Some f else o) ≡ (b || r)
some_if true f o r h = refl
some_if false f o r h = h

listed : (es : List Entry) (word : List ℕ) → is_some (look_up es word) ≡ is_among word (map (λ (e : Entry). e.name) es)
listed [] word = refl
listed (e ∷ es) word = some_if (bytes_eq e.name word) e.form (look_up es word) (is_among word (map (λ (e : Entry). e.name) es)) (listed es word)

pub done_have_forms : (word : List ℕ) → is_some (Forms.form_of word) ≡ is_among word done
done_have_forms word = listed table word

abbrev AreKnown : List (List ℕ) → Type 0
AreKnown [] = Unit {0}
AreKnown (w ∷ ws) = (is_command w ≡ true) × AreKnown ws

either : (word w : List ℕ) (r b : Bool) → b ≡ bytes_eq w word → is_command w ≡ true → (r ≡ true → is_command word ≡ true) → (b || r) ≡ true → is_command word ≡ true
either word w r true e known rest h = subst (λ x. is_command x ≡ true) ((bytes_eq-Decides w word).0 (sym e)) known
either word w r false e known rest h = rest h

among_known : (words : List (List ℕ)) (word : List ℕ) → AreKnown words → is_among word words ≡ true → is_command word ≡ true
among_known [] word known h = absurd cc
among_known (w ∷ ws) word known h = either word w (is_among word ws) (bytes_eq w word) refl known.0 (among_known ws word known.1) h

pub done_are_commands : (word : List ℕ) → is_among word done ≡ true → is_command word ≡ true
done_are_commands word = among_known done word (refl, (refl, (refl, (refl, (refl, (refl, (refl, (refl, (refl, (refl, tt))))))))))

-- every command of the form has this name
abbrev pub Gives : Form → List ℕ → Type 0
Gives form word = (parts : Shapes) (c : CommandShape) → form parts ≡ Some c → name_of c ≡ word

mapped : {X : Type 0} (f : X → CommandShape) (word : List ℕ) → ((x : X) → name_of (f x) ≡ word) → (o : Option X) (c : CommandShape) → option_map f o ≡ Some c → name_of c ≡ word
mapped f word h None c e = absurd cc
mapped f word h (Some x) c e =
    let same : f x ≡ c = cc in
    subst (λ q. name_of q ≡ word) same (h x)

chosen : (b : Bool) (o : Option CommandShape) (word : List ℕ) → ((c : CommandShape) → o ≡ Some c → name_of c ≡ word) → (c : CommandShape) → (if b then o else None) ≡ Some c → name_of c ≡ word
chosen true o word h c e = h c e
chosen false o word h c e = absurd cc

only : (d : CommandShape) (word : List ℕ) → name_of d ≡ word → (c : CommandShape) → Some d ≡ Some c → name_of c ≡ word
only d word h c e =
    let same : d ≡ c = cc in
    subst (λ q. name_of q ≡ word) same h

set_logic_is : Gives Forms.set_logic (codes "set-logic")
set_logic_is Empty c e = absurd cc
set_logic_is (More a Empty) c e = mapped _ _ (λ n. refl) (Forms.symbol a) c e
set_logic_is (More a (More b rest)) c e = absurd cc

set_info_is : Gives Forms.set_info (codes "set-info")
set_info_is Empty c e = absurd cc
set_info_is (More a Empty) c e = absurd cc
set_info_is (More a (More b Empty)) c e = chosen (Forms.is_keyword a) _ _ (only SetInfo _ refl) c e
set_info_is (More a (More b (More d rest))) c e = absurd cc

sorted : (n : Option (List ℕ)) (arity : Option (List ℕ)) (c : CommandShape) → option_and_then (λ m. option_map (λ digits. DeclareSort m digits) arity) n ≡ Some c → name_of c ≡ codes "declare-sort"
sorted None arity c e = absurd cc
sorted (Some m) arity c e = mapped _ _ (λ d. refl) arity c e

declare_sort_is : Gives Forms.declare_sort (codes "declare-sort")
declare_sort_is Empty c e = absurd cc
declare_sort_is (More a Empty) c e = absurd cc
declare_sort_is (More a (More b Empty)) c e = sorted (Forms.symbol a) (Forms.numeral b) c e
declare_sort_is (More a (More b (More d rest))) c e = absurd cc

declare_const_is : Gives Forms.declare_const (codes "declare-const")
declare_const_is Empty c e = absurd cc
declare_const_is (More a Empty) c e = absurd cc
declare_const_is (More a (More b Empty)) c e = chosen (Forms.is_sort b) _ _ (mapped _ _ (λ n. refl) (Forms.symbol a)) c e
declare_const_is (More a (More b (More d rest))) c e = absurd cc

declare_fun_is : Gives Forms.declare_fun (codes "declare-fun")
declare_fun_is Empty c e = absurd cc
declare_fun_is (More a Empty) c e = absurd cc
declare_fun_is (More a (More b Empty)) c e = absurd cc
declare_fun_is (More a (More b (More d Empty))) c e = chosen _ _ _ (mapped _ _ (λ n. refl) (Forms.symbol a)) c e
declare_fun_is (More a (More b (More d (More f rest)))) c e = absurd cc

assert_is : Gives Forms.assert (codes "assert")
assert_is Empty c e = absurd cc
assert_is (More a Empty) c e = only (Assert a) _ refl c e
assert_is (More a (More b rest)) c e = absurd cc

check_sat_is : Gives Forms.check_sat (codes "check-sat")
check_sat_is Empty c e = only CheckSat _ refl c e
check_sat_is (More a rest) c e = absurd cc

get_proof_is : Gives Forms.get_proof (codes "get-proof")
get_proof_is Empty c e = only GetProof _ refl c e
get_proof_is (More a rest) c e = absurd cc

echo_is : Gives Forms.echo (codes "echo")
echo_is Empty c e = absurd cc
echo_is (More a Empty) c e = mapped _ _ (λ n. refl) (Forms.literal a) c e
echo_is (More a (More b rest)) c e = absurd cc

exit_is : Gives Forms.exit (codes "exit")
exit_is Empty c e = only Exit _ refl c e
exit_is (More a rest) c e = absurd cc

-- the form that is found, if any, has the word as its name
abbrev pub NamedBy : Option Form → List ℕ → Type 0
NamedBy o word = (f : Form) → o ≡ Some f → Gives f word

first_or : (w word : List ℕ) (g : Form) (o : Option Form) (b : Bool) → b ≡ bytes_eq w word → Gives g w → NamedBy o word → NamedBy (if b then Some g else o) word
first_or w word g o true e gives rest f h =
    let same : g ≡ f = cc in
    subst (λ q. Gives f q) ((bytes_eq-Decides w word).0 (sym e)) (subst (λ q. Gives q w) same gives)
first_or w word g o false e gives rest f h = rest f h

abbrev AllGive : List Entry → Type 0
AllGive [] = Unit {0}
AllGive (e ∷ es) = Gives e.form e.name × AllGive es

names_found : (es : List Entry) (word : List ℕ) → AllGive es → NamedBy (look_up es word) word
names_found [] word h f e = absurd cc
names_found (x ∷ es) word h f e = first_or x.name word x.form (look_up es word) (bytes_eq x.name word) refl h.0 (names_found es word h.1) f e

pub forms_have_names : (word : List ℕ) → NamedBy (Forms.form_of word) word
forms_have_names word = names_found table word (set_logic_is, (set_info_is, (declare_sort_is, (declare_const_is, (declare_fun_is, (assert_is, (check_sat_is, (get_proof_is, (echo_is, (exit_is, tt))))))))))
