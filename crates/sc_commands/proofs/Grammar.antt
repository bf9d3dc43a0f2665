-- What is read as a command is spelt by the grammar.
use Rattle.std.proofs.Common.{◌≡◌, ℕ, Bool, true, false, List, [], ◌∷◌, ◌++◌, Option, Some, None, Ok, if◌then◌else◌, refl, sym, ap, ◌∙◌, subst, ◌&&◌}
use Rattle.std.specs.Str.{bytes_eq}
use Rattle.std.specs.Prelude.{is_some, ok_or, option_map, option_and_then}
use Rattle.sc_text.specs.declared.token.Kind.TheVariants as kind
use Rattle.sc_text.specs.declared.code.Code.TheVariants as code
use Rattle.sc_text.specs.Names.{is_reserved, between}
use Rattle.sc_sexpr.specs.Shapes.{Shape, Single, Listed, Shapes, Empty, More}
use Rattle.sc_commands.specs.Commands.{CommandShape, SetLogic, SetInfo, DeclareSort, DeclareConst, DeclareFun, Assert, CheckSat, GetProof, Echo, Exit}
use Rattle.sc_commands.specs.Forms
use Rattle.sc_commands.specs.Laws.{IsSymbol, IsToken, MayBeSort, MayBeSorts, MayBeSortList, AreParts, parts_of, HaveNoOtherParts}
use Rattle.sc_commands.proofs.Words.{Form, Entry, look_up, table}
use Rattle.sc_commands.proofs.Bars.{between_bars}
use Rattle.sc_commands.proofs.Heads.{name_of_item}

bare_word : (r : Bool) (text name : List ℕ) → r ≡ is_reserved text → (if r then None else Some text) ≡ Some name → (name ≡ text) × (is_reserved text ≡ false)
bare_word true text name e h = absurd cc
bare_word false text name e h = (cc, sym e)

inside : (text name inner : List ℕ) → Some (between text) ≡ Some name → text ≡ 124 ∷ inner ++ 124 ∷ [] → name ≡ inner
inside text name inner h e =
    let same : between text ≡ name = cc in
    sym same ∙ ap between e ∙ between_bars inner

pub symbol_is : (s : Shape) (name : List ℕ) → Forms.symbol s ≡ Some name → IsSymbol name s
symbol_is (Single kind.Word text start line) name h = bare_word (is_reserved text) text name refl h
symbol_is (Single kind.Quoted text start line) name h = λ inner e. inside text name inner h e
symbol_is s name h = absurd cc

numeral_is : (s : Shape) (digits : List ℕ) → Forms.numeral s ≡ Some digits → IsToken kind.Numeral digits s
numeral_is (Single kind.Numeral text start line) digits h = (refl, cc)
numeral_is s digits h = absurd cc

literal_is : (s : Shape) (written : List ℕ) → Forms.literal s ≡ Some written → IsToken kind.Literal written s
literal_is (Single kind.Literal text start line) written h = (refl, cc)
literal_is s written h = absurd cc

keyword_is : (s : Shape) → Forms.is_keyword s ≡ true → (text : List ℕ) × IsToken kind.Keyword text s
keyword_is (Single kind.Keyword text start line) h = (text, (refl, refl))
keyword_is s h = absurd cc

given : (s : Shape) (o : Option (List ℕ)) → o ≡ Forms.symbol s → is_some o ≡ true → (name : List ℕ) × IsSymbol name s
given s None e h = absurd cc
given s (Some name) e h = (name, symbol_is s name (sym e))

sort_may : (s : Shape) → Forms.is_sort s ≡ true → MayBeSort s
sort_may (Listed line rest) h = tt
sort_may (Single k text start line) h = given (Single k text start line) (Forms.symbol (Single k text start line)) refl h

both : (a b : Bool) → (a && b) ≡ true → (a ≡ true) × (b ≡ true)
both true b h = (refl, h)
both false b h = absurd cc

sorts_may : (sorts : Shapes) → Forms.are_sorts sorts ≡ true → MayBeSorts sorts
sorts_may Empty h = tt
sorts_may (More s rest) h =
    let p = both (Forms.is_sort s) (Forms.are_sorts rest) h in
    (sort_may s p.0, sorts_may rest p.1)

list_may : (s : Shape) → Forms.is_list_of_sorts s ≡ true → MayBeSortList s
list_may (Listed line rest) h = sorts_may rest h
list_may (Single k text start line) h = absurd cc

-- every command of the form has parts by the grammar
abbrev Keeps : Form → Type 0
Keeps form = (parts : Shapes) (c : CommandShape) → form parts ≡ Some c → AreParts (parts_of c) parts

abbrev ByGrammar : Shapes → CommandShape → Type 0
ByGrammar parts c = AreParts (parts_of c) parts

only : (P : CommandShape → Type 0) (d : CommandShape) → P d → (c : CommandShape) → Some d ≡ Some c → P c
only P d h c e =
    let same : d ≡ c = cc in
    subst P same h

mapped : (P : CommandShape → Type 0) (f : List ℕ → CommandShape) (o : Option (List ℕ)) → ((x : List ℕ) → o ≡ Some x → P (f x)) → (c : CommandShape) → option_map f o ≡ Some c → P c
mapped P f None h c e = absurd cc
mapped P f (Some x) h c e = only P (f x) (h x refl) c e

chosen : (P : CommandShape → Type 0) (b : Bool) (o : Option CommandShape) → (b ≡ true → (c : CommandShape) → o ≡ Some c → P c) → (c : CommandShape) → (if b then o else None) ≡ Some c → P c
chosen P true o h c e = h refl c e
chosen P false o h c e = absurd cc

set_logic_keeps : Keeps Forms.set_logic
set_logic_keeps (More n Empty) c e = mapped (ByGrammar (More n Empty)) (λ m. SetLogic) (Forms.symbol n) (λ m h. ((m, symbol_is n m h), tt)) c e
set_logic_keeps parts c e = absurd cc

set_info_keeps : Keeps Forms.set_info
set_info_keeps (More k (More v Empty)) c e = chosen (ByGrammar (More k (More v Empty))) (Forms.is_keyword k) (Some SetInfo) (λ h. only (ByGrammar (More k (More v Empty))) SetInfo (keyword_is k h, (tt, tt))) c e
set_info_keeps parts c e = absurd cc

sorted : (n a : Shape) (o : Option (List ℕ)) → o ≡ Forms.symbol n → (c : CommandShape) → option_and_then (λ m. option_map (λ digits. DeclareSort m digits) (Forms.numeral a)) o ≡ Some c → ByGrammar (More n (More a Empty)) c
sorted n a None e c h = absurd cc
sorted n a (Some m) e c h = mapped (ByGrammar (More n (More a Empty))) (λ digits. DeclareSort m digits) (Forms.numeral a) (λ digits g. (symbol_is n m (sym e), (numeral_is a digits g, tt))) c h

declare_sort_keeps : Keeps Forms.declare_sort
declare_sort_keeps (More n (More a Empty)) c e = sorted n a (Forms.symbol n) refl c e
declare_sort_keeps parts c e = absurd cc

declare_const_keeps : Keeps Forms.declare_const
declare_const_keeps (More n (More s Empty)) c e =
    chosen (ByGrammar (More n (More s Empty))) (Forms.is_sort s) (option_map (λ m. DeclareConst m s) (Forms.symbol n))
    (λ h. mapped (ByGrammar (More n (More s Empty))) (λ m. DeclareConst m s) (Forms.symbol n) (λ m g. (symbol_is n m g, ((refl, sort_may s h), tt))))
    c e
declare_const_keeps parts c e = absurd cc

declare_fun_keeps : Keeps Forms.declare_fun
declare_fun_keeps (More n (More a (More s Empty))) c e =
    chosen (ByGrammar (More n (More a (More s Empty)))) (Forms.is_list_of_sorts a && Forms.is_sort s) (option_map (λ m. DeclareFun m a s) (Forms.symbol n))
    (λ h. let p = both (Forms.is_list_of_sorts a) (Forms.is_sort s) h in
    mapped (ByGrammar (More n (More a (More s Empty)))) (λ m. DeclareFun m a s) (Forms.symbol n) (λ m g. (symbol_is n m g, ((refl, list_may a p.0), ((refl, sort_may s p.1), tt)))))
    c e
declare_fun_keeps parts c e = absurd cc

assert_keeps : Keeps Forms.assert
assert_keeps (More t Empty) c e = only (ByGrammar (More t Empty)) (Assert t) (refl, tt) c e
assert_keeps parts c e = absurd cc

check_sat_keeps : Keeps Forms.check_sat
check_sat_keeps Empty c e = only (ByGrammar Empty) CheckSat tt c e
check_sat_keeps parts c e = absurd cc

get_proof_keeps : Keeps Forms.get_proof
get_proof_keeps Empty c e = only (ByGrammar Empty) GetProof tt c e
get_proof_keeps parts c e = absurd cc

echo_keeps : Keeps Forms.echo
echo_keeps (More l Empty) c e = mapped (ByGrammar (More l Empty)) (λ t. Echo t) (Forms.literal l) (λ t h. (literal_is l t h, tt)) c e
echo_keeps parts c e = absurd cc

exit_keeps : Keeps Forms.exit
exit_keeps Empty c e = only (ByGrammar Empty) Exit tt c e
exit_keeps parts c e = absurd cc

-- the form that is found, if any, keeps to the grammar
abbrev Kept : Option Form → Type 0
Kept o = (f : Form) → o ≡ Some f → Keeps f

first_or : (b : Bool) (g : Form) (o : Option Form) → Keeps g → Kept o → Kept (if b then Some g else o)
first_or true g o keeps rest f h =
    let same : g ≡ f = cc in
    subst (λ q. Keeps q) same keeps
first_or false g o keeps rest f h = rest f h

abbrev AllKeep : List Entry → Type 0
AllKeep [] = Unit {0}
AllKeep (e ∷ es) = Keeps e.form × AllKeep es

found : (es : List Entry) (word : List ℕ) → AllKeep es → Kept (look_up es word)
found [] word h f e = absurd cc
found (x ∷ es) word h f e = first_or (bytes_eq x.name word) x.form (look_up es word) h.0 (found es word h.1) f e

forms_keep : (word : List ℕ) → Kept (Forms.form_of word)
forms_keep word = found table word (set_logic_keeps, (set_info_keeps, (declare_sort_keeps, (declare_const_keeps, (declare_fun_keeps, (assert_keeps, (check_sat_keeps, (get_proof_keeps, (echo_keeps, (exit_keeps, tt))))))))))

was_some : (o : Option CommandShape) (c : CommandShape) → ok_or o code.E5 ≡ Ok c → o ≡ Some c
was_some None c e = absurd cc
was_some (Some d) c e = ap (λ q. Some q) cc

by_form_keeps : (o : Option Form) (word : List ℕ) (parts : Shapes) (c : CommandShape) → Kept o → Forms.by_form o word parts ≡ Ok c → ByGrammar parts c
by_form_keeps None word parts c kept e = absurd cc
by_form_keeps (Some form) word parts c kept e = kept form refl parts c (was_some (form parts) c e)

pub have_no_other_parts : HaveNoOtherParts
have_no_other_parts (Listed line (More (Single kind.Word text start at) parts)) c e = (name_of_item (Listed line (More (Single kind.Word text start at) parts)) c e, by_form_keeps (Forms.form_of text) text parts c (forms_keep text) e)
have_no_other_parts s c e = absurd cc
