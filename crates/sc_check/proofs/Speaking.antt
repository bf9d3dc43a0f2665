-- The responses to a script have the tokens of words, literals and derivations.
use Rattle.std.proofs.Common.{◌≡◌, if◌then◌else◌, nat_le, ℕ, Bool, true, false, List, [], ◌∷◌, ◌++◌, length, take, Option, Some, None, Result, Ok, Err, refl, sym, ap, ◌∙◌, append_assoc, append-nil, subst, inl, inr}
use Rattle.std.specs.Prelude.{◌⊎◌, codes, ok_or}
use Rattle.std.specs.Str.{bytes_eq}
use Rattle.std.specs.List.{AllByRecursion, flat_map}
use Rattle.sc_text.specs.declared.code.Code.{Code}
use Rattle.sc_text.specs.declared.code.Code.TheVariants as code
use Rattle.sc_text.specs.declared.token.Kind.{Kind}
use Rattle.sc_text.specs.declared.token.Kind.TheVariants as kind
use Rattle.sc_text.specs.declared.front.Front.TheVariants.{Token as Found}
use Rattle.sc_text.specs.Place.{Place}
use Rattle.sc_text.specs.Bytes.{is_symbol_byte}
use Rattle.sc_text.specs.Fronts.{front, gap, after_gap}
use Rattle.sc_text.specs.Readings.{Lexeme, Word, Literal, End, first, Reads, Begins, Whole}
use Rattle.sc_text.proofs.Gaps.{are_passed_over}
use Rattle.sc_text.proofs.Readings.{Reads-then}
use Rattle.sc_sexpr.specs.declared.item.Fault.{Fault as TextFault}
use Rattle.sc_sexpr.specs.declared.item.Fault.TheVariants.{Lexical, Unmatched, Unclosed, Limit}
use Rattle.sc_sexpr.specs.declared.item.Last.{Last}
use Rattle.sc_sexpr.specs.declared.item.Last.TheVariants as last
use Rattle.sc_sexpr.specs.Shapes.{Shape, Single, Listed, Shapes, Empty, More}
use Rattle.sc_sexpr.specs.Trees.{Mark, Opens, Closes, Word as Marked, mark, marks_of, behind_token, Tokens, place_of}
use Rattle.sc_commands.specs.Commands.{CommandShape, SetLogic, SetInfo, DeclareSort, DeclareConst, DeclareFun, Assert, CheckSat, GetProof, Echo, Exit}
use Rattle.sc_commands.specs.Forms.{echo, form_of, by_form, command_of}
use Rattle.sc_commands.specs.Laws.{AreByHead, BeginsWith}
use Rattle.sc_print.specs.Spelling.{is_simple, code_text, error_text, spelt_error}
use Rattle.sc_print.specs.Readback.{is_apart, ErrorsReadBack}
use Rattle.sc_print.proofs.SymbolsBack.{bare}
use Rattle.sc_terms.specs.declared.nodes.Sort.{Sort}
use Rattle.sc_terms.specs.declared.problem.Parts.{Parts}
use Rattle.sc_stack.specs.Names.{Names, fault_of, with_sort, with_constant}
use Rattle.sc_elab.specs.States.{Outcome, Done, Fault}
use Rattle.sc_elab.specs.Elab.{core}
use Rattle.sc_elab.specs.Sorts.{sort_of}
use Rattle.sc_deriv.specs.declared.derivation.Derivation.{Derivation}
use Rattle.sc_deriv.specs.Spelling.{IsSpelt}
use Rattle.sc_deriv_text.specs.Sexpr.{Sexpr, Atom, list_of, tokens_of}
use Rattle.sc_deriv_text.specs.Spelling.{derivation_expr, Fits}
use Rattle.sc_deriv_text.specs.Text.{item_of, text_of}
use Rattle.sc_deriv_text.specs.Laws.{ItemsHaveTokens}
use Rattle.sc_deriv_text.proofs.ReadBack.{IsProper}
use Rattle.sc_tree.specs.declared.verdict.Verdict.{Verdict}
use Rattle.sc_tree.specs.declared.verdict.Verdict.TheVariants.{Sat, Unsat, Unknown}
use Rattle.sc_session.specs.Said as said
use Rattle.sc_session.specs.Scripts.{Item}
use Rattle.sc_session.specs.States.{State, with_verdict, proof}
use Rattle.sc_session.specs.Effects.{Effect, Answers, Checks, line_of, declares, is_taken, declare_of, is_empty_list, assert_of, most_checks, get_proof, effect_of, turn, verdict_line}
use Rattle.sc_session.specs.Giving.{IsGiven}
use Rattle.sc_session.specs.Meaning.{Assertion}
use Rattle.sc_session.specs.Courses.{Course, fault_line, at_last, course_after, course, just_after, AreJust}
use Rattle.sc_session.specs.Laws.{SayTheSame}
use Rattle.sc_session.specs.Proving.{Proves, ProofsRefute}
use Rattle.sc_check.specs.Printed.{proof_for, with_proof, proofs_after, proofs}
use Rattle.sc_check.specs.Transcripts.{IsToldItem}
use Rattle.sc_check.proofs.Literals.{literal_begins}

-- ---- what is said
-- (error l), for a literal l
abbrev pub error_expr : List ℕ → Sexpr
error_expr text = list_of (Atom (Word (codes "error")) ∷ Atom (Literal text) ∷ [])

-- words, literals, derivations and errors, and the derivations among them
pub data Spoken : List Sexpr → List Derivation → Type 0 where
  none : Spoken [] []
  word : (l : Lexeme) (es : List Sexpr) (ds : List Derivation) → IsProper false (Atom l) → Spoken es ds → Spoken (Atom l ∷ es) ds
  refused : (text : List ℕ) (es : List Sexpr) (ds : List Derivation) → Spoken es ds → Spoken (error_expr text ∷ es) ds
  proved : (d : Derivation) (es : List Sexpr) (ds : List Derivation) → IsSpelt d → Fits d → Spoken es ds → Spoken (derivation_expr d ∷ es) (d ∷ ds)

pub record Tells (bytes : List ℕ) (ds : List Derivation) : Type 0 where
  pub exprs : List Sexpr
  pub spoken : Spoken exprs ds
  pub reads : Reads true bytes (flat_map tokens_of exprs) Whole

nothing_left : first true [] ≡ End Whole
unfolding first front gap
nothing_left = refl

pub says_nothing : Tells [] []
says_nothing = record { exprs = []; spoken = none; reads = nothing_left }

-- a line feed changes nothing
line_reads : (rest : List ℕ) (ts : List Lexeme) → Reads true rest ts Whole → Reads true (10 ∷ rest) ts Whole
line_reads rest [] e = (are_passed_over.white true 10 rest refl).0 ∙ e
line_reads rest (t ∷ ts) (e, others) = let white = are_passed_over.white true 10 rest refl in (white.0 ∙ e, subst (λ x. Reads true x ts Whole) (sym white.1) others)

-- a line before what is read
line_then : (bytes rest : List ℕ) (ls ts : List Lexeme) → Begins true (bytes ++ 10 ∷ rest) ls (10 ∷ rest) → Reads true rest ts Whole → Reads true ((bytes ++ 10 ∷ []) ++ rest) (ls ++ ts) Whole
line_then bytes rest ls ts begins reads =
    subst (λ x. Reads true x (ls ++ ts) Whole) (sym (append_assoc bytes (10 ∷ []) rest))
    (Reads-then true ls ts Whole (bytes ++ 10 ∷ rest) (10 ∷ rest) begins (line_reads rest ts reads))

word_line : (bytes rest : List ℕ) (l : Lexeme) (ds : List Derivation) → IsProper false (Atom l) → Begins true (bytes ++ 10 ∷ rest) (l ∷ []) (10 ∷ rest) → Tells rest ds → Tells ((bytes ++ 10 ∷ []) ++ rest) ds
word_line bytes rest l ds proper begins t = record { exprs = Atom l ∷ t.exprs; spoken = word l t.exprs ds proper t.spoken; reads = line_then bytes rest (l ∷ []) (flat_map tokens_of t.exprs) begins t.reads }

proof_text : ItemsHaveTokens → (rest : List ℕ) (d : Derivation) (ds : List Derivation) → IsSpelt d → Fits d → Tells rest ds → Tells (text_of d ++ rest) (d ∷ ds)
proof_text items rest d ds spelt fits t =
    let told = items d in
    record {
      exprs = derivation_expr d ∷ t.exprs;
      spoken = proved d t.exprs ds spelt fits t.spoken;
      reads = subst (λ x. Reads true (x ++ rest) (tokens_of (derivation_expr d) ++ flat_map tokens_of t.exprs) Whole) (sym told.0) (line_then (item_of d) rest (tokens_of (derivation_expr d)) (flat_map tokens_of t.exprs) (told.1 spelt fits (10 ∷ rest)) t.reads);
    }

-- an error ends what is said
abbrev quoted : ℕ → Code → List ℕ
quoted line c = 34 ∷ error_text line (code_text c) ++ 34 ∷ []

error_said : ErrorsReadBack → (line : ℕ) (c : Code) → Tells (spelt_error line c) []
error_said errors line c = record {
  exprs = error_expr (quoted line c) ∷ [];
  spoken = refused (quoted line c) [] [] none;
  reads =
      subst (λ x. Reads true x (tokens_of (error_expr (quoted line c)) ++ []) Whole) (append-nil (spelt_error line c))
      (Reads-then true (tokens_of (error_expr (quoted line c))) [] Whole (spelt_error line c ++ []) (10 ∷ []) (errors line c []) (line_reads [] [] nothing_left));
}

fault_said : ErrorsReadBack → (f : TextFault) → Tells (fault_line f) []
fault_said errors (Lexical line) = error_said errors line code.E1
fault_said errors (Unmatched line) = error_said errors line code.E2
fault_said errors (Unclosed line) = error_said errors line code.E3
fault_said errors (Limit line number) = error_said errors line (code.E16 number)

line_apart : (rest : List ℕ) → is_apart (10 ∷ rest) ≡ true
unfolding is_symbol_byte
line_apart rest = refl

sat_simple : is_simple (codes "sat") ≡ true
unfolding is_symbol_byte
sat_simple = refl

unsat_simple : is_simple (codes "unsat") ≡ true
unfolding is_symbol_byte
unsat_simple = refl

unknown_simple : is_simple (codes "unknown") ≡ true
unfolding is_symbol_byte
unknown_simple = refl

verdict_said : (v : Verdict) (rest : List ℕ) (ds : List Derivation) → Tells rest ds → Tells (verdict_line v ++ rest) ds
verdict_said (Sat m) rest ds t = word_line (codes "sat") rest (Word (codes "sat")) ds tt (bare (codes "sat") (10 ∷ rest) sat_simple (line_apart rest)) t
verdict_said (Unsat d) rest ds t = word_line (codes "unsat") rest (Word (codes "unsat")) ds tt (bare (codes "unsat") (10 ∷ rest) unsat_simple (line_apart rest)) t
verdict_said (Unknown u) rest ds t = word_line (codes "unknown") rest (Word (codes "unknown")) ds tt (bare (codes "unknown") (10 ∷ rest) unknown_simple (line_apart rest)) t

-- ---- the literal of an echo
-- the literal is a token of some text
record IsToken (text : List ℕ) : Type 0 where
  left : List ℕ
  len : ℕ
  found : front true left ≡ Found kind.Literal len
  taken : text ≡ take len (after_gap left)

mark_is : (k : Kind) (bytes : List ℕ) (s l : ℕ) (text : List ℕ) (start line : ℕ) → Marked kind.Literal text start line ≡ mark k bytes s l → (k ≡ kind.Literal) × (text ≡ bytes)
mark_is kind.Left bytes s l text start line e = absurd cc
mark_is kind.Right bytes s l text start line e = absurd cc
mark_is kind.Numeral bytes s l text start line e = absurd cc
mark_is kind.Foreign bytes s l text start line e = absurd cc
mark_is kind.Literal bytes s l text start line e = (refl, cc)
mark_is kind.Word bytes s l text start line e = absurd cc
mark_is kind.Quoted bytes s l text start line e = absurd cc
mark_is kind.Keyword bytes s l text start line e = absurd cc

-- the first token of a text, and the third
first_token : (p : Place) (text : List ℕ) (start line : ℕ) (ms : List Mark) → p.last ≡ true → Tokens p (Marked kind.Literal text start line ∷ ms) → IsToken text
first_token p text start line ms ends (k, i, f, is, others) =
    let same = mark_is k _ _ _ text start line is in
    record {
      left = p.left;
      len = i;
      found = subst (λ b. front b p.left ≡ Found kind.Literal i) ends (subst (λ x. front p.last p.left ≡ Found x i) same.0 f);
      taken = same.1;
    }

second_token : (p : Place) (n : Mark) (text : List ℕ) (start line : ℕ) (ms : List Mark) → p.last ≡ true → Tokens p (n ∷ Marked kind.Literal text start line ∷ ms) → IsToken text
second_token p n text start line ms ends (k, i, f, is, others) = first_token (behind_token p i) text start line ms ends others

third : (p : Place) (m n : Mark) (text : List ℕ) (start line : ℕ) (ms : List Mark) → p.last ≡ true → Tokens p (m ∷ n ∷ Marked kind.Literal text start line ∷ ms) → IsToken text
third p m n text start line ms ends (k, i, f, is, others) = second_token (behind_token p i) n text start line ms ends others

-- what an echo is made of
record IsEcho (s : Shape) (text : List ℕ) : Type 0 where
  line : ℕ
  word : List ℕ
  start : ℕ
  at : ℕ
  behind : ℕ
  below : ℕ
  is : s ≡ Listed line (More (Single kind.Word word start at) (More (Single kind.Literal text behind below) Empty))

echoed : (line : ℕ) (w : List ℕ) (start at : ℕ) (parts : Shapes) (text : List ℕ) → echo parts ≡ Some (Echo text) → IsEcho (Listed line (More (Single kind.Word w start at) parts)) text
echoed line w start at Empty text e = absurd cc
echoed line w start at (More (Single kind.Literal bytes s l) Empty) text e = let same : bytes ≡ text = cc in record { line = line; word = w; start = start; at = at; behind = s; below = l; is = ap (λ x. Listed line (More (Single kind.Word w start at) (More (Single kind.Literal x s l) Empty))) same }
echoed line w start at (More (Single kind.Left bytes s l) Empty) text e = absurd cc
echoed line w start at (More (Single kind.Right bytes s l) Empty) text e = absurd cc
echoed line w start at (More (Single kind.Numeral bytes s l) Empty) text e = absurd cc
echoed line w start at (More (Single kind.Foreign bytes s l) Empty) text e = absurd cc
echoed line w start at (More (Single kind.Word bytes s l) Empty) text e = absurd cc
echoed line w start at (More (Single kind.Quoted bytes s l) Empty) text e = absurd cc
echoed line w start at (More (Single kind.Keyword bytes s l) Empty) text e = absurd cc
echoed line w start at (More (Listed l ps) Empty) text e = absurd cc
echoed line w start at (More p (More q rest)) text e = absurd cc

is_read : (o : Option CommandShape) (c : CommandShape) → ok_or o code.E5 ≡ Ok c → o ≡ Some c
is_read None c e = absurd cc
is_read (Some x) c e = cc

echo_of : (s : Shape) (text : List ℕ) → BeginsWith s (codes "echo") → command_of s ≡ Ok (Echo text) → IsEcho s text
echo_of (Listed line (More (Single kind.Word w start at) parts)) text b e =
    let formed : ok_or (echo parts) code.E5 ≡ Ok (Echo text) = subst (λ x. by_form (form_of x) x parts ≡ Ok (Echo text)) b e in
    echoed line w start at parts text (is_read (echo parts) (Echo text) formed)
echo_of s text b e = absurd b

echo_token : AreByHead → (i : Item) (text : List ℕ) → IsToldItem i → command_of i.shape ≡ Ok (Echo text) → IsToken text
echo_token names i text (p, told) e =
    let k = echo_of i.shape text (names.names i.shape (Echo text) e) e in
    third (place_of p.text p.line) (Opens k.line) (Marked kind.Word k.word k.start k.at) text k.behind k.below (Closes ∷ []) refl (subst (λ s. Tokens (place_of p.text p.line) (marks_of s)) k.is told.tokens)

echo_said : (text rest : List ℕ) (ds : List Derivation) → IsToken text → Tells rest ds → Tells (line_of text ++ rest) ds
echo_said text rest ds t told = word_line text rest (Literal text) ds tt (subst (λ x. Begins true (x ++ 10 ∷ rest) (Literal x ∷ []) (10 ∷ rest)) (sym t.taken) (literal_begins rest t.left t.len t.found)) told

-- ---- what the other commands say
abbrev Says : Effect → Type 0
Says (Answers (said.Text bytes) t) = bytes ≡ []
Says (Answers (said.Error bytes) t) = (line : ℕ) × (c : Code) × (bytes ≡ spelt_error line c)
Says (Answers (said.Exit bytes) t) = bytes ≡ []
Says (Checks problem) = Unit {0}

either : {A : Type 0} (P : A → Type 0) (b : Bool) (x y : A) → P x → P y → P (if b then x else y)
either P true x y p q = p
either P false x y p q = q

module _ (s : State) (line : ℕ) where
  declares_says : (fault : Option Code) (names : Names) (t : State) → Says (declares fault names t line)
  declares_says (Some c) names t = (line, c, refl)
  declares_says None names t = refl

  declared_says : (sort : Result Sort Code) (name : List ℕ) (t : State) → Says (declare_of sort name t line)
  declared_says (Err c) name t = (line, c, refl)
  declared_says (Ok sort) name t = declares_says (fault_of t.names name (length t.names.constants)) (with_constant t.names (record { name = name; sort = sort })) t

  asserted_says : (o : Outcome ℕ) (t : State) → Says (assert_of o t line)
  asserted_says (Fault c bank) t = (line, c, refl)
  asserted_says (Done n bank) t = refl

record IsQuiet (c : Result CommandShape Code) : Type 0 where
  silent : (s : State) → proof_for c s ≡ None
  says : (s : State) (line : ℕ) → Says (effect_of c s line)

kind_of : (c : Result CommandShape Code) → (c ≡ Ok GetProof) ⊎ (((text : List ℕ) × (c ≡ Ok (Echo text))) ⊎ IsQuiet c)
kind_of (Err c) = inr (inr (record { silent = λ s. refl; says = λ s line. (line, c, refl) }))
kind_of (Ok SetLogic) = inr (inr (record { silent = λ s. refl; says = λ s line. refl }))
kind_of (Ok SetInfo) = inr (inr (record { silent = λ s. refl; says = λ s line. refl }))
kind_of (Ok (DeclareSort name arity)) =
    inr (inr (record {
      silent = λ s. refl;
      says = λ s line. either Says (is_taken s.names name) _ _ (line, code.E9, refl) (either Says (bytes_eq (codes "0") arity) _ _ (declares_says s line (fault_of s.names name (length s.names.sorts)) (with_sort s.names name) s) (line, code.E8, refl));
    }))
kind_of (Ok (DeclareConst name sort)) = inr (inr (record { silent = λ s. refl; says = λ s line. either Says (is_taken s.names name) _ _ (line, code.E9, refl) (declared_says s line (sort_of s.names sort) name s) }))
kind_of (Ok (DeclareFun name arguments range)) =
    inr (inr (record {
      silent = λ s. refl;
      says = λ s line. either Says (is_taken s.names name) _ _ (line, code.E9, refl) (either Says (is_empty_list arguments) _ _ (declared_says s line (sort_of s.names range) name s) (line, code.E8, refl));
    }))
kind_of (Ok (Assert term)) = inr (inr (record { silent = λ s. refl; says = λ s line. asserted_says s line (core term (record { bank = s.bank; names = s.names })) s }))
kind_of (Ok CheckSat) = inr (inr (record { silent = λ s. refl; says = λ s line. either Says (nat_le most_checks s.checks) _ _ (line, code.E16 most_checks, refl) tt }))
kind_of (Ok GetProof) = inl refl
kind_of (Ok (Echo text)) = inr (inl (text, refl))
kind_of (Ok Exit) = inr (inr (record { silent = λ s. refl; says = λ s line. refl }))

-- ---- the whole script
missing : {A : Type 0} → false ≡ true → A
missing e = absurd cc

module _ (errors : ErrorsReadBack) (refute : ProofsRefute) (same : SayTheSame) (items : ItemsHaveTokens) (names : AreByHead) (budget : ℕ) (end : Last) where
  abbrev Ahead : List Item → Type 0
  Ahead is =
      (t : State) (vs : List Verdict) (terms : List Assertion) → Proves t → AreJust false budget t terms is vs → Tells (course t is end vs).bytes (proofs t is vs)

  module _ (s : State) (vs : List Verdict) (terms : List Assertion) (i : Item) (is : List Item) (proves : Proves s) (told : IsToldItem i) (ahead : Ahead is) where
    abbrev rest : State → List Verdict → List Derivation
    rest t us = proofs t is us

    abbrev far : State → List Verdict → Course
    far t us = course t is end us

    abbrev Just : Effect → List Verdict → Type 0
    Just e us = just_after false budget e s terms i us (λ t more ws. AreJust false budget t more is ws)

    -- what is said from here on
    abbrev Speaks : Option Derivation → Effect → List Verdict → Type 0
    Speaks p e us = Tells (course_after e s us far).bytes (with_proof p (proofs_after e s us rest))

    checks : (problem : Parts) (us : List Verdict) → turn s i ≡ Checks problem → Just (Checks problem) us → Speaks None (Checks problem) us
    checks problem [] e just = missing just
    checks problem (v ∷ us) e just =
        verdict_said v (far (with_verdict s v) us).bytes (rest (with_verdict s v) us)
        (ahead (with_verdict s v) us terms (refute.checked s budget v (subst (λ p. IsGiven p budget v) (same.checks s i problem e) just.0)) just.2)

    quietly : (e : Effect) → turn s i ≡ e → Says e → Just e vs → Speaks None e vs
    quietly (Answers (said.Text bytes) t) e says just =
        subst (λ x. Tells (x ++ (far t vs).bytes) (rest t vs)) (sym says) (ahead t vs _ (refute.goes_on s t i bytes proves e) just)
    quietly (Answers (said.Error bytes) t) e says just = subst (λ x. Tells x []) (sym says.2) (error_said errors says.0 says.1)
    quietly (Answers (said.Exit bytes) t) e says just = subst (λ x. Tells x []) (sym says) says_nothing
    quietly (Checks problem) e says just = checks problem vs e just

    asks : (p : Option Derivation) → proof s ≡ p → Just (get_proof p s i.line) vs → Speaks p (get_proof p s i.line) vs
    asks (Some d) is_proof just = proof_text items (far s vs).bytes d (rest s vs) (proves d is_proof).0.spelt (proves d is_proof).1 (ahead s vs _ proves just)
    asks None is_proof just = error_said errors i.line code.E14

    by_kind : (c : Result CommandShape Code) → command_of i.shape ≡ c → (c ≡ Ok GetProof) ⊎ (((text : List ℕ) × (c ≡ Ok (Echo text))) ⊎ IsQuiet c) → Just (effect_of c s i.line) vs → Speaks (proof_for c s) (effect_of c s i.line) vs
    by_kind c is (inl e) just = subst (λ x. Speaks (proof_for x s) (effect_of x s i.line) vs) (sym e) (asks (proof s) refl (subst (λ x. Just (effect_of x s i.line) vs) e just))
    by_kind c is (inr (inl (text, e))) just =
        subst (λ x. Speaks (proof_for x s) (effect_of x s i.line) vs) (sym e)
        (echo_said text (far s vs).bytes (rest s vs) (echo_token names i text told (is ∙ e)) (ahead s vs _ proves (subst (λ x. Just (effect_of x s i.line) vs) e just)))
    by_kind c is (inr (inr q)) just = subst (λ p. Speaks p (effect_of c s i.line) vs) (sym (q.silent s)) (quietly (effect_of c s i.line) (ap (λ x. effect_of x s i.line) is) (q.says s i.line) just)

    one_speaks : AreJust false budget s terms (i ∷ is) vs → Tells (course s (i ∷ is) end vs).bytes (proofs s (i ∷ is) vs)
    unfolding proofs course AreJust
    one_speaks just = by_kind (command_of i.shape) refl (kind_of (command_of i.shape)) just

  at_the_end : (l : Last) → Tells (at_last l).bytes []
  at_the_end last.End = says_nothing
  at_the_end (last.Bad f) = fault_said errors f

  none_speaks : (s : State) (vs : List Verdict) → Tells (course s [] end vs).bytes (proofs s [] vs)
  unfolding proofs course
  none_speaks s vs = at_the_end end

  pub speaks : (is : List Item) → AllByRecursion IsToldItem is → Ahead is
  speaks [] told s vs terms proves just = none_speaks s vs
  speaks (i ∷ is) told s vs terms proves just = one_speaks s vs terms i is proves told.0 (speaks is told.1) just
