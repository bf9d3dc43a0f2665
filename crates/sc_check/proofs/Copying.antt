-- The derivations among the items of the responses are copies of those that are printed.
use Rattle.std.proofs.Common.{◌≡◌, ℕ, true, false, List, [], ◌∷◌, ◌++◌, cond, refl, sym, ap, ◌∙◌, subst}
use Rattle.std.specs.Prelude.{codes}
use Rattle.std.specs.Str.{bytes_eq}
use Rattle.std.specs.List.{AllByRecursion, AllZip, flat_map}
use Rattle.sc_text.specs.declared.token.Kind.TheVariants as kind
use Rattle.sc_text.specs.Readings.{Lexeme, Word, Reads, Whole}
use Rattle.sc_text.proofs.Readings.{one}
use Rattle.sc_sexpr.specs.Scans.{Piece, items_of}
use Rattle.sc_sexpr.specs.Shapes.{Shape, Single, Listed, Shapes, Empty, More}
use Rattle.sc_sexpr.specs.Laws.{AreItems}
use Rattle.sc_sexpr.specs.Given.{HaveAllTokens}
use Rattle.sc_commands.specs.Laws.{AreByHead}
use Rattle.sc_print.specs.Readback.{ErrorsReadBack}
use Rattle.sc_deriv.specs.declared.derivation.Derivation.{Derivation}
use Rattle.sc_deriv.specs.Spelling.{IsSpelt}
use Rattle.sc_deriv_text.specs.Laws.{TextsHaveTokens, ItemsHaveTokens}
use Rattle.sc_deriv_text.specs.Sexpr.{Sexpr, Atom, Nil, Cons, plain, plains, tokens, tokens_of}
use Rattle.sc_deriv_text.specs.Spelling.{derivation_expr, Fits}
use Rattle.sc_deriv_text.proofs.ReadBack.{IsProper, same, derivation_proper, told_reads}
use Rattle.sc_session.specs.Scripts.{Item, AreTold, most_bytes}
use Rattle.sc_session.specs.States.{start}
use Rattle.sc_session.specs.Courses.{course_of}
use Rattle.sc_session.specs.Laws.{SayTheSame}
use Rattle.sc_session.specs.Proving.{ProofsRefute}
use Rattle.sc_session.specs.Tracing.{step}
use Rattle.sc_check.specs.Lines.{is_derivation}
use Rattle.sc_check.specs.Printed.{proofs_of, IsCopyOf, derivations_in, EachIsAnswered, ChecksAcceptPrinted}
use Rattle.sc_check.specs.Transcripts.{IsToldItem, AreItemsOf, TranscriptsAreCopies, ChecksAcceptTranscripts}
use Rattle.sc_check.proofs.Covering.{covered}
use Rattle.sc_check.proofs.Printing.{followed_to}
use Rattle.sc_check.proofs.Speaking.{error_expr, Spoken, none, word, refused, proved, Tells, speaks}

-- ---- the items are what is said
abbrev AreProper : List Sexpr → Type 0
AreProper es = AllByRecursion (IsProper false) es

spoken_proper : (es : List Sexpr) (ds : List Derivation) → Spoken es ds → AreProper es
spoken_proper es ds none = tt
spoken_proper es ds (word l more ds' p s) = (p, spoken_proper more ds' s)
spoken_proper es ds (refused text more ds' s) = ((tt, (tt, tt)), spoken_proper more ds' s)
spoken_proper es ds (proved d more ds' spelt fits s) = (derivation_proper d, spoken_proper more ds' s)

some_token : (t : Sexpr) (xs : List Lexeme) → tokens false t ++ xs ≡ [] → ⊥
some_token (Atom l) xs e = cc
some_token Nil xs e = cc
some_token (Cons t ts) xs e = cc

same_exprs : (es us : List Sexpr) → AreProper es → AreProper us → flat_map tokens_of es ≡ flat_map tokens_of us → es ≡ us
same_exprs [] [] p q e = refl
same_exprs [] (u ∷ us) p q e = absurd (some_token u (flat_map tokens_of us) (sym e))
same_exprs (t ∷ ts) [] p q e = absurd (some_token t (flat_map tokens_of ts) e)
same_exprs (t ∷ ts) (u ∷ us) p q e =
    let both = same false t u (flat_map tokens_of ts) (flat_map tokens_of us) p.0 q.0 e in
    ap (λ x. x ∷ ts) both.0 ∙ ap (λ xs. u ∷ xs) (same_exprs ts us p.1 q.1 both.1)

abbrev plain_items : List Item → List Sexpr
plain_items [] = []
plain_items (i ∷ is) = plain i.shape ∷ plain_items is

items_proper : (is : List Item) → AllByRecursion IsToldItem is → AreProper (plain_items is)
items_proper [] told = tt
items_proper (i ∷ is) ((p, told), others) = ((told_reads p.text p.line i.shape told.tokens).1, items_proper is others)

items_tokens : (is : List Item) → flat_map (λ i. tokens_of (plain i.shape)) is ≡ flat_map tokens_of (plain_items is)
items_tokens [] = refl
items_tokens (i ∷ is) = ap (λ ts. tokens_of (plain i.shape) ++ ts) (items_tokens is)

-- ---- which of them are derivations
no_list : (rest : Shapes) (l : Lexeme) → plains rest ≡ Atom l → ⊥
no_list Empty l e = cc
no_list (More s rest) l e = cc

word_is : (s : Shape) (l : Lexeme) → plain s ≡ Atom l → is_derivation s ≡ false
word_is (Single k text from line) l e = refl
word_is (Listed line rest) l e = absurd (no_list rest l e)

named_word : (s : Shape) (rest : Shapes) (line : ℕ) (text : List ℕ) → plain s ≡ Atom (Word text) → bytes_eq (codes "derivation") text ≡ true → is_derivation (Listed line (More s rest)) ≡ true
named_word (Single kind.Word bytes from l) rest line text e is = let same_bytes : bytes ≡ text = cc in subst (λ x. bytes_eq (codes "derivation") x ≡ true) (sym same_bytes) is
named_word (Single kind.Left bytes from l) rest line text e is = absurd cc
named_word (Single kind.Right bytes from l) rest line text e is = absurd cc
named_word (Single kind.Numeral bytes from l) rest line text e is = absurd cc
named_word (Single kind.Foreign bytes from l) rest line text e is = absurd cc
named_word (Single kind.Literal bytes from l) rest line text e is = absurd cc
named_word (Single kind.Quoted bytes from l) rest line text e is = absurd cc
named_word (Single kind.Keyword bytes from l) rest line text e is = absurd cc
named_word (Listed l inner) rest line text e is = absurd (no_list inner (Word text) e)

cons_is : (t u : Sexpr) (ts us : Sexpr) → Cons t ts ≡ Cons u us → t ≡ u
cons_is t u ts us e = cc

derivation_is : (s : Shape) (ts : Sexpr) → plain s ≡ Cons (Atom (Word (codes "derivation"))) ts → is_derivation s ≡ true
derivation_is (Single k text from line) ts e = absurd cc
derivation_is (Listed line Empty) ts e = absurd cc
derivation_is (Listed line (More s rest)) ts e = named_word s rest line (codes "derivation") (cons_is (plain s) (Atom (Word (codes "derivation"))) (plains rest) ts e) refl

other_word : (s : Shape) (rest : Shapes) (line : ℕ) (text : List ℕ) → plain s ≡ Atom (Word text) → bytes_eq (codes "derivation") text ≡ false → is_derivation (Listed line (More s rest)) ≡ false
other_word (Single kind.Word bytes from l) rest line text e is = let same_bytes : bytes ≡ text = cc in subst (λ x. bytes_eq (codes "derivation") x ≡ false) (sym same_bytes) is
other_word (Single kind.Left bytes from l) rest line text e is = refl
other_word (Single kind.Right bytes from l) rest line text e is = refl
other_word (Single kind.Numeral bytes from l) rest line text e is = refl
other_word (Single kind.Foreign bytes from l) rest line text e is = refl
other_word (Single kind.Literal bytes from l) rest line text e is = refl
other_word (Single kind.Quoted bytes from l) rest line text e is = refl
other_word (Single kind.Keyword bytes from l) rest line text e is = refl
other_word (Listed l inner) rest line text e is = refl

error_is : (s : Shape) (ts : Sexpr) → plain s ≡ Cons (Atom (Word (codes "error"))) ts → is_derivation s ≡ false
error_is (Single k text from line) ts e = refl
error_is (Listed line Empty) ts e = refl
error_is (Listed line (More s rest)) ts e = other_word s rest line (codes "error") (cons_is (plain s) (Atom (Word (codes "error"))) (plains rest) ts e) refl

-- ---- copies
module _ (have : TextsHaveTokens) where
  copy_of : (d : Derivation) (i : Item) → IsSpelt d → Fits d → IsToldItem i → plain i.shape ≡ derivation_expr d → IsCopyOf d i
  copy_of d i spelt fits (p, told) e = record {
    tokens = tokens_of (derivation_expr d);
    printed = have d spelt fits;
    piece = p;
    copied = subst (λ t. Reads true p.text (tokens_of t) Whole) e (told_reads p.text p.line i.shape told.tokens).0;
    told = told;
  }

  expr_is : (t u : Sexpr) (ts us : List Sexpr) → t ∷ ts ≡ u ∷ us → t ≡ u
  expr_is t u ts us e = cc

  others_are : (t u : Sexpr) (ts us : List Sexpr) → t ∷ ts ≡ u ∷ us → ts ≡ us
  others_are t u ts us e = cc

  copies : (es : List Sexpr) (ds : List Derivation) → Spoken es ds → (is : List Item) → AllByRecursion IsToldItem is → plain_items is ≡ es → AllZip IsCopyOf ds (derivations_in is)
  copies es ds none [] told e = tt
  copies es ds none (i ∷ is) told e = absurd cc
  copies es ds (word l more ds' p s) [] told e = absurd cc
  copies es ds (word l more ds' p s) (i ∷ is) told e =
      subst (λ b. AllZip IsCopyOf ds' (cond b (i ∷ derivations_in is) (derivations_in is))) (sym (word_is i.shape l (expr_is (plain i.shape) (Atom l) (plain_items is) more e)))
      (copies more ds' s is told.1 (others_are (plain i.shape) (Atom l) (plain_items is) more e))
  copies es ds (refused text more ds' s) [] told e = absurd cc
  copies es ds (refused text more ds' s) (i ∷ is) told e =
      subst (λ b. AllZip IsCopyOf ds' (cond b (i ∷ derivations_in is) (derivations_in is))) (sym (error_is i.shape _ (expr_is (plain i.shape) (error_expr text) (plain_items is) more e)))
      (copies more ds' s is told.1 (others_are (plain i.shape) (error_expr text) (plain_items is) more e))
  copies es ds (proved d more ds' spelt fits s) [] told e = absurd cc
  copies es ds (proved d more ds' spelt fits s) (i ∷ is) told e =
      let here : plain i.shape ≡ derivation_expr d = expr_is (plain i.shape) (derivation_expr d) (plain_items is) more e in
      subst (λ b. AllZip IsCopyOf (d ∷ ds') (cond b (i ∷ derivations_in is) (derivations_in is))) (sym (derivation_is i.shape _ here))
      (copy_of d i spelt fits told.0 here, copies more ds' s is told.1 (others_are (plain i.shape) (derivation_expr d) (plain_items is) more e))

  -- ---- the whole transcript
  all_told : (ps : List Piece) (is : List Item) → AreTold ps is → AllByRecursion IsToldItem is
  all_told [] [] a = tt
  all_told [] (i ∷ is) a = absurd a
  all_told (p ∷ ps) [] a = absurd a
  all_told (p ∷ ps) (i ∷ is) a = ((p, a.0), all_told ps is a.1)

  copied : (bytes : List ℕ) (ds : List Derivation) → Tells bytes ds → (is : List Item) → AreItemsOf bytes is → AllZip IsCopyOf ds (derivations_in is)
  copied bytes ds t is a =
      let tokens_are = (one true bytes (flat_map (λ i. tokens_of (plain i.shape)) is) (flat_map tokens_of t.exprs) Whole Whole a.tokens t.reads).0 in
      copies t.exprs ds t.spoken is a.told
      (same_exprs (plain_items is) t.exprs (items_proper is a.told) (spoken_proper t.exprs ds t.spoken) (sym (items_tokens is) ∙ tokens_are))

pub transcripts_are_copies : ErrorsReadBack → ProofsRefute → SayTheSame → TextsHaveTokens → ItemsHaveTokens → AreByHead → TranscriptsAreCopies
transcripts_are_copies errors refute say have items names text script reads budget verdicts just is a =
    let told = all_told have (items_of most_bytes text).tops script.items reads.items in
    copied have (course_of script verdicts).bytes (proofs_of script verdicts) (speaks errors refute say items names budget script.last script.items told start verdicts [] refute.starts just) is a

pub checks_accept_transcripts : ChecksAcceptPrinted → EachIsAnswered → AreItems → HaveAllTokens → TranscriptsAreCopies → ChecksAcceptTranscripts
checks_accept_transcripts accept answered give all are_copies text script reads budget verdicts just input v y whole t j later parts same end =
    let items = covered give all v j.before j.behind y input (course_of script verdicts).bytes j.follows.items j.items j.leaves.i whole j.follows.gives j.leaves.next j.gives end same in (
      accept false budget script verdicts just v y t j later parts (are_copies text script reads budget verdicts just j.items items),
      λ fine. answered budget script verdicts just fine j.script.asked (step j.script.session j.leaves.i).session.bank (followed_to v y t j script.items later parts),
    )
