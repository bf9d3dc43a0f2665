-- What the head of a top item says of its code.
use Rattle.std.proofs.Common.{◌≡◌, ℕ, Bool, true, false, ◌||◌, List, Option, Some, None, Result, Ok, Err, if◌then◌else◌, refl, sym, ap, ◌∙◌, subst}
use Rattle.std.specs.Prelude.{◌↔◌, is_some, ok_or}
use Rattle.sc_text.specs.declared.token.Kind.TheVariants as kind
use Rattle.sc_text.specs.declared.code.Code.{Code}
use Rattle.sc_text.specs.declared.code.Code.TheVariants as code
use Rattle.sc_text.specs.Names.{is_among, is_command, is_left_out_command}
use Rattle.sc_sexpr.specs.Shapes.{Shape, Single, Listed, Shapes, Empty, More}
use Rattle.sc_commands.specs.Commands.{CommandShape}
use Rattle.sc_commands.specs.Forms.{form_of, by_form, by_head, command_of}
use Rattle.sc_commands.specs.Laws.{name_of, done, is_name, HasHead, BeginsWith, is_shape_code, AreByHead}
use Rattle.sc_commands.proofs.Words.{Form, NamedBy, done_have_forms, done_are_commands, forms_have_names}

-- what is no bare word
record NoWord (head : Shape) : Type 0 where
  unknown : (parts : Shapes) → by_head head parts ≡ Err code.E4
  bare : (line : ℕ) (parts : Shapes) (word : List ℕ) → BeginsWith (Listed line (More head parts)) word → ⊥

by_cases : (P : Shape → Type 0) → ((text : List ℕ) (start line : ℕ) → P (Single kind.Word text start line)) → ((head : Shape) → NoWord head → P head) → (head : Shape) → P head
by_cases P w n (Single kind.Word t s l) = w t s l
by_cases P w n (Single kind.Left t s l) = n _ (record { unknown = λ parts. refl; bare = λ line parts word b. b })
by_cases P w n (Single kind.Right t s l) = n _ (record { unknown = λ parts. refl; bare = λ line parts word b. b })
by_cases P w n (Single kind.Numeral t s l) = n _ (record { unknown = λ parts. refl; bare = λ line parts word b. b })
by_cases P w n (Single kind.Foreign t s l) = n _ (record { unknown = λ parts. refl; bare = λ line parts word b. b })
by_cases P w n (Single kind.Literal t s l) = n _ (record { unknown = λ parts. refl; bare = λ line parts word b. b })
by_cases P w n (Single kind.Quoted t s l) = n _ (record { unknown = λ parts. refl; bare = λ line parts word b. b })
by_cases P w n (Single kind.Keyword t s l) = n _ (record { unknown = λ parts. refl; bare = λ line parts word b. b })
by_cases P w n (Listed l rest) = n _ (record { unknown = λ parts. refl; bare = λ line parts word b. b })

-- the code of what is not read by a form
abbrev other_code : Bool → Result CommandShape Code
other_code b = Err (if b then code.E8 else code.E4)

is_e4 : (b : Bool) → other_code b ≡ Err code.E4 → b ≡ false
is_e4 true e = absurd cc
is_e4 false e = refl

is_e8 : (b : Bool) → other_code b ≡ Err code.E8 → b ≡ true
is_e8 true e = refl
is_e8 false e = absurd cc

is_e5 : (o : Option CommandShape) (c : Code) → ok_or o code.E5 ≡ Err c → c ≡ code.E5
is_e5 None c e = cc
is_e5 (Some x) c e = absurd cc

either_code : (b : Bool) (c : Code) → other_code b ≡ Err c → is_shape_code c ≡ true
either_code true c e =
    let same : code.E8 ≡ c = cc in
    subst (λ d. is_shape_code d ≡ true) same refl
either_code false c e =
    let same : code.E4 ≡ c = cc in
    subst (λ d. is_shape_code d ≡ true) same refl

e4_only : (o : Option Form) (text : List ℕ) (parts : Shapes) → by_form o text parts ≡ Err code.E4 → is_name text ≡ false
e4_only None text parts e = is_e4 (is_name text) e
e4_only (Some f) text parts e = absurd (let bad : code.E4 ≡ code.E5 = is_e5 (f parts) code.E4 e in cc)

e4_back : (o : Option Form) (text : List ℕ) (parts : Shapes) → (is_some o ≡ true → is_name text ≡ true) → is_name text ≡ false → by_form o text parts ≡ Err code.E4
e4_back None text parts h e = ap other_code e
e4_back (Some f) text parts h e = absurd (let known : is_name text ≡ true = h refl in cc)

e8_name : (o : Option Form) (text : List ℕ) (parts : Shapes) → by_form o text parts ≡ Err code.E8 → is_name text ≡ true
e8_name None text parts e = is_e8 (is_name text) e
e8_name (Some f) text parts e = absurd (let bad : code.E8 ≡ code.E5 = is_e5 (f parts) code.E8 e in cc)

e8_form : (o : Option Form) (text : List ℕ) (parts : Shapes) → by_form o text parts ≡ Err code.E8 → is_some o ≡ false
e8_form None text parts e = refl
e8_form (Some f) text parts e = absurd (let bad : code.E8 ≡ code.E5 = is_e5 (f parts) code.E8 e in cc)

e8_back : (o : Option Form) (text : List ℕ) (parts : Shapes) → is_name text ≡ true → is_some o ≡ false → by_form o text parts ≡ Err code.E8
e8_back None text parts e h = ap other_code e
e8_back (Some f) text parts e h = absurd cc

some_code : (o : Option Form) (text : List ℕ) (parts : Shapes) (c : Code) → by_form o text parts ≡ Err c → is_shape_code c ≡ true
some_code None text parts c e = either_code (is_name text) c e
some_code (Some f) text parts c e = subst (λ d. is_shape_code d ≡ true) (sym (is_e5 (f parts) c e)) refl

is_read : (o : Option CommandShape) (c : CommandShape) → ok_or o code.E5 ≡ Ok c → o ≡ Some c
is_read None c e = absurd cc
is_read (Some x) c e = cc

read_name : (o : Option Form) (text : List ℕ) (parts : Shapes) (c : CommandShape) → NamedBy o text → by_form o text parts ≡ Ok c → name_of c ≡ text
read_name None text parts c h e = absurd cc
read_name (Some f) text parts c h e = h f refl parts c (is_read (f parts) c e)

-- a command that is done has a name
known : (text : List ℕ) → is_some (form_of text) ≡ true → is_name text ≡ true
known text h =
    let named : is_command text ≡ true = done_are_commands text (sym (done_have_forms text) ∙ h) in
    ap (λ b. b || is_left_out_command text) named

unknown_head : (line : ℕ) (parts : Shapes) (head : Shape) → (by_head head parts ≡ Err code.E4) ↔ (HasHead (Listed line (More head parts)) × ((word : List ℕ) → BeginsWith (Listed line (More head parts)) word → is_name word ≡ false))
unknown_head line parts =
    by_cases (λ head. (by_head head parts ≡ Err code.E4) ↔ (HasHead (Listed line (More head parts)) × ((word : List ℕ) → BeginsWith (Listed line (More head parts)) word → is_name word ≡ false)))
    (λ text start at. (
      λ e. (tt, λ word b. subst (λ q. is_name q ≡ false) b (e4_only (form_of text) text parts e)),
      λ h. e4_back (form_of text) text parts (known text) (h.1 text refl),
    ))
    (λ head n. (λ e. (tt, λ word b. absurd (n.bare line parts word b)), λ h. n.unknown parts))

pub unknown_item : (s : Shape) → (command_of s ≡ Err code.E4) ↔ (HasHead s × ((word : List ℕ) → BeginsWith s word → is_name word ≡ false))
unknown_item (Single k text start line) = (λ e. absurd cc, λ h. absurd h.0)
unknown_item (Listed line Empty) = (λ e. absurd cc, λ h. absurd h.0)
unknown_item (Listed line (More head parts)) = unknown_head line parts head

outside_head : (line : ℕ) (parts : Shapes) (head : Shape) → (by_head head parts ≡ Err code.E8) ↔ ((word : List ℕ) × BeginsWith (Listed line (More head parts)) word × (is_name word ≡ true) × (is_among word done ≡ false))
outside_head line parts =
    by_cases (λ head. (by_head head parts ≡ Err code.E8) ↔ ((word : List ℕ) × BeginsWith (Listed line (More head parts)) word × (is_name word ≡ true) × (is_among word done ≡ false)))
    (λ text start at. (
      λ e. (text, refl, e8_name (form_of text) text parts e, sym (done_have_forms text) ∙ e8_form (form_of text) text parts e),
      λ h. e8_back (form_of text) text parts (subst (λ q. is_name q ≡ true) (sym h.1) h.2) (done_have_forms text ∙ subst (λ q. is_among q done ≡ false) (sym h.1) h.3),
    ))
    (λ head n. (λ e. absurd (let u : by_head head parts ≡ Err code.E4 = n.unknown parts in cc), λ h. absurd (n.bare line parts h.0 h.1)))

pub outside_item : (s : Shape) → (command_of s ≡ Err code.E8) ↔ ((word : List ℕ) × BeginsWith s word × (is_name word ≡ true) × (is_among word done ≡ false))
outside_item (Single k text start line) = (λ e. absurd cc, λ h. absurd h.1)
outside_item (Listed line Empty) = (λ e. absurd cc, λ h. absurd h.1)
outside_item (Listed line (More head parts)) = outside_head line parts head

code_of_head : (parts : Shapes) (c : Code) (head : Shape) → by_head head parts ≡ Err c → is_shape_code c ≡ true
code_of_head parts c =
    by_cases (λ head. by_head head parts ≡ Err c → is_shape_code c ≡ true)
    (λ text start at e. some_code (form_of text) text parts c e)
    (λ head n e. let u : by_head head parts ≡ Err code.E4 = n.unknown parts in let same : code.E4 ≡ c = cc in subst (λ d. is_shape_code d ≡ true) same refl)

pub code_of_item : (s : Shape) (c : Code) → command_of s ≡ Err c → is_shape_code c ≡ true
code_of_item (Single k text start line) c e =
    let same : code.E5 ≡ c = cc in
    subst (λ d. is_shape_code d ≡ true) same refl
code_of_item (Listed line Empty) c e =
    let same : code.E5 ≡ c = cc in
    subst (λ d. is_shape_code d ≡ true) same refl
code_of_item (Listed line (More head parts)) c e = code_of_head parts c head e

name_of_head : (line : ℕ) (parts : Shapes) (c : CommandShape) (head : Shape) → by_head head parts ≡ Ok c → BeginsWith (Listed line (More head parts)) (name_of c)
name_of_head line parts c =
    by_cases (λ head. by_head head parts ≡ Ok c → BeginsWith (Listed line (More head parts)) (name_of c))
    (λ text start at e. sym (read_name (form_of text) text parts c (forms_have_names text) e))
    (λ head n e. absurd (let u : by_head head parts ≡ Err code.E4 = n.unknown parts in cc))

pub name_of_item : (s : Shape) (c : CommandShape) → command_of s ≡ Ok c → BeginsWith s (name_of c)
name_of_item (Single k text start line) c e = absurd cc
name_of_item (Listed line Empty) c e = absurd cc
name_of_item (Listed line (More head parts)) c e = name_of_head line parts c head e

pub are_by_head : AreByHead
are_by_head = record { unknown = unknown_item; outside = outside_item; codes_are = code_of_item; names = name_of_item }
