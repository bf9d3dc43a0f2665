-- Noting the lines of items.
use Rattle.std.proofs.Common.{◌≡◌, ℕ, ◌<◌, true, List, [], ◌∷◌, ◌++◌, map, Option, Some, None, unwrap_or, refl, sym, ap, ◌∙◌, append_assoc, append-nil, length, drop, get_or, suc, ◌+◌, ◌≤◌, add-one, drop-cons}
use Rattle.std.proofs.lemmas.List.{drop_all}
use Rattle.sc_sexpr.specs.declared.item.Fault.{Fault}
use Rattle.sc_sexpr.specs.declared.item.Last.{Last}
use Rattle.sc_sexpr.specs.declared.item.Last.TheVariants as last
use Rattle.sc_sexpr.specs.declared.item.Item.TheVariants as item
use Rattle.sc_sexpr.specs.Scans.{Reading, Piece, with_top}
use Rattle.sc_sexpr.specs.View.{View, keeping, fed}
use Rattle.sc_sexpr.specs.Laws.{reading_by, reading_of, behind}
use Rattle.sc_sexpr.specs.Lines.{Lines, lines_with, Drains, joined_pieces}
use Rattle.sc_sexpr.proofs.Reading.{fed_reads, keeps_reads}

-- what was read so far is noted
abbrev pub Notes : List ℕ → View → List ℕ → View → Type 0
Notes noted v noted' w = (more : List ℕ) → (v.last ≡ true → more ≡ []) → lines_with noted (reading_of v more) ≡ lines_with noted' (reading_of w more)

lines-top : (noted text : List ℕ) (line : ℕ) (r : Reading) → lines_with noted (with_top text line r) ≡ lines_with (noted ++ line ∷ []) r
lines-top noted text line r = ap (λ (xs : List ℕ). let l : Lines = record { lines = xs; last = r.last } in l) (sym (append_assoc noted (line ∷ []) (map (λ (p : Piece). p.line) r.tops)))

pub notes_top : (noted noted' noted'' : List ℕ) (v w u : View) (line : ℕ) → Notes noted v noted' w → w.last ≡ v.last → ((more : List ℕ) → (w.last ≡ true → more ≡ []) → reading_of w more ≡ behind (item.Top line) u more) → noted'' ≡ noted' ++ line ∷ [] → Notes noted v noted'' u
notes_top noted noted' noted'' v w u line h l a e = λ more p.
    h more p ∙ ap (lines_with noted') (a more (λ t. p (sym l ∙ t))) ∙ lines-top noted' (unwrap_or u.given []) line (reading_of u more) ∙ ap (λ xs. lines_with xs (reading_of u more)) (sym e)

pub notes_more : (noted noted' : List ℕ) (v w u : View) → Notes noted v noted' w → w.last ≡ v.last → ((more : List ℕ) → (w.last ≡ true → more ≡ []) → reading_of w more ≡ behind item.More u more) → Drains noted v None noted' u
notes_more noted noted' v w u h l a = λ more p. h more p ∙ ap (lines_with noted') (a more (λ t. p (sym l ∙ t)))

lines-none : (noted : List ℕ) (l : Last) → lines_with noted (record { tops = []; last = l }) ≡ record { lines = noted; last = l }
lines-none noted l = ap (λ (xs : List ℕ). let r : Lines = record { lines = xs; last = l } in r) (append-nil noted)

pub notes_end : (noted noted' : List ℕ) (v w u : View) → Notes noted v noted' w → w.last ≡ v.last → ((more : List ℕ) → (w.last ≡ true → more ≡ []) → reading_of w more ≡ behind item.End u more) → Drains noted v (Some last.End) noted' u
notes_end noted noted' v w u h l a = λ more p. h more p ∙ ap (lines_with noted') (a more (λ t. p (sym l ∙ t))) ∙ lines-none noted' last.End

pub notes_bad : (noted noted' : List ℕ) (v w u : View) (f : Fault) → Notes noted v noted' w → w.last ≡ v.last → ((more : List ℕ) → (w.last ≡ true → more ≡ []) → reading_of w more ≡ behind (item.Bad f) u more) → Drains noted v (Some (last.Bad f)) noted' u
notes_bad noted noted' v w u f h l a = λ more p. h more p ∙ ap (lines_with noted') (a more (λ t. p (sym l ∙ t))) ∙ lines-none noted' (last.Bad f)

-- a piece is fed
pub note_feed : {V : Type 0} (it : V → List ℕ) (whole : List ℕ → Lines) (noted : List ℕ) (s f : View) (pieces : List V) (here : V) (i : ℕ) →
    ((more : List ℕ) → whole more ≡ lines_with noted (reading_of s (joined_pieces (map it (drop i pieces)) ++ more))) →
    i < length pieces → here ≡ get_or pieces i here → f ≡ keeping f.kept (fed s (it here)) → (more : List ℕ) → whole more ≡ lines_with noted (reading_of f (joined_pieces (map it (drop (i + 1) pieces)) ++ more))
note_feed it whole noted s f pieces here i h lt at e more =
    let rest : List ℕ = joined_pieces (map it (drop (i + 1) pieces)) in
    let front : drop i pieces ≡ here ∷ drop (i + 1) pieces = drop-cons pieces i here lt ∙ ap (λ x. x ∷ drop (suc i) pieces) (sym at) ∙ ap (λ n. here ∷ drop n pieces) (sym (add-one i)) in
    h more ∙ ap (λ ps. lines_with noted (reading_of s (joined_pieces (map it ps) ++ more))) front
    ∙ ap (λ xs. lines_with noted (reading_of s xs)) (append_assoc (it here) rest more)
    ∙ ap (lines_with noted) (sym (fed_reads s.over s (it here) (rest ++ more)))
    ∙ ap (lines_with noted) (sym (keeps_reads s.over f.kept (fed s (it here)) (rest ++ more)))
    ∙ ap (λ (v : View). lines_with noted (reading_of v (rest ++ more))) (sym e)

finished : (o : Option Last) (s : View) (more : List ℕ) → reading_by o s more ≡ reading_by o (record s { last = true }) more
finished None s more = refl
finished (Some l) s more = refl

pub note_all : {V : Type 0} (it : V → List ℕ) (whole : List ℕ → Lines) (noted : List ℕ) (s f : View) (pieces : List V) (i : ℕ) →
    ((more : List ℕ) → whole more ≡ lines_with noted (reading_of s (joined_pieces (map it (drop i pieces)) ++ more))) → length pieces ≤ i → f ≡ record s { last = true } → whole [] ≡ lines_with noted (reading_of f [])
note_all it whole noted s f pieces i h le e =
    h [] ∙ ap (λ ps. lines_with noted (reading_of s (joined_pieces (map it ps) ++ []))) (drop_all i pieces le) ∙ ap (lines_with noted) (finished s.over s []) ∙ ap (λ (v : View). lines_with noted (reading_of v [])) (sym e)
