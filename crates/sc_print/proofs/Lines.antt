-- What error lines and values consist of, piece by piece.
use Rattle.std.proofs.Common.{◌≡◌, ℕ, Bool, if◌then◌else◌, List, [], ◌∷◌, ◌++◌, sym, ap, ◌∙◌, append_assoc}
use Rattle.std.specs.Prelude.{codes, decimal}
use Rattle.std.proofs.lemmas.List.{append-nil}
use Rattle.sc_text.specs.declared.code.Code.{Code}
use Rattle.sc_text.specs.declared.code.Code.TheVariants.{E16}
use Rattle.sc_print.specs.Spelling.{code_text, error_with}

-- the same bytes, said otherwise
pub appends : (ok : Bool) (old new x y : List ℕ) → new ≡ (if ok then old ++ x else old) → x ≡ y → new ≡ (if ok then old ++ y else old)
appends ok old new x y is same = is ∙ ap (λ (t : List ℕ). if ok then old ++ t else old) same

-- the end of a line behind its number
closes : (number text : List ℕ) → number ++ (58 ∷ 32 ∷ (text ++ (34 ∷ 41 ∷ 10 ∷ []))) ≡ (number ++ (58 ∷ 32 ∷ (text ++ []))) ++ (34 ∷ 41 ∷ 10 ∷ [])
closes number text =
    ap (λ (t : List ℕ). number ++ (58 ∷ 32 ∷ (t ++ (34 ∷ 41 ∷ 10 ∷ [])))) (sym (append-nil text)) ∙ sym (append_assoc number (58 ∷ 32 ∷ (text ++ [])) (34 ∷ 41 ∷ 10 ∷ []))

pub fixed_line : (line : ℕ) (text : List ℕ) → codes "(error \"line " ++ (decimal line ++ (codes ": " ++ (text ++ (34 ∷ 41 ∷ 10 ∷ [])))) ≡ error_with line text
fixed_line line text = ap (λ (t : List ℕ). codes "(error \"line " ++ t) (closes (decimal line) text)

pub limit_line : (line limit : ℕ) → codes "(error \"line " ++ (decimal line ++ (codes ": E16 limit " ++ (decimal limit ++ (codes " passed" ++ (34 ∷ 41 ∷ 10 ∷ []))))) ≡ error_with line (code_text (E16 limit))
limit_line line limit =
    ap (λ (t : List ℕ). codes "(error \"line " ++ (decimal line ++ (codes ": E16 limit " ++ t))) (sym (append_assoc (decimal limit) (codes " passed") (34 ∷ 41 ∷ 10 ∷ []))) ∙ fixed_line line (code_text (E16 limit))

-- the bytes appended are those of this code's line
pub with_code : (ok : Bool) (old new : List ℕ) (line : ℕ) (code k : Code) → code ≡ k → new ≡ (if ok then old ++ error_with line (code_text k) else old) → new ≡ (if ok then old ++ error_with line (code_text code) else old)
with_code ok old new line code k same is = is ∙ ap (λ (x : Code). if ok then old ++ error_with line (code_text x) else old) (sym same)
