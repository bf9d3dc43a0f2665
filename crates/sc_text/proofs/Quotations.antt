-- Quoted symbols and literals.
use Rattle.std.proofs.Common.{◌≡◌, ◌≢◌, ℕ, ◌+◌, Bool, true, false, ◌&&◌, ◌||◌, ◌==◌, not, if◌then◌else◌, List, [], ◌∷◌, ◌++◌, length, Option, Some, None, suc, refl, sym, ap, subst, ◌∙◌, arith}
use Rattle.std.specs.List.{list_all}
use Rattle.std.proofs.lemmas.Bool.{ne_eqb}
use Rattle.std.proofs.lemmas.List.{append-nil}
use Rattle.sc_text.specs.declared.token.Kind.{Kind}
use Rattle.sc_text.specs.declared.token.Kind.TheVariants as kind
use Rattle.sc_text.specs.declared.mode.Mode.{Mode}
use Rattle.sc_text.specs.declared.mode.Mode.TheVariants as mode
use Rattle.sc_text.specs.declared.mode.Step.{Step}
use Rattle.sc_text.specs.declared.mode.Step.TheVariants as step
use Rattle.sc_text.specs.declared.front.Front.{Front}
use Rattle.sc_text.specs.declared.front.Front.TheVariants.{Token, Open, Broken}
use Rattle.sc_text.specs.declared.front.Run.{Run}
use Rattle.sc_text.specs.declared.front.Run.TheVariants.{Takes, Ends, Fails}
use Rattle.sc_text.specs.Modes.{whole, going, closed, step_of, longer, after_step, run}
use Rattle.sc_text.specs.Fronts.{ended, front_of}
use Rattle.sc_text.specs.Grammar.{is_quotable, escaped, AreQuotations}

-- ---- between bars

bar_step : (x y : Bool) → not (x || y) ≡ true → closed (if x then Some kind.Quoted else None) (going (if y then None else Some mode.Quoted) step.Fault) ≡ step.Go mode.Quoted
bar_step true y e = absurd cc
bar_step false true e = absurd cc
bar_step false false e = refl

quotable_step : (b : ℕ) → is_quotable b ≡ true → step_of mode.Quoted b ≡ step.Go mode.Quoted
unfolding step_of
quotable_step b e = bar_step (b == 124) (b == 92) e

and_both : (x y : Bool) → (x && y) ≡ true → (x ≡ true) × (y ≡ true)
and_both true y e = (refl, e)
and_both false y e = absurd cc

-- a run that n bytes come before
abbrev behind : ℕ → Run → Run
behind n (Takes i k) = Takes (n + i) k
behind n (Ends i m) = Ends (n + i) m
behind n Fails = Fails

behind-zero : (r : Run) → r ≡ behind 0 r
behind-zero (Takes i k) = let e : i ≡ 0 + i = omega arith in ap (λ (x : ℕ). Takes x k) e
behind-zero (Ends i m) = let e : i ≡ 0 + i = omega arith in ap (λ (x : ℕ). Ends x m) e
behind-zero Fails = refl

longer-behind : (n : ℕ) (r : Run) → longer (behind n r) ≡ behind (suc n) r
longer-behind n (Takes i k) = let e : n + i + 1 ≡ suc n + i = omega arith in ap (λ (x : ℕ). Takes x k) e
longer-behind n (Ends i m) = let e : n + i + 1 ≡ suc n + i = omega arith in ap (λ (x : ℕ). Ends x m) e
longer-behind n Fails = refl

-- a byte that keeps the mode
goes : (m n : Mode) (b : ℕ) (bs : List ℕ) → step_of m b ≡ step.Go n → run m (b ∷ bs) ≡ longer (run n bs)
unfolding run
goes m n b bs e = ap (λ (s : Step). after_step s (λ o. run o bs)) e

body : (bytes more : List ℕ) → list_all is_quotable bytes ≡ true → run mode.Quoted (bytes ++ more) ≡ behind (length bytes) (run mode.Quoted more)
body [] more e = behind-zero (run mode.Quoted more)
body (b ∷ bs) more e =
    let both = and_both (is_quotable b) (list_all is_quotable bs) e in
    goes mode.Quoted mode.Quoted b (bs ++ more) (quotable_step b both.0) ∙ ap longer (body bs more both.1) ∙ longer-behind (length bs) (run mode.Quoted more)

first_bar : (bs : List ℕ) → run mode.Start (124 ∷ bs) ≡ longer (run mode.Quoted bs)
unfolding step_of
first_bar bs = goes mode.Start mode.Quoted 124 bs refl

after_bar : (bytes more : List ℕ) → list_all is_quotable bytes ≡ true → run mode.Start (124 ∷ bytes ++ more) ≡ behind (suc (length bytes)) (run mode.Quoted more)
after_bar bytes more e = first_bar (bytes ++ more) ∙ ap longer (body bytes more e) ∙ longer-behind (length bytes) (run mode.Quoted more)

bar_closes : (rest : List ℕ) → run mode.Quoted (124 ∷ rest) ≡ Takes 1 kind.Quoted
unfolding run step_of
bar_closes rest = refl

backslash_fails : (rest : List ℕ) → run mode.Quoted (92 ∷ rest) ≡ Fails
unfolding run step_of
backslash_fails rest = refl

nothing_ends : (m : Mode) → run m [] ≡ Ends 0 m
unfolding run
nothing_ends m = refl

front_by : (last : Bool) (bytes : List ℕ) {r : Run} (n : ℕ) {s : Run} → run mode.Start bytes ≡ behind n r → r ≡ s → front_of last (run mode.Start bytes) ≡ front_of last (behind n s)
front_by last bytes n e h = ap (front_of last) (e ∙ ap (behind n) h)

len_is : (k : Kind) (i n : ℕ) → i ≡ n → Token k i ≡ Token k n
len_is k i n e = ap (Token k) e

quoted : (last : Bool) (bytes rest : List ℕ) → list_all is_quotable bytes ≡ true → front_of last (run mode.Start (124 ∷ bytes ++ 124 ∷ rest)) ≡ Token kind.Quoted (length bytes + 2)
quoted last bytes rest e = front_by last (124 ∷ bytes ++ 124 ∷ rest) (suc (length bytes)) (after_bar bytes (124 ∷ rest) e) (bar_closes rest) ∙ len_is kind.Quoted (suc (length bytes) + 1) (length bytes + 2) (omega arith)

quoted_backslash : (last : Bool) (bytes rest : List ℕ) → list_all is_quotable bytes ≡ true → front_of last (run mode.Start (124 ∷ bytes ++ 92 ∷ rest)) ≡ Broken
quoted_backslash last bytes rest e = front_by last (124 ∷ bytes ++ 92 ∷ rest) (suc (length bytes)) (after_bar bytes (92 ∷ rest) e) (backslash_fails rest)

ends_open : (last : Bool) (n : ℕ) (m : Mode) → whole m ≡ None → front_of last (Ends n m) ≡ (if last then Broken else Open)
ends_open last n m e = ap (λ (w : Option Kind). if last then ended n w else Open) e

quoted_open : (last : Bool) (bytes : List ℕ) → list_all is_quotable bytes ≡ true → front_of last (run mode.Start (124 ∷ bytes)) ≡ (if last then Broken else Open)
quoted_open last bytes e =
    let all : run mode.Quoted bytes ≡ behind (length bytes) (run mode.Quoted []) = whole_body bytes e in
    front_by last (124 ∷ bytes) (suc (length bytes)) (first_bar bytes ∙ ap longer all ∙ longer-behind (length bytes) (run mode.Quoted [])) (nothing_ends mode.Quoted) ∙ ends_open last (suc (length bytes) + 0) mode.Quoted refl
  where
    whole_body : (xs : List ℕ) → list_all is_quotable xs ≡ true → run mode.Quoted xs ≡ behind (length xs) (run mode.Quoted [])
    whole_body xs e = subst (λ (ys : List ℕ). run mode.Quoted ys ≡ behind (length xs) (run mode.Quoted [])) (append-nil xs) (body xs [] e)

-- ---- between double quotes

literal_step : (b : ℕ) → (b == 34) ≡ false → step_of mode.Literal b ≡ step.Go mode.Literal
unfolding step_of
literal_step b e = ap (λ (x : Bool). going (if x then Some mode.LiteralQuote else Some mode.Literal) step.Fault) e

opens_quote : step_of mode.Literal 34 ≡ step.Go mode.LiteralQuote
unfolding step_of
opens_quote = refl

doubles_quote : step_of mode.LiteralQuote 34 ≡ step.Go mode.Literal
unfolding step_of
doubles_quote = refl

stops_quote : (b : ℕ) → (b == 34) ≡ false → step_of mode.LiteralQuote b ≡ step.Stop kind.Literal
unfolding step_of
stops_quote b e = ap (λ (x : Bool). going (if x then Some mode.Literal else None) (step.Stop kind.Literal)) e

escaped_by : (x : Bool) (b : ℕ) (bs more : List ℕ) → (b == 34) ≡ x → run mode.Literal (escaped bs ++ more) ≡ behind (length (escaped bs)) (run mode.Literal more)
    → run mode.Literal ((if x then 34 ∷ 34 ∷ escaped bs else b ∷ escaped bs) ++ more) ≡ behind (length (if x then 34 ∷ 34 ∷ escaped bs else b ∷ escaped bs)) (run mode.Literal more)
escaped_by true b bs more e ih =
    goes mode.Literal mode.LiteralQuote 34 (34 ∷ escaped bs ++ more) opens_quote ∙ ap longer (goes mode.LiteralQuote mode.Literal 34 (escaped bs ++ more) doubles_quote ∙ ap longer ih ∙ longer-behind (length (escaped bs)) (run mode.Literal more)) ∙ longer-behind (suc (length (escaped bs))) (run mode.Literal more)
escaped_by false b bs more e ih =
    goes mode.Literal mode.Literal b (escaped bs ++ more) (literal_step b e) ∙ ap longer ih ∙ longer-behind (length (escaped bs)) (run mode.Literal more)

escapes : (content more : List ℕ) → run mode.Literal (escaped content ++ more) ≡ behind (length (escaped content)) (run mode.Literal more)
escapes [] more = behind-zero (run mode.Literal more)
escapes (b ∷ bs) more = escaped_by (b == 34) b bs more refl (escapes bs more)

first_quote : (bs : List ℕ) → run mode.Start (34 ∷ bs) ≡ longer (run mode.Literal bs)
unfolding step_of
first_quote bs = goes mode.Start mode.Literal 34 bs refl

after_quote : (content more : List ℕ) → run mode.Start (34 ∷ escaped content ++ more) ≡ behind (suc (length (escaped content))) (run mode.Literal more)
after_quote content more = first_quote (escaped content ++ more) ∙ ap longer (escapes content more) ∙ longer-behind (length (escaped content)) (run mode.Literal more)

quote_stops : (b : ℕ) (rest : List ℕ) → (b == 34) ≡ false → run mode.Literal (34 ∷ b ∷ rest) ≡ Takes 1 kind.Literal
unfolding run
quote_stops b rest e = goes mode.Literal mode.LiteralQuote 34 (b ∷ rest) opens_quote ∙ ap (λ (s : Step). longer (after_step s (λ m. run m rest))) (stops_quote b e)

quote_ends : run mode.Literal (34 ∷ []) ≡ Ends 1 mode.LiteralQuote
quote_ends = goes mode.Literal mode.LiteralQuote 34 [] opens_quote ∙ ap longer (nothing_ends mode.LiteralQuote)

literal : (last : Bool) (content rest : List ℕ) (b : ℕ) → b ≢ 34 → front_of last (run mode.Start (34 ∷ escaped content ++ 34 ∷ b ∷ rest)) ≡ Token kind.Literal (length (escaped content) + 2)
literal last content rest b other =
    front_by last (34 ∷ escaped content ++ 34 ∷ b ∷ rest) (suc (length (escaped content))) (after_quote content (34 ∷ b ∷ rest)) (quote_stops b rest (ne_eqb b 34 other)) ∙ len_is kind.Literal (suc (length (escaped content)) + 1) (length (escaped content) + 2) (omega arith)

literal_at_end : (last : Bool) (content : List ℕ) → front_of last (run mode.Start (34 ∷ escaped content ++ 34 ∷ [])) ≡ (if last then Token kind.Literal (length (escaped content) + 2) else Open)
literal_at_end last content =
    front_by last (34 ∷ escaped content ++ 34 ∷ []) (suc (length (escaped content))) (after_quote content (34 ∷ [])) quote_ends ∙ ap (λ (f : Front). if last then f else Open) (len_is kind.Literal (suc (length (escaped content)) + 1) (length (escaped content) + 2) (omega arith))

literal_open : (last : Bool) (content : List ℕ) → front_of last (run mode.Start (34 ∷ escaped content)) ≡ (if last then Broken else Open)
literal_open last content =
    front_by last (34 ∷ escaped content) (suc (length (escaped content))) (ap (λ (xs : List ℕ). run mode.Start (34 ∷ xs)) (sym (append-nil (escaped content))) ∙ after_quote content []) (nothing_ends mode.Literal) ∙ ends_open last (suc (length (escaped content)) + 0) mode.Literal refl

left : (last : Bool) (rest : List ℕ) → front_of last (run mode.Start (40 ∷ rest)) ≡ Token kind.Left 1
unfolding run step_of
left last rest = refl

right : (last : Bool) (rest : List ℕ) → front_of last (run mode.Start (41 ∷ rest)) ≡ Token kind.Right 1
unfolding run step_of
right last rest = refl

pub are_quotations : AreQuotations
are_quotations = record { left = left; right = right; quoted = quoted; quoted_backslash = quoted_backslash; quoted_open = quoted_open; literal = literal; literal_at_end = literal_at_end; literal_open = literal_open }
