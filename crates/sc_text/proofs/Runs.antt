-- The tokens that a lexer gives, call by call.
use Rattle.std.proofs.Common.{◌≡◌, ℕ, ◌+◌, ◌-◌, ◌<◌, ◌≤◌, Bool, cond, List, [], ◌∷◌, map, length, take, drop, refl, sym, ap, subst, ◌∙◌, arith}
use Rattle.std.specs.Prelude.{◌==◌}
use Rattle.std.proofs.lemmas.List.{length-drop, length-take, length-take-le, drop-drop}
use Rattle.std.proofs.lemmas.List.Sums.{sum_by-append}
use Rattle.std.proofs.Math.Seq.{take-add}
use Rattle.sc_text.specs.declared.token.Token.{Token}
use Rattle.sc_text.specs.declared.lexer.Next.TheVariants as next
use Rattle.sc_text.specs.Place.{Place}
use Rattle.sc_text.specs.Bytes.{line_feeds}
use Rattle.sc_text.specs.Fronts.{gap_len, after_gap, front}
use Rattle.sc_text.specs.declared.front.Front.TheVariants.{Token as Found}
use Rattle.sc_text.specs.Answers.{token_start, token_line, IsSlice, Passes}
use Rattle.sc_text.specs.Readings.{lexeme, text_of, Ending, Token as Has, End, first, taken, Begins, Located, past_first, ReadsFrom}
use Rattle.sc_text.specs.Runs.{over, located, Gives, GivesFirst, IsPlaced, ArePlaced, AreLocated, AreSlices, RunsRead}
use Rattle.sc_text.proofs.Found.{token_some, token_fits}
use Rattle.sc_text.proofs.Readings.{is_found, rest_is, taken_from, gives_first}

-- ---- the tokens of a run are those of the text

pub begins : (p q : Place) (ts : List Token) → Gives p ts q → Begins p.last p.left (map lexeme ts) q.left × (q.last ≡ p.last)
begins p q [] same = (ap (λ (x : Place). x.left) same, ap (λ (x : Place). x.last) (sym same))
begins p q (t ∷ ts) (m, answer, others) = begins_by (gives_first p (next.Token t) m answer) (begins m q ts others)
  where
    begins_by : GivesFirst p (next.Token t) m → Begins m.last m.left (map lexeme ts) q.left × (q.last ≡ m.last) → Begins p.last p.left (map lexeme (t ∷ ts)) q.left × (q.last ≡ p.last)
    begins_by (is, start, line, past) rest =
        let front = subst (λ (x : Place). Begins x.last x.left (map lexeme ts) q.left × (q.last ≡ x.last)) past rest in
        ((is, front.0), front.1)

reads : (p q : Place) (ts : List Token) (ending : Ending) → Gives p ts q → first q.last q.left ≡ End ending → ReadsFrom p (map located ts) ending
reads p q [] ending same end = subst (λ (x : Place). first x.last x.left ≡ End ending) (sym same) end
reads p q (t ∷ ts) ending (m, answer, others) end = reads_by (gives_first p (next.Token t) m answer) (reads m q ts ending others end)
  where
    reads_by : GivesFirst p (next.Token t) m → ReadsFrom m (map located ts) ending → ReadsFrom p (map located (t ∷ ts)) ending
    reads_by (is, start, line, past) rest = (is, start, line, subst (λ (x : Place). ReadsFrom x (map located ts) ending) past rest)

pub runs_read : RunsRead
runs_read = record { begins = begins; reads = reads }

-- ---- places

line_feeds-take-add : (m n : ℕ) (xs : List ℕ) → line_feeds (take (m + n) xs) ≡ line_feeds (take m xs) + line_feeds (take n (drop m xs))
line_feeds-take-add m n xs = ap line_feeds (take-add m n xs) ∙ sum_by-append (λ (b : ℕ). cond (b == 10) 1 0) (take m xs) (take n (drop m xs))

-- a lexer stands in a text that begins at this place and line, so many bytes behind its begin
record IsWithin (text : List ℕ) (origin top : ℕ) (p : Place) : Type 0 where
  at : ℕ
  fits : at ≤ length text
  left : p.left ≡ drop at text
  start : p.start ≡ origin + at
  line : p.line ≡ top + line_feeds (take at text)

-- the first token is these n bytes at this place and line
record IsCut (p : Place) (n start line : ℕ) (bytes : List ℕ) : Type 0 where
  cut : bytes ≡ take n (after_gap p.left)
  len : length bytes ≡ n
  some : 0 < n
  at : start ≡ token_start p
  row : line ≡ token_line p

-- n bytes stand k bytes behind the begin of the text
record IsBehind (text : List ℕ) (origin top k n start line : ℕ) (bytes : List ℕ) : Type 0 where
  at : start ≡ origin + k
  row : line ≡ top + line_feeds (take k text)
  cut : bytes ≡ take n (drop k text)
  len : length bytes ≡ n
  some : 0 < n

lines_add : (top i j line : ℕ) (text : List ℕ) → line ≡ top + line_feeds (take i text) → line + line_feeds (take j (drop i text)) ≡ top + line_feeds (take (i + j) text)
lines_add top i j line text is =
    let more : line_feeds (take (i + j) text) ≡ line_feeds (take i text) + line_feeds (take j (drop i text)) = line_feeds-take-add i j text in
    omega (arith, is, more)

behind : (text : List ℕ) (origin top n start line : ℕ) (bytes : List ℕ) (p : Place) (w : IsWithin text origin top p) → IsCut p n start line bytes → IsBehind text origin top (w.at + gap_len p.left) n start line bytes
behind text origin top n start line bytes p w s = record {
  at = omega (arith, s.at, w.start);
  row = s.row ∙ ap (λ (xs : List ℕ). p.line + line_feeds (take (gap_len p.left) xs)) w.left ∙ lines_add top w.at (gap_len p.left) p.line text w.line;
  cut = s.cut ∙ ap (λ (xs : List ℕ). take n (drop (gap_len p.left) xs)) w.left ∙ ap (take n) (drop-drop (gap_len p.left) w.at text);
  len = s.len;
  some = s.some;
}

bounded : (text : List ℕ) (origin top k n start line : ℕ) (bytes : List ℕ) → IsBehind text origin top k n start line bytes → k + n ≤ length text
bounded text origin top k n start line bytes b =
    omega (arith, b.some, b.len, ap length b.cut, length-take n (drop k text), length-drop k text)

placed : (text : List ℕ) (origin top k n least start line : ℕ) (bytes : List ℕ) → least ≤ origin + k → IsBehind text origin top k n start line bytes → IsPlaced text origin top least start line bytes
placed text origin top k n least start line bytes low b =
    let at : k ≡ start - origin = omega (arith, b.at) in
    record {
      behind = omega (arith, b.at);
      not_before = omega (arith, b.at, low);
      some = omega (arith, b.some, b.len);
      within = omega (arith, b.at, b.len, bounded text origin top k n start line bytes b);
      slice = b.cut ∙ ap (λ (i : ℕ). take i (drop k text)) (sym b.len) ∙ ap (λ (i : ℕ). take (length bytes) (drop i text)) at;
      row = b.row ∙ ap (λ (i : ℕ). top + line_feeds (take i text)) at;
    }

passed : (text : List ℕ) (origin top n start line : ℕ) (bytes : List ℕ) (p m : Place) (w : IsWithin text origin top p) → IsCut p n start line bytes → Passes p n m → IsWithin text origin top m
passed text origin top n start line bytes p m w s passes =
    let b = behind text origin top n start line bytes p w s in
    let k = w.at + gap_len p.left in
    let gone : after_gap p.left ≡ drop k text = ap (drop (gap_len p.left)) w.left ∙ drop-drop (gap_len p.left) w.at text in
    record {
      at = k + n;
      fits = bounded text origin top k n start line bytes b;
      left = passes.left ∙ ap (drop n) gone ∙ drop-drop n k text;
      start = omega (arith, passes.start, s.at, b.at);
      line = passes.line ∙ ap (λ (x : ℕ). x + line_feeds (take n (after_gap p.left))) (sym s.row) ∙ ap (λ (xs : List ℕ). line + line_feeds (take n xs)) gone ∙ lines_add top k n line text b.row;
    }

-- a token is placed, and the next one isn't before its end
record Stands (text : List ℕ) (origin top least start line : ℕ) (bytes : List ℕ) (m : Place) : Type 0 where
  token : IsPlaced text origin top least start line bytes
  within : IsWithin text origin top m
  low : start + length bytes ≤ m.start

stands : (text : List ℕ) (origin top least n start line : ℕ) (bytes : List ℕ) (p m : Place) → IsWithin text origin top p → least ≤ p.start → IsCut p n start line bytes → Passes p n m → Stands text origin top least start line bytes m
stands text origin top least n start line bytes p m w low s passes =
    let low_now : least ≤ origin + (w.at + gap_len p.left) = omega (arith, low, w.start) in
    record {
      token = placed text origin top (w.at + gap_len p.left) n least start line bytes low_now (behind text origin top n start line bytes p w s);
      within = passed text origin top n start line bytes p m w s passes;
      low = omega (arith, passes.start, s.at, s.len);
    }

at_begin : (text : List ℕ) (origin top : ℕ) (last : Bool) → IsWithin text origin top (over text origin top last)
at_begin text origin top last = record { at = 0; fits = omega arith; left = refl; start = omega arith; line = omega arith }

-- ---- the tokens that a lexer gives

of_slice : (p : Place) (n : ℕ) (t : Token) → IsSlice p n t → IsCut p n t.start t.line t.text.now
of_slice p n t s = record { cut = s.text; len = s.len; some = s.some; at = s.start; row = s.line }

given_from : (text : List ℕ) (origin top least : ℕ) (ts : List Token) (p q : Place) → IsWithin text origin top p → least ≤ p.start → Gives p ts q → ArePlaced text origin top least ts
given_from text origin top least [] p q w low given = tt
given_from text origin top least (t ∷ ts) p q w low (m, (n, found, slice, passes), others) =
    let s = stands text origin top least n t.start t.line t.text.now p m w low (of_slice p n t slice) passes in
    (s.token, given_from text origin top (t.start + length t.text.now) ts m q s.within s.low others)

-- ---- the tokens that a text has

record IsFirst (p : Place) (t : Located) : Type 0 where
  len : ℕ
  cut : IsCut p len t.start t.line (text_of t.token)
  passes : Passes p len (past_first p)

is_first : (p : Place) (t : Located) → first p.last p.left ≡ Has t.token → t.start ≡ token_start p → t.line ≡ token_line p → IsFirst p t
is_first p t is start line =
    let f = is_found p.last p.left t.token is in
    let cut : text_of t.token ≡ take f.len (after_gap p.left) = ap text_of f.same ∙ (taken_from p.last p.left f.kind f.len f.found).1 in
    let takes : taken (front p.last p.left) ≡ f.len = ap taken f.found in
    record {
      len = f.len;
      cut = record { cut = cut; len = ap length cut ∙ length-take-le f.len (after_gap p.left) (token_fits p.last p.left f.kind f.len f.found); some = token_some p.last p.left f.kind f.len f.found; at = start; row = line };
      passes = record {
        left = rest_is p.last p.left (Found f.kind f.len) f.found;
        start = ap (λ (i : ℕ). token_start p + i) takes;
        line = ap (λ (i : ℕ). token_line p + line_feeds (take i (after_gap p.left))) takes;
        same = refl;
      };
    }

read_from : (text : List ℕ) (origin top least : ℕ) (ts : List Located) (p : Place) (ending : Ending) → IsWithin text origin top p → least ≤ p.start → ReadsFrom p ts ending → AreLocated text origin top least ts
read_from text origin top least [] p ending w low reads = tt
read_from text origin top least (t ∷ ts) p ending w low (is, start, line, others) =
    let f = is_first p t is start line in
    let s = stands text origin top least f.len t.start t.line (text_of t.token) p (past_first p) w low f.cut f.passes in
    (s.token, read_from text origin top (t.start + length (text_of t.token)) ts (past_first p) ending s.within s.low others)

pub are_slices : AreSlices
are_slices = record {
  given = λ text start line last ts q. given_from text start line start ts (over text start line last) q (at_begin text start line last) (omega arith);
  read = λ text start line last ts ending. read_from text start line start ts (over text start line last) ending (at_begin text start line last) (omega arith);
}
