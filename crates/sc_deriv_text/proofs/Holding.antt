-- Lines that are held back before they are written.
use Rattle.std.proofs.Common.{◌≡◌, ℕ, List, [], ◌∷◌, ◌++◌, Result, Ok, Err, refl, sym, ap, ◌∙◌, subst, append_assoc, append-nil}
use Rattle.std.specs.List.{AllByRecursion}
use Rattle.sc_io.specs.Moments.{SinkMoment}
use Rattle.sc_io.specs.Writing.{IsWritten, PutGives}
use Rattle.sc_io.specs.declared.put.PutError.{PutError}
use Rattle.sc_io.proofs.Writings.{nothing_written, then_written, then_put, put_within}
use Rattle.sc_deriv.specs.declared.derivation.Node.{Node}
use Rattle.sc_deriv_text.specs.Held.{IsHeldFrom, HoldGives}
use Rattle.sc_deriv_text.specs.Spelling.{NodeFits}
use Rattle.sc_deriv_text.specs.Text.{node_line, node_lines}

-- what was held is written, and then a line alone
pub alone : (a b c : SinkMoment) (held line left : List ℕ) (r : Result (Unit {0}) PutError) → left ≡ [] → IsWritten a b held → PutGives b c line r → HoldGives a c (held ++ line) left r
alone a b c held line left (Ok z) is p q = record {
  front = held ++ line;
  parts = subst (λ (t : List ℕ). held ++ line ≡ (held ++ line) ++ t) (sym is) (sym (append-nil (held ++ line)));
  written = then_written a b c held line p q;
}
alone a b c held line left (Err e) is p q = then_put a b c held line (Err e) p q

-- a front of the lines before these is written and the rest of them held, and the numbers of those nodes fit
pub record IsAt (a b : SinkMoment) (held : List ℕ) (all rest : List Node) : Type 0 where
  pub front : List ℕ
  pub parts : node_lines all ≡ front ++ (held ++ node_lines rest)
  pub written : IsWritten a b front
  pub fits : AllByRecursion NodeFits rest → AllByRecursion NodeFits all

pub begins : (a : SinkMoment) (all : List Node) → IsAt a a [] all all
begins a all = record { front = []; parts = refl; written = nothing_written a; fits = λ f. f }

-- what is held, with the next line
with_line : (a b : SinkMoment) (held : List ℕ) (all rest others : List Node) (n : Node) (w : IsAt a b held all rest) → rest ≡ n ∷ others → node_lines all ≡ w.front ++ ((held ++ node_line n) ++ node_lines others)
with_line a b held all rest others n w is =
    w.parts ∙ ap (λ (t : List Node). w.front ++ (held ++ node_lines t)) is ∙ ap (λ (t : List ℕ). w.front ++ t) (sym (append_assoc held (node_line n) (node_lines others)))

pub line_goes : (a b c : SinkMoment) (held left : List ℕ) (all rest others : List Node) (n : Node) → IsAt a b held all rest → rest ≡ n ∷ others → IsHeldFrom b c (held ++ node_line n) left → NodeFits n → IsAt a c left all others
line_goes a b c held left all rest others n w is p f = record {
  front = w.front ++ p.front;
  parts = with_line a b held all rest others n w is
      ∙ ap (λ (t : List ℕ). w.front ++ (t ++ node_lines others)) p.parts
      ∙ ap (λ (t : List ℕ). w.front ++ t) (append_assoc p.front left (node_lines others))
      ∙ sym (append_assoc w.front p.front (left ++ node_lines others));
  written = then_written a b c w.front p.front w.written p.written;
  fits = λ g. w.fits (subst (AllByRecursion NodeFits) (sym is) (f, g));
}

pub line_stops : (a b c : SinkMoment) (held : List ℕ) (all rest others : List Node) (n : Node) (e : PutError) → IsAt a b held all rest → rest ≡ n ∷ others → PutGives b c (held ++ node_line n) (Err e) → PutGives a c (node_lines all) (Err e)
line_stops a b c held all rest others n e w is p =
    subst (λ (t : List ℕ). PutGives a c t (Err e)) (sym (with_line a b held all rest others n w is))
    (then_put a b c w.front ((held ++ node_line n) ++ node_lines others) (Err e) w.written (put_within b c (held ++ node_line n) (node_lines others) e p))

-- no node is left, and what is held is put
pub ends : (a b c : SinkMoment) (held bytes : List ℕ) (all rest : List Node) (r : Result (Unit {0}) PutError) → IsAt a b held all rest → rest ≡ [] → bytes ≡ held → PutGives b c bytes r → PutGives a c (node_lines all) r
ends a b c held bytes all rest r w is same p =
    let parts : node_lines all ≡ w.front ++ bytes = w.parts ∙ ap (λ (t : List Node). w.front ++ (held ++ node_lines t)) is ∙ ap (λ (t : List ℕ). w.front ++ t) (append-nil held ∙ sym same) in
    subst (λ (t : List ℕ). PutGives a c t r) (sym parts) (then_put a b c w.front bytes r w.written p)
