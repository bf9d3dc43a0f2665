-- Pieces that are put one after the other.
use Rattle.std.proofs.Common.{◌≡◌, ℕ, List, [], ◌∷◌, ◌++◌, Result, Err, refl, sym, ap, ◌∙◌, subst, append_assoc, append-nil, ◌+◌, suc, ◌<◌, length, drop, get_or, drop-cons, add-one, Bor}
use Rattle.std.specs.Prelude.{codes}
use Rattle.std.specs.List.{flat_map}
use Rattle.sc_io.specs.Moments.{SinkMoment}
use Rattle.sc_io.specs.Writing.{IsWritten, PutGives}
use Rattle.sc_io.specs.declared.put.PutError.{PutError}
use Rattle.sc_io.proofs.Writings.{IsPutting, starts, then_written, then_put, put_within}
use Rattle.sc_terms.specs.declared.atoms.Sign.{Sign}
use Rattle.sc_deriv.specs.declared.derivation.Node.{Node}
use Rattle.sc_deriv.specs.declared.derivation.Derivation.{Derivation}
use Rattle.sc_deriv_text.specs.Spelling.{sign_byte, cube_bytes}
use Rattle.sc_deriv_text.specs.Text.{before_name, node_lines, tree_text, text_of}

-- the rest is put, or a front of it
pub last : (a b c : SinkMoment) (piece rest : List ℕ) (r : Result (Unit {0}) PutError) → IsPutting a b piece rest → PutGives b c rest r → PutGives a c piece r
last a b c piece rest r w p = subst (λ (t : List ℕ). PutGives a c t r) (sym w.parts) (then_put a b c w.front rest r w.written p)

-- the next bytes were put
pub goes : (a b c : SinkMoment) (piece rest x others : List ℕ) → IsPutting a b piece rest → rest ≡ x ++ others → IsWritten b c x → IsPutting a c piece others
goes a b c piece rest x others w e p = record {
  front = w.front ++ x;
  parts = w.parts ∙ ap (λ (t : List ℕ). w.front ++ t) e ∙ sym (append_assoc w.front x others);
  written = then_written a b c w.front x w.written p;
}

-- the next bytes were not put whole
pub stops : (a b c : SinkMoment) (piece rest x others : List ℕ) (e : PutError) → IsPutting a b piece rest → rest ≡ x ++ others → PutGives b c x (Err e) → PutGives a c piece (Err e)
stops a b c piece rest x others e w is p = last a b c piece rest (Err e) w (subst (λ (t : List ℕ). PutGives b c t (Err e)) (sym is) (put_within b c x others e p))

-- nothing is left
pub ends : (a b : SinkMoment) (piece : List ℕ) → IsPutting a b piece [] → IsWritten a b piece
ends a b piece w = subst (IsWritten a b) (sym (w.parts ∙ append-nil w.front)) w.written

-- two pieces
pub first_stops : (a b : SinkMoment) (piece x others : List ℕ) (e : PutError) → piece ≡ x ++ others → PutGives a b x (Err e) → PutGives a b piece (Err e)
first_stops a b piece x others e is p = stops a a b piece piece x others e (starts a piece) is p

pub then_last : (a b c : SinkMoment) (piece x others : List ℕ) (r : Result (Unit {0}) PutError) → piece ≡ x ++ others → IsWritten a b x → PutGives b c others r → PutGives a c piece r
then_last a b c piece x others r is p q = last a b c piece others r (goes a a b piece piece x others (starts a piece) is p) q

-- three pieces
pub second_stops : (a b c : SinkMoment) (piece x y others : List ℕ) (e : PutError) → piece ≡ x ++ (y ++ others) → IsWritten a b x → PutGives b c y (Err e) → PutGives a c piece (Err e)
second_stops a b c piece x y others e is p q = stops a b c piece (y ++ others) y others e (goes a a b piece piece x (y ++ others) (starts a piece) is p) refl q

pub then_then_last : (a b c d : SinkMoment) (piece x y others : List ℕ) (r : Result (Unit {0}) PutError) → piece ≡ x ++ (y ++ others) → IsWritten a b x → IsWritten b c y → PutGives c d others r → PutGives a d piece r
then_then_last a b c d piece x y others r is p q s =
    last a c d piece others r (goes a b c piece (y ++ others) y others (goes a a b piece piece x (y ++ others) (starts a piece) is p) refl q) s

-- a node's line begins with its word, and then its name stands
pub named_parts : (word name : List ℕ) → 40 ∷ (word ++ (32 ∷ (name ++ (41 ∷ [])))) ≡ before_name word ++ (name ++ (41 ∷ []))
named_parts word name = ap (λ (t : List ℕ). 40 ∷ t) (sym (append_assoc word (32 ∷ []) (name ++ (41 ∷ []))))

-- what stands before a region's word
pub cube_parts : (digits signs : List ℕ) → codes "(empty " ++ (digits ++ (32 ∷ (signs ++ (41 ∷ [])))) ≡ (codes "(empty " ++ (digits ++ (32 ∷ []))) ++ (signs ++ (41 ∷ []))
cube_parts digits signs = ap (λ (t : List ℕ). codes "(empty " ++ t) (sym (append_assoc digits (32 ∷ []) (signs ++ (41 ∷ []))))

-- the item at a place, and those behind it
pub item_front : {X : Type 0} (xs : List X) (i : ℕ) (x : X) → i < length xs → x ≡ get_or xs i x → drop i xs ≡ x ∷ drop (i + 1) xs
item_front xs i x lt e = rw add-one (drop-cons xs i x lt ∙ ap (λ y. y ∷ drop (suc i) xs) (sym e))

abbrev Piece : Type 0
Piece = Bor (List ℕ)

abbrev pub joined : List Piece → List ℕ
joined ps = flat_map (λ p. p.now) ps

piece_front : (ps : List Piece) (i : ℕ) (d : Piece) → i < length ps → joined (drop i ps) ≡ (get_or ps i d).now ++ joined (drop (i + 1) ps)
piece_front ps i d lt = rw add-one (ap joined (drop-cons ps i d lt))

pub piece_stops : (a b c : SinkMoment) (ps : List Piece) (i : ℕ) (d : Piece) (e : PutError) → IsPutting a b (joined ps) (joined (drop i ps)) → i < length ps → PutGives b c (get_or ps i d).now (Err e) → PutGives a c (joined ps) (Err e)
piece_stops a b c ps i d e w lt p = stops a b c (joined ps) (joined (drop i ps)) (get_or ps i d).now (joined (drop (i + 1) ps)) e w (piece_front ps i d lt) p

pub piece_goes : (a b c : SinkMoment) (ps : List Piece) (i : ℕ) (d : Piece) → IsPutting a b (joined ps) (joined (drop i ps)) → i < length ps → IsWritten b c (get_or ps i d).now → IsPutting a c (joined ps) (joined (drop (i + 1) ps))
piece_goes a b c ps i d w lt p = goes a b c (joined ps) (joined (drop i ps)) (get_or ps i d).now (joined (drop (i + 1) ps)) w (piece_front ps i d lt) p

sign_front : (word : List Sign) (i : ℕ) (d : Sign) → i < length word → cube_bytes (drop i word) ≡ (sign_byte (get_or word i d) ∷ []) ++ cube_bytes (drop (i + 1) word)
sign_front word i d lt = rw add-one (ap cube_bytes (drop-cons word i d lt))

pub sign_goes : (a b c : SinkMoment) (word : List Sign) (i : ℕ) (d : Sign) (x : List ℕ) → IsPutting a b (cube_bytes word) (cube_bytes (drop i word)) → i < length word → x ≡ sign_byte (get_or word i d) ∷ [] → IsWritten b c x → IsPutting a c (cube_bytes word) (cube_bytes (drop (i + 1) word))
sign_goes a b c word i d x w lt e p = goes a b c (cube_bytes word) (cube_bytes (drop i word)) (sign_byte (get_or word i d) ∷ []) (cube_bytes (drop (i + 1) word)) w (sign_front word i d lt) (subst (IsWritten b c) e p)

pub sign_stops : (a b c : SinkMoment) (word : List Sign) (i : ℕ) (d : Sign) (x : List ℕ) (err : PutError) → IsPutting a b (cube_bytes word) (cube_bytes (drop i word)) → i < length word → x ≡ sign_byte (get_or word i d) ∷ [] → PutGives b c x (Err err) → PutGives a c (cube_bytes word) (Err err)
sign_stops a b c word i d x err w lt e p = stops a b c (cube_bytes word) (cube_bytes (drop i word)) (sign_byte (get_or word i d) ∷ []) (cube_bytes (drop (i + 1) word)) err w (sign_front word i d lt) (subst (λ (t : List ℕ). PutGives b c t (Err err)) e p)

-- the same items, said otherwise
pub same_put : {X : Type 0} (of : X → List ℕ) (a b : SinkMoment) (x y : X) (r : Result (Unit {0}) PutError) → x ≡ y → PutGives a b (of x) r → PutGives a b (of y) r
same_put of a b x y r e p = subst (λ t. PutGives a b (of t) r) e p

-- ---- the whole text

pub frame_stops : (a b : SinkMoment) (d : Derivation) (e : PutError) → PutGives a b (codes "(derivation\n(tree\n") (Err e) → PutGives a b (text_of d) (Err e)
unfolding text_of
frame_stops a b d e p = first_stops a b (tree_text d.nodes) (codes "(derivation\n(tree\n") (node_lines d.nodes ++ codes ")\n)\n") e refl p

pub lines_stop : (a b c : SinkMoment) (d : Derivation) (ns : List Node) (e : PutError) → ns ≡ d.nodes → IsWritten a b (codes "(derivation\n(tree\n") → PutGives b c (node_lines ns) (Err e) → PutGives a c (text_of d) (Err e)
unfolding text_of
lines_stop a b c d ns e same p q = second_stops a b c (tree_text d.nodes) (codes "(derivation\n(tree\n") (node_lines d.nodes) (codes ")\n)\n") e refl p (same_put node_lines b c ns d.nodes (Err e) same q)

pub text_ends : (a b c z : SinkMoment) (d : Derivation) (ns : List Node) (r : Result (Unit {0}) PutError) → ns ≡ d.nodes → IsWritten a b (codes "(derivation\n(tree\n") → IsWritten b c (node_lines ns) → PutGives c z (codes ")\n)\n") r → PutGives a z (text_of d) r
unfolding text_of
text_ends a b c z d ns r same p q s = then_then_last a b c z (tree_text d.nodes) (codes "(derivation\n(tree\n") (node_lines d.nodes) (codes ")\n)\n") r refl p (subst (λ (ms : List Node). IsWritten b c (node_lines ms)) same q) s
