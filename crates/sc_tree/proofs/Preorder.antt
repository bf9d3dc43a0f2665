-- Reading places in preorder.
use Rattle.std.proofs.Common.{◌≡◌, ℕ, zero, suc, ◌+◌, ◌<◌, ◌≤◌, true, List, [], ◌∷◌, ◌++◌, length, Option, Some, None, refl, sym, ap, ◌∙◌, subst, arith, append_assoc, append-nil, length-append}
use Rattle.std.specs.Prelude.{is_some, slice_get, ⊤}
use Rattle.std.proofs.lemmas.Bool.{false≢true}
use Rattle.sc_base.specs.Numbered.{item_at}
use Rattle.sc_deriv.specs.declared.derivation.Node.{Node}
use Rattle.sc_tree.specs.declared.machine.Mark.{Mark}
use Rattle.sc_tree.specs.declared.machine.Mark.TheVariants as marks
use Rattle.sc_tree.specs.declared.machine.Place.{Place}
use Rattle.sc_tree.specs.Reading.{step_nodes, end_nodes, place_nodes, nodes_at, nodes_from, is_ended, IsAhead, IsReadable, own_end, parts_of, nodes_below, AddsPlace}
use Rattle.sc_tree.proofs.Cells.{item-first, item-within}

-- each of the numbers is a place's
abbrev pub AreThere : List Place → List ℕ → Type 0
AreThere places [] = ⊤
AreThere places (n ∷ ns) = (is_some (item_at places n) ≡ true) × AreThere places ns

item-past_all : {X : Type 0} (xs : List X) (n : ℕ) → length xs < n → item_at xs n ≡ None
item-past_all xs zero less = absurd (omega (arith, less))
item-past_all xs (suc i) less = get-past_all xs i (omega (arith, less)) where
  get-past_all : {Y : Type 0} (ys : List Y) (j : ℕ) → length ys ≤ j → slice_get ys j ≡ None
  get-past_all [] j k = refl
  get-past_all (y ∷ ys) zero k = absurd (omega (arith, k))
  get-past_all (y ∷ ys) (suc j) k = get-past_all ys j (omega (arith, k))

end-deeper : (places : List Place) (f n : ℕ) (mark : Mark) → IsAhead places n mark → ((m : ℕ) → n < m → nodes_at f places m ≡ nodes_at (suc f) places m) → end_nodes (nodes_at f places) mark ≡ end_nodes (nodes_at (suc f) places) mark
end-deeper places f n marks.Open ahead same = refl
end-deeper places f n (marks.Held seat) ahead same = refl
end-deeper places f n (marks.Closed closing) ahead same = refl
end-deeper places f n (marks.Spent cause) ahead same = refl
end-deeper places f n (marks.Parted step left) ahead same =
    let less = ahead.0 in
    rw (same left less, same (left + 1) (omega (arith, less))) refl

-- enough levels are enough
deeper : (places : List Place) → IsReadable places → (f n : ℕ) → length places < f + n → nodes_at f places n ≡ nodes_at (suc f) places n
deeper places readable zero n enough = sym (ap (place_nodes (λ m. [])) (item-past_all places n (omega (arith, enough))))
deeper places readable (suc f) n enough = by_item (item_at places n) refl (λ m less. deeper places readable f m (omega (arith, enough, less))) where
  by_item : (o : Option Place) → item_at places n ≡ o → ((m : ℕ) → n < m → nodes_at f places m ≡ nodes_at (suc f) places m) → place_nodes (nodes_at f places) o ≡ place_nodes (nodes_at (suc f) places) o
  by_item None e same = refl
  by_item (Some p) e same = ap (λ l. step_nodes p.chain ++ l) (end-deeper places f n p.mark (readable.ahead n p e) same)

end-whole : (places : List Place) (d n : ℕ) (mark : Mark) → IsAhead places n mark → ((m : ℕ) → n < m → nodes_at d places m ≡ nodes_from places m) → end_nodes (nodes_at d places) mark ≡ own_end mark ++ nodes_below places (parts_of mark)
end-whole places d n marks.Open ahead same = refl
end-whole places d n (marks.Held seat) ahead same = refl
end-whole places d n (marks.Closed closing) ahead same = refl
end-whole places d n (marks.Spent cause) ahead same = refl
end-whole places d n (marks.Parted step left) ahead same =
    let less = ahead.0 in
    rw (same left less, same (left + 1) (omega (arith, less)), append-nil (nodes_from places (left + 1))) refl

-- the nodes below a place are its own and those below its parts
pub nodes_are : (places : List Place) → IsReadable places → (n : ℕ) (p : Place) → item_at places n ≡ Some p → nodes_from places n ≡ (step_nodes p.chain ++ own_end p.mark) ++ nodes_below places (parts_of p.mark)
nodes_are places readable n p e = by_length (length places) refl where
  first : 1 ≤ n
  first = item-first places n p e

  within : n ≤ length places
  within = item-within places n p e

  by_length : (k : ℕ) → length places ≡ k → nodes_from places n ≡ (step_nodes p.chain ++ own_end p.mark) ++ nodes_below places (parts_of p.mark)
  by_length zero long = absurd (omega (arith, long, first, within))
  by_length (suc d) long =
      ap (λ k. nodes_at k places n) long
      ∙ (ap (place_nodes (nodes_at d places)) e
      ∙ (ap (λ l. step_nodes p.chain ++ l) (end-whole places d n p.mark (readable.ahead n p e) (λ m less. deeper places readable d m (omega (arith, less, first, long)) ∙ ap (λ k. nodes_at k places m) (sym long)))
      ∙ sym (append_assoc (step_nodes p.chain) (own_end p.mark) (nodes_below places (parts_of p.mark)))))

below-append : (places : List Place) (xs ys : List ℕ) → nodes_below places (xs ++ ys) ≡ nodes_below places xs ++ nodes_below places ys
below-append places [] ys = refl
below-append places (x ∷ xs) ys = ap (λ l. nodes_from places x ++ l) (below-append places xs ys) ∙ sym (append_assoc (nodes_from places x) (nodes_below places xs) (nodes_below places ys))

-- a place was read
pub read_on : (places : List Place) → IsReadable places → (n : ℕ) (p : Place) (ns : List Node) (new : List Node) (waiting rest waiting' : List ℕ) (whole : List Node) → item_at places n ≡ Some p → waiting ≡ n ∷ rest → AddsPlace p ns new rest waiting' → ns ++ nodes_below places waiting ≡ whole → new ++ nodes_below places waiting' ≡ whole
read_on places readable n p ns new waiting rest waiting' whole e stack adds told =
    let own = step_nodes p.chain ++ own_end p.mark in
    let parts = nodes_below places (parts_of p.mark) in
    let others = nodes_below places rest in
    let here = nodes_are places readable n p e in
    ap (λ l. l ++ nodes_below places waiting') adds.read
    ∙ (ap (λ l. (ns ++ own) ++ nodes_below places l) adds.waits
    ∙ (ap (λ l. (ns ++ own) ++ l) (below-append places (parts_of p.mark) rest)
    ∙ (append_assoc ns own (parts ++ others)
    ∙ (ap (λ l. ns ++ l) (sym (append_assoc own parts others))
    ∙ (ap (λ l. ns ++ (l ++ others)) (sym here)
    ∙ (ap (λ l. ns ++ nodes_below places l) (sym stack) ∙ told))))))

there-parts : (places : List Place) (n : ℕ) (mark : Mark) (rest : List ℕ) → IsAhead places n mark → AreThere places rest → AreThere places (parts_of mark ++ rest)
there-parts places n marks.Open rest ahead there = there
there-parts places n (marks.Held seat) rest ahead there = there
there-parts places n (marks.Closed closing) rest ahead there = there
there-parts places n (marks.Spent cause) rest ahead there = there
there-parts places n (marks.Parted step left) rest ahead there =
    let less = ahead.0 in
    let within = ahead.1 in
    (some-at places left (omega (arith, less)) (omega (arith, within)), (some-at places (left + 1) (omega arith) within, there)) where
      some-at : (xs : List Place) (k : ℕ) → 0 < k → k ≤ length xs → is_some (item_at xs k) ≡ true
      some-at xs zero positive within = absurd (omega (arith, positive))
      some-at [] (suc k) positive within = absurd (omega (arith, within))
      some-at (x ∷ xs) (suc zero) positive within = refl
      some-at (x ∷ xs) (suc (suc k)) positive within = some-at xs (suc k) (omega arith) (omega (arith, within))

pub there_on : (places : List Place) → IsReadable places → (n : ℕ) (p : Place) (ns new : List Node) (waiting rest waiting' : List ℕ) → item_at places n ≡ Some p → waiting ≡ n ∷ rest → AddsPlace p ns new rest waiting' → AreThere places waiting → AreThere places waiting'
there_on places readable n p ns new waiting rest waiting' e stack adds there =
    let all : AreThere places (n ∷ rest) = subst (AreThere places) stack there in
    subst (AreThere places) (sym adds.waits) (there-parts places n p.mark rest (readable.ahead n p e) all.1)

-- at least one node is read of each place
end-some : (mark : Mark) → is_ended mark ≡ true → 1 ≤ length (own_end mark)
end-some marks.Open e = absurd (false≢true e)
end-some (marks.Held seat) e = absurd (false≢true e)
end-some (marks.Spent cause) e = absurd (false≢true e)
end-some (marks.Closed closing) e = omega arith
end-some (marks.Parted step left) e = omega arith

pub fewer_left : (places : List Place) → IsReadable places → (n : ℕ) (p : Place) (ns new : List Node) (waiting rest waiting' : List ℕ) → item_at places n ≡ Some p → waiting ≡ n ∷ rest → AddsPlace p ns new rest waiting' → length (nodes_below places waiting') < length (nodes_below places waiting)
fewer_left places readable n p ns new waiting rest waiting' e stack adds =
    let own = step_nodes p.chain ++ own_end p.mark in
    let parts = nodes_below places (parts_of p.mark) in
    let others = nodes_below places rest in
    let after : length (nodes_below places waiting') ≡ length parts + length others = ap (λ l. length (nodes_below places l)) adds.waits ∙ (ap length (below-append places (parts_of p.mark) rest) ∙ length-append parts others) in
    let here : length (nodes_from places n) ≡ length own + length parts = ap length (nodes_are places readable n p e) ∙ length-append own parts in
    let before : length (nodes_below places waiting) ≡ length (nodes_from places n) + length others = ap (λ l. length (nodes_below places l)) stack ∙ length-append (nodes_from places n) others in
    let one = end-some p.mark (readable.ended n p e) in
    let long : length own ≡ length (step_nodes p.chain) + length (own_end p.mark) = length-append (step_nodes p.chain) (own_end p.mark) in
    omega (arith, after, here, before, one, long)
