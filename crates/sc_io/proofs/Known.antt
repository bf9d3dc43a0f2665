-- Bytes that are appended and consumed one after another, where they are known.
use Rattle.std.proofs.Common.{ℕ, List, [], ◌++◌, Option, Some, None, refl, sym, ap, ◌∙◌, append_assoc}
use Rattle.std.proofs.lemmas.List.{append-nil}
use Rattle.std.specs.Io.KnownBytes.{Appends, Consumes}

pub Appends-none : (a : Option (List ℕ)) → Appends a a []
Appends-none None = tt
Appends-none (Some a) = sym (append-nil a)

pub Appends-then : (a b c : Option (List ℕ)) (x y : List ℕ) → Appends a b x → Appends b c y → Appends a c (x ++ y)
Appends-then None b c x y p q = tt
Appends-then (Some a) None c x y p q = absurd p
Appends-then (Some a) (Some b) None x y p q = absurd q
Appends-then (Some a) (Some b) (Some c) x y p q = q ∙ ap (λ (t : List ℕ). t ++ y) p ∙ append_assoc a x y

pub Consumes-none : (a : Option (List ℕ)) → Consumes a a []
Consumes-none None = tt
Consumes-none (Some a) = refl

pub Consumes-then : (a b c : Option (List ℕ)) (x y : List ℕ) → Consumes a b x → Consumes b c y → Consumes a c (x ++ y)
Consumes-then None b c x y p q = tt
Consumes-then (Some a) None c x y p q = absurd p
Consumes-then (Some a) (Some b) None x y p q = absurd q
Consumes-then (Some a) (Some b) (Some c) x y p q = p ∙ ap (λ (t : List ℕ). x ++ t) q ∙ sym (append_assoc x y c)
