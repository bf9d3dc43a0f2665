-- Clones of lists of terms.
use Rattle.std.proofs.Common.{◌≡◌, ℤ, List}
use Rattle.std.specs.List.{AllZip}
use Rattle.sc_base.proofs.Copies.{same_items}
use Rattle.sc_terms.specs.declared.atoms.Atom.{Atom}

pub same_terms : (xs ys : List (ℤ × Atom)) → AllZip (λ p q. (q.0 ≡ p.0) × (q.1 ≡ p.1)) xs ys → ys ≡ xs
same_terms xs ys h = same_items (λ p q. (q.0 ≡ p.0) × (q.1 ≡ p.1)) (λ p q e. λ i. (e.0 i, e.1 i)) xs ys h
