-- Links between set terms, and the set terms that have a component, are in range.
use Rattle.std.proofs.Common.{◌≡◌, ℕ, ◌+◌, ◌<◌, true, ◌&&◌, List, ◌++◌, length, refl, arith}
use Rattle.std.specs.List.{flat_map, AllByRecursion}
use Rattle.sc_base.proofs.Bools.{and_true}
use Rattle.sc_base.proofs.Integers.{all_weaker}
use Rattle.sc_terms.specs.declared.nodes.Formula.{Formula}
use Rattle.sc_terms.specs.declared.nodes.SetTerm.{SetTerm}
use Rattle.sc_terms.specs.Conditions.{IsIn}
use Rattle.sc_flatten.specs.Classes.{has_home, is_home, argument_links, side_links, links_of, homes_of}
use Rattle.sc_flatten.specs.Forests.{LinkIn}
use Rattle.sc_flatten.proofs.Lists.{all_pass}
use Rattle.sc_flatten.proofs.Below.{item_within}
use Rattle.sc_flatten.proofs.Homes.{all_homes}

pub links_in : (ss : List SetTerm) (fs : List Formula) → AllByRecursion (LinkIn (length ss)) (links_of ss fs)
links_in ss fs =
    all_weaker (λ p. (is_home ss p.0 && is_home ss p.1) ≡ true) (LinkIn (length ss))
    (λ p h. let both = and_true (is_home ss p.0) (is_home ss p.1) h in ((item_within has_home refl ss p.0 both.0).1, (item_within has_home refl ss p.1 both.1).1))
    (links_of ss fs) (all_pass (λ p. is_home ss p.0 && is_home ss p.1) (argument_links 1 ss ++ flat_map side_links fs))

pub homes_below : (ss : List SetTerm) (fs : List Formula) (n : ℕ) → n ≡ length ss + 1 → AllByRecursion (λ m. m < n) (homes_of ss)
homes_below ss fs n e = all_weaker (IsIn (length ss)) (λ m. m < n) (λ m h. omega (arith, h.1, e)) (homes_of ss) (all_homes ss fs)
