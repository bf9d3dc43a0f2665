-- A bank has no differing elements.
use Rattle.std.proofs.Common.{◌≡◌, ℕ, ◌-◌, List, Some, take}
use Rattle.sc_base.specs.Numbered.{item_at}
use Rattle.sc_terms.specs.declared.nodes.Element.TheVariants as elements
use Rattle.sc_terms.specs.declared.nodes.Node.{Node}
use Rattle.sc_terms.specs.declared.nodes.Node.TheVariants as nodes
use Rattle.sc_terms.specs.Bank.{NodeStands, IsBank}
use Rattle.sc_terms.proofs.Grown.{stands_below}
use Rattle.sc_meaning.specs.Worths.{IsPlain}

plain : (front : List Node) (x : Node) → NodeStands front x → IsPlain x
plain front (nodes.Formula f) h = tt
plain front (nodes.Set s) h = tt
plain front (nodes.Element (elements.Const c sort)) h = tt
plain front (nodes.Element (elements.Number affine)) h = tt
plain front (nodes.Element (elements.Diff s t)) h = absurd h

pub is_plain : (bank : List Node) → IsBank bank → (n : ℕ) (x : Node) → item_at bank n ≡ Some x → IsPlain x
is_plain bank is n x at = plain (take (n - 1) bank) x (stands_below bank is n x at)
