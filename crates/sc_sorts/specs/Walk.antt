-- The sort of a term by what leads to it.
use Rattle.std.specs.Prelude.{Option}
use Rattle.sc_terms.specs.declared.nodes.Sort.{Sort}
use Rattle.sc_sorts.specs.declared.sorts.Term.{Term}
use Rattle.sc_sorts.specs.declared.sorts.Term.TheVariants as terms
use Rattle.sc_sorts.specs.declared.sorts.Lead.{Lead}
use Rattle.sc_sorts.specs.declared.sorts.Lead.TheVariants as leads
use Rattle.sc_sorts.specs.Sorts.{Sorts}

-- the sort of a set term's members, or of an element
abbrev pub sort_of : Sorts → Term → Option Sort
sort_of known (terms.Set n) = known.members n
sort_of known (terms.Element n) = known.element n

-- the sort to which a lead goes
abbrev pub sort_after : Sorts → Lead → Option Sort
sort_after known (leads.Found sort) = sort
sort_after known (leads.Part term) = sort_of known term
