-- The faults that terms and sorts may have.
use Rattle.std.specs.Prelude.{Bool, true, false, ◌||◌, ◌==◌}
use Rattle.sc_text.specs.declared.code.Code.{Code}
use Rattle.sc_text.specs.declared.code.Code.TheVariants as code

-- a term that is out of its shape, a name that isn't in force, a wrong sort or number of arguments, what is outside the profile, and the limits on the depth of a term and on the distinct terms of a script
abbrev pub is_term_fault : Code → Bool
is_term_fault code.E5 = true
is_term_fault code.E6 = true
is_term_fault code.E7 = true
is_term_fault code.E8 = true
is_term_fault (code.E16 limit) = limit == 1000 || limit == 200000
is_term_fault fault = false

-- a sort has no arguments of its own that could be wrong, and no limit
abbrev pub is_sort_fault : Code → Bool
is_sort_fault code.E5 = true
is_sort_fault code.E6 = true
is_sort_fault code.E8 = true
is_sort_fault fault = false
