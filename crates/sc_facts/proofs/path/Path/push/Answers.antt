use Rattle.std.proofs.Common.{rules, ◌≡◌, ◌∷◌, [], ◌++◌, length, refl}
use Rattle.sc_facts.specs.Paths.{with_place, row_place, counts_in}
use Rattle.sc_facts.proofs.Lookups.{more_kept}
use Rattle.sc_facts.proofs.path.Path.push.Goals as goal

pub invariant_of-self-2 : goal.invariant_of-self-2
invariant_of-self-2 c =
    let facts : c.push_reserved-2.new.self.items ≡ c.self.inside.facts.items ++ c.args.fact ∷ [] = search rules in
    let places : c.note.new.self ≡ with_place c.self.inside.first_places c.args.fact (length c.self.inside.facts.items) = search rules in
    let rows : c.note_row.new.places.items ≡ c.self.inside.row_places.items ++ row_place (length c.self.inside.facts.items) c.args.fact = search rules in
    let before : c.push_reserved.new.self.items ≡ c.self.inside.before.items ++ counts_in c.self.inside.first_places c.self.inside.row_places.items ∷ [] = search rules in
    rw (facts, places, rows, before) (more_kept _ _ _ _ _ _ _ c.self.invariant refl)
