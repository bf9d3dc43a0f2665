use Rattle.std.proofs.Common.{rules, ◌≡◌, ◌∷◌, [], ◌++◌, length, Some, None}
use Rattle.std.specs.Prelude.{if◌then◌else◌}
use Rattle.std.specs.Option.{option_or}
use Rattle.sc_pool.specs.Index.{is_free, last_fact, with_last, under_last}
use Rattle.sc_pool.proofs.Tables.{indexed-more}
use Rattle.sc_pool.proofs.pool.Pool.add.Goals as goal

pub invariant_of-self-2 : goal.invariant_of-self-2
invariant_of-self-2 c =
    let lemmas : c.push_reserved-2.new.self.items ≡ c.self.inside.lemmas.items ++ c.args.hypotheses ∷ [] = search rules in
    let latest : c.note_last.new.latest.entries ≡ with_last c.self.inside.latest.entries (last_fact c.args.hypotheses) (length c.self.inside.lemmas.items) = search rules in
    let earlier : c.push_reserved.new.self.items ≡ c.self.inside.earlier.items ++ c.in_ok-earlier.earlier ∷ [] = search rules in
    let under : c.in_ok-earlier.earlier ≡ under_last c.self.inside.latest.entries (last_fact c.args.hypotheses) = search rules in
    let free : c.first_free-self-inside.result ≡ option_or c.self.inside.free (if is_free c.args.hypotheses then Some (length c.self.inside.lemmas.items) else None) = search rules in
    rw (lemmas, latest, earlier, free) (indexed-more _ _ _ _ c.args.hypotheses _ c.self.invariant under)
