use Rattle.std.proofs.Common.{rules, ◌≡◌, ◌≤◌, length, Some}
use Rattle.std.specs.Prelude.{slice_get}
use Rattle.sc_facts.proofs.Lookups.{front_kept}
use Rattle.sc_facts.proofs.path.Path.cut_back.Goals as goal

pub invariant_of-self : goal.invariant_of-self
invariant_of-self c =
    let above : length c.self.inside.roots ≤ c.args.count = search rules in
    let at : slice_get c.self.inside.before.items c.args.count ≡ Some c.in-Some.before = search rules in
    rw (c.truncate-4.ensures.items, c.truncate-3.ensures.items, c.truncate-2.ensures.items, c.truncate.ensures) (front_kept _ _ _ _ _ _ _ c.self.invariant above at)
