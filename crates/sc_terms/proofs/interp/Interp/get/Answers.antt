use Rattle.std.proofs.Common.{sym, ap, ◌∙◌}
use Rattle.std.specs.FinMap as map
use Rattle.sc_terms.proofs.Entries.{get-lookup}
use Rattle.sc_terms.proofs.interp.Interp.get.Goals as goal

pub returns : goal.returns
returns c =
    c.get.ensures.value ∙ (sym (get-lookup c.self.inside.values.entries c.args.constant) ∙ ap (λ m. map.get m c.args.constant) c.self.view_is)
