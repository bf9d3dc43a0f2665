use Rattle.std.proofs.Common.{sym, subst, ◌∙◌}
use Rattle.sc_terms.specs.Forms.{IsForm}
use Rattle.sc_flatten.specs.Numbered.{FormListed}
use Rattle.sc_flatten.specs.Tables.{numbering}
use Rattle.sc_flatten.proofs.Placing.{form_in_form}
use Rattle.sc_flatten.proofs.forms.form_in.Goals as goal

pub from_terms-requires : goal.from_terms-requires
from_terms-requires c = subst IsForm (sym (c.in_ok-terms.ensures ∙ c.in_ok-placed.ensures)) (form_in_form (numbering c.args.tables.now) c.terms.result.now (subst (FormListed (numbering c.args.tables.now)) (sym c.terms.ensures.terms) c.requires.listed))
