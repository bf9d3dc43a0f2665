use Rattle.std.proofs.Common.{rules, ◌≡◌, ◌∙◌, false}
use Rattle.std.specs.Prelude.{is_err}
use Rattle.std.specs.Str.{bytes_eq}
use Rattle.indexmap.proofs.CallerLemmas.{insert_entry-new}
use Rattle.sc_stack.proofs.Tables.{where_ok}
use Rattle.sc_stack.proofs.stack.enter.Goals as goal

pub returns-clause-ok : goal.returns-clause-ok
returns-clause-ok c =
    let ok : is_err c.insert.result ≡ false = search rules in
    where_ok c.insert.result c.insert.ensures.entries ok ∙ insert_entry-new (λ a b. bytes_eq a.items b.items) c.args.table.now c.args.name c.args.named c.requires
