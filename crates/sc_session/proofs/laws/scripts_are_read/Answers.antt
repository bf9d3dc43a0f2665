use Rattle.sc_sexpr.specs.Scans.{items_of}
use Rattle.sc_session.specs.Scripts.{most_bytes}
use Rattle.sc_session.proofs.Trees.{one_script}
use Rattle.sc_session.proofs.Whole.{text_reads}
use Rattle.sc_session.proofs.laws.scripts_are_read.Goals as goal

pub returns : goal.returns
returns c = record {
  one = text_reads c.splitters_read.ensures c.splitters_give_items.ensures;
  only = λ text s t a b. one_script (items_of most_bytes text) s t a b;
}
