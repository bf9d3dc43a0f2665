-- The stock of formulas of a bank that may have them posed may be decided.
use Rattle.std.proofs.Common.{List, ℕ}
use Rattle.std.specs.List.{AllByRecursion}
use Rattle.sc_base.proofs.Integers.{all_weaker}
use Rattle.sc_terms.specs.declared.nodes.Element.{Element}
use Rattle.sc_terms.specs.declared.nodes.Element.TheVariants as elements
use Rattle.sc_terms.specs.declared.nodes.Node.{Node}
use Rattle.sc_terms.specs.declared.nodes.Sort.{Sort}
use Rattle.sc_terms.specs.Bank.{IsBank, HasSorts}
use Rattle.sc_terms.specs.BankValues.{BankMeaningsFit}
use Rattle.sc_terms.specs.Conditions.{MeaningsFit}
use Rattle.sc_sorts.specs.Posed.{IsOfDeclaredSort, IsOfScript, IsOfBank, IsPosedBank}
use Rattle.sc_flatten.specs.Stock.{stock}
use Rattle.sc_flatten.specs.Laws.{AreFormulasOf, ElementIsOf, StocksArePosed}
use Rattle.sc_flatten.proofs.Differing.{stocks_have_diffs}
use Rattle.sc_flatten.proofs.Fitting.{stocks_fit}
use Rattle.sc_flatten.proofs.Lacking.{stock_intless, stock_cardless}
use Rattle.sc_flatten.proofs.Meanings.{meanings_agree}
use Rattle.sc_flatten.proofs.OneNode.{one_node_each}
use Rattle.sc_flatten.proofs.PlainForms.{stocks_have_plain_forms}
use Rattle.sc_flatten.proofs.Sorted.{sorts_stay}
use Rattle.sc_flatten.proofs.Sortings.{stocks_stay_sorted}
use Rattle.sc_flatten.proofs.Unnamed.{stocks_name_no_diffs}

declared_sort : (known : List Sort) (e : Element) → ElementIsOf known e → IsOfDeclaredSort e
declared_sort known (elements.Const c sort) h = h.1
declared_sort known _ h = tt

module _ (known : List Sort) (bank : List Node) (assertions : List ℕ) (is : IsBank bank) (posed : IsPosedBank known bank) (named : AreFormulasOf bank assertions) where
  of_script : IsOfScript (stock bank assertions)
  of_script = record {
    formulas = stocks_have_plain_forms.formulas bank assertions is named;
    elements = stocks_have_plain_forms.elements bank assertions is named;
    sorted = stocks_stay_sorted bank assertions is named posed.well_sorted;
    diffs = stocks_have_diffs bank assertions;
    unnamed = stocks_name_no_diffs bank assertions is named;
    declared = all_weaker (ElementIsOf known) IsOfDeclaredSort (declared_sort known) (stock bank assertions).elements (sorts_stay known bank assertions is named posed.sorts).elements;
    constants = one_node_each known bank assertions is posed.sorts named;
  }

  of_bank : MeaningsFit → BankMeaningsFit → IsOfBank (stock bank assertions) bank
  of_bank meanings bank_meanings = record {
    formulas = named;
    agree = meanings_agree meanings bank_meanings bank assertions is named;
    fits = stocks_fit meanings bank_meanings bank assertions is named;
  }

pub stocks_are_posed : MeaningsFit → BankMeaningsFit → StocksArePosed
stocks_are_posed meanings bank_meanings known bank assertions is posed named = record {
  script = of_script known bank assertions is posed named;
  of_bank = of_bank known bank assertions is posed named meanings bank_meanings;
  intless = stock_intless bank assertions posed.intless;
  cardless = stock_cardless bank assertions posed.cardless;
}
