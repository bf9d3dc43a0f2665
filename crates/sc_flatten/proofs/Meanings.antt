-- Each root of a stock is true exactly where its assertion is.
use Rattle.sc_terms.specs.BankValues.{bank_meaning, BankMeaningsFit}
use Rattle.sc_terms.specs.Conditions.{MeaningsFit}
use Rattle.sc_terms.specs.Values.{meaning}
use Rattle.sc_flatten.specs.Stock.{numbering_of, stock}
use Rattle.sc_flatten.specs.Laws.{MeaningsAgree}
use Rattle.sc_flatten.proofs.Problems.{stock_whole, stocks_are_problems}
use Rattle.sc_flatten.proofs.Agreeing.{roots_agree}

pub meanings_agree : MeaningsFit → BankMeaningsFit → MeaningsAgree
meanings_agree fits bank_fits bank assertions is formulas i proper =
    roots_agree bank is assertions (numbering_of bank assertions) (stock_whole bank assertions is formulas) i
    (meaning (stock bank assertions) i) (bank_meaning bank i)
    (fits (stock bank assertions) (stocks_are_problems bank assertions is formulas) i proper)
    (bank_fits bank is i proper)
    assertions (stock_whole bank assertions is formulas).roots
