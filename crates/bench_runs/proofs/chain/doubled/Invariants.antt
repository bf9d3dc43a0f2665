use Rattle.sc_terms.specs.Bank.{IsSetOf}
use Rattle.bench_runs.proofs.chain.doubled.Given as goal

abbrev pub invariant-loop : goal.invariant-loop
invariant-loop l = IsSetOf l.bank l.last
