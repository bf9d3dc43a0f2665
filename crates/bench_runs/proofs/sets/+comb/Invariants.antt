use Rattle.bench_runs.proofs.sets.+comb.Given as goal

abbrev pub decreases-comb : goal.decreases-comb
decreases-comb l = l.count
