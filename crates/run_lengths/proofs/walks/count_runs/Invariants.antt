use Rattle.run_lengths.proofs.Counted.{IsCounted}
use Rattle.run_lengths.proofs.walks.count_runs.Given as goal

abbrev pub invariant-loop-k : goal.invariant-loop-k
invariant-loop-k g l = IsCounted g.D.Binary.value l.a l.k l.count l.last
