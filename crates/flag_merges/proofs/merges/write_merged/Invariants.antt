use Rattle.flag_merges.proofs.Merged.{IsMerged}
use Rattle.flag_merges.proofs.merges.write_merged.Given as goal

abbrev pub invariant-loop-k : goal.invariant-loop-k
invariant-loop-k g l = IsMerged l.flags l.when_true l.when_false l.k l.first l.second l.out
