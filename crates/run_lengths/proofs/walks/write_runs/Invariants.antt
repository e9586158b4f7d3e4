use Rattle.run_lengths.proofs.Walked.{IsWalked}
use Rattle.run_lengths.proofs.walks.write_runs.Given as goal

abbrev pub invariant-loop-k : goal.invariant-loop-k
invariant-loop-k g l = IsWalked g.D.Binary.value g.N.RunNumber.number l.a l.place l.from l.k l.run l.first l.last l.fn.out l.out
