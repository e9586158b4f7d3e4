use Rattle.permute_walks.proofs.Cited.{◌≡◌, length, take, all_destinations, last_senders, written_over}
use Rattle.permute_scatters.proofs.scatters.scatter.Given as goal

abbrev pub invariant-loop-k : goal.invariant-loop-k
invariant-loop-k g l = l.out ≡ written_over l.source (last_senders 0 (take l.k (all_destinations l.index)) 0 (length l.fn.out)) l.fn.out
