use Rattle.permute_walks.proofs.Cited.{◌≡◌, length, take, all_destinations, last_senders, sent_marks, written_over}
use Rattle.permute_scatters.proofs.one_walk.send_and_mark.Given as goal

abbrev pub invariant-loop-k : goal.invariant-loop-k
invariant-loop-k g l = record {
  written : l.out ≡ written_over l.source (last_senders 0 (take l.k (all_destinations l.index)) 0 (length l.fn.out)) l.fn.out;
  marked : l.marks ≡ sent_marks (last_senders 0 (take l.k (all_destinations l.index)) 0 (length l.fn.out));
}
