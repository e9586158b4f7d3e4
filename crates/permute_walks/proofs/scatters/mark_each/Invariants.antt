use Rattle.permute_walks.proofs.Cited.{◌≡◌, length, take, all_destinations, last_senders, sent_marks}
use Rattle.permute_walks.proofs.scatters.mark_each.Given as goal

abbrev pub invariant-loop-i : goal.invariant-loop-i
invariant-loop-i l = l.marks ≡ sent_marks (last_senders 0 (take l.i-index (all_destinations l.index)) 0 (length l.fn.marks))
