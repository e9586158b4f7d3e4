use Rattle.permute_walks.proofs.Cited.{◌≡◌, take, all_destinations, last_senders, mark_words, sent_marks}
use Rattle.permute_scatters.proofs.marks.mark_each.Given as goal

abbrev pub invariant-loop-i : goal.invariant-loop-i
invariant-loop-i l = l.marks ≡ mark_words (sent_marks (last_senders 0 (take l.i-index (all_destinations l.index)) 0 l.places))
