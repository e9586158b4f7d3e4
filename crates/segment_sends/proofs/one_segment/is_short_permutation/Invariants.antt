use Rattle.std.proofs.Common.{◌≡◌, length, take}
use Rattle.std.specs.Simd.Lanes.{mask_l}
use Rattle.cvl_base.specs.Permutes.{all_destinations}
use Rattle.permute_walks.specs.Senders.{last_senders, sent_marks}
use Rattle.segment_sends.proofs.one_segment.is_short_permutation.Given as goal

abbrev pub invariant-loop-i : goal.invariant-loop-i
invariant-loop-i l = l.marks ≡ mask_l (sent_marks (last_senders 0 (take l.i-index (all_destinations l.index)) 0 (length l.index)))
