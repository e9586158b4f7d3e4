use Rattle.std.proofs.Common.{◌≡◌, length, take}
use Rattle.cvl_base.specs.Permutes.{all_destinations}
use Rattle.permute_walks.specs.Senders.{last_senders, written_over}
use Rattle.segment_sends.proofs.one_segment.scatter_short_over.Given as goal

abbrev pub invariant-loop-k : goal.invariant-loop-k
invariant-loop-k g l = l.out ≡ written_over l.source (last_senders 0 (take l.k (all_destinations l.index)) 0 (length l.index)) l.fn.out
