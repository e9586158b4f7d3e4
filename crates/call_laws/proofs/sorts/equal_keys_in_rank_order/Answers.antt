use Rattle.call_laws.proofs.CutInRankOrder.{cut_by_counts}
use Rattle.call_laws.proofs.sorts.equal_keys_in_rank_order.Goals as goal

pub returns : goal.returns
returns c = cut_by_counts
