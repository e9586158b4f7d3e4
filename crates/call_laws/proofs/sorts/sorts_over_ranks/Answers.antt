use Rattle.call_laws.proofs.SortedOverRanks.{cuts-exactly, keys-sorted, ranges-over_ranks, whole-over_ranks}
use Rattle.call_laws.proofs.sorts.sorts_over_ranks.Goals as goal

pub returns : goal.returns
returns c = record { ranges = ranges-over_ranks; whole = whole-over_ranks; exact = cuts-exactly; keys = keys-sorted }
