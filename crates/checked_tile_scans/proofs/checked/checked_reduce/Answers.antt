use Rattle.checked_tile_scans.proofs.SegmentTotals.{flat_open}
use Rattle.checked_tile_scans.proofs.checked.checked_reduce.Goals as goal

pub total_between-sum-requires-clause-open : goal.total_between-sum-requires-clause-open
total_between-sum-requires-clause-open g c = λ place begun ends. flat_open _ c.new-totals.result.elements.now place c.new-totals.ensures.segments
