use Rattle.pack_dist.proofs.Cited.{◌≡◌, ◌+◌, ◌++◌, length, count_of}
use Rattle.pack_dist.specs.Kept.{kept_of}
use Rattle.pack_dist.proofs.kept_blocks.push_kept.Given as goal

abbrev pub invariant-loop-run : goal.invariant-loop-run
invariant-loop-run g l = record {
  place : (l.run.block ≡ l.fn.run.block) × (l.run.first ≡ l.fn.run.first);
  items : l.run.items ++ kept_of l.values l.flags ≡ l.fn.run.items ++ kept_of l.fn.values l.fn.flags;
  room : l.run.room + count_of l.fn.flags ≡ l.fn.run.room + count_of l.flags;
  as_long : length l.values ≡ length l.flags;
}

abbrev pub decreases-loop-run : goal.decreases-loop-run
decreases-loop-run g l = length l.flags
