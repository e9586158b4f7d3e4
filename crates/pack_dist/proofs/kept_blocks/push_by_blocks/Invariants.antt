use Rattle.pack_dist.proofs.Cited.{◌≡◌, ◌+◌, ◌-◌, ◌++◌, length, take, count_of, stretch}
use Rattle.pack_dist.specs.Kept.{kept_of}
use Rattle.pack_dist.proofs.kept_blocks.push_by_blocks.Given as goal

abbrev pub invariant-loop-values : goal.invariant-loop-values
invariant-loop-values g l = record {
  place : (l.run.block ≡ l.fn.run.block) × (l.run.first ≡ l.fn.run.first);
  items : l.run.items ++ kept_of l.values l.flags ≡ l.fn.run.items ++ kept_of l.fn.values l.fn.flags;
  room : l.run.room + count_of l.fn.flags ≡ l.fn.run.room + count_of l.flags;
  as_long : length l.values ≡ length l.flags;
  long : length l.buffer ≡ 256;
}

abbrev pub decreases-loop-values : goal.decreases-loop-values
decreases-loop-values g l = length l.flags

-- what the elements of the block so far keep stands in front
abbrev pub invariant-loop-k : goal.invariant-loop-k
invariant-loop-k g l = record {
  long : length l.buffer ≡ 256;
  count : l.count ≡ count_of (take l.k l.some_flags);
  kept : take l.count l.buffer ≡ kept_of (take l.k l.some_values) (take l.k l.some_flags);
}

abbrev pub invariant-loop-place : goal.invariant-loop-place
invariant-loop-place g l = l.run ≡ stretch l.initial.run.block l.initial.run.first (l.initial.run.items ++ take l.place l.buffer) (l.initial.run.room - l.place)
