use Rattle.pack_dist.proofs.Cited.{◌≡◌, ◌-◌, ◌++◌, take, count_of, stretch}
use Rattle.pack_dist.specs.Kept.{kept_of}
use Rattle.pack_dist.proofs.kept_blocks.push_each.Given as goal

abbrev pub invariant-loop-k : goal.invariant-loop-k
invariant-loop-k g l =
    l.run ≡ stretch l.fn.run.block l.fn.run.first (l.fn.run.items ++ kept_of (take l.k l.values) (take l.k l.flags)) (l.fn.run.room - count_of (take l.k l.flags))
