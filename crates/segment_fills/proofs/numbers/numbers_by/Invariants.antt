use Rattle.std.proofs.Common.{drop, length, map, unsigned_abs}
use Rattle.cvl_base.specs.Lists.{joined}
use Rattle.pack_dist.specs.Lists.{progressions_of}
use Rattle.segment_fills.proofs.Filled.{IsFilled}
use Rattle.segment_fills.proofs.numbers.numbers_by.Given as goal

abbrev pub invariant-loop-s : goal.invariant-loop-s
invariant-loop-s g l =
    let lengths = map unsigned_abs l.lengths in
    IsFilled l.room l.first (joined (progressions_of (drop l.s l.inits) (drop l.s l.strides) (drop l.s lengths))) (joined (progressions_of l.inits l.strides lengths)) (length l.initial.room)
