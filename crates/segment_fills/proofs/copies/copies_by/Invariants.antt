use Rattle.std.proofs.Common.{drop, length, map, unsigned_abs}
use Rattle.cvl_base.specs.Lists.{joined}
use Rattle.pack_dist.specs.Lists.{copies_of}
use Rattle.segment_fills.proofs.Filled.{IsFilled}
use Rattle.segment_fills.proofs.copies.copies_by.Given as goal

abbrev pub invariant-loop-s : goal.invariant-loop-s
invariant-loop-s g l =
    let lengths = map unsigned_abs l.lengths in
    IsFilled l.room l.first (joined (copies_of (drop l.s l.values) (drop l.s lengths))) (joined (copies_of l.values lengths)) (length l.initial.room)
