use Rattle.segment_slices.specs.Slices.{slices_of}
use Rattle.segment_slices.proofs.Written.{IsWritten}
use Rattle.segment_slices.proofs.slices.write_slices.Given as goal

abbrev pub invariant-loop-s : goal.invariant-loop-s
invariant-loop-s g l = IsWritten (slices_of l.source l.starts l.lengths) l.s l.end l.out
