use Rattle.segment_slices.proofs.Paired.{IsPaired}
use Rattle.segment_slices.proofs.pairs.write_pairs.Given as goal

abbrev pub invariant-loop-s : goal.invariant-loop-s
invariant-loop-s g l = IsPaired l.a l.d l.b l.other l.s l.first l.second l.end l.out
