use Rattle.std.proofs.Common.{◌≡◌, ◌+◌, ◌+ℤ◌, ◌*ℤ◌, pos, take}
use Rattle.cvl_base.specs.Integers.{wrap}
use Rattle.pack_dist.specs.Progressions.{numbers_from}
use Rattle.segment_fills.proofs.numbers.number_by.Given as goal

abbrev pub invariant-loop-k : goal.invariant-loop-k
invariant-loop-k l = record {
  next : l.next ≡ wrap (l.init +ℤ pos (l.from + l.k) *ℤ l.stride);
  held : take l.k l.room ≡ numbers_from l.init l.stride l.from l.k;
}
