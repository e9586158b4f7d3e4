use Rattle.pack_dist.proofs.Cited.{◌≡◌, ◌+◌, ◌-◌, ◌++◌, ◌+ℤ◌, ◌*ℤ◌, pos, wrap, stretch}
use Rattle.pack_dist.specs.Progressions.{numbers_from}
use Rattle.pack_dist.proofs.indexes.push_progression.Given as goal

abbrev pub invariant-loop : goal.invariant-loop
invariant-loop l = record {
  next : l.next ≡ wrap (l.init +ℤ pos (l.from + l.counter) *ℤ l.stride);
  held : l.run ≡ stretch l.fn.run.block l.fn.run.first (l.fn.run.items ++ numbers_from l.init l.stride l.from l.counter) (l.fn.run.room - l.counter);
}
