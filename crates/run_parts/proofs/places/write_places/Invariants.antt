use Rattle.std.proofs.Common.{◌≡◌, ◌+◌, sum, take}
use Rattle.cvl_base.specs.Folds.{scan_of}
use Rattle.run_parts.proofs.places.write_places.Given as goal

abbrev pub invariant-loop-k : goal.invariant-loop-k
invariant-loop-k l = record {
  place : l.place ≡ sum (take l.k l.counts);
  placed : take l.k l.places ≡ scan_of ◌+◌ 0 (take l.k l.counts);
}
