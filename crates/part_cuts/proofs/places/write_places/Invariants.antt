use Rattle.std.proofs.Common.{◌≡◌, ◌+◌, map, sum, take}
use Rattle.cvl_base.specs.Folds.{scan_of}
use Rattle.part_cuts.proofs.places.write_places.Given as goal

abbrev pub invariant-loop-k : goal.invariant-loop-k
invariant-loop-k g l = record {
  place : l.place ≡ sum (map g.T.Told.length_of (take l.k l.told));
  placed : take l.k l.places ≡ scan_of ◌+◌ 0 (map g.T.Told.length_of (take l.k l.told));
}
