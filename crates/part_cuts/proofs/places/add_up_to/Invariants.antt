use Rattle.std.proofs.Common.{◌≡◌, ◌+◌, map, sum, take, true}
use Rattle.std.specs.List.{list_all}
use Rattle.part_cuts.proofs.places.add_up_to.Given as goal

abbrev pub invariant-loop-part : goal.invariant-loop-part
invariant-loop-part g l = record {
  each : list_all g.T.Told.is_length (take l.part-index l.told) ≡ true;
  left : sum (map g.T.Told.length_of (take l.part-index l.told)) + l.left ≡ l.len;
}
