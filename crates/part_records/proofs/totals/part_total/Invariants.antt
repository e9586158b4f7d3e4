use Rattle.std.proofs.Common.{◌≡◌, ◌≤◌, sum, take}
use Rattle.cvl_base.specs.Limits.{most_places}
use Rattle.part_records.proofs.totals.part_total.Given as goal

abbrev pub invariant-loop-size : goal.invariant-loop-size
invariant-loop-size l = record {
  so_far : l.so_far ≡ sum (take l.size-index l.sizes);
  few : l.so_far ≤ most_places;
}
