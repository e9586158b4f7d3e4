use Rattle.std.proofs.Common.{◌≡◌, ◌≤◌, map, sum, take}
use Rattle.text_parts.proofs.places.taken_by_all.Given as goal

abbrev pub invariant-loop-number : goal.invariant-loop-number
invariant-loop-number g l = record {
  so_far : l.so_far ≡ sum (map g.S.Takes.taken (take l.number-index l.told));
  few : l.so_far ≤ l.most;
}
