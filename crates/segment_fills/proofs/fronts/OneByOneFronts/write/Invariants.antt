use Rattle.std.proofs.Common.{◌≡◌, ◌-◌, ◌++◌, map, take}
use Rattle.std.specs.List.{range_with_len}
use Rattle.segment_fills.proofs.fronts.OneByOneFronts.write.Given as goal

abbrev pub invariant-loop-place : goal.invariant-loop-place
invariant-loop-place g l = record {
  next : l.item ≡ g.S.Items.at l.items (l.place - l.first);
  front : take l.place l.out ≡ take l.first l.initial.out ++ map (g.S.Items.at l.items) (range_with_len 0 (l.place - l.first));
}
