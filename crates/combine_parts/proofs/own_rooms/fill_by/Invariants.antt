use Rattle.std.proofs.Common.{◌≡◌, replicate, take}
use Rattle.combine_parts.proofs.own_rooms.fill_by.Given as goal

abbrev pub invariant-loop-place : goal.invariant-loop-place
invariant-loop-place g l = take l.place l.room ≡ replicate l.place l.value
