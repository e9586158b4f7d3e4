use Rattle.std.proofs.Common.{◌≡◌, ◌*◌, map, take}
use Rattle.std.specs.List.{range_with_len}
use Rattle.combine_parts.proofs.own_rooms.write_starts.Given as goal

abbrev pub invariant-loop-k : goal.invariant-loop-k
invariant-loop-k l = take l.k l.rooms ≡ map (λ k. k * l.distance) (range_with_len 0 l.k)
