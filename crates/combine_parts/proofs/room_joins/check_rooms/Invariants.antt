use Rattle.std.proofs.Common.{◌≡◌, true, take}
use Rattle.combine_parts.specs.RoomJoins.{lie_within}
use Rattle.combine_parts.proofs.room_joins.check_rooms.Given as goal

abbrev pub invariant-loop-start : goal.invariant-loop-start
invariant-loop-start l = lie_within l.memory l.from l.places (take l.start-index l.starts) ≡ true
