use Rattle.std.proofs.Common.{◌≡◌, length, take}
use Rattle.combine_parts.specs.RoomJoins.{shares_of, with_rooms}
use Rattle.combine_parts.proofs.room_joins.join_rooms.Given as goal

abbrev pub invariant-loop-start : goal.invariant-loop-start
invariant-loop-start g l =
    l.out ≡ with_rooms g.O.Binary.value l.fn.out (shares_of l.from (length l.fn.out) l.memory (take l.start-index l.starts))
