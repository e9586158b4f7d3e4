use Rattle.std.proofs.Common.{◌≡◌, take}
use Rattle.text_parts.specs.Rooms.{text_rooms_of}
use Rattle.text_parts.proofs.rooms.write_text_rooms.Given as goal

abbrev pub invariant-loop-k : goal.invariant-loop-k
invariant-loop-k l = take l.k l.rooms ≡ take l.k (text_rooms_of l.each l.starts l.firsts)
