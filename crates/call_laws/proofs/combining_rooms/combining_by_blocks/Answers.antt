use Rattle.call_laws.proofs.CombinedRooms.{counted-rooms, joined-rooms, outside-rooms}
use Rattle.call_laws.proofs.combining_rooms.combining_by_blocks.Goals as goal

pub returns : goal.returns
returns g c = record {
  joined = joined-rooms g.met.M.Monoid.laws;
  counted = counted-rooms;
  outside = outside-rooms;
}
