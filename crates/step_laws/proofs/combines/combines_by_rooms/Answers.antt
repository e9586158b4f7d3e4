use Rattle.cvl_base.specs.Scans.{bool_join_of, bool_unit_of, int_join_of, int_unit_of}
use Rattle.c_calls.specs.Numbers.{bool_binary, int_monoid}
use Rattle.step_laws.proofs.AnyOrder.{in_any_order}
use Rattle.step_laws.proofs.CombinedInRooms.{by_rooms}
use Rattle.step_laws.proofs.Operators.{any_booleans, bool_laws, int_laws}
use Rattle.step_laws.specs.CombineParts.{elements_of, room_of}
use Rattle.step_laws.specs.CombineSteps.{BoolJoinsOwn, BoolJoinsRooms, IntJoinsOwn, IntJoinsRooms}
use Rattle.std.proofs.Common.{length}
use Rattle.step_laws.proofs.combines.combines_by_rooms.Goals as goal

pub returns : goal.returns
returns c = record {
  integers = λ op boundaries memory start made before after some items was few few_places begin first has last.
      by_rooms int_unit_of int_join_of int_laws (int_monoid op) boundaries memory start made before after some items was few few_places begin
      (in_any_order (IntJoinsOwn op (length (room_of before))) start made first) has (in_any_order (IntJoinsRooms op boundaries memory) before after last);
  booleans = λ op boundaries memory start made before after some few few_places begin first has last.
      by_rooms bool_unit_of bool_join_of bool_laws (bool_binary op) boundaries memory start made before after some (any_booleans (elements_of start))
      (any_booleans (room_of before)) few few_places begin
      (in_any_order (BoolJoinsOwn op (length (room_of before))) start made first) has (in_any_order (BoolJoinsRooms op boundaries memory) before after last);
}
