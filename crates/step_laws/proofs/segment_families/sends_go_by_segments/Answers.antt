use Rattle.step_laws.proofs.Families.{combined, counted, first, select-first}
use Rattle.step_laws.proofs.segment_families.sends_go_by_segments.Goals as goal

pub returns : goal.returns
returns g c = record {
  first = λ parts index lengths others segments also are are_also few many indices. first parts lengths others segments also are are_also many index indices few;
  select_first = λ parts index lengths others flags segments also are are_also few many indices flagged.
      select-first parts lengths others segments also are are_also many index indices flags few flagged;
  counts = λ parts index lengths others segments also are are_also many indices. counted parts lengths others segments also are are_also many index indices;
  combined = λ operator join_of o parts source room index lengths others segments also is are are_also many sources indices rooms.
      combined parts lengths others segments also are are_also many index indices source room sources rooms operator join_of o is;
}
