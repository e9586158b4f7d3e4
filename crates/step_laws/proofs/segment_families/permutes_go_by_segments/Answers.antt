use Rattle.step_laws.proofs.Families.{back, default-into, select, simple}
use Rattle.step_laws.proofs.segment_families.permutes_go_by_segments.Goals as goal

pub returns : goal.returns
returns g c = record {
  simple = λ parts source index lengths segments are few sources indices. simple parts source index lengths segments are few sources indices;
  select = λ parts source index lengths flags segments are few sources indices flagged.
      select parts source index lengths segments are few sources flags indices flagged;
  default_into = λ parts source defaults index lengths others segments also are are_also few many sources indices defaulted.
      default-into parts source index lengths segments are few sources others also are_also many defaults indices defaulted;
  back = λ parts source index lengths others segments also are are_also few many sources indices.
      back parts source index lengths segments are few sources others also are_also many indices;
}
