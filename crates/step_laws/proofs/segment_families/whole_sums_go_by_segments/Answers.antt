use Rattle.step_laws.proofs.ExactCombines.{checked-sums, exact-sums}
use Rattle.step_laws.proofs.segment_families.whole_sums_go_by_segments.Goals as goal

pub returns : goal.returns
returns g c = record {
  exact = λ parts source index lengths others room segments also are are_also few few_places many sources indices rooms.
      exact-sums parts lengths others segments also are are_also many source index room sources indices rooms few few_places;
  checked = λ parts source index lengths others room segments also are are_also few few_places many sources indices rooms.
      checked-sums parts lengths others segments also are are_also many source index room sources indices rooms few few_places;
}
