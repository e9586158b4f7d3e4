use Rattle.step_laws.proofs.Families.{appended, merged}
use Rattle.step_laws.proofs.segment_families.pairs_go_by_segments.Goals as goal

pub returns : goal.returns
returns g c = record {
  append = λ parts a b lengths others segments also are are_also many fit also_fit. appended parts lengths others segments also are are_also many a b fit also_fit;
  merge = λ parts flags xs ys lengths trues falses segments also too are are_also are_too many also_many flagged fit also_fit.
      merged parts lengths trues segments also are are_also many falses too flags xs ys are_too also_many flagged fit also_fit;
}
