use Rattle.call_laws.proofs.OverRanks.{seg_reduce-over_ranks, seg_scan-over_ranks}
use Rattle.call_laws.proofs.over_ranks.segments_over_ranks.Goals as goal

pub returns : goal.returns
returns g c = record {
  scan = λ parts none. seg_scan-over_ranks g.M.Monoid.join g.M.Monoid.unit parts none;
  reduce = λ parts none items. seg_reduce-over_ranks g.met.M.Monoid.laws parts items none;
}
