use Rattle.std.proofs.Common.{Vec}
use Rattle.permute_walks.proofs.Told.{found_in_one}
use Rattle.segment_sends.specs.SegmentDestinations.{fault_from, senders_from}
use Rattle.segmented_permutes.proofs.one_walk.permuted_in_one.Goals as goal

pub returns-in_ok-in_one-in-OneWalk-clause-values : goal.returns-in_ok-in_one-in-OneWalk-clause-values
returns-in_ok-in_one-in-OneWalk-clause-values g c =
    let segments = g.D.SegmentDestinations.segments c.args.segments.now in let one = c.in_ok-in_one-in-OneWalk in
    found_in_one (λ (v : Vec g.row.T.Denot g.row.A.Denot). v.items) c.args.source.now c.args.before (fault_from 0 segments) (senders_from 0 segments) c.values-values.result.now c.values-values.ensures
    one.in_one one.ensures.right one.ensures.written
