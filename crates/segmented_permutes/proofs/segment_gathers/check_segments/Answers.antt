use Rattle.std.proofs.Common.{◌∙◌, ◌<◌, length, arith}
use Rattle.permute_walks.proofs.Outside.{all_inside}
use Rattle.segment_sends.proofs.Through.{start_more}
use Rattle.segmented_permutes.proofs.Runs.{none_beyond, segment_passed}
use Rattle.segmented_permutes.proofs.segment_gathers.check_segments.Goals as goal

pub returns-in-Ok : goal.returns-in-Ok
returns-in-Ok c =
    none_beyond 0 c.shortest.result c.args.source_d.now c.args.index_d.now c.args.index.now c.shortest.ensures (all_inside 0 c.shortest.result c.args.index.now c.in-Ok.ensures)

pub loop-s-preserved : goal.loop-s-preserved
loop-s-preserved c =
    let d = c.args.index_d.now in
    let lt : c.loop-s.s < length d = omega (arith, c.count-s-end.ensures.value, c.loop-s-test.true) in
    record {
      first_is = omega (arith, start_more d c.loop-s.s lt, c.length.ensures, c.loop-s.invariant.first_is);
      so_far = c.loop-s.invariant.so_far
          ∙ segment_passed c.args.source_d.now d c.args.index.now c.requires.total c.requires.count c.loop-s.s lt c.loop-s.first c.length.result c.length-in-loop-s.result
          c.loop-s.invariant.first_is c.length.ensures c.length-in-loop-s.ensures c.in_ok-check_places_alone.ensures;
    }
