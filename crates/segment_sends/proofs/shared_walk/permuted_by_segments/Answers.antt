use Rattle.std.proofs.Common.{◌∙◌, ap, arith, length}
use Rattle.segment_sends.proofs.Shared.{length-permuted, whole_items, whole_right, whole_share}
use Rattle.segment_sends.proofs.shared_walk.permuted_by_segments.Goals as goal

pub write_shared-run-requires-clause-share : goal.write_shared-run-requires-clause-share
write_shared-run-requires-clause-share g c κs within =
    whole_share (record { few = c.requires.few; as_long = c.requires.as_long; within = c.requires.within }) c.in_ok-room.ensures.run c.segment_count-count.ensures

pub returns-then-right-clause-right : goal.returns-then-right-clause-right
returns-then-right-clause-right g c =
    whole_right (record { few = c.requires.few; as_long = c.requires.as_long; within = c.requires.within }) c.in_ok-room.ensures.run
    c.segment_count-count.ensures c.write_shared-run.ensures c.if-right.true

pub returns-then-right-clause-written : goal.returns-then-right-clause-written
returns-then-right-clause-written g c =
    c.into_vec-elements.ensures.items
    ∙ whole_items (record { few = c.requires.few; as_long = c.requires.as_long; within = c.requires.within }) c.in_ok-room.ensures.run
    c.segment_count-count.ensures c.write_shared-run.ensures c.if-right.true

pub returns-then-right-clause-as_long : goal.returns-then-right-clause-as_long
returns-then-right-clause-as_long g c =
    let are = c.into_vec-elements.ensures.items
    ∙ whole_items (record { few = c.requires.few; as_long = c.requires.as_long; within = c.requires.within }) c.in_ok-room.ensures.run
    c.segment_count-count.ensures c.write_shared-run.ensures c.if-right.true in
    omega (arith, c.into_vec-elements.result.ok.0, ap length are, length-permuted c.args.source.now (g.D.SegmentDestinations.segments c.args.segments.now) c.args.before.now c.requires.as_long)
