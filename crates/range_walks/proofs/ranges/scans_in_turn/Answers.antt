use Rattle.range_walks.proofs.Cited.{◌+◌, map, unsigned_abs, refl, ap, ◌∙◌, arith, length-map, with_items}
use Rattle.range_walks.proofs.Segments.{length_here, one_long, one_scanned, read_at}
use Rattle.range_walks.proofs.WalksLeft.{scans_walked}
use Rattle.range_walks.proofs.ranges.scans_in_turn.Goals as goal

pub overflow_cast-length : goal.overflow_cast-length
overflow_cast-length g c = (length_here c.requires.lengths c.loop-length-test.true).fits

pub loop-length-preserved : goal.loop-length-preserved
loop-length-preserved g c =
    let m = g.M.Monoid in
    let item = g.E.Reading.item in
    let lengths = map unsigned_abs c.args.lengths.now in
    let now = c.loop-length in
    let s = now.length-index in
    let n = read_at c.args.lengths.now s in
    let here = length_here c.requires.lengths c.loop-length-test.true in
    let parts = c.split_at.result in
    let elements = map item parts.0.now in
    scans_walked m.join m.unit m.is_item item lengths c.args.xs.now c.args.run s now.rest.now now.run 1 n (s + 1) parts.0.now parts.1.now
    c.scan_of_segment-run.result c.min.result now.invariant refl (one_long lengths s n here.within here.is) c.min.ensures c.split_at.ensures.front c.split_at.ensures.back
    (c.scan_of_segment-run.ensures
    ∙ ap (with_items now.run) (one_scanned m.join m.unit lengths s n elements here.within here.is (omega (arith, length-map parts.0.now item, c.split_at.ensures.front_len, c.min.ensures))))
