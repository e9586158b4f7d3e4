use Rattle.scan_walks.proofs.Cited.{◌∙◌, ◌+◌, ◌+ℤ◌, pos, map, unsigned_abs, refl, ap, arith, length_here, one_long, one_scanned, read_at, fitting_front}
use Rattle.scan_walks.proofs.FrontLaws.{segments_go_on, segments_stop}
use Rattle.scan_walks.proofs.segment_fronts.fitting_of_each.Goals as goal

pub overflow_cast-length : goal.overflow_cast-length
overflow_cast-length c = (length_here c.requires.lengths c.loop-length-test.true).fits

pub returns-then-fitting-segment-clause-front : goal.returns-then-fitting-segment-clause-front
returns-then-fitting-segment-clause-front c =
    let row = c.args.lengths.now in let lengths = map unsigned_abs row in let s = c.loop-length.length-index in let segment = c.split_at.result.0.now in
    let here = length_here c.requires.lengths c.loop-length-test.true in
    let met = c.fitting_of_scan-fitting.ensures.front
    ∙ ap fitting_front (one_scanned ◌+ℤ◌ (pos 0) lengths s (read_at row s) segment here.within here.is (omega (arith, c.split_at.ensures.front_len, c.min.ensures))) in
    segments_stop c.loop-length.invariant 1 (read_at row s) (s + 1) refl (one_long lengths s _ here.within here.is) _ segment c.split_at.result.1.now c.min.ensures
    c.split_at.ensures.front c.split_at.ensures.back c.fitting_of_scan-fitting.result met c.if-fitting-segment.true

pub loop-length-preserved : goal.loop-length-preserved
loop-length-preserved c =
    let row = c.args.lengths.now in let lengths = map unsigned_abs row in let s = c.loop-length.length-index in let segment = c.split_at.result.0.now in
    let here = length_here c.requires.lengths c.loop-length-test.true in
    let met = c.fitting_of_scan-fitting.ensures.front
    ∙ ap fitting_front (one_scanned ◌+ℤ◌ (pos 0) lengths s (read_at row s) segment here.within here.is (omega (arith, c.split_at.ensures.front_len, c.min.ensures))) in
    segments_go_on c.loop-length.invariant 1 (read_at row s) (s + 1) refl (one_long lengths s _ here.within here.is) _ segment c.split_at.result.1.now c.min.ensures
    c.split_at.ensures.front c.split_at.ensures.back c.fitting_of_scan-fitting.result met _ (omega (arith, c.if-fitting-segment.false)) (omega arith)
