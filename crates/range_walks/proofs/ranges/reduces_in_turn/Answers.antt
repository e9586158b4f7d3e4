use Rattle.range_walks.proofs.Cited.{◌+◌, ◌∷◌, [], map, unsigned_abs, refl, ap, ◌∙◌, arith, length-map, with_items}
use Rattle.range_walks.proofs.Segments.{length_here, one_long, one_reduced, read_at}
use Rattle.range_walks.proofs.WalksLeft.{reduces_walked}
use Rattle.range_walks.proofs.ranges.reduces_in_turn.Goals as goal

pub overflow_cast-length : goal.overflow_cast-length
overflow_cast-length g c = (length_here c.requires.lengths c.loop-length-test.true).fits

pub split_at-requires : goal.split_at-requires
split_at-requires g c = let here = length_here c.requires.lengths c.loop-length-test.true in omega (arith, here.left, c.loop-length.invariant.covered)

pub loop-length-preserved : goal.loop-length-preserved
loop-length-preserved g c =
    let m = g.M.Monoid in
    let item = g.E.Reading.item in
    let lengths = map unsigned_abs c.args.lengths.now in
    let now = c.loop-length in
    let s = now.length-index in
    let n = read_at c.args.lengths.now s in
    let here = length_here c.requires.lengths c.loop-length-test.true in
    let parts = c.split_at.result in
    let elements = map item parts.0.now in
    reduces_walked m.join m.unit m.is_item item lengths c.args.xs.now c.args.run s now.rest.now now.run 1 n (s + 1) parts.0.now parts.1.now
    c.push.new.self now.invariant refl (omega (arith, here.within)) (one_long lengths s n here.within here.is) c.split_at.ensures.front c.split_at.ensures.back
    (c.push.ensures
    ∙ ap (λ sum. with_items now.run (sum ∷ [])) c.sum_of_segment.ensures
    ∙ ap (with_items now.run) (one_reduced m.join m.unit lengths s n elements here.within here.is (omega (arith, length-map parts.0.now item, c.split_at.ensures.front_len))))
