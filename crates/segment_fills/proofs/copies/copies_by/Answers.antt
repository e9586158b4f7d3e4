use Rattle.std.proofs.Common.{◌≡◌, [], ◌∙◌, ◌++◌, ◌+◌, ◌-◌, ap, arith, drop, get_or, length, map, replicate, sym, take, unsigned_abs}
use Rattle.std.proofs.Math.ListN.{drop_of_length-le}
use Rattle.std.proofs.lemmas.List.{length-map, length-replicate}
use Rattle.cvl_base.specs.Lists.{joined}
use Rattle.pack_dist.specs.Lists.{copies_of}
use Rattle.range_walks.proofs.Segments.{length_here}
use Rattle.segment_fills.proofs.Filled.{all_filled, copies-front, list_filled}
use Rattle.segment_fills.proofs.Parts.{length-cut-copies}
use Rattle.segment_fills.proofs.Written.{copies-more}
use Rattle.segment_fills.proofs.copies.copies_by.Goals as goal

pub overflow_cast-lengths : goal.overflow_cast-lengths
overflow_cast-lengths g c = (length_here c.requires.lengths c.loop-s-test.true).fits

pub loop-s-preserved : goal.loop-s-preserved
loop-s-preserved g c =
    let lengths = map unsigned_abs c.args.lengths.now in let values = c.args.values.now in let now = c.loop-s in let s = now.s in
    let value = c.index-values-s.result in let here = length_here c.requires.lengths c.loop-s-test.true in
    let n = get_or lengths s 0 in let end = c.min-end.result in
    list_filled now.room c.write.new.out now.first end (replicate n value) (joined (copies_of (drop (s + 1) values) (drop (s + 1) lengths))) _ _ _ now.invariant
    (copies-more values lengths s value (omega (arith, c.loop-s-test.true, c.requires.one_each)) here.within c.index-values-s.is)
    (omega (arith, c.min-end.ensures, here.is, length-replicate n value, now.invariant.as_long))
    c.write.ensures.as_long
    (c.write.ensures.front ∙ ap (λ xs. take now.first now.room ++ xs) (copies-front value (end - now.first) n (omega (arith, c.min-end.ensures, here.is))))

pub returns : goal.returns
returns g c =
    let row = c.args.lengths.now in let lengths = map unsigned_abs row in let values = c.args.values.now in
    let behind : drop c.loop-s.s values ≡ [] = drop_of_length-le values (omega (arith, c.loop-s-test.false, c.requires.one_each)) in
    all_filled c.loop-s.room c.loop-s.first _ _ _ c.loop-s.invariant (λ i. joined (copies_of (behind i) (drop c.loop-s.s lengths)))
    (length-cut-copies values lengths (length c.args.room.now) (c.requires.one_each ∙ sym (length-map row unsigned_abs)) c.requires.covered)
