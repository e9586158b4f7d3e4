use Rattle.std.proofs.Common.{◌≡◌, [], ◌∙◌, ℕ, ℤ, ◌++◌, ◌+◌, ◌-◌, ◌+ℤ◌, ◌*ℤ◌, ap, arith, drop, get_or, length, map, pos, sym, take, unsigned_abs}
use Rattle.std.specs.List.{range_with_len}
use Rattle.std.proofs.Math.ListN.{drop_of_length-le}
use Rattle.std.proofs.lemmas.List.{length-map}
use Rattle.std.proofs.lemmas.List.FromFn.{length-map-range_with_len, take-map-range_with_len}
use Rattle.cvl_base.specs.Integers.{wrap}
use Rattle.cvl_base.specs.Lists.{joined}
use Rattle.pack_dist.specs.Lists.{progressions_of}
use Rattle.pack_dist.specs.Progressions.{progression}
use Rattle.range_walks.proofs.Segments.{length_here}
use Rattle.segment_fills.proofs.Filled.{all_filled, list_filled}
use Rattle.segment_fills.proofs.Numbered.{length-cut-numbers, numbers-of-more}
use Rattle.segment_fills.proofs.numbers.numbers_by.Goals as goal

pub overflow_cast-lengths : goal.overflow_cast-lengths
overflow_cast-lengths g c = (length_here c.requires.lengths c.loop-s-test.true).fits

pub loop-s-preserved : goal.loop-s-preserved
loop-s-preserved g c =
    let lengths = map unsigned_abs c.args.lengths.now in let inits = c.args.inits.now in let strides = c.args.strides.now in let now = c.loop-s in let s = now.s in
    let init = get_or inits s (pos 0) in let stride = get_or strides s (pos 0) in let here = length_here c.requires.lengths c.loop-s-test.true in
    let n = get_or lengths s 0 in let end = c.min-end.result in
    let at : ℕ → ℤ = λ k. wrap (init +ℤ pos k *ℤ stride) in
    list_filled now.room c.write.new.out now.first end (progression init stride n)
    (joined (progressions_of (drop (s + 1) inits) (drop (s + 1) strides) (drop (s + 1) lengths))) _ _ _ now.invariant
    (numbers-of-more inits strides lengths s (omega (arith, c.loop-s-test.true, c.requires.inits)) (omega (arith, c.loop-s-test.true, c.requires.strides)) here.within)
    (omega (arith, c.min-end.ensures, here.is, length-map-range_with_len at 0 n, now.invariant.as_long))
    c.write.ensures.as_long
    (c.write.ensures.front
    ∙ (λ i. take now.first now.room ++ map (λ k. wrap (c.of.ensures.init i +ℤ pos k *ℤ c.of.ensures.stride i)) (range_with_len 0 (end - now.first)))
    ∙ ap (λ xs. take now.first now.room ++ xs) (sym (take-map-range_with_len at 0 n (end - now.first) (omega (arith, c.min-end.ensures, here.is)))))

pub returns : goal.returns
returns g c =
    let row = c.args.lengths.now in let lengths = map unsigned_abs row in let inits = c.args.inits.now in let strides = c.args.strides.now in
    let s = c.loop-s.s in let same = sym (length-map row unsigned_abs) in
    let behind : drop s inits ≡ [] = drop_of_length-le inits (omega (arith, c.loop-s-test.false, c.requires.inits)) in
    all_filled c.loop-s.room c.loop-s.first _ _ _ c.loop-s.invariant (λ i. joined (progressions_of (behind i) (drop s strides) (drop s lengths)))
    (length-cut-numbers inits strides lengths (length c.args.room.now) (c.requires.inits ∙ same) (c.requires.strides ∙ same) c.requires.covered)
