use Rattle.std.proofs.Common.{◌≡◌, ◌∙◌, ◌<◌, [], ap, arith, below_more, get_or, length, pos, sym, take_all, Err, true, false}
use Rattle.std.proofs.lemmas.List.Concat.{length-flat_map}
use Rattle.std.proofs.lemmas.List.Sums.{sum_by_more}
use Rattle.std.specs.List.{sum_by}
use Rattle.segment_slices.specs.Slices.{is_slice, slices_of}
use Rattle.segment_slices.proofs.Checked.{gather_fails, gather_right, slice_is, slice_long, slices_many}
use Rattle.segment_slices.proofs.slices.check_slices.Goals as goal

pub returns-then-not-is_slice-clause-meaning : goal.returns-then-not-is_slice-clause-meaning
returns-then-not-is_slice-clause-meaning g c =
    let outside : is_slice (length c.args.source.now) (get_or c.args.starts.now c.loop-s.s (pos 0)) (get_or c.args.lengths.now c.loop-s.s (pos 0)) ≡ false = cc in
    gather_fails c.args.source.now c.args.starts.now c.args.lengths.now c.in_ok-check_agree.ensures c.loop-s.s (omega (arith, c.loop-s-test.true)) c.loop-s.invariant.within outside
    ∙ ap Err (sym c.at.ensures)

pub loop-s-preserved : goal.loop-s-preserved
loop-s-preserved g c =
    let source = c.args.source.now in
    let lt : c.loop-s.s < length c.args.starts.now = omega (arith, c.loop-s-test.true) in
    let as_many = c.in_ok-check_agree.ensures in
    let slices = slices_of source c.args.starts.now c.args.lengths.now in
    let is : is_slice (length source) (get_or c.args.starts.now c.loop-s.s (pos 0)) (get_or c.args.lengths.now c.loop-s.s (pos 0)) ≡ true = cc in
    let long : length (get_or slices c.loop-s.s []) ≡ c.as_count-total.result =
    ap length (sym (slice_is source c.args.starts.now c.args.lengths.now as_many c.loop-s.s lt))
    ∙ slice_long source (get_or c.args.starts.now c.loop-s.s (pos 0)) (get_or c.args.lengths.now c.loop-s.s (pos 0)) is ∙ sym c.as_count-total.ensures.value in
    record {
      within = below_more _ _ c.loop-s.invariant.within is;
      total_is = omega (arith, c.loop-s.invariant.total_is, long, sum_by_more length slices c.loop-s.s [] (omega (arith, slices_many source c.args.starts.now c.args.lengths.now as_many)));
      few = omega (arith, c.loop-s.invariant.few, c.as_count-total.ensures.in_limit);
    }

pub returns-clause-meaning : goal.returns-clause-meaning
returns-clause-meaning g c =
    gather_right c.args.source.now c.args.starts.now c.args.lengths.now c.in_ok-check_agree.ensures (λ k lt. c.loop-s.invariant.within k (omega (arith, lt, c.loop-s-test.false)))

pub returns-clause-total : goal.returns-clause-total
returns-clause-total g c =
    let slices = slices_of c.args.source.now c.args.starts.now c.args.lengths.now in
    c.loop-s.invariant.total_is
    ∙ ap (sum_by length) (take_all c.loop-s.s slices (omega (arith, slices_many c.args.source.now c.args.starts.now c.args.lengths.now c.in_ok-check_agree.ensures, c.loop-s-test.false)))
    ∙ sym (length-flat_map (λ xs. xs) slices)
