use Rattle.std.proofs.Common.{◌≡◌, ◌∙◌, ◌<◌, ◌++◌, ap, arith, drop, get_or, length, pos, sym, take}
use Rattle.segment_slices.specs.Slices.{slice_at}
use Rattle.segment_slices.proofs.Checked.{slice_is, slice_long, slices_many}
use Rattle.segment_slices.proofs.Written.{next_fits, written_all, written_more}
use Rattle.segment_slices.proofs.slices.write_slices.Goals as goal

pub copy_slice-requires-clause-room : goal.copy_slice-requires-clause-room
copy_slice-requires-clause-room g c =
    let source = c.args.source.now in let as_many = c.requires.slices.as_many in
    let start = get_or c.args.starts.now c.loop-s.s (pos 0) in let n = get_or c.args.lengths.now c.loop-s.s (pos 0) in
    let lt : c.loop-s.s < length c.args.starts.now = omega (arith, c.loop-s-test.true) in
    omega (
      arith,
      c.as_count-count.ensures.value,
      slice_long source start n (c.requires.slices.within c.loop-s.s lt),
      next_fits c.loop-s.invariant (slice_at source (start, n)) (omega (arith, lt, slices_many source c.args.starts.now c.args.lengths.now as_many))
          (slice_is source c.args.starts.now c.args.lengths.now as_many c.loop-s.s lt),
    )

pub loop-s-preserved : goal.loop-s-preserved
loop-s-preserved g c =
    let source = c.args.source.now in let as_many = c.requires.slices.as_many in
    let start = get_or c.args.starts.now c.loop-s.s (pos 0) in let n = get_or c.args.lengths.now c.loop-s.s (pos 0) in
    let lt : c.loop-s.s < length c.args.starts.now = omega (arith, c.loop-s-test.true) in
    let copied : slice_at source (start, n) ≡ take c.as_count-count.result (drop c.as_count-first.result source) =
    (λ i. take (sym c.as_count-count.ensures.value i) (drop (sym c.as_count-first.ensures.value i) source)) in
    written_more c.loop-s.invariant (slice_at source (start, n)) (omega (arith, lt, slices_many source c.args.starts.now c.args.lengths.now as_many))
    (slice_is source c.args.starts.now c.args.lengths.now as_many c.loop-s.s lt) c.copy_slice.new.out c.as_count-count.result c.copy_slice.auto.out
    (c.as_count-count.ensures.value ∙ sym (slice_long source start n (c.requires.slices.within c.loop-s.s lt)))
    (c.copy_slice.ensures ∙ ap (λ xs. take c.loop-s.end c.loop-s.out ++ xs) (sym copied))

pub returns : goal.returns
returns g c =
    written_all c.loop-s.invariant
    (omega (arith, slices_many c.args.source.now c.args.starts.now c.args.lengths.now c.requires.slices.as_many, c.loop-s-test.false))
