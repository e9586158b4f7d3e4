use Rattle.pack_dist.proofs.Cited.{◌∙◌, rules, arith, ap, refl, take_all, sum, IsSegment, ends_within, starts_more}
use Rattle.pack_dist.proofs.Replaced.{index-misfits, replace-begins, replace-ends, replace-fails, replace-more, values-misfit}
use Rattle.pack_dist.proofs.replaces.seg_replace.Goals as goal

pub returns-in_err-check_agree-clause-values : goal.returns-in_err-check_agree-clause-values
returns-in_err-check_agree-clause-values g c =
    let e = index-misfits c.args.vector.now c.args.index.now c.args.values.now c.args.d.now (omega arith)
    (λ same. c.in_err-check_agree.ensures.1 (c.count.ensures.value ∙ same)) in
    search rules

pub returns-in_err-check_agree-2-clause-values : goal.returns-in_err-check_agree-2-clause-values
returns-in_err-check_agree-2-clause-values g c =
    let e = values-misfit c.args.vector.now c.args.index.now c.args.values.now c.args.d.now (omega arith) (omega arith)
    (λ same. c.in_err-check_agree-2.ensures.1 (c.count-2.ensures.value ∙ same)) in
    search rules

pub loop-s-init : goal.loop-s-init
loop-s-init g c = record {
  replacing = replace-begins c.args.vector.now c.args.index.now c.args.values.now c.args.d.now (omega arith) (omega arith) _ (omega arith) c.in_ok-replaced.ensures.items;
  as_long = c.in_ok-replaced.ensures.len;
  starts = refl;
}

pub loop-s-preserved : goal.loop-s-preserved
loop-s-preserved g c =
    let here : IsSegment c.args.d.now c.loop-s.s c.loop-s.start c.length-length.result =
    record { within = omega arith; starts = c.loop-s.invariant.starts; long = c.length-length.ensures } in
    record {
      replacing = replace-more c.args.vector.now c.args.index.now c.args.values.now c.args.d.now c.loop-s.s c.loop-s.start c.loop-s.replaced.items c.loop-s.invariant.replacing
          c.length-length.result c.index-values-s.result here (omega (arith, c.in_ok-check_agree.ensures))
          (record { within = omega (arith, c.in_ok-check_agree-2.ensures); here = c.index-values-s.is }) c.in_ok-place.place c.in_ok-check_total.ensures.agrees c.in_ok-place.ensures.named;
      as_long = c.loop-s.invariant.as_long;
      starts = starts_more here;
    }

pub index_mut-requires : goal.index_mut-requires
index_mut-requires g c =
    omega (arith, c.in_ok-place.ensures.within, c.in_ok-check_total.ensures.agrees, ends_within c.args.d.now c.loop-s.s (omega arith), c.loop-s.invariant.as_long)

pub returns-in_err-place-clause-values : goal.returns-in_err-place-clause-values
returns-in_err-place-clause-values g c =
    let here : IsSegment c.args.d.now c.loop-s.s c.loop-s.start c.length-length.result =
    record { within = omega arith; starts = c.loop-s.invariant.starts; long = c.length-length.ensures } in
    let e = replace-fails c.args.vector.now c.args.index.now c.args.values.now c.args.d.now c.loop-s.s c.loop-s.start c.loop-s.replaced.items c.loop-s.invariant.replacing
    c.length-length.result c.index-values-s.result here (omega (arith, c.in_ok-check_agree.ensures))
    (record { within = omega (arith, c.in_ok-check_agree-2.ensures); here = c.index-values-s.is }) c.in_err-place.ensures.named.1 in
    search rules

pub returns-clause-values : goal.returns-clause-values
returns-clause-values g c =
    replace-ends c.args.vector.now c.args.index.now c.args.values.now c.args.d.now c.loop-s.s c.loop-s.start c.loop-s.replaced.items c.loop-s.invariant.replacing
    (c.loop-s.invariant.starts ∙ ap sum (take_all c.loop-s.s c.args.d.now (omega arith)) ∙ c.in_ok-check_total.ensures.agrees) (omega (arith, c.loop-s.invariant.as_long)) (omega arith)
