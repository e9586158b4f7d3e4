use Rattle.pack_dist.proofs.Cited.{◌∙◌, rules, arith, refl, IsSegment, ends_within, starts_more}
use Rattle.pack_dist.proofs.Extracted.{extract-begins, extract-ends, extract-fails, extract-misfits, extract-more}
use Rattle.pack_dist.proofs.extracts.seg_extract.Goals as goal

pub returns-in_err-check_agree-clause-values : goal.returns-in_err-check_agree-clause-values
returns-in_err-check_agree-clause-values g c =
    let e = extract-misfits c.args.vector.now c.args.index.now c.args.d.now (omega arith) (λ same. c.in_err-check_agree.ensures.1 (c.count.ensures.value ∙ same)) in
    search rules

pub loop-s-init : goal.loop-s-init
loop-s-init g c = record {
  walked = extract-begins c.args.vector.now c.args.index.now c.args.d.now _ (omega arith) (omega arith) c.in_ok-elements.ensures.items;
  as_long = c.in_ok-elements.ensures.len;
  capacity = c.in_ok-elements.ensures.exact ∙ c.count-2.ensures.value;
  starts = refl;
}

pub loop-s-preserved : goal.loop-s-preserved
loop-s-preserved g c =
    let here : IsSegment c.args.d.now c.loop-s.s c.loop-s.start c.length-length.result =
    record { within = omega arith; starts = c.loop-s.invariant.starts; long = c.length-length.ensures } in
    record {
      walked = extract-more c.args.vector.now c.args.index.now c.args.d.now c.loop-s.s c.loop-s.elements.items c.loop-s.invariant.walked c.loop-s.start c.length-length.result here
          (omega arith) c.in_ok-place.place c.index-vector-place.result _ c.in_ok-check_total.ensures.agrees c.in_ok-place.ensures.named c.index-vector-place.is c.push_reserved.ensures.items;
      as_long = omega arith;
      capacity = omega arith;
      starts = starts_more here;
    }

pub offset_bounds-vector-place : goal.offset_bounds-vector-place
offset_bounds-vector-place g c = omega (arith, c.in_ok-place.ensures.within, c.in_ok-check_total.ensures.agrees, ends_within c.args.d.now c.loop-s.s (omega arith))

pub bounds-vector-place : goal.bounds-vector-place
bounds-vector-place g c = omega (arith, c.in_ok-place.ensures.within, c.in_ok-check_total.ensures.agrees, ends_within c.args.d.now c.loop-s.s (omega arith))

pub returns-in_err-place-clause-values : goal.returns-in_err-place-clause-values
returns-in_err-place-clause-values g c =
    let here : IsSegment c.args.d.now c.loop-s.s c.loop-s.start c.length-length.result =
    record { within = omega arith; starts = c.loop-s.invariant.starts; long = c.length-length.ensures } in
    let e = extract-fails c.args.vector.now c.args.index.now c.args.d.now c.loop-s.s c.loop-s.elements.items c.loop-s.invariant.walked c.loop-s.start c.length-length.result here
    (omega arith) c.in_err-place.ensures.named.1 in
    search rules

pub returns-clause-values : goal.returns-clause-values
returns-clause-values g c =
    extract-ends c.args.vector.now c.args.index.now c.args.d.now c.loop-s.s c.loop-s.elements.items c.loop-s.invariant.walked (omega arith)
