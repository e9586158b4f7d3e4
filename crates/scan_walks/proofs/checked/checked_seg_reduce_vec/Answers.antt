use Rattle.scan_walks.proofs.Cited.{rules, ◌≡◌, ◌∙◌, ◌∷◌, ◌++◌, [], to_z, of_z, w32, Err, drop, refl, sym, take, ap, arith, ok_or, to_z-of_z, drop-drop, length-drop, checked_reduce_of}
use Rattle.scan_walks.proofs.Cited.{fitting, total_of, fault_at, at_segment, one_each, length-cut, nest-fits, start_of, Overflow}
use Rattle.scan_walks.proofs.Parts.{IsSegment, ends_within, part, starts_more}
use Rattle.scan_walks.proofs.Walk.{all_done, begins, fails, one_more, singles}
use Rattle.scan_walks.proofs.checked.checked_seg_reduce_vec.Goals as goal

pub split_at-requires : goal.split_at-requires
split_at-requires g c = search (rules, length-drop, ends_within)

pub fitting_total-requires : goal.fitting_total-requires
fitting_total-requires g c = record {
  in_limit = omega (arith, c.split_at.ensures.front_len, c.length.ensures, ends_within c.args.d.now c.loop-s.s (omega arith), c.in_ok-check_total.ensures.agrees, c.in_ok-check_total.ensures.in_limit);
}

pub loop-s-init : goal.loop-s-init
loop-s-init g c = record {
  walked = begins _ _ c.in_ok-sums.ensures.items (ap (one_each at_segment checked_reduce_of) (nest-fits c.args.d.now c.args.a.now c.in_ok-check_total.ensures.agrees) ∙ singles _);
  rest = refl;
  as_long = c.in_ok-sums.ensures.len;
  capacity = c.in_ok-sums.ensures.exact ∙ c.count.ensures.value;
}

pub returns-in-None-clause-values : goal.returns-in-None-clause-values
returns-in-None-clause-values g c =
    let a = c.args.a.now in let d = c.args.d.now in let s = c.loop-s.s in let k = c.length.result in
    let here : IsSegment d s (start_of d s) k = record { within = omega arith; starts = refl; long = c.length.ensures } in
    let segment : c.split_at.result.0.now ≡ take k (drop (start_of d s) a) = c.split_at.ensures.front ∙ ap (take k) c.loop-s.invariant.rest in
    fails c.loop-s.invariant.walked (part here a) (fault_at Overflow 0)
    (ap (λ v. ok_or v (fault_at Overflow 0)) (ap (λ xs. fitting (total_of xs)) (sym segment) ∙ sym c.fitting_total.ensures ∙ c.in-None.is)) ∙ ap Err (sym c.at.ensures)

pub loop-s-preserved : goal.loop-s-preserved
loop-s-preserved g c =
    let a = c.args.a.now in let d = c.args.d.now in let s = c.loop-s.s in let k = c.length.result in
    let here : IsSegment d s (start_of d s) k = record { within = omega arith; starts = refl; long = c.length.ensures } in
    let segment : c.split_at.result.0.now ≡ take k (drop (start_of d s) a) = c.split_at.ensures.front ∙ ap (take k) c.loop-s.invariant.rest in
    let back : to_z w32 (of_z w32 c.in-Some.sum) ≡ c.in-Some.sum = grind (arith, to_z-of_z) in
    record {
      walked = one_more c.loop-s.invariant.walked (part here a) c.in-Some.sum _
          (ap (λ v. ok_or v (fault_at Overflow 0)) (ap (λ xs. fitting (total_of xs)) (sym segment) ∙ sym c.fitting_total.ensures ∙ c.in-Some.is))
          (c.push_reserved.ensures.items ∙ ap (λ y. c.loop-s.sums.items ++ y ∷ []) back);
      rest = c.split_at.ensures.back ∙ ap (drop k) c.loop-s.invariant.rest ∙ drop-drop k (start_of d s) a ∙ ap (λ p. drop p a) (starts_more here);
      as_long = omega arith;
      capacity = omega arith;
    }

pub returns-clause-values : goal.returns-clause-values
returns-clause-values g c = all_done c.loop-s.invariant.walked (omega (arith, length-cut c.args.d.now c.args.a.now, c.loop-s-test.false, c.count-s-end.ensures.value))
