use Rattle.scan_walks.proofs.Cited.{◌≡◌, ◌∙◌, ◌+ℤ◌, pos, to_z, of_z, w32, w64, get_or, sym, ap, arith, to_z-of_z, fold_more}
use Rattle.scan_walks.proofs.FrontLaws.{fitting-is, front_goes_on, front_stops}
use Rattle.scan_walks.proofs.blocks.sum_one_by_one.Goals as goal

pub returns-in-None : goal.returns-in-None
returns-in-None c =
    let back : to_z w64 (of_z w64 c.args.before) ≡ c.args.before = grind (arith, to_z-of_z) in (
      cc (front_stops _ _ _ _ c.loop-place.invariant.front c.loop-place-test.true (sym c.fitting.ensures ∙ c.in-None.is), back),
      c.loop-place-test.true,
    )

pub loop-place-preserved : goal.loop-place-preserved
loop-place-preserved c =
    let back : to_z w32 (of_z w32 c.in-Some.sum) ≡ c.in-Some.sum = grind (arith, to_z-of_z) in
    let wide : to_z w64 (of_z w64 c.plus-so_far.result) ≡ c.plus-so_far.result = grind (arith, to_z-of_z) in
    let fits = sym c.fitting.ensures ∙ c.in-Some.is in
    let same = sym (fitting-is _ _ fits).1 in
    let next = wide ∙ c.plus-so_far.ensures ∙ ap (λ z. z +ℤ get_or c.args.xs.now c.loop-place.place (pos 0)) (back ∙ same) in
    record {
      front = front_goes_on _ _ _ _ c.loop-place.invariant.front c.in-Some.sum _ c.loop-place-test.true fits next;
      sum = cc (next, c.loop-place.invariant.sum, fold_more ◌+ℤ◌ (to_z w64 (of_z w64 c.args.before)) c.args.xs.now c.loop-place.place (pos 0) c.loop-place-test.true);
    }
