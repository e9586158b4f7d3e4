use Rattle.std.proofs.Common.{◌≡◌, ◌∙◌, ◌+◌, ◌-◌, not, take, drop, sym, ap, arith}
use Rattle.std.specs.List.{list_all}
use Rattle.segment_values.proofs.FirstPlaces.{one_block_more}
use Rattle.segment_values.proofs.first_trues.count_passed_over.Goals as goal

pub loop-over-preserved : goal.loop-over-preserved
loop-over-preserved g c =
    let over = c.loop-over.over in
    let xs = c.args.xs.now in
    let test = g.T.Single.value in
    let wide : 128 ≡ over + 128 - over = omega arith in
    record {
      within = omega (arith, c.loop-over-test.true, c.loop-over.invariant.within);
      none =
          one_block_more test xs over 128 c.loop-over.invariant.none
          (ap (λ n. list_all (λ x. not (test x)) (take n (drop over xs))) wide ∙ sym c.passes_none.ensures ∙ c.if-passes_none.true);
    }
