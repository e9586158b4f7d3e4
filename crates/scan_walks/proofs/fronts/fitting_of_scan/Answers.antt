use Rattle.scan_walks.proofs.Cited.{◌≡◌, ◌∙◌, ◌+◌, to_z, of_z, w64, length, refl, arith, to_z-of_z}
use Rattle.scan_walks.proofs.FrontLaws.{block_passes, block_stops}
use Rattle.scan_walks.proofs.fronts.fitting_of_scan.Goals as goal

pub returns-in-Err-clause-front : goal.returns-in-Err-clause-front
returns-in-Err-clause-front c =
    let back : to_z w64 (of_z w64 c.args.before) ≡ c.args.before = grind (arith, to_z-of_z) in
    cc (block_stops _ _ _ _ _ _ _ c.split_at.ensures.front c.split_at.ensures.back c.loop-rest.invariant.front c.in-Err.place c.in-Err.ensures.0 c.in-Err.ensures.1, back)

pub loop-rest-preserved : goal.loop-rest-preserved
loop-rest-preserved c =
    let back : to_z w64 (of_z w64 c.in-Ok.sum) ≡ c.in-Ok.sum = grind (arith, to_z-of_z) in
    record {
      front = block_passes _ _ _ _ _ _ _ c.split_at.ensures.front c.split_at.ensures.back c.loop-rest.invariant.front (c.loop-rest.done + length c.split_at.result.0.now)
          (to_z w64 (of_z w64 c.in-Ok.sum)) c.in-Ok.ensures.0 (back ∙ c.in-Ok.ensures.1) refl;
      parts = omega (arith, c.loop-rest.invariant.parts, c.split_at.ensures.front_len, c.split_at.ensures.back_len, c.min.ensures);
    }
