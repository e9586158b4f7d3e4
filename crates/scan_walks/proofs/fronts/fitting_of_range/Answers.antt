use Rattle.scan_walks.proofs.Cited.{◌≡◌, ◌∙◌, ◌+ℤ◌, to_z, of_z, w64, map, unsigned_abs, ap, arith, to_z-of_z, scan_of, fitting_front}
use Rattle.scan_walks.proofs.FrontLaws.{range_goes_on, range_stops}
use Rattle.scan_walks.proofs.fronts.fitting_of_range.Goals as goal

pub returns-then-fitting-front : goal.returns-then-fitting-front
returns-then-fitting-front g c =
    let parts = c.parts_of_range in
    let front = parts.result.0.now in
    let back : to_z w64 (of_z w64 c.args.before) ≡ c.args.before = grind (arith, to_z-of_z) in
    range_stops (map unsigned_abs parts.result.1.now) c.args.before front parts.result.2.now _ parts.ensures.starts c.fitting_of_scan-fitting.result
    (c.fitting_of_scan-fitting.ensures.front ∙ ap (λ z. fitting_front (scan_of ◌+ℤ◌ z front)) back) c.if-fitting-front.true

pub returns : goal.returns
returns g c =
    let parts = c.parts_of_range in
    let front = parts.result.0.now in
    let back : to_z w64 (of_z w64 c.args.before) ≡ c.args.before = grind (arith, to_z-of_z) in
    range_goes_on (map unsigned_abs parts.result.1.now) c.args.before front parts.result.2.now _ parts.ensures.starts c.fitting_of_scan-fitting.result c.fitting_of_scans.result
    (c.fitting_of_scan-fitting.ensures.front ∙ ap (λ z. fitting_front (scan_of ◌+ℤ◌ z front)) back) (omega (arith, c.if-fitting-front.false, c.fitting_of_scan-fitting.ensures.within))
    c.fitting_of_scans.ensures.front
