use Rattle.part_calls.proofs.Cited.{rules, ◌≡◌, Err, ap, length, pos, refl, sym, w32, w64, unwrap_or, le-ltb, fitting, most_places}
use Rattle.std.proofs.lemmas.Int.{to_z-of_z}
use mir.Val.{SFits}
use Rattle.part_calls.proofs.Carried.{after_fits, after_overflows}
use Rattle.part_calls.proofs.carries.checked_scan_from.Goals as goal

pub returns-then-front-a : goal.returns-then-front-a
returns-then-front-a c =
    let before = c.args.before.now in let a = c.args.a.now in
    let fits : SFits w64 before = search rules in
    let front = rw (to_z-of_z w64 before fits) at c.fitting_of_scan-front.ensures.front in
    rw (le-ltb most_places (length a) c.in_ok-check_few.ensures, after_overflows c.fitting_of_scan-front.result before a front c.if-front-a.true) (ap Err (sym c.at.ensures), refl)

pub returns : goal.returns
returns c =
    let before = c.args.before.now in let a = c.args.a.now in let start = c.unwrap_or-start.result in
    let fits : SFits w64 before = search rules in
    let fits_start : SFits w32 start = search rules in
    let front = rw (to_z-of_z w64 before fits) at c.fitting_of_scan-front.ensures.front in
    let is : start ≡ unwrap_or (fitting before) (pos 0) = search rules in
    rw (le-ltb most_places (length a) c.in_ok-check_few.ensures, after_fits c.fitting_of_scan-front.result before a front c.if-front-a.false, ← is, ← to_z-of_z w32 start fits_start)
    c.scan_over.ensures
