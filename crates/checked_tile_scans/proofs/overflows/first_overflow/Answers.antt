use Rattle.checked_tile_scans.proofs.Cited.{◌∙◌, None, Some, sym, option_copied, is_number, tiled, flagged}
use Rattle.checked_tile_scans.specs.Checked.{total_scan}
use Rattle.checked_tile_scans.proofs.Outsides.{first_told}
use Rattle.checked_tile_scans.proofs.TileFronts.{length-total_scan}
use Rattle.checked_tile_scans.proofs.overflows.first_overflow.Goals as goal

pub place_in-requires : goal.place_in-requires
place_in-requires g c =
    let v = c.args.vector.now in
    let is = tiled is_number (option_copied v.segments) v.elements.now v.plan v.numbers v.agrees v.whole v.few v.some in
    (first_told v.plan (total_scan (flagged (option_copied v.segments) v.elements.now)) v.some (length-total_scan is) (Some c.in-Some.t) (sym c.in-Some.is ∙ c.in_ok-t.ensures)).0

pub returns-in-Some : goal.returns-in-Some
returns-in-Some g c =
    let v = c.args.vector.now in
    let is = tiled is_number (option_copied v.segments) v.elements.now v.plan v.numbers v.agrees v.whole v.few v.some in
    c.place_in.ensures
    ∙ sym (first_told v.plan (total_scan (flagged (option_copied v.segments) v.elements.now)) v.some (length-total_scan is) (Some c.in-Some.t) (sym c.in-Some.is ∙ c.in_ok-t.ensures)).1

pub returns-in-None : goal.returns-in-None
returns-in-None g c =
    let v = c.args.vector.now in
    let is = tiled is_number (option_copied v.segments) v.elements.now v.plan v.numbers v.agrees v.whole v.few v.some in
    sym (first_told v.plan (total_scan (flagged (option_copied v.segments) v.elements.now)) v.some (length-total_scan is) None (sym c.in-None.is ∙ c.in_ok-t.ensures))
