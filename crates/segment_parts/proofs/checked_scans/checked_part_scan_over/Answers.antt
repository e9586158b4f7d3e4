use Rattle.std.proofs.Common.{rules, ◌≡◌, ◌∙◌, Err, ap, length, pos, refl, sym, w32, unwrap_or}
use Rattle.std.proofs.lemmas.Int.{to_z-of_z}
use mir.Val.{SFits}
use Rattle.cvl_base.specs.CheckedSums.{fitting}
use Rattle.cvl_base.specs.Integers.{sum_of}
use Rattle.cvl_base.specs.Rooms.{in_room}
use Rattle.segment_parts.specs.Parts.{part_scan_of}
use Rattle.segment_parts.proofs.CheckedScanned.{part-overflows, part-wraps}
use Rattle.segment_parts.proofs.Scanned.{part-fits}
use Rattle.segment_parts.proofs.checked_scans.checked_part_scan_over.Goals as goal

pub returns-then-front-a : goal.returns-then-front-a
returns-then-front-a c = (
  ap (in_room (length c.args.out.now))
      (part-overflows c.args.before.now c.args.head c.args.lengths.now c.args.a.now c.in_ok-check_fits.ensures c.fitting_in_part-front.result
      c.fitting_in_part-front.ensures.front c.if-front-a.true)
      ∙ ap Err (sym c.at.ensures),
  refl,
)

pub returns : goal.returns
returns c =
    let before = c.args.before.now in let head = c.args.head in let d = c.args.lengths.now in let a = c.args.a.now in let start = c.unwrap_or-start.result in
    let enough = c.in_ok-check_fits.ensures in let room = length c.args.out.now in
    let fits_start : SFits w32 start = search rules in
    let is : start ≡ unwrap_or (fitting before) (pos 0) = search rules in
    let same = part-wraps before head d a enough c.fitting_in_part-front.result c.fitting_in_part-front.ensures.front c.if-front-a.false
    ∙ sym (part-fits sum_of (pos 0) (unwrap_or (fitting before) (pos 0)) head d a enough) ∙ ap (λ z. part_scan_of sum_of (pos 0) z head d a) (sym is) in
    rw (same, ← to_z-of_z w32 start fits_start) c.part_scan_over.ensures
