use Rattle.std.proofs.Common.{◌≡◌, ◌∙◌, Err, ap, arith, length, sym, zip}
use Rattle.std.proofs.lemmas.Slice.Zip.{length-zip}
use Rattle.cvl_base.proofs.Elementwise.{if_as_long-fits}
use Rattle.cvl_base.proofs.Rooms.{differs, told}
use Rattle.cvl_base.specs.Rooms.{in_room}
use Rattle.segment_parts.proofs.BehindEach.{length-behind_each}
use Rattle.segment_parts.specs.Behinds.{behind_each}
use Rattle.segment_parts.proofs.behinds.seg_behinds.Goals as goal

pub returns-in_err-check_agree-2 : goal.returns-in_err-check_agree-2
returns-in_err-check_agree-2 g c =
    let m = g.M.Monoid in let starts = c.args.starts.now in let tells = c.args.told.now in let room = length c.args.out.now in
    let behinds = behind_each m.join m.unit (zip starts tells) in
    let long : length behinds ≡ length tells = length-behind_each m.join m.unit (zip starts tells) ∙ omega (arith, length-zip starts tells, c.in_ok-check_agree.ensures) in
    told _ c.from_residual-in_err-check_agree-2.result c.in_err-check_agree-2.field-0.0 c.args.out.now c.from_residual-in_err-check_agree-2.ensures.1
    (ap (in_room room) (if_as_long-fits starts tells _ c.in_ok-check_agree.ensures)
    ∙ differs room behinds (λ same. c.in_err-check_agree-2.ensures.1 (sym long ∙ same)) ∙ ap Err (sym c.in_err-check_agree-2.ensures.0))
