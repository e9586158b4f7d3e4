use Rattle.std.proofs.Common.{◌∙◌, Err, Ok, ap, arith, length, refl, sym}
use Rattle.cvl_base.proofs.Rooms.{differs, fits, told}
use Rattle.cvl_base.specs.Rooms.{in_room}
use Rattle.segment_parts.proofs.StartSums.{last_sums, length-last_sums, sums-fit, sums-overflow}
use Rattle.segment_parts.proofs.checked_reduces.checked_part_reduces_over.Goals as goal

pub returns-then-front-count : goal.returns-then-front-count
returns-then-front-count c = (
  ap (in_room (length c.args.out.now))
      (sums-overflow c.args.behind.now c.args.head c.args.lengths.now c.args.a.now c.split_at.result.1.now (sym c.is_part.ensures ∙ c.if-not-is_part.false)
      c.split_at.ensures.back c.fitting_sums-front.result c.fitting_sums-front.ensures.front (omega (arith, c.if-front-count.true, c.count.ensures.value)))
      ∙ ap Err (sym c.at.ensures),
  refl,
)

pub returns-in_err-check_agree : goal.returns-in_err-check_agree
returns-in_err-check_agree c =
    let d = c.args.lengths.now in let others = c.split_at.result.1.now in let room = length c.args.out.now in let values = last_sums c.args.behind.now d others in
    told _ c.from_residual.result c.in_err-check_agree.field-0.0 c.args.out.now c.from_residual.ensures.1
    (ap (in_room room)
    (sums-fit c.args.behind.now c.args.head d c.args.a.now others (sym c.is_part.ensures ∙ c.if-not-is_part.false) c.split_at.ensures.back
    c.fitting_sums-front.result c.fitting_sums-front.ensures.front (omega (arith, c.if-front-count.false, c.count.ensures.value)))
    ∙ differs room values (λ same. c.in_err-check_agree.ensures.1 (c.count-2.ensures.value ∙ sym (length-last_sums c.args.behind.now d others) ∙ same))
    ∙ ap Err (sym c.in_err-check_agree.ensures.0))

pub returns : goal.returns
returns c =
    let d = c.args.lengths.now in let others = c.split_at.result.1.now in let room = length c.args.out.now in let values = last_sums c.args.behind.now d others in
    ap (in_room room)
    (sums-fit c.args.behind.now c.args.head d c.args.a.now others (sym c.is_part.ensures ∙ c.if-not-is_part.false) c.split_at.ensures.back
    c.fitting_sums-front.result c.fitting_sums-front.ensures.front (omega (arith, c.if-front-count.false, c.count.ensures.value)))
    ∙ fits room values (length-last_sums c.args.behind.now d others ∙ sym c.count-2.ensures.value ∙ c.in_ok-check_agree.ensures)
    ∙ ap Ok (sym c.write_sums.ensures)
