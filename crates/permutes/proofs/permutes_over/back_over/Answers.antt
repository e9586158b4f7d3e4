use Rattle.std.proofs.Common.{◌∙◌, ap, arith, length, sym, Ok}
use Rattle.cvl_base.specs.Rooms.{in_room}
use Rattle.cvl_base.proofs.Rooms.{told}
use Rattle.permute_walks.proofs.Outside.{all_inside, length-elements_at}
use Rattle.permutes.proofs.Flat.{back_told}
use Rattle.permute_walks.proofs.Told.{fits_in_room, mismatch, told_err}
use Rattle.permutes.proofs.permutes_over.back_over.Goals as goal

pub returns-in_err-check_places_alone : goal.returns-in_err-check_places_alone
returns-in_err-check_places_alone g c =
    let f = c.in_err-check_places_alone.field-0.0 in
    told _ c.from_residual.result f c.args.out.now c.from_residual.ensures.1
    (ap (in_room (length c.args.out.now)) (told_err (back_told c.args.source.now c.args.index.now) f c.in_err-check_places_alone.ensures))

pub returns-in_err-check_agree : goal.returns-in_err-check_agree
returns-in_err-check_agree g c =
    mismatch (back_told c.args.source.now c.args.index.now) c.in_err-check_agree.field-0.0 c.args.out.now c.in_ok-check_places_alone.ensures c.in_err-check_agree.ensures
    c.from_residual-in_err-check_agree.result c.from_residual-in_err-check_agree.ensures.1

pub invariant_of-write_over : goal.invariant_of-write_over
invariant_of-write_over g c = record { inside = all_inside 0 (length c.args.source.now) c.args.index.now c.in_ok-check_places_alone.ensures }

pub write_over-requires-clause-as_long : goal.write_over-requires-clause-as_long
write_over-requires-clause-as_long g c =
    omega (arith, length-elements_at c.args.source.now c.args.index.now (all_inside 0 (length c.args.source.now) c.args.index.now c.in_ok-check_places_alone.ensures), c.in_ok-check_agree.ensures)

pub returns : goal.returns
returns g c =
    fits_in_room (back_told c.args.source.now c.args.index.now) (length c.args.out.now) c.in_ok-check_places_alone.ensures c.in_ok-check_agree.ensures ∙ ap Ok (sym c.write_over.ensures)
