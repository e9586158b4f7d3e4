use Rattle.std.proofs.Common.{◌≢◌, ◌∙◌, ap, length, map, sym, Err, Ok}
use Rattle.cvl_base.specs.Gives.{◌>>=◌}
use Rattle.cvl_base.specs.Nests.{cut_of}
use Rattle.cvl_base.specs.Rooms.{in_room}
use Rattle.cvl_base.proofs.Nests.{nest-fits}
use Rattle.cvl_base.proofs.Rooms.{differs, told}
use Rattle.segment_values.specs.Values.{each_of}
use Rattle.segment_values.proofs.Each.{values_long}
use Rattle.segment_values.proofs.values.values_over.Goals as goal

pub returns-in_err-check_agree : goal.returns-in_err-check_agree
returns-in_err-check_agree g c =
    let value = g.S.SegmentValue.value in let xs = c.args.a.now in let ns = c.args.d.now in let room = length c.args.out.now in
    let differ : length (map value (cut_of ns xs)) ≢ room = λ same. c.in_err-check_agree.ensures.1 (c.count.ensures.value ∙ sym (values_long value ns xs) ∙ same) in
    told (in_room room (each_of value xs ns)) c.from_residual-in_err-check_agree.result c.in_err-check_agree.field-0.0 c.args.out.now c.from_residual-in_err-check_agree.ensures.1
    (ap (λ r. in_room room (r >>= λ segments. Ok (map value segments))) (nest-fits ns xs c.in_ok-check_total.ensures.agrees)
    ∙ differs room (map value (cut_of ns xs)) differ ∙ ap Err (sym c.in_err-check_agree.ensures.0))
