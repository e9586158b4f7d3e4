use Rattle.std.proofs.Common.{◌∙◌, ap, length, sym, Err}
use Rattle.cvl_base.specs.Rooms.{in_room}
use Rattle.cvl_base.proofs.Rooms.{differs, fits, told}
use Rattle.transposes.specs.Transposes.{transpose_of}
use Rattle.transposes.proofs.Sources.{transpose_is, transpose_there}
use Rattle.transposes.proofs.whole.transpose_over.Goals as goal

pub returns-in_err-check_agree : goal.returns-in_err-check_agree
returns-in_err-check_agree g c =
    let xs = c.args.source.now in let room = length c.args.out.now in
    let all = transpose_there c.args.rows c.args.columns xs c.in_ok-check_shape.ensures in
    told (in_room room (transpose_of c.args.rows c.args.columns xs)) c.from_residual-in_err-check_agree.result c.in_err-check_agree.field-0.0 c.args.out.now
    c.from_residual-in_err-check_agree.ensures.1
    (ap (in_room room) all.is ∙ differs room all.values (λ same. c.in_err-check_agree.ensures.1 (sym all.long ∙ same)) ∙ ap Err (sym c.in_err-check_agree.ensures.0))

pub returns : goal.returns
returns g c =
    let xs = c.args.source.now in let room = length c.args.out.now in
    ap (in_room room)
    (transpose_is c.args.rows c.args.columns xs c.in_ok-check_shape.ensures c.args.out.now c.transpose_columns.new.out c.transpose_columns.ensures
    (c.transpose_columns.auto.out ∙ sym c.in_ok-check_agree.ensures))
    ∙ fits room c.transpose_columns.new.out c.transpose_columns.auto.out
