use Rattle.std.proofs.Common.{◌∙◌, ap, length, sym, Err}
use Rattle.cvl_base.specs.Rooms.{in_room}
use Rattle.cvl_base.proofs.Rooms.{differs, told}
use Rattle.flag_merges.specs.Merges.{merged, seg_merge_of}
use Rattle.flag_merges.proofs.Counted.{merged_long}
use Rattle.flag_merges.proofs.segments.seg_merge_by_flags_over.Goals as goal

pub returns-in_err-check_agree : goal.returns-in_err-check_agree
returns-in_err-check_agree g c =
    let flags = c.args.flags.now in let xs = c.args.when_true.now in let ys = c.args.when_false.now in let room = length c.args.out.now in
    let long = merged_long flags xs ys c.in_ok-check_segments.ensures.true_ones c.in_ok-check_segments.ensures.false_ones in
    told (in_room room (seg_merge_of flags c.args.d.now xs c.args.true_d.now ys c.args.false_d.now)) c.from_residual-in_err-check_agree.result c.in_err-check_agree.field-0.0 c.args.out.now
    c.from_residual-in_err-check_agree.ensures.1
    (ap (in_room room) c.in_ok-check_segments.ensures.meaning
    ∙ differs room (merged flags xs ys) (λ same. c.in_err-check_agree.ensures.1 (sym long ∙ same)) ∙ ap Err (sym c.in_err-check_agree.ensures.0))
