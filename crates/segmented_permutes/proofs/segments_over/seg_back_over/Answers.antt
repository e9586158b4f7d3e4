use Rattle.std.proofs.Common.{◌∙◌, ap, arith, length, sym, Err, Ok}
use Rattle.cvl_base.specs.Rooms.{in_room}
use Rattle.cvl_base.proofs.Rooms.{told}
use Rattle.permute_walks.proofs.Told.{fits_in_room, mismatch, told_err}
use Rattle.segmented_permutes.proofs.Listed.{fitting, seg_back_told}
use Rattle.segmented_permutes.proofs.Whole.{seg_back-differ}
use Rattle.segmented_permutes.proofs.segments_over.seg_back_over.Goals as goal

pub returns-in_err-check_agree : goal.returns-in_err-check_agree
returns-in_err-check_agree g c =
    let differ = c.in_err-check_agree.ensures in
    told _ c.from_residual-in_err-check_agree.result c.in_err-check_agree.field-0.0 c.args.out.now c.from_residual-in_err-check_agree.ensures.1
    (ap (in_room (length c.args.out.now))
    (seg_back-differ c.args.source.now c.args.index.now c.args.source_d.now c.args.index_d.now c.in_ok-check_total.ensures.agrees c.in_ok-check_total-2.ensures.agrees
    (λ same. differ.1 (c.count.ensures.value ∙ same ∙ sym c.count-2.ensures.value)))
    ∙ ap Err (sym differ.0))

pub returns-in_err-check_segments : goal.returns-in_err-check_segments
returns-in_err-check_segments g c =
    let call = seg_back_told c.args.source.now c.args.index.now c.args.source_d.now c.args.index_d.now
    (fitting c.args.source.now c.args.index.now c.args.source_d.now c.args.index_d.now c.in_ok-check_total.ensures.agrees c.in_ok-check_total-2.ensures.agrees
    (omega (arith, c.in_ok-check_agree.ensures))) in
    told _ c.from_residual-in_err-check_segments.result c.in_err-check_segments.field-0.0 c.args.out.now c.from_residual-in_err-check_segments.ensures.1
    (ap (in_room (length c.args.out.now)) (told_err call _ c.in_err-check_segments.ensures))

pub returns-in_err-check_agree-2 : goal.returns-in_err-check_agree-2
returns-in_err-check_agree-2 g c =
    let call = seg_back_told c.args.source.now c.args.index.now c.args.source_d.now c.args.index_d.now
    (fitting c.args.source.now c.args.index.now c.args.source_d.now c.args.index_d.now c.in_ok-check_total.ensures.agrees c.in_ok-check_total-2.ensures.agrees
    (omega (arith, c.in_ok-check_agree.ensures))) in
    mismatch call c.in_err-check_agree-2.field-0.0 c.args.out.now c.in_ok-check_segments.ensures c.in_err-check_agree-2.ensures
    c.from_residual-in_err-check_agree-2.result c.from_residual-in_err-check_agree-2.ensures.1

pub gather_segments_over-requires-clause-fits : goal.gather_segments_over-requires-clause-fits
gather_segments_over-requires-clause-fits g c =
    fitting c.args.source.now c.args.index.now c.args.source_d.now c.args.index_d.now c.in_ok-check_total.ensures.agrees c.in_ok-check_total-2.ensures.agrees
    (omega (arith, c.in_ok-check_agree.ensures))

pub returns : goal.returns
returns g c =
    let source = c.args.source.now in let index = c.args.index.now in let widths = c.args.source_d.now in let lengths = c.args.index_d.now in
    let fits = fitting source index widths lengths c.in_ok-check_total.ensures.agrees c.in_ok-check_total-2.ensures.agrees (omega (arith, c.in_ok-check_agree.ensures)) in
    fits_in_room (seg_back_told source index widths lengths fits) (length c.args.out.now) c.in_ok-check_segments.ensures c.in_ok-check_agree-2.ensures
    ∙ ap Ok (sym c.gather_segments_over.ensures)
