use Rattle.std.proofs.Common.{◌∙◌, ap, length, sym, Ok}
use Rattle.permute_walks.proofs.Told.{fits_in_room, mismatch_or, sent_told}
use Rattle.segmented_permutes.proofs.Whole.{seg_simple_sent}
use Rattle.segmented_permutes.proofs.segments_over.seg_simple_over.Goals as goal

pub returns-in_err-check_agree : goal.returns-in_err-check_agree
returns-in_err-check_agree g c =
    let call = seg_simple_sent c.args.source.now c.args.index.now c.args.d.now c.in_ok-check_total.ensures.agrees c.in_ok-check_total-2.ensures.agrees c.requires.in_limit in
    mismatch_or (sent_told call) c.in_err-check_agree.field-0.0 c.args.out.now (c.in_ok-are_permutations.ensures.0 c.if-branch.true) c.in_err-check_agree.ensures
    c.from_residual-in_err-check_agree.result c.from_residual-in_err-check_agree.ensures.1

pub returns-then-branch : goal.returns-then-branch
returns-then-branch g c =
    let call = seg_simple_sent c.args.source.now c.args.index.now c.args.d.now c.in_ok-check_total.ensures.agrees c.in_ok-check_total-2.ensures.agrees c.requires.in_limit in
    (fits_in_room (sent_told call) (length c.args.out.now) (c.in_ok-are_permutations.ensures.0 c.if-branch.true) c.in_ok-check_agree.ensures ∙ ap Ok (sym c.scatter_segments_over.ensures), tt)
