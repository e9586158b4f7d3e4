use Rattle.first_senders.proofs.Cited.{◌≡◌, ◌∙◌, ap, length, sum, sym, Err, Ok, fits_in_room, mismatch, told_err}
use Rattle.cvl_base.specs.Rooms.{in_room}
use Rattle.cvl_base.proofs.Rooms.{told}
use Rattle.first_senders.proofs.Meaning.{count-differs, seg_told}
use Rattle.first_senders.proofs.segments.both_walks.Goals as goal

pub returns-in_err-check_agree-2 : goal.returns-in_err-check_agree-2
returns-in_err-check_agree-2 g c =
    let ts = g.D.Destinations.destinations c.args.destinations.now in
    let total : sum c.args.d.now ≡ length ts = sym c.total.ensures.value ∙ c.in_ok-check_agree.ensures ∙ c.count.ensures in
    let differ = c.in_err-check_agree-2.ensures in
    told _ c.from_residual-in_err-check_agree-2.result c.in_err-check_agree-2.field-0.0 c.args.out.now c.from_residual-in_err-check_agree-2.ensures.1
    (ap (in_room (length c.args.out.now))
    (count-differs c.args.d.now c.args.result_d.now ts total (λ same. differ.1 (c.count-2.ensures.value ∙ same ∙ sym c.count-3.ensures.value)))
    ∙ ap Err (sym differ.0))

pub returns-in_err-check_segments : goal.returns-in_err-check_segments
returns-in_err-check_segments g c =
    let ts = g.D.Destinations.destinations c.args.destinations.now in
    let total : sum c.args.d.now ≡ length ts = sym c.total.ensures.value ∙ c.in_ok-check_agree.ensures ∙ c.count.ensures in
    let count : length c.args.d.now ≡ length c.args.result_d.now = sym c.count-2.ensures.value ∙ c.in_ok-check_agree-2.ensures ∙ c.count-3.ensures.value in
    told _ c.from_residual-in_err-check_segments.result c.in_err-check_segments.field-0.0 c.args.out.now c.from_residual-in_err-check_segments.ensures.1
    (ap (in_room (length c.args.out.now)) (told_err (seg_told c.args.d.now c.args.result_d.now ts total count) c.in_err-check_segments.field-0.0 c.in_err-check_segments.ensures))

pub returns-in_err-check_agree-3 : goal.returns-in_err-check_agree-3
returns-in_err-check_agree-3 g c =
    let ts = g.D.Destinations.destinations c.args.destinations.now in
    let total : sum c.args.d.now ≡ length ts = sym c.total.ensures.value ∙ c.in_ok-check_agree.ensures ∙ c.count.ensures in
    let count : length c.args.d.now ≡ length c.args.result_d.now = sym c.count-2.ensures.value ∙ c.in_ok-check_agree-2.ensures ∙ c.count-3.ensures.value in
    let differ = c.in_err-check_agree-3.ensures in
    mismatch (seg_told c.args.d.now c.args.result_d.now ts total count) c.in_err-check_agree-3.field-0.0 c.args.out.now c.in_ok-check_segments.ensures
    (differ.0, λ same. differ.1 (c.total-2.ensures.value ∙ same)) c.from_residual-in_err-check_agree-3.result c.from_residual-in_err-check_agree-3.ensures.1

pub returns : goal.returns
returns g c =
    let ts = g.D.Destinations.destinations c.args.destinations.now in
    let total : sum c.args.d.now ≡ length ts = sym c.total.ensures.value ∙ c.in_ok-check_agree.ensures ∙ c.count.ensures in
    let count : length c.args.d.now ≡ length c.args.result_d.now = sym c.count-2.ensures.value ∙ c.in_ok-check_agree-2.ensures ∙ c.count-3.ensures.value in
    fits_in_room (seg_told c.args.d.now c.args.result_d.now ts total count) (length c.args.out.now) c.in_ok-check_segments.ensures (sym c.total-2.ensures.value ∙ c.in_ok-check_agree-3.ensures)
    ∙ ap Ok (sym c.write_segments.ensures)
