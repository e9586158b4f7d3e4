use Rattle.combining_permutes.proofs.Cited.{◌≡◌, ◌∙◌, ◌≤◌, ap, arith, length, Err, Ok, pos, replicate, sum, sum_of, sym, combined_by, most_places}
use Rattle.cvl_base.specs.Rooms.{in_room}
use Rattle.cvl_base.proofs.Rooms.{told}
use Rattle.permute_walks.proofs.Told.{fits_in_room, mismatch, told_err}
use Rattle.combining_permutes.proofs.Meaning.{counts_differ, counts_told}
use Rattle.combining_permutes.proofs.Ones.{ones}
use Rattle.combining_permutes.proofs.counts.seg_counts_over.Goals as goal

pub returns-in_err-check_agree-2 : goal.returns-in_err-check_agree-2
returns-in_err-check_agree-2 c =
    let total : sum c.args.d.now ≡ length c.args.index.now = sym c.total.ensures.value ∙ c.in_ok-check_agree.ensures in
    let differ = c.in_err-check_agree-2.ensures in
    told _ c.from_residual-in_err-check_agree-2.result c.in_err-check_agree-2.field-0.0 c.args.out.now c.from_residual-in_err-check_agree-2.ensures.1
    (ap (in_room (length c.args.out.now))
    (counts_differ c.args.index.now c.args.d.now c.args.room_d.now total (λ same. differ.1 (c.count.ensures.value ∙ same ∙ sym c.count-2.ensures.value)))
    ∙ ap Err (sym differ.0))

pub returns-in_err-check_segments : goal.returns-in_err-check_segments
returns-in_err-check_segments c =
    let total : sum c.args.d.now ≡ length c.args.index.now = sym c.total.ensures.value ∙ c.in_ok-check_agree.ensures in
    let count : length c.args.d.now ≡ length c.args.room_d.now = sym c.count.ensures.value ∙ c.in_ok-check_agree-2.ensures ∙ c.count-2.ensures.value in
    let few : length c.args.index.now ≤ most_places = omega (arith, c.total.ensures.in_limit, c.in_ok-check_agree.ensures) in
    told _ c.from_residual-in_err-check_segments.result c.in_err-check_segments.field-0.0 c.args.out.now c.from_residual-in_err-check_segments.ensures.1
    (ap (in_room (length c.args.out.now))
    (told_err (counts_told c.args.index.now c.args.d.now c.args.room_d.now total count few) c.in_err-check_segments.field-0.0 c.in_err-check_segments.ensures))

pub returns-in_err-check_agree-3 : goal.returns-in_err-check_agree-3
returns-in_err-check_agree-3 c =
    let total : sum c.args.d.now ≡ length c.args.index.now = sym c.total.ensures.value ∙ c.in_ok-check_agree.ensures in
    let count : length c.args.d.now ≡ length c.args.room_d.now = sym c.count.ensures.value ∙ c.in_ok-check_agree-2.ensures ∙ c.count-2.ensures.value in
    let few : length c.args.index.now ≤ most_places = omega (arith, c.total.ensures.in_limit, c.in_ok-check_agree.ensures) in
    let differ = c.in_err-check_agree-3.ensures in
    mismatch (counts_told c.args.index.now c.args.d.now c.args.room_d.now total count few) c.in_err-check_agree-3.field-0.0 c.args.out.now c.in_ok-check_segments.ensures
    (differ.0, λ same. differ.1 (c.total-2.ensures.value ∙ same)) c.from_residual-in_err-check_agree-3.result c.from_residual-in_err-check_agree-3.ensures.1

pub returns : goal.returns
returns c =
    let index = c.args.index.now in
    let total : sum c.args.d.now ≡ length index = sym c.total.ensures.value ∙ c.in_ok-check_agree.ensures in
    let count : length c.args.d.now ≡ length c.args.room_d.now = sym c.count.ensures.value ∙ c.in_ok-check_agree-2.ensures ∙ c.count-2.ensures.value in
    let few : length index ≤ most_places = omega (arith, c.total.ensures.in_limit, c.in_ok-check_agree.ensures) in
    let wide : sum c.args.room_d.now ≡ length c.args.out.now = sym c.total-2.ensures.value ∙ c.in_ok-check_agree-3.ensures in
    fits_in_room (counts_told index c.args.d.now c.args.room_d.now total count few) (length c.args.out.now) c.in_ok-check_segments.ensures wide
    ∙ ap Ok (sym (c.join_segments.ensures ∙ ap (combined_by sum_of c.args.d.now c.args.room_d.now index (ones index)) (c.fill.ensures.after (λ y is. is) ∙ ap (λ k. replicate k (pos 0)) (sym wide))))
