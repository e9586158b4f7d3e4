use Rattle.combining_permutes.proofs.Cited.{◌≡◌, ◌∙◌, ap, length, length-map, map, sum, sym, Err}
use Rattle.cvl_base.proofs.Rooms.{told}
use Rattle.permute_walks.proofs.Told.{told_err, told_ok}
use Rattle.combining_permutes.proofs.Meaning.{count_differs, seg_told}
use Rattle.combining_permutes.proofs.segments.seg_combine_over.Goals as goal

pub returns-in_err-check_agree-4 : goal.returns-in_err-check_agree-4
returns-in_err-check_agree-4 g c =
    let elements = map g.E.Reading.item c.args.source.now in
    let sourced : sum c.args.d.now ≡ length elements = sym c.total.ensures.value ∙ c.in_ok-check_agree.ensures ∙ sym (length-map c.args.source.now g.E.Reading.item) in
    let total : sum c.args.d.now ≡ length c.args.index.now = sym c.total-2.ensures.value ∙ c.in_ok-check_agree-2.ensures in
    let wide : sum c.args.room_d.now ≡ length c.args.out.now = sym c.total-3.ensures.value ∙ c.in_ok-check_agree-3.ensures in
    let differ = c.in_err-check_agree-4.ensures in
    told _ c.from_residual-in_err-check_agree-4.result c.in_err-check_agree-4.field-0.0 c.args.out.now c.from_residual-in_err-check_agree-4.ensures.1
    (count_differs g.M.Monoid.join elements c.args.index.now c.args.d.now c.args.room_d.now c.args.out.now sourced total wide
    (λ same. differ.1 (c.count.ensures.value ∙ same ∙ sym c.count-2.ensures.value))
    ∙ ap Err (sym differ.0))

pub returns-in_err-check_segments : goal.returns-in_err-check_segments
returns-in_err-check_segments g c =
    let elements = map g.E.Reading.item c.args.source.now in
    let sourced : sum c.args.d.now ≡ length elements = sym c.total.ensures.value ∙ c.in_ok-check_agree.ensures ∙ sym (length-map c.args.source.now g.E.Reading.item) in
    let total : sum c.args.d.now ≡ length c.args.index.now = sym c.total-2.ensures.value ∙ c.in_ok-check_agree-2.ensures in
    let wide : sum c.args.room_d.now ≡ length c.args.out.now = sym c.total-3.ensures.value ∙ c.in_ok-check_agree-3.ensures in
    let count : length c.args.d.now ≡ length c.args.room_d.now = sym c.count.ensures.value ∙ c.in_ok-check_agree-4.ensures ∙ c.count-2.ensures.value in
    told _ c.from_residual-in_err-check_segments.result c.in_err-check_segments.field-0.0 c.args.out.now c.from_residual-in_err-check_segments.ensures.1
    (told_err (seg_told g.M.Monoid.join elements c.args.index.now c.args.d.now c.args.room_d.now c.args.out.now sourced total wide count) c.in_err-check_segments.field-0.0
    c.in_err-check_segments.ensures)

pub returns : goal.returns
returns g c =
    let elements = map g.E.Reading.item c.args.source.now in
    let sourced : sum c.args.d.now ≡ length elements = sym c.total.ensures.value ∙ c.in_ok-check_agree.ensures ∙ sym (length-map c.args.source.now g.E.Reading.item) in
    let total : sum c.args.d.now ≡ length c.args.index.now = sym c.total-2.ensures.value ∙ c.in_ok-check_agree-2.ensures in
    let wide : sum c.args.room_d.now ≡ length c.args.out.now = sym c.total-3.ensures.value ∙ c.in_ok-check_agree-3.ensures in
    let count : length c.args.d.now ≡ length c.args.room_d.now = sym c.count.ensures.value ∙ c.in_ok-check_agree-4.ensures ∙ c.count-2.ensures.value in
    told_ok (seg_told g.M.Monoid.join elements c.args.index.now c.args.d.now c.args.room_d.now c.args.out.now sourced total wide count) c.in_ok-check_segments.ensures c.join_segments.new.out
    c.join_segments.ensures
