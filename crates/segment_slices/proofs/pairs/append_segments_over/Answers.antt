use Rattle.std.proofs.Common.{◌≡◌, ◌≢◌, ◌∙◌, ap, length, sym, Ok, Err}
use Rattle.cvl_base.specs.Rooms.{in_room}
use Rattle.cvl_base.proofs.Rooms.{differs, fits, told}
use Rattle.segment_slices.specs.Pairs.{append_segments_of, pairs_of}
use Rattle.segment_slices.proofs.Paired.{append_fails, append_long, append_right}
use Rattle.segment_slices.proofs.pairs.append_segments_over.Goals as goal

pub returns-in_err-check_agree : goal.returns-in_err-check_agree
returns-in_err-check_agree g c =
    let xs = c.args.a.now in let ns = c.args.d.now in let ys = c.args.b.now in let ms = c.args.other.now in let room = length c.args.out.now in
    let differ : length ns ≢ length ms = λ same. c.in_err-check_agree.ensures.1 (c.count.ensures.value ∙ same ∙ sym c.count-2.ensures.value) in
    told (in_room room (append_segments_of xs ns ys ms)) c.from_residual-in_err-check_agree.result c.in_err-check_agree.field-0.0 c.args.out.now c.from_residual-in_err-check_agree.ensures.1
    (ap (in_room room) (append_fails xs ns ys ms c.in_ok-check_total.ensures.agrees c.in_ok-check_total-2.ensures.agrees differ) ∙ ap Err (sym c.in_err-check_agree.ensures.0))

pub returns-in_err-check_agree-2 : goal.returns-in_err-check_agree-2
returns-in_err-check_agree-2 g c =
    let xs = c.args.a.now in let ns = c.args.d.now in let ys = c.args.b.now in let ms = c.args.other.now in let room = length c.args.out.now in
    let total = c.in_ok-check_total.ensures.agrees in let other_total = c.in_ok-check_total-2.ensures.agrees in
    let count : length ns ≡ length ms = sym c.count.ensures.value ∙ c.in_ok-check_agree.ensures ∙ c.count-2.ensures.value in
    let differ : length (pairs_of xs ns ys ms) ≢ room = λ same. c.in_err-check_agree-2.ensures.1 (sym (append_long xs ns ys ms total other_total count) ∙ same) in
    told (in_room room (append_segments_of xs ns ys ms)) c.from_residual-in_err-check_agree-2.result c.in_err-check_agree-2.field-0.0 c.args.out.now c.from_residual-in_err-check_agree-2.ensures.1
    (ap (in_room room) (append_right xs ns ys ms total other_total count) ∙ differs room (pairs_of xs ns ys ms) differ ∙ ap Err (sym c.in_err-check_agree-2.ensures.0))

pub returns : goal.returns
returns g c =
    let xs = c.args.a.now in let ns = c.args.d.now in let ys = c.args.b.now in let ms = c.args.other.now in let room = length c.args.out.now in
    let total = c.in_ok-check_total.ensures.agrees in let other_total = c.in_ok-check_total-2.ensures.agrees in
    let count : length ns ≡ length ms = sym c.count.ensures.value ∙ c.in_ok-check_agree.ensures ∙ c.count-2.ensures.value in
    ap (in_room room) (append_right xs ns ys ms total other_total count)
    ∙ fits room (pairs_of xs ns ys ms) (append_long xs ns ys ms total other_total count ∙ c.in_ok-check_agree-2.ensures)
    ∙ ap Ok (sym c.write_pairs.ensures)
