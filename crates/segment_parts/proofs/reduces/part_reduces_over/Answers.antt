use Rattle.std.proofs.Common.{◌≡◌, ◌∙◌, Err, ap, arith, length, map, sym, true}
use Rattle.std.proofs.lemmas.List.{length-map}
use Rattle.cvl_base.proofs.Rooms.{differs, told}
use Rattle.cvl_base.specs.Rooms.{in_room}
use Rattle.range_walks.specs.Ranges.{reduces_of}
use Rattle.scan_walks.proofs.Segmented.{length-reduces_of}
use Rattle.segment_parts.proofs.Starts.{length-join_last, length-start_reduces, part-fits}
use Rattle.segment_parts.specs.Reduces.{is_part, start_reduces_of}
use Rattle.segment_parts.proofs.reduces.part_reduces_over.Goals as goal

pub returns-in_err-check_agree : goal.returns-in_err-check_agree
returns-in_err-check_agree g c =
    let m = g.M.Monoid in let xs = map g.E.Reading.item c.args.a.now in let d = c.args.lengths.now in let room = length c.args.out.now in
    let fit : is_part c.args.head d (length xs) ≡ true = ap (is_part c.args.head d) (length-map c.args.a.now g.E.Reading.item) ∙ sym c.is_part.ensures ∙ c.if-not-is_part.false in
    let values = start_reduces_of m.join m.unit c.args.behind c.args.head d xs in
    told _ c.from_residual.result c.in_err-check_agree.field-0.0 c.args.out.now c.from_residual.ensures.1
    (ap (in_room room) (part-fits m.join m.unit c.args.behind c.args.head d xs fit)
    ∙ differs room values (λ same. c.in_err-check_agree.ensures.1 (c.count.ensures.value ∙ sym (length-start_reduces m.join m.unit c.args.behind c.args.head d xs) ∙ same))
    ∙ ap Err (sym c.in_err-check_agree.ensures.0))

pub fill_slice-requires-clause-full : goal.fill_slice-requires-clause-full
fill_slice-requires-clause-full g c = λ block run done.
    let m = g.M.Monoid in let d = c.args.lengths.now in let is = done.1 in
    let values = reduces_of m.join m.unit d (map g.E.Reading.item c.split_at.result.1.now) in
    let long = length-join_last m.join values c.args.behind ∙ length-reduces_of m.join m.unit (map g.E.Reading.item c.split_at.result.1.now) d
    ∙ sym c.count.ensures.value ∙ c.in_ok-check_agree.ensures in
    (ap (λ s. s.block) is, ap (λ s. s.first) is, ap (λ s. s.room) is ∙ omega (arith, long), ap (λ s. length s.items) is ∙ long)
