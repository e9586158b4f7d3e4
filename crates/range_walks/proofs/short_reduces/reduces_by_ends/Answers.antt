use Rattle.range_walks.proofs.Cited.{◌≡◌, ◌+◌, ◌-◌, ◌∙◌, get_or, length, map, unsigned_abs, take, refl, ap, arith, true, All-map, All-take, length-map, reduces_of, with_items}
use Rattle.std.specs.Prelude.{replicate}
use Rattle.std.proofs.lemmas.List.{length-replicate, length-set}
use Rattle.range_walks.proofs.Scanned.{all_read, item_read, length-read}
use Rattle.range_walks.proofs.SegmentNumbers.{holder, none_reduced, offset_fits, reduced_is_item, sum_read, sums_more, sums_read}
use Rattle.range_walks.proofs.short_reduces.reduces_by_ends.Goals as goal

pub loop-place-init : goal.loop-place-init
loop-place-init g c =
    let m = g.M.Monoid in
    let row = c.args.lengths.now in
    record {
      segment = refl;
      places = length-replicate 128 c.unit-unit.result;
      sums = ap (λ u. replicate 128 u) c.unit-unit.ensures ∙ none_reduced m.join m.unit (map unsigned_abs row) 128 (128 - length row) (omega (arith, length-map row unsigned_abs, c.requires.few));
    }

pub overflow_add-segment : goal.overflow_add-segment
overflow_add-segment g c =
    let now = c.loop-place in
    let need = c.requires in
    let here = holder c.args.lengths.now c.args.ends.now _ now.place now.segment need.ends (omega (arith, need.covered)) need.places c.loop-place-test.true now.invariant.segment need.few in
    record { fits = omega (arith, here.below) }

pub offset_bounds-sums-segment : goal.offset_bounds-sums-segment
offset_bounds-sums-segment g c =
    let now = c.loop-place in
    let need = c.requires in
    let here = holder c.args.lengths.now c.args.ends.now _ now.place now.segment need.ends (omega (arith, need.covered)) need.places c.loop-place-test.true now.invariant.segment need.few in
    record { fits = offset_fits (now.segment + get_or c.args.ends.now now.place 0) _ c.size_of_val.result c.size_of_val.ensures (omega (arith, c.if-size_of_val-gt-LARGEST.false)) here.below }

pub listed : goal.listed
listed g c =
    let now = c.loop-place in
    let need = c.requires in
    let here = holder c.args.lengths.now c.args.ends.now _ now.place now.segment need.ends (omega (arith, need.covered)) need.places c.loop-place-test.true now.invariant.segment need.few in
    omega (arith, here.below, now.invariant.places)

pub bounds-sums-segment : goal.bounds-sums-segment
bounds-sums-segment g c =
    let now = c.loop-place in
    let need = c.requires in
    let here = holder c.args.lengths.now c.args.ends.now _ now.place now.segment need.ends (omega (arith, need.covered)) need.places c.loop-place-test.true now.invariant.segment need.few in
    here.below

pub join-requires-clause-first : goal.join-requires-clause-first
join-requires-clause-first g c =
    let m = g.M.Monoid in
    let item = g.E.Reading.item in
    let now = c.loop-place in
    let lengths = map unsigned_abs c.args.lengths.now in
    let front = take now.place (map item c.args.xs.now) in
    let need = c.requires in
    let here = holder c.args.lengths.now c.args.ends.now _ now.place now.segment need.ends (omega (arith, need.covered)) need.places c.loop-place-test.true now.invariant.segment need.few in
    let items = All-take (λ y. m.is_item y ≡ true) now.place (map item c.args.xs.now) (All-map (λ y. m.is_item y ≡ true) item c.args.xs.now c.requires.items) in
    let next = now.segment + get_or c.args.ends.now now.place 0 in
    ap m.is_item (sum_read m.join m.unit lengths front _ now.sums next c.index-sums-segment.result now.invariant.sums here.own)
    ∙ reduced_is_item c.know_laws.ensures lengths front next c.index-sums-segment.result items here.own

pub loop-place-preserved : goal.loop-place-preserved
loop-place-preserved g c =
    let m = g.M.Monoid in
    let item = g.E.Reading.item in
    let now = c.loop-place in
    let lengths = map unsigned_abs c.args.lengths.now in
    let xs = map item c.args.xs.now in
    let units = replicate (128 - length c.args.lengths.now) m.unit in
    let need = c.requires in
    let here = holder c.args.lengths.now c.args.ends.now _ now.place now.segment need.ends (omega (arith, need.covered)) need.places c.loop-place-test.true now.invariant.segment need.few in
    let next = now.segment + get_or c.args.ends.now now.place 0 in
    let d = c.index-sums-segment.result in
    let joined = c.join.ensures ∙ ap (m.join (get_or now.sums next d)) c.item.ensures in
    let within = length-read item c.args.xs.now now.place c.loop-place-test.true in
    let read = item_read item c.args.xs.now now.place c.index-xs-place.result c.loop-place-test.true c.index-xs-place.is in
    record {
      segment = here.number;
      places = length-set now.sums next c.join.result ∙ now.invariant.places;
      sums = sums_more m.join m.unit lengths xs units now.sums now.place next d _ c.join.result here.holds within read now.invariant.sums joined;
    }

pub returns : goal.returns
returns g c =
    let m = g.M.Monoid in
    let item = g.E.Reading.item in
    let now = c.loop-place in
    let row = c.args.lengths.now in
    let lengths = map unsigned_abs row in
    let all = all_read item c.args.xs.now now.place (omega (arith, c.loop-place-test.false)) in
    let count : c.loop-number.number ≡ length lengths = omega (arith, c.loop-number-test.false, c.loop-number.auto.number-end, length-map row unsigned_abs) in
    c.loop-number.invariant.written
    ∙ ap (with_items c.args.run) (sums_read m.join m.unit lengths (take now.place (map item c.args.xs.now)) _ now.sums c.loop-number.number now.invariant.sums count
    ∙ ap (reduces_of m.join m.unit lengths) all)
