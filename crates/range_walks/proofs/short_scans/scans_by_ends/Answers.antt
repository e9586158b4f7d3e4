use Rattle.range_walks.proofs.Cited.{◌≡◌, ◌+◌, ◌-◌, ◌∙◌, get_or, length, map, unsigned_abs, take, refl, sym, ap, arith, true, All-map, All-take, length-map, with_items, one_written, scans_of}
use Rattle.std.specs.Prelude.{replicate}
use Rattle.std.proofs.lemmas.List.{length-replicate, length-set}
use Rattle.fresh.proofs.Written.{nothing_written}
use Rattle.range_walks.proofs.Scanned.{all_read, item_read, length-read}
use Rattle.range_walks.proofs.SegmentNumbers.{holder, none_reduced, none_scanned, offset_fits, reduced_is_item, scans_more, sum_read, sums_more}
use Rattle.range_walks.proofs.short_scans.scans_by_ends.Goals as goal

pub loop-place-init : goal.loop-place-init
loop-place-init g c =
    let m = g.M.Monoid in
    let row = c.args.lengths.now in
    record {
      segment = refl;
      places = length-replicate 128 c.unit-unit.result;
      sums = ap (λ u. replicate 128 u) c.unit-unit.ensures ∙ none_reduced m.join m.unit (map unsigned_abs row) 128 (128 - length row) (omega (arith, length-map row unsigned_abs, c.requires.few));
      room = omega (arith, c.requires.room);
      written = sym (ap (with_items c.args.run) (none_scanned m.join m.unit (map unsigned_abs row)) ∙ nothing_written c.args.run);
    }

pub overflow_add-segment : goal.overflow_add-segment
overflow_add-segment g c =
    let now = c.loop-place in
    let here = holder c.args.lengths.now c.args.ends.now _ now.place now.segment c.requires.ends c.requires.covered c.requires.places c.loop-place-test.true now.invariant.segment c.requires.few in
    record { fits = omega (arith, here.below) }

pub offset_bounds-sums-segment : goal.offset_bounds-sums-segment
offset_bounds-sums-segment g c =
    let now = c.loop-place in
    let here = holder c.args.lengths.now c.args.ends.now _ now.place now.segment c.requires.ends c.requires.covered c.requires.places c.loop-place-test.true now.invariant.segment c.requires.few in
    record { fits = offset_fits (now.segment + get_or c.args.ends.now now.place 0) _ c.size_of_val.result c.size_of_val.ensures (omega (arith, c.if-size_of_val-gt-LARGEST.false)) here.below }

pub listed : goal.listed
listed g c =
    let now = c.loop-place in
    let here = holder c.args.lengths.now c.args.ends.now _ now.place now.segment c.requires.ends c.requires.covered c.requires.places c.loop-place-test.true now.invariant.segment c.requires.few in
    omega (arith, here.below, now.invariant.places)

pub bounds-sums-segment : goal.bounds-sums-segment
bounds-sums-segment g c =
    let now = c.loop-place in
    let here = holder c.args.lengths.now c.args.ends.now _ now.place now.segment c.requires.ends c.requires.covered c.requires.places c.loop-place-test.true now.invariant.segment c.requires.few in
    here.below

pub join-requires-clause-first : goal.join-requires-clause-first
join-requires-clause-first g c =
    let m = g.M.Monoid in
    let item = g.E.Reading.item in
    let now = c.loop-place in
    let lengths = map unsigned_abs c.args.lengths.now in
    let front = take now.place (map item c.args.xs.now) in
    let here = holder c.args.lengths.now c.args.ends.now _ now.place now.segment c.requires.ends c.requires.covered c.requires.places c.loop-place-test.true now.invariant.segment c.requires.few in
    let items = All-take (λ y. m.is_item y ≡ true) now.place (map item c.args.xs.now) (All-map (λ y. m.is_item y ≡ true) item c.args.xs.now c.requires.items) in
    let next = now.segment + get_or c.args.ends.now now.place 0 in
    ap m.is_item (sum_read m.join m.unit lengths front _ now.sums next c.index-sums-segment.result now.invariant.sums here.own)
    ∙ reduced_is_item c.know_laws.ensures lengths front next c.index-sums-segment.result items here.own

pub loop-place-preserved : goal.loop-place-preserved
loop-place-preserved g c =
    let m = g.M.Monoid in
    let item = g.E.Reading.item in
    let now = c.loop-place in
    let lengths = map unsigned_abs c.args.lengths.now in
    let xs = map item c.args.xs.now in
    let units = replicate (128 - length c.args.lengths.now) m.unit in
    let here = holder c.args.lengths.now c.args.ends.now _ now.place now.segment c.requires.ends c.requires.covered c.requires.places c.loop-place-test.true now.invariant.segment c.requires.few in
    let next = now.segment + get_or c.args.ends.now now.place 0 in
    let d = c.index-sums-segment.result in
    let joined = c.join.ensures ∙ ap (m.join (get_or now.sums next d)) c.item.ensures in
    let within = length-read item c.args.xs.now now.place c.loop-place-test.true in
    let read = item_read item c.args.xs.now now.place c.index-xs-place.result c.loop-place-test.true c.index-xs-place.is in
    let before = get_or now.sums next d in
    let written = one_written c.args.run now.run c.push.new.self _ before now.invariant.written c.push.ensures in
    record {
      segment = here.number;
      places = length-set now.sums next c.join.result ∙ now.invariant.places;
      sums = sums_more m.join m.unit lengths xs units now.sums now.place next d _ c.join.result here.holds within read now.invariant.sums joined;
      room = omega (arith, ap (λ r. r.room) c.push.ensures, now.invariant.room);
      written = written
          ∙ ap (with_items c.args.run) (sym (scans_more m.join m.unit lengths xs now.place next d before here.holds within
          (sum_read m.join m.unit lengths (take now.place xs) units now.sums next d now.invariant.sums here.own)));
    }

pub returns : goal.returns
returns g c =
    let m = g.M.Monoid in
    let all = all_read g.E.Reading.item c.args.xs.now c.loop-place.place (omega (arith, c.loop-place-test.false)) in
    c.loop-place.invariant.written ∙ ap (λ ys. with_items c.args.run (scans_of m.join m.unit (map unsigned_abs c.args.lengths.now) ys)) all
