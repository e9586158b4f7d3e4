use Rattle.range_walks.proofs.Cited.{◌≡◌, ◌+◌, ◌<◌, ◌∙◌, get_or, map, unsigned_abs, take, refl, sym, ap, arith, sum, All-map, All-take, true, with_items, one_written, reduces_of, scans_of}
use Rattle.fresh.proofs.Written.{nothing_written}
use Rattle.range_walks.proofs.OneSum.{begins_anew, goes_on, none_yet, sum_joined}
use Rattle.range_walks.proofs.Scanned.{all_read, item_read, length-read}
use Rattle.range_walks.proofs.SegmentNumbers.{holder, none_scanned, reduced_is_item, scans_more}
use Rattle.range_walks.proofs.short_scans.scans_by_one_sum.Goals as goal
use Rattle.range_walks.proofs.short_scans.scans_by_one_sum.Goals.{then-ends-place-eq0, else-ends-place-eq0}

pub loop-place-init : goal.loop-place-init
loop-place-init g c =
    let m = g.M.Monoid in
    let lengths = map unsigned_abs c.args.lengths.now in
    record {
      so_far = c.unit-unit.ensures ∙ none_yet m.join m.unit lengths;
      room = omega (arith, c.requires.room);
      written = sym (ap (with_items c.args.run) (none_scanned m.join m.unit lengths) ∙ nothing_written c.args.run);
    }

pub join-so_far-requires-clause-first : goal.join-so_far-requires-clause-first
join-so_far-requires-clause-first g c =
    let m = g.M.Monoid in
    let item = g.E.Reading.item in
    let now = c.loop-place in
    let lengths = map unsigned_abs c.args.lengths.now in
    let ends = c.args.ends.now in
    let xs = map item c.args.xs.now in
    let here = holder c.args.lengths.now ends _ now.place _ c.requires.ends c.requires.covered c.requires.places c.loop-place-test.true refl c.requires.few in
    let within : now.place < sum lengths = omega (arith, c.loop-place-test.true, c.requires.covered) in
    let next = sum (take now.place ends) + get_or ends now.place 0 in
    let items = All-take (λ y. m.is_item y ≡ true) now.place xs (All-map (λ y. m.is_item y ≡ true) item c.args.xs.now c.requires.items) in
    let is : c.if-ends-place-eq0.sum ≡ get_or (reduces_of m.join m.unit lengths (take now.place xs)) (sum (take now.place ends) + get_or ends now.place 0) m.unit =
    elim c.if-ends-place-eq0.branch [
      | then-ends-place-eq0 w ↦ w.sum-is ∙ goes_on m.join m.unit lengths ends xs now.place _ (omega (arith, w.if-ends-place-eq0.true)) now.invariant.so_far
      | else-ends-place-eq0 w ↦ w.sum-is ∙ c.unit-unit.ensures ∙ begins_anew m.join m.unit lengths ends xs now.place c.requires.ends within (omega (arith, w.if-ends-place-eq0.false)) here.holds
    ] in
    ap m.is_item is ∙ reduced_is_item c.know_laws.ensures lengths (take now.place xs) next m.unit items here.own

pub loop-place-preserved : goal.loop-place-preserved
loop-place-preserved g c =
    let m = g.M.Monoid in
    let item = g.E.Reading.item in
    let now = c.loop-place in
    let lengths = map unsigned_abs c.args.lengths.now in
    let ends = c.args.ends.now in
    let xs = map item c.args.xs.now in
    let here = holder c.args.lengths.now ends _ now.place _ c.requires.ends c.requires.covered c.requires.places c.loop-place-test.true refl c.requires.few in
    let within : now.place < sum lengths = omega (arith, c.loop-place-test.true, c.requires.covered) in
    let sum_now = c.if-ends-place-eq0.sum in
    let is : c.if-ends-place-eq0.sum ≡ get_or (reduces_of m.join m.unit lengths (take now.place xs)) (sum (take now.place ends) + get_or ends now.place 0) m.unit =
    elim c.if-ends-place-eq0.branch [
      | then-ends-place-eq0 w ↦ w.sum-is ∙ goes_on m.join m.unit lengths ends xs now.place _ (omega (arith, w.if-ends-place-eq0.true)) now.invariant.so_far
      | else-ends-place-eq0 w ↦ w.sum-is ∙ c.unit-unit.ensures ∙ begins_anew m.join m.unit lengths ends xs now.place c.requires.ends within (omega (arith, w.if-ends-place-eq0.false)) here.holds
    ] in
    let some = length-read item c.args.xs.now now.place c.loop-place-test.true in
    let read = item_read item c.args.xs.now now.place c.index-xs-place.result c.loop-place-test.true c.index-xs-place.is in
    let joined = c.join-so_far.ensures ∙ ap (m.join sum_now) c.item.ensures in
    record {
      so_far = sum_joined m.join m.unit lengths xs now.place _ sum_now _ c.join-so_far.result here.holds some read is joined
          ∙ ap (λ s. get_or (reduces_of m.join m.unit lengths (take (now.place + 1) xs)) s m.unit) here.number;
      room = omega (arith, ap (λ r. r.room) c.push.ensures, now.invariant.room);
      written = one_written c.args.run now.run c.push.new.self _ sum_now now.invariant.written c.push.ensures
          ∙ ap (with_items c.args.run) (sym (scans_more m.join m.unit lengths xs now.place _ m.unit sum_now here.holds some is));
    }

pub returns : goal.returns
returns g c =
    let m = g.M.Monoid in
    let all = all_read g.E.Reading.item c.args.xs.now c.loop-place.place (omega (arith, c.loop-place-test.false)) in
    c.loop-place.invariant.written ∙ ap (λ ys. with_items c.args.run (scans_of m.join m.unit (map unsigned_abs c.args.lengths.now) ys)) all
