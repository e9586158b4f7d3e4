use Rattle.scan_walks.proofs.Cited.{◌≡◌, ◌+◌, ◌-◌, ◌<◌, ◌∙◌, ◌∷◌, ◌++◌, [], get_or, length, map, unsigned_abs, take, refl, sym, subst, ap, arith, true, IsTrue, All-get_or, All-take}
use Rattle.scan_walks.proofs.Cited.{length-map, take_more_set}
use Rattle.std.specs.Prelude.{replicate}
use Rattle.std.proofs.lemmas.List.{length-replicate, length-set}
use Rattle.range_walks.proofs.SegmentNumbers.{holder, none_reduced, none_scanned, offset_fits, reduced_is_item, scans_more, sum_read, sums_more}
use Rattle.scan_walks.proofs.InPlace.{still_at, still_behind}
use Rattle.scan_walks.proofs.short_in_place.scans_in_by_ends.Goals as goal

pub loop-place-init : goal.loop-place-init
loop-place-init g c =
    let m = g.M.Monoid in
    let row = c.args.lengths.now in
    record {
      segment = refl;
      places = length-replicate 128 c.unit-unit.result;
      sums = ap (λ u. replicate 128 u) c.unit-unit.ensures ∙ none_reduced m.join m.unit (map unsigned_abs row) 128 (128 - length row) (omega (arith, length-map row unsigned_abs, c.requires.few));
      scanned = sym (none_scanned m.join m.unit (map unsigned_abs row));
      left = refl;
    }

pub overflow_add-segment : goal.overflow_add-segment
overflow_add-segment g c =
    let now = c.loop-place in let asks = c.requires in
    let here = holder c.args.lengths.now c.args.ends.now _ now.place now.segment asks.ends (omega (arith, asks.total)) asks.places c.loop-place-test.true now.invariant.segment asks.few in
    record { fits = omega (arith, here.below) }

pub offset_bounds-sums-segment : goal.offset_bounds-sums-segment
offset_bounds-sums-segment g c =
    let now = c.loop-place in let asks = c.requires in
    let here = holder c.args.lengths.now c.args.ends.now _ now.place now.segment asks.ends (omega (arith, asks.total)) asks.places c.loop-place-test.true now.invariant.segment asks.few in
    record { fits = offset_fits (now.segment + get_or c.args.ends.now now.place 0) _ c.size_of_val.result c.size_of_val.ensures (omega (arith, c.if-size_of_val-gt-LARGEST.false)) here.below }

pub listed : goal.listed
listed g c =
    let now = c.loop-place in let asks = c.requires in
    let here = holder c.args.lengths.now c.args.ends.now _ now.place now.segment asks.ends (omega (arith, asks.total)) asks.places c.loop-place-test.true now.invariant.segment asks.few in
    omega (arith, here.below, now.invariant.places)

pub bounds-sums-segment : goal.bounds-sums-segment
bounds-sums-segment g c =
    let now = c.loop-place in let asks = c.requires in
    let here = holder c.args.lengths.now c.args.ends.now _ now.place now.segment asks.ends (omega (arith, asks.total)) asks.places c.loop-place-test.true now.invariant.segment asks.few in
    here.below

pub join-requires-clause-first : goal.join-requires-clause-first
join-requires-clause-first g c =
    let m = g.M.Monoid in
    let now = c.loop-place in let asks = c.requires in
    let lengths = map unsigned_abs c.args.lengths.now in
    let front = take now.place c.args.a.now in
    let here = holder c.args.lengths.now c.args.ends.now _ now.place now.segment asks.ends (omega (arith, asks.total)) asks.places c.loop-place-test.true now.invariant.segment asks.few in
    let items = All-take (λ y. m.is_item y ≡ true) now.place c.args.a.now c.requires.items in
    let next = now.segment + get_or c.args.ends.now now.place 0 in
    ap m.is_item (sum_read m.join m.unit lengths front _ now.sums next c.index-sums-segment.result now.invariant.sums here.own)
    ∙ reduced_is_item c.know_laws.ensures lengths front next c.index-sums-segment.result items here.own

pub join-requires-clause-second : goal.join-requires-clause-second
join-requires-clause-second g c =
    let m = g.M.Monoid in let a = c.args.a.now in let i = c.loop-place.place in let x = c.index-a-place.result in
    let within : i < length a = omega (arith, c.loop-place-test.true) in
    let same : x ≡ get_or a i x = c.index-a-place.is ∙ still_at c.loop-place.a a i c.loop-place.invariant.left x in
    subst (λ y. IsTrue (m.is_item y)) (sym same) (All-get_or (λ y. m.is_item y ≡ true) a i x within c.requires.items)

pub loop-place-preserved : goal.loop-place-preserved
loop-place-preserved g c =
    let m = g.M.Monoid in
    let now = c.loop-place in let asks = c.requires in
    let lengths = map unsigned_abs c.args.lengths.now in
    let xs = c.args.a.now in
    let i = now.place in
    let x = c.index-a-place.result in
    let units = replicate (128 - length c.args.lengths.now) m.unit in
    let here = holder c.args.lengths.now c.args.ends.now _ i now.segment asks.ends (omega (arith, asks.total)) asks.places c.loop-place-test.true now.invariant.segment asks.few in
    let next = now.segment + get_or c.args.ends.now i 0 in
    let d = c.index-sums-segment.result in
    let before = get_or now.sums next d in
    let some : i < length xs = omega (arith, c.loop-place-test.true) in
    let read : x ≡ get_or xs i x = c.index-a-place.is ∙ still_at now.a xs i now.invariant.left x in
    record {
      segment = here.number;
      places = length-set now.sums next c.join.result ∙ now.invariant.places;
      sums = sums_more m.join m.unit lengths xs units now.sums i next d x c.join.result here.holds some read now.invariant.sums c.join.ensures;
      scanned = take_more_set now.a i before (omega (arith, some)) ∙ ap (λ ys. ys ++ before ∷ []) now.invariant.scanned
          ∙ sym (scans_more m.join m.unit lengths xs i next d before here.holds some
          (sum_read m.join m.unit lengths (take i xs) units now.sums next d now.invariant.sums here.own));
      left = still_behind now.a xs i now.invariant.left before;
    }
