use Rattle.checked_tile_scans.proofs.Cited.{◌∙◌, length, ap, arith, option_copied, is_number, tiled, flagged}
use Rattle.checked_tile_scans.proofs.SegmentTotals.{length-totals_before}
use Rattle.checked_tile_scans.proofs.TileFronts.{none_there, outside_there, tile_front}
use Rattle.checked_tile_scans.proofs.overflows.Outside.place_in.Goals as goal

pub bounds-self-t : goal.bounds-self-t
bounds-self-t g c =
    let o = c.args.self.now in
    let v = o.vector.now in
    omega (arith, c.requires, ap length o.known ∙ length-totals_before v.plan (flagged (option_copied v.segments) v.elements.now))

pub returns-then-fitting-to : goal.returns-then-fitting-to
returns-then-fitting-to g c =
    let o = c.args.self.now in
    let v = o.vector.now in
    let is = tiled is_number (option_copied v.segments) v.elements.now v.plan v.numbers v.agrees v.whole v.few v.some in
    outside_there is c.args.t c.fitting-fitting.result c.range-from.result c.range-from.ensures.value
    (tile_front is o.before.now c.args.t c.fitting-fitting.result o.known c.requires c.fitting-fitting.ensures) c.if-fitting-to.true

pub returns : goal.returns
returns g c =
    let o = c.args.self.now in
    let v = o.vector.now in
    let is = tiled is_number (option_copied v.segments) v.elements.now v.plan v.numbers v.agrees v.whole v.few v.some in
    none_there is c.args.t c.fitting-fitting.result c.range-from.result c.range-from.ensures.value
    (tile_front is o.before.now c.args.t c.fitting-fitting.result o.known c.requires c.fitting-fitting.ensures) c.if-fitting-to.false
