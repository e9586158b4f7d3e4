use Rattle.tile_scans.proofs.Cited.{◌≡◌, ◌-◌, ◌<◌, ◌≤◌, ◌∙◌, true, length, map, take, ap, arith, length-map, All-map, AllPass-from_list_all, sum_by_more, fold_of, seg_join, seg_unit}
use Rattle.tile_scans.proofs.Cited.{length-reduces_of}
use Rattle.tile_scans.specs.TiledSums.{flagged}
use Rattle.tile_scans.proofs.OpenSegments.{is_open}
use Rattle.tile_scans.proofs.reduces_after_befores.KnownReducesStepsItem.write_on.Goals as goal

pub start-start-requires : goal.start-start-requires
start-start-requires g c =
    let long = length-reduces_of g.M.Monoid.join g.M.Monoid.unit (map g.E.Reading.item c.args.self.now.known.now.vector.now.elements.now) c.args.self.now.segments.now in
    omega (arith, c.next_place-first.ensures.place, c.requires.some, c.requires.within, long)

pub length-requires : goal.length-requires
length-requires g c =
    let long = length-reduces_of g.M.Monoid.join g.M.Monoid.unit (map g.E.Reading.item c.args.self.now.known.now.vector.now.elements.now) c.args.self.now.segments.now in
    omega (arith, c.next_place-first.ensures.place, c.requires.some, c.requires.within, long)

pub seg_reduces_into-requires-clause-begun : goal.seg_reduces_into-requires-clause-begun
seg_reduces_into-requires-clause-begun g c =
    let m = g.M.Monoid in
    let item = g.E.Reading.item in
    let self = c.args.self.now in
    let v = self.known.now.vector.now in
    let d = self.segments.now in
    let xs = map item v.elements.now in
    let first = c.next_place-first.result in
    let place = c.range-from.result.0 in
    let long = length-reduces_of m.join m.unit xs d in
    let lt : first < length d = omega (arith, c.next_place-first.ensures.place, c.requires.some, c.requires.within, long) in
    let next = sum_by_more (λ x. x) d first 0 lt in
    let tile : place ≤ c.max.result - 1 = omega (arith, c.tile_at-t.ensures.begun, ap (λ r. r.0) c.range-from.ensures.value) in
    let stands = c.before_place-before.ensures.value
    ∙ ap (λ s. (fold_of (seg_join m.join) (seg_unit m.unit) (take place (flagged s xs))).1) self.cut in
    λ _. is_open c.know_laws.ensures d xs (All-map (λ y. m.is_item y ≡ true) item v.elements.now (AllPass-from_list_all (λ x. m.is_item (item x)) v.elements.now v.items)) place first
    c.before_place-before.result
    (omega (arith, c.range-from.ensures.filled, c.range-from.ensures.within, v.whole, length-map v.elements.now item)) lt
    (omega (arith, c.if-start-from.true, c.start-start.ensures.value))
    (omega (arith, tile, c.max.ensures, c.if-start-from.true, c.start-start.ensures.value, c.length.ensures, next)) stands

pub seg_reduces_into-requires-2-clause-within : goal.seg_reduces_into-requires-2-clause-within
seg_reduces_into-requires-2-clause-within g c =
    let long = length-reduces_of g.M.Monoid.join g.M.Monoid.unit (map g.E.Reading.item c.args.self.now.known.now.vector.now.elements.now) c.args.self.now.segments.now in
    omega (arith, c.next_place-first.ensures.place, c.min-next.ensures, c.room.ensures, c.requires.within, long)
