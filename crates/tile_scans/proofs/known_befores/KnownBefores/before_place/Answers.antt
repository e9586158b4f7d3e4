use Rattle.tile_scans.proofs.Cited.{◌<◌, ◌∙◌, IsTrue, false, length, map, get_or, slice_range, arith, rules, sym, ap, subst, option_copied, fold_of, seg_join, range_of}
use Rattle.tile_scans.specs.TiledSums.{flagged}
use Rattle.tile_scans.proofs.Flagged.{tiled_read}
use Rattle.tile_scans.proofs.SumsOfTiles.{front_is_item, known_at, length-known, since_known}
use Rattle.tile_scans.proofs.known_befores.KnownBefores.before_place.Goals as goal

pub bounds-self-t : goal.bounds-self-t
bounds-self-t g c =
    let known = c.args.self.now in let v = known.vector.now in
    let is = tiled_read g.E.Reading.item (option_copied v.segments) v.elements.now v.agrees g.M.Monoid.is_item v.plan v.items v.whole v.few v.some in
    omega (arith, length-known c.know_laws.ensures is known.before.now known.known, c.requires.tile)

pub offset_bounds-self-t : goal.offset_bounds-self-t
offset_bounds-self-t g c =
    let known = c.args.self.now in let v = known.vector.now in
    let is = tiled_read g.E.Reading.item (option_copied v.segments) v.elements.now v.agrees g.M.Monoid.is_item v.plan v.items v.whole v.few v.some in
    let below : c.args.t < length known.before.now = omega (arith, length-known c.know_laws.ensures is known.before.now known.known, c.requires.tile) in
    search (rules, below)

pub sum_between-sum-requires-clause-before : goal.sum_between-sum-requires-clause-before
sum_between-sum-requires-clause-before g c =
    let known = c.args.self.now in let v = known.vector.now in
    let is = tiled_read g.E.Reading.item (option_copied v.segments) v.elements.now v.agrees g.M.Monoid.is_item v.plan v.items v.whole v.few v.some in
    subst (λ x. IsTrue (g.M.Monoid.is_item x)) (sym (known_at c.know_laws.ensures is known.before.now known.known c.args.t c.index-self-t.result c.requires.tile))
    (front_is_item c.know_laws.ensures is (range_of v.plan.len v.plan.tile c.args.t).0)

pub returns : goal.returns
returns g c =
    let known = c.args.self.now in let v = known.vector.now in
    let ws = flagged (option_copied v.segments) (map g.E.Reading.item v.elements.now) in
    let is = tiled_read g.E.Reading.item (option_copied v.segments) v.elements.now v.agrees g.M.Monoid.is_item v.plan v.items v.whole v.few v.some in
    let place = c.args.place in
    let b = get_or known.before.now c.args.t c.index-self-t.result in
    let value = ap (λ w. w.1) (c.sum_between-sum.ensures ∙ ap (λ r. fold_of (seg_join g.M.Monoid.join) (false, b) (slice_range ws r.0 place)) c.range-start.ensures.value)
    ∙ since_known c.know_laws.ensures is known.before.now known.known c.args.t place c.index-self-t.result c.requires.tile c.requires.begun in
    record { value = value; item = subst (λ x. IsTrue (g.M.Monoid.is_item x)) (sym value) (front_is_item c.know_laws.ensures is place) }
