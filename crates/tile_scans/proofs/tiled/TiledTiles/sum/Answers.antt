use Rattle.tile_scans.proofs.Cited.{◌<◌, arith, false, map, sym, ap, slice_range, ◌∙◌, option_copied, fold_of, seg_join, tile_count}
use Rattle.tile_scans.specs.TiledSums.{flagged}
use Rattle.tile_scans.proofs.SumsOfTiles.{length-sums_of, sum_at}
use Rattle.tile_scans.proofs.tiled.TiledTiles.sum.Goals as goal

pub range-from-requires : goal.range-from-requires
range-from-requires g c =
    let v = c.args.self.now in
    omega (arith, c.requires, length-sums_of g.M.Monoid.join g.M.Monoid.unit v.plan.len v.plan.tile (flagged (option_copied v.segments) (map g.E.Reading.item v.elements.now)))

pub returns : goal.returns
returns g c =
    let m = g.M.Monoid in
    let v = c.args.self.now in
    let ws = flagged (option_copied v.segments) (map g.E.Reading.item v.elements.now) in
    let t = c.args.t in
    let range = c.range-from.result in
    let below : t < tile_count v.plan.len v.plan.tile = omega (arith, c.requires, length-sums_of m.join m.unit v.plan.len v.plan.tile ws) in
    c.sum_between.ensures
    ∙ ap (λ u. fold_of (seg_join m.join) (false, u) (slice_range ws range.0 range.1)) c.unit.ensures
    ∙ ap (λ r. fold_of (seg_join m.join) (false, m.unit) (slice_range ws r.0 r.1)) c.range-from.ensures.value
    ∙ sym (sum_at m.join m.unit v.plan.len v.plan.tile ws t below)
