use Rattle.checked_tile_scans.proofs.Cited.{◌-◌, ◌<◌, ◌≤◌, ◌∙◌, arith, sym, length, pos, drop, option_copied, length-drop, length-take, exact_sum_of, is_number, range_of, tile_count, tiled, flagged}
use Rattle.checked_tile_scans.proofs.Cited.{tile_of, length-sums_of, sum_at, tile_passes}
use Rattle.checked_tile_scans.proofs.WholeSums.{exact_total}
use Rattle.checked_tile_scans.proofs.tile_totals.TotalsTiles.sum.Goals as goal

pub total-requires : goal.total-requires
total-requires g c =
    let v = c.args.self.now in
    omega (arith, c.requires, length-sums_of exact_sum_of (pos 0) v.plan.len v.plan.tile (flagged (option_copied v.segments) v.elements.now))

pub returns : goal.returns
returns g c =
    let v = c.args.self.now in
    let ws = flagged (option_copied v.segments) v.elements.now in
    let is = tiled is_number (option_copied v.segments) v.elements.now v.plan v.numbers v.agrees v.whole v.few v.some in
    let t = c.args.t in
    let below : t < tile_count v.plan.len v.plan.tile = omega (arith, c.requires, length-sums_of exact_sum_of (pos 0) v.plan.len v.plan.tile ws) in
    let from = (range_of v.plan.len v.plan.tile t).0 in
    let few : length (tile_of v.plan.len v.plan.tile ws t) ≤ 4194304 = omega (arith, length-take ((range_of v.plan.len v.plan.tile t).1 - from) (drop from ws), length-drop from ws, is.whole, v.few) in
    c.total.ensures
    ∙ sym (exact_total (tile_of v.plan.len v.plan.tile ws t) few (tile_passes is t))
    ∙ sym (sum_at exact_sum_of (pos 0) v.plan.len v.plan.tile ws t below)
