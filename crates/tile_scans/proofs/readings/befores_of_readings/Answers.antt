use Rattle.tile_scans.proofs.Cited.{◌≡◌, ℕ, ◌∙◌, IfOk, length, map, ap, subst, Tiling}
use Rattle.tile_scans.specs.TiledSums.{flagged, sums_of}
use Rattle.tile_scans.specs.Written.{befores_of}
use Rattle.tile_scans.proofs.readings.befores_of_readings.Goals as goal

pub returns : goal.returns
returns g c =
    let m = g.M.Monoid in
    let v = c.new-vector.ensures in
    let in_tiles : ℕ → Tiling = λ tile. record { len = length c.args.a.now; tile = tile } in
    let plan = v.plan ∙ ap in_tiles c.tile.ensures.value in
    subst (λ items. IfOk c.race_for_befores.result (λ before. before.items ≡ items))
    (λ i. befores_of m.join m.unit (sums_of m.join m.unit (plan i).len (plan i).tile (flagged (v.segments i) (map g.E.Reading.item (v.elements i))))) c.race_for_befores.ensures
