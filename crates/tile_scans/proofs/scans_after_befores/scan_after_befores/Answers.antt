use Rattle.tile_scans.proofs.Cited.{◌≡◌, ℕ, length, map, sym, ap, ◌∙◌, map-id, Tiling}
use Rattle.tile_scans.specs.TiledSums.{flagged, sums_of}
use Rattle.tile_scans.specs.Written.{befores_of}
use Rattle.tile_scans.proofs.scans_after_befores.scan_after_befores.Goals as goal

pub scan_after-requires-clause-known : goal.scan_after-requires-clause-known
scan_after-requires-clause-known g c κs within =
    let m = g.M.Monoid in
    let v = c.new-vector.result in
    let in_tiles : ℕ → Tiling = λ tile. record { len = length c.args.a.now; tile = tile } in
    let plan = c.new-vector.ensures.plan ∙ ap in_tiles c.tile.ensures.value in
    let elements : map (λ x. x) v.elements.now ≡ c.args.a.now = map-id v.elements.now ∙ c.new-vector.ensures.elements in
    c.requires.before ∙ sym (λ i. befores_of m.join m.unit (sums_of m.join m.unit (plan i).len (plan i).tile (flagged (c.new-vector.ensures.segments i) (elements i))))
