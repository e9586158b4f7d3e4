use Rattle.tile_scans.proofs.Cited.{arith, map, sym, ◌∙◌, option_copied}
use Rattle.tile_scans.specs.TiledSums.{flagged}
use Rattle.tile_scans.proofs.Flagged.{tiled_read}
use Rattle.tile_scans.proofs.SumsOfTiles.{length-sums_of, sums_pass}
use Rattle.tile_scans.proofs.tiled.TiledTiles.count.Goals as goal

pub returns : goal.returns
returns g c =
    let m = g.M.Monoid in
    let v = c.args.self.now in
    let long = length-sums_of m.join m.unit v.plan.len v.plan.tile (flagged (option_copied v.segments) (map g.E.Reading.item v.elements.now)) in
    record {
      count = c.count.ensures.value ∙ sym long;
      few = omega (arith, long, c.count.ensures.value, c.count.ensures.at_most, v.few);
      items = sums_pass c.know_laws.ensures (tiled_read g.E.Reading.item (option_copied v.segments) v.elements.now v.agrees m.is_item v.plan v.items v.whole v.few v.some);
    }
