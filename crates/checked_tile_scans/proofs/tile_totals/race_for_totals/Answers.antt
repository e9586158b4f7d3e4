use Rattle.checked_tile_scans.proofs.Cited.{option_copied, is_number, tiled}
use Rattle.checked_tile_scans.proofs.WholeSums.{exact_befores}
use Rattle.checked_tile_scans.proofs.tile_totals.race_for_totals.Goals as goal

pub returns : goal.returns
returns g c =
    let v = c.args.vector.now in
    exact_befores (tiled is_number (option_copied v.segments) v.elements.now v.plan v.numbers v.agrees v.whole v.few v.some) c.in_ok-before.before.items c.in_ok-before.ensures
