use Rattle.tile_scans.proofs.Cited.{ap, arith, length, sym, option_copied}
use Rattle.tile_scans.proofs.Flagged.{length-scanned}
use Rattle.tile_scans.proofs.tiled.Tiled.scan_after.Goals as goal

pub write_in_runs-requires-after_bounds : goal.write_in_runs-requires-after_bounds
write_in_runs-requires-after_bounds g c κs within =
    let v = c.args.self.now in
    sym (length-scanned g.E.Reading.item (option_copied v.segments) v.elements.now v.agrees g.M.Monoid.join g.M.Monoid.unit)

pub returns-clause-as_long : goal.returns-clause-as_long
returns-clause-as_long g c =
    let v = c.args.self.now in
    let long = length-scanned g.E.Reading.item (option_copied v.segments) v.elements.now v.agrees g.M.Monoid.join g.M.Monoid.unit in
    omega (arith, c.in_ok-sums.sums.ok, ap length c.in_ok-sums.ensures, long)
