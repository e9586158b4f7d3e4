use Rattle.tile_scans.proofs.Cited.{ap, arith, length, map, sym, ◌∙◌, length-reduces_of}
use Rattle.tile_scans.proofs.tiled.Tiled.reduces_after.Goals as goal

pub write_in_runs-requires-after_bounds : goal.write_in_runs-requires-after_bounds
write_in_runs-requires-after_bounds g c κs within =
    let m = g.M.Monoid in
    c.count-count.ensures.value ∙ sym (length-reduces_of m.join m.unit (map g.E.Reading.item c.args.self.now.elements.now) c.args.segments.now)

pub returns-clause-one_each : goal.returns-clause-one_each
returns-clause-one_each g c =
    let m = g.M.Monoid in
    let xs = map g.E.Reading.item c.args.self.now.elements.now in
    omega (arith, c.in_ok-sums.sums.ok, ap length c.in_ok-sums.ensures, length-reduces_of m.join m.unit xs c.args.segments.now)
