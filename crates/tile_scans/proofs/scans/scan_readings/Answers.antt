use Rattle.tile_scans.proofs.Cited.{map, ap, ◌∙◌, scan_of, range_scan_of}
use Rattle.tile_scans.specs.TiledSums.{flagged}
use Rattle.tile_scans.proofs.RangeScans.{continued_range_scan}
use Rattle.tile_scans.proofs.scans.scan_readings.Goals as goal

pub returns-clause-values : goal.returns-clause-values
returns-clause-values g c =
    let m = g.M.Monoid in
    let item = g.E.Reading.item in
    let v = c.new-vector.result in
    c.in_ok-sums.ensures.values
    ∙ ap (λ s. range_scan_of m.join m.unit m.unit (flagged s (map item v.elements.now))) c.new-vector.ensures.segments
    ∙ continued_range_scan m.join m.unit m.unit (map item v.elements.now)
    ∙ ap (λ ys. scan_of m.join m.unit (map item ys)) c.new-vector.ensures.elements
