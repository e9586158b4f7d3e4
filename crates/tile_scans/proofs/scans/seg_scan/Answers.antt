use Rattle.tile_scans.proofs.Cited.{Ok, map, sym, ap, ◌∙◌, map-id, range_scan_of, with_starts, seg_scan-fits}
use Rattle.scan_walks.proofs.Cut.{segments_scanned}
use Rattle.tile_scans.specs.TiledSums.{flagged}
use Rattle.tile_scans.proofs.scans.seg_scan.Goals as goal

pub returns-clause-values : goal.returns-clause-values
returns-clause-values g c =
    let m = g.M.Monoid in
    let a = c.args.a.now in
    let d = c.args.d.now in
    let v = c.new-vector.result in
    seg_scan-fits m.join m.unit a d c.in_ok-check_total.ensures.agrees
    ∙ ap (λ sums. Ok sums) (sym (c.in_ok-sums.ensures.values
    ∙ ap (λ s. range_scan_of m.join m.unit m.unit (flagged s (map (λ x. x) v.elements.now))) c.new-vector.ensures.segments
    ∙ ap (λ xs. range_scan_of m.join m.unit m.unit (with_starts d xs)) (map-id v.elements.now ∙ c.new-vector.ensures.elements)
    ∙ segments_scanned c.know_laws.ensures d a m.unit c.requires.items))
