use Rattle.tile_scans.proofs.Cited.{◌-◌, ap, map, slice_range, sym, ◌∙◌, option_copied, scan_of, with_items, range_scan_of, part_read}
use Rattle.tile_scans.proofs.Flagged.{cut_range, flat_range}
use Rattle.tile_scans.proofs.RangeScans.{continued_range_scan}
use Rattle.tile_scans.proofs.tiled.Tiled.scan_between.Goals as goal

pub returns-in-None : goal.returns-in-None
returns-in-None g c =
    let m = g.M.Monoid in
    let v = c.args.self.now in
    let item = g.E.Reading.item in
    c.scan_into.ensures
    ∙ ap (with_items c.args.run) (ap (scan_of m.join c.args.before) (part_read item (c.args.to - c.args.from) c.args.from v.elements.now)
    ∙ sym (continued_range_scan m.join m.unit c.args.before (slice_range (map item v.elements.now) c.args.from c.args.to))
    ∙ ap (range_scan_of m.join m.unit c.args.before) (flat_range (option_copied v.segments) (map item v.elements.now) c.args.from c.args.to (ap option_copied c.in-None.is)))

pub returns-in-Some : goal.returns-in-Some
returns-in-Some g c =
    let m = g.M.Monoid in
    let v = c.args.self.now in
    c.scan_range_into.ensures
    ∙ ap (λ ws. with_items c.args.run (range_scan_of m.join m.unit c.args.before ws))
    (cut_range (option_copied v.segments) (map g.E.Reading.item v.elements.now) c.args.from c.args.to c.in-Some.d.now (ap option_copied c.in-Some.is))
