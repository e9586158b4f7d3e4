use Rattle.tile_scans.proofs.Cited.{◌-◌, ap, false, map, slice_range, sym, ◌∙◌, option_copied, fold_of, seg_join, continued_summed, part_read}
use Rattle.tile_scans.proofs.Flagged.{cut_range, flat_range}
use Rattle.tile_scans.proofs.tiled.Tiled.sum_between.Goals as goal

pub returns-in-None : goal.returns-in-None
returns-in-None g c =
    let m = g.M.Monoid in
    let v = c.args.self.now in
    let item = g.E.Reading.item in
    ap (λ z. (false, z)) (c.sum_from.ensures ∙ ap (fold_of m.join c.args.before) (part_read item (c.args.to - c.args.from) c.args.from v.elements.now))
    ∙ sym (continued_summed m.join false c.args.before (slice_range (map item v.elements.now) c.args.from c.args.to))
    ∙ ap (fold_of (seg_join m.join) (false, c.args.before)) (flat_range (option_copied v.segments) (map item v.elements.now) c.args.from c.args.to (ap option_copied c.in-None.is))

pub returns-in-Some : goal.returns-in-Some
returns-in-Some g c =
    let v = c.args.self.now in
    c.sum_of_range.ensures
    ∙ ap (fold_of (seg_join g.M.Monoid.join) (false, c.args.before))
    (cut_range (option_copied v.segments) (map g.E.Reading.item v.elements.now) c.args.from c.args.to c.in-Some.d.now (ap option_copied c.in-Some.is))
