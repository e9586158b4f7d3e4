use Rattle.tile_scans.proofs.Cited.{◌-◌, ◌≤◌, map, arith, rules, sym, ap, ◌∙◌, option_copied, part, with_items, range_scan_of}
use Rattle.tile_scans.specs.TiledSums.{flagged}
use Rattle.tile_scans.proofs.Flagged.{length-scanned}
use Rattle.tile_scans.proofs.RangeScans.{part_scanned}
use Rattle.tile_scans.proofs.scans_after_befores.KnownBeforesStepsItem.write_on.Goals as goal

pub overflow_cast-at : goal.overflow_cast-at
overflow_cast-at g c =
    let v = c.args.self.now.vector.now in
    let long = length-scanned g.E.Reading.item (option_copied v.segments) v.elements.now v.agrees g.M.Monoid.join g.M.Monoid.unit in
    let small : c.next_place-at.result ≤ 4194304 = omega (arith, c.next_place-at.ensures.place, c.requires.within, long, v.whole, v.few) in
    search (rules, small)

pub tile_at-t-requires : goal.tile_at-t-requires
tile_at-t-requires g c =
    let v = c.args.self.now.vector.now in
    let long = length-scanned g.E.Reading.item (option_copied v.segments) v.elements.now v.agrees g.M.Monoid.join g.M.Monoid.unit in
    omega (arith, c.next_place-at.ensures.place, c.requires.some, c.requires.within, long, v.whole)

pub returns : goal.returns
returns g c =
    let m = g.M.Monoid in
    let v = c.args.self.now.vector.now in
    let ws = flagged (option_copied v.segments) (map g.E.Reading.item v.elements.now) in
    let run = c.args.run in
    let at = c.next_place-at.result in
    let n = c.min-end.result - at in
    record {
      count = n;
      some = omega (arith, c.min-end.ensures, c.room.ensures, c.requires.some, c.tile_at-t.ensures.not_past, ap (λ r. r.1) c.range-end.ensures.value);
      fits = omega (arith, c.min-end.ensures, c.room.ensures);
      is = c.scan_between.ensures
          ∙ ap (λ b. with_items run (range_scan_of m.join m.unit b (part ws at n))) c.before_place-before.ensures.value
          ∙ ap (with_items run) (sym (part_scanned m.join m.unit at n ws))
          ∙ ap (λ p. with_items run (part (range_scan_of m.join m.unit m.unit ws) p n)) c.next_place-at.ensures.place;
    }
