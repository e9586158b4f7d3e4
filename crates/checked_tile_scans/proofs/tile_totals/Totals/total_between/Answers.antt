use Rattle.checked_tile_scans.proofs.Cited.{◌∙◌, length, ap, arith, option_copied, is_number, flagged, AllPass-from_list_all}
use Rattle.checked_tile_scans.proofs.SegmentTotals.{length-totals_before, parts_summed}
use Rattle.checked_tile_scans.proofs.tile_totals.Totals.total_between.Goals as goal

pub bounds-before-t : goal.bounds-before-t
bounds-before-t g c =
    let v = c.args.self.now in
    omega (arith, c.tile_at-t.ensures.within, ap length c.requires.known ∙ length-totals_before v.plan (flagged (option_copied v.segments) v.elements.now))

pub overflow_add-result : goal.overflow_add-result
overflow_add-result g c =
    let v = c.args.self.now in
    let ws = flagged (option_copied v.segments) v.elements.now in
    let from = ap (λ r. r.0) c.range-from.ensures.value in
    (parts_summed v.plan ws v.elements.now c.args.before.now c.tile_at-t.result c.args.start c.range-from.result.0 c.args.end c.total-own.result (omega (arith, v.few, v.whole))
    (AllPass-from_list_all is_number v.elements.now v.numbers) c.requires.known c.tile_at-t.ensures.within from c.if-start-from.true (omega (arith, c.tile_at-t.ensures.begun, from)) c.requires.open
    c.total-own.ensures).0

pub returns-then-start-from : goal.returns-then-start-from
returns-then-start-from g c =
    let v = c.args.self.now in
    let ws = flagged (option_copied v.segments) v.elements.now in
    let from = ap (λ r. r.0) c.range-from.ensures.value in
    (parts_summed v.plan ws v.elements.now c.args.before.now c.tile_at-t.result c.args.start c.range-from.result.0 c.args.end c.total-own.result (omega (arith, v.few, v.whole))
    (AllPass-from_list_all is_number v.elements.now v.numbers) c.requires.known c.tile_at-t.ensures.within from c.if-start-from.true (omega (arith, c.tile_at-t.ensures.begun, from)) c.requires.open
    c.total-own.ensures).1
