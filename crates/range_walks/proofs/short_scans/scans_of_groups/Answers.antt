use Rattle.range_walks.proofs.Cited.{rules, ◌≡◌, ◌+◌, ◌-◌, map, unsigned_abs, sum, ap, ◌∙◌, arith, scans_of, with_items}
use Rattle.range_walks.proofs.Segments.{range_lengths, range_read}
use Rattle.range_walks.proofs.WalksLeft.{scans_walked}
use Rattle.range_walks.proofs.short_scans.scans_of_groups.Goals as goal

pub total_of-total-requires : goal.total_of-total-requires
total_of-total-requires g c = search (rules, range_lengths)

pub scans_of_group-run-requires-clause-lengths : goal.scans_of_group-run-requires-clause-lengths
scans_of_group-run-requires-clause-lengths g c = search (rules, range_lengths)

pub loop-first-preserved : goal.loop-first-preserved
loop-first-preserved g c =
    let m = g.M.Monoid in
    let item = g.E.Reading.item in
    let row = c.args.lengths.now in
    let now = c.loop-first in
    let next = c.min-next.result in
    let k = next - now.first in
    let parts = c.split_at.result in
    let ends : next ≡ now.first + k = omega (arith, c.min-next.ensures, c.loop-first-test.true) in
    let read = range_read row (map unsigned_abs row) now.first k c.requires.lengths.none_negative in
    scans_walked m.join m.unit m.is_item item (map unsigned_abs row) c.args.xs.now c.args.run now.first now.rest.now now.run k c.total_of-total.result next parts.0.now parts.1.now
    c.scans_of_group-run.result c.min.result now.invariant ends (c.total_of-total.ensures ∙ ap sum read) c.min.ensures c.split_at.ensures.front c.split_at.ensures.back
    (c.scans_of_group-run.ensures ∙ ap (λ ls. with_items now.run (scans_of m.join m.unit ls (map item parts.0.now))) read)
