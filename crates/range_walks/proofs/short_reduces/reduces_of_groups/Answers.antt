use Rattle.range_walks.proofs.Cited.{rules, ◌≡◌, ◌+◌, ◌-◌, ◌≤◌, length, map, unsigned_abs, sum, ap, ◌∙◌, arith, length-map, reduces_of, with_items}
use Rattle.range_walks.proofs.Segments.{range_left, range_lengths, range_read}
use Rattle.range_walks.proofs.WalksLeft.{reduces_walked}
use Rattle.range_walks.proofs.short_reduces.reduces_of_groups.Goals as goal

pub total_of-requires : goal.total_of-requires
total_of-requires g c = search (rules, range_lengths)

pub split_at-requires : goal.split_at-requires
split_at-requires g c =
    let row = c.args.lengths.now in
    let first = c.loop-first.first in
    let next = c.min-next.result in
    let read = range_read row (map unsigned_abs row) first (next - first) c.requires.lengths.none_negative in
    let ends : next ≡ first + (next - first) = omega (arith, c.min-next.ensures, c.loop-first-test.true) in
    omega (arith, c.total_of.ensures, ap sum read, range_left (map unsigned_abs row) first (next - first) next ends, c.loop-first.invariant.covered)

pub reduces_of_group-run-requires-clause-lengths : goal.reduces_of_group-run-requires-clause-lengths
reduces_of_group-run-requires-clause-lengths g c = search (rules, range_lengths)

pub loop-first-preserved : goal.loop-first-preserved
loop-first-preserved g c =
    let m = g.M.Monoid in
    let item = g.E.Reading.item in
    let row = c.args.lengths.now in
    let now = c.loop-first in
    let next = c.min-next.result in
    let k = next - now.first in
    let parts = c.split_at.result in
    let ends : next ≡ now.first + k = omega (arith, c.min-next.ensures, c.loop-first-test.true) in
    let within : next ≤ length (map unsigned_abs row) = omega (arith, c.min-next.ensures, length-map row unsigned_abs) in
    let read = range_read row (map unsigned_abs row) now.first k c.requires.lengths.none_negative in
    reduces_walked m.join m.unit m.is_item item (map unsigned_abs row) c.args.xs.now c.args.run now.first now.rest.now now.run k c.total_of.result next parts.0.now parts.1.now
    c.reduces_of_group-run.result now.invariant ends within (c.total_of.ensures ∙ ap sum read) c.split_at.ensures.front c.split_at.ensures.back
    (c.reduces_of_group-run.ensures ∙ ap (λ ls. with_items now.run (reduces_of m.join m.unit ls (map item parts.0.now))) read)
