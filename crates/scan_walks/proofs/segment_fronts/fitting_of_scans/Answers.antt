use Rattle.scan_walks.proofs.Cited.{rules, ◌∙◌, ◌-◌, ◌+ℤ◌, pos, map, unsigned_abs, ap, arith, sum, scans_of, range_lengths, range_read, fitting_front}
use Rattle.scan_walks.proofs.FrontLaws.{segments_go_on, segments_stop}
use Rattle.scan_walks.proofs.segment_fronts.fitting_of_scans.Goals as goal

pub extent_of-total-requires : goal.extent_of-total-requires
extent_of-total-requires c = search (rules, range_lengths)

pub fitting_of_group-fitting-requires-clause-lengths : goal.fitting_of_group-fitting-requires-clause-lengths
fitting_of_group-fitting-requires-clause-lengths c = search (rules, range_lengths)

pub returns-then-fitting-elements-clause-front : goal.returns-then-fitting-elements-clause-front
returns-then-fitting-elements-clause-front c =
    let row = c.args.lengths.now in let first = c.loop-first.first in let next = c.min-next.result in let k = next - first in let group = c.split_at.result.0.now in
    let read = range_read row (map unsigned_abs row) first k c.requires.lengths.none_negative in
    segments_stop c.loop-first.invariant k c.extent_of-total.result.0 next (omega (arith, c.min-next.ensures, c.loop-first-test.true)) (c.extent_of-total.ensures.total ∙ ap sum read)
    _ group c.split_at.result.1.now c.min.ensures c.split_at.ensures.front c.split_at.ensures.back c.fitting_of_group-fitting.result
    (c.fitting_of_group-fitting.ensures.front ∙ ap (λ ls. fitting_front (scans_of ◌+ℤ◌ (pos 0) ls group)) read) c.if-fitting-elements.true

pub loop-first-preserved : goal.loop-first-preserved
loop-first-preserved c =
    let row = c.args.lengths.now in let first = c.loop-first.first in let next = c.min-next.result in let k = next - first in let group = c.split_at.result.0.now in
    let read = range_read row (map unsigned_abs row) first k c.requires.lengths.none_negative in
    segments_go_on c.loop-first.invariant k c.extent_of-total.result.0 next (omega (arith, c.min-next.ensures, c.loop-first-test.true)) (c.extent_of-total.ensures.total ∙ ap sum read)
    _ group c.split_at.result.1.now c.min.ensures c.split_at.ensures.front c.split_at.ensures.back c.fitting_of_group-fitting.result
    (c.fitting_of_group-fitting.ensures.front ∙ ap (λ ls. fitting_front (scans_of ◌+ℤ◌ (pos 0) ls group)) read) _ (omega (arith, c.if-fitting-elements.false)) (omega arith)
