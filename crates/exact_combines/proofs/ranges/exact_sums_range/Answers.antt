use Rattle.std.proofs.Common.{◌∙◌, ap, map-id, zip}
use Rattle.combining_permutes.specs.CombiningPermutes.{combined}
use Rattle.long_sums.specs.LongSums.{long_sum_of}
use Rattle.exact_combines.proofs.Same.{pairs_same}
use Rattle.exact_combines.proofs.ranges.exact_sums_range.Goals as goal

pub returns-clause-joined : goal.returns-clause-joined
returns-clause-joined c =
    let source = c.args.source.now in
    let index = c.args.index.now in
    c.combine_range.ensures.joined
    ∙ ap (λ xs. combined long_sum_of (zip index xs) c.args.lowest c.args.out.now) (map-id source)
    ∙ pairs_same source index c.args.lowest c.args.out.now c.requires.in_limit c.know_numbers.ensures c.requires.growing
