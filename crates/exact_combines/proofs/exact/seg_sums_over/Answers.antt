use Rattle.std.proofs.Common.{◌∙◌, ap, map-id, subst}
use Rattle.cvl_base.specs.Rooms.{Overwrites}
use Rattle.combining_permutes.specs.CombiningPermutes.{seg_combine_of}
use Rattle.long_sums.specs.LongSums.{long_sum_of}
use Rattle.exact_combines.proofs.Same.{seg_combine_same}
use Rattle.exact_combines.proofs.exact.seg_sums_over.Goals as goal

pub returns : goal.returns
returns c =
    let source = c.args.source.now in
    let index = c.args.index.now in
    let before = c.args.out.now in
    subst (λ meaning. Overwrites meaning c.seg_combine_over.result before c.seg_combine_over.new.out)
    (ap (λ xs. seg_combine_of long_sum_of xs index c.args.d.now c.args.room_d.now before) (map-id source)
    ∙ seg_combine_same source index before c.args.d.now c.args.room_d.now c.requires.in_limit c.know_numbers.ensures c.requires.growing) c.seg_combine_over.ensures
