use Rattle.std.proofs.Common.{◌∙◌, ap, arith, map-id, subst}
use Rattle.cvl_base.specs.Rooms.{Overwrites}
use Rattle.combining_permutes.specs.CombiningPermutes.{combine_of}
use Rattle.long_sums.specs.LongSums.{long_sum_of}
use Rattle.exact_combines.proofs.Same.{combine_same}
use Rattle.exact_combines.proofs.exact.sums_over.Goals as goal

pub returns : goal.returns
returns c =
    let source = c.args.source.now in
    let index = c.args.index.now in
    let before = c.args.out.now in
    subst (λ meaning. Overwrites meaning c.combine_over.result before c.combine_over.new.out)
    (ap (λ xs. combine_of long_sum_of xs index before) (map-id source)
    ∙ combine_same source index before (omega (arith, c.requires.in_limit.0)) c.know_numbers.ensures c.requires.growing) c.combine_over.ensures
