use Rattle.std.proofs.Common.{◌∙◌, ◌+ℤ◌, ap, length, pos, replicate}
use Rattle.combining_permutes.specs.CombiningPermutes.{combine_of}
use Rattle.exact_combines.specs.ExactCombines.{exact_sums_of}
use Rattle.combine_parts.proofs.Zeros.{answers_same, sums_from_zeros}
use Rattle.combine_parts.proofs.own_rooms.add_own.Goals as goal

pub returns : goal.returns
returns c =
    let source = c.args.source.now in let index = c.args.index.now in let n = length c.args.room.now in
    let zeros = replicate n (pos 0) in
    answers_same (exact_sums_of source index c.fill_by.new.room) (combine_of ◌+ℤ◌ source index zeros) c.fill_by.new.room c.exact_sums_over.new.out
    (ap (exact_sums_of source index) c.fill_by.ensures ∙ sums_from_zeros source index n) c.exact_sums_over.result c.exact_sums_over.ensures
