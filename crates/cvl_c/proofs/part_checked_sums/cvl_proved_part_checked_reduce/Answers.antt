use Rattle.std.proofs.Common.{w64}
use Rattle.std.proofs.lemmas.Int.{to_z-of_z}
use Rattle.cvl_c.proofs.part_checked_sums.cvl_proved_part_checked_reduce.Goals as goal

-- the word of a number is the number's
pub returns : goal.returns
returns c =
    c.told_over.ensures _ c.args.out.now c.part_checked_reduce.new.out (rw (to_z-of_z w64 c.args.behind c.ranges.behind) at c.part_checked_reduce.ensures)
