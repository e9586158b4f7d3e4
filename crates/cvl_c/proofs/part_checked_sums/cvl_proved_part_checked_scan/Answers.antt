use Rattle.std.proofs.Common.{w64}
use Rattle.std.proofs.lemmas.Int.{to_z-of_z}
use Rattle.cvl_c.proofs.part_checked_sums.cvl_proved_part_checked_scan.Goals as goal

-- the word of a number is the number's
pub returns : goal.returns
returns c =
    c.told_over.ensures _ c.args.out.now c.part_checked_scan.new.out (rw (to_z-of_z w64 c.args.before c.ranges.before) at c.part_checked_scan.ensures)
