use Rattle.std.proofs.Common.{w64}
use Rattle.std.proofs.lemmas.Int.{to_z-of_z}
use Rattle.cvl_c.proofs.parts.cvl_proved_checked_scan_after.Goals as goal

-- the word of a number is the number's
pub returns : goal.returns
returns c =
    c.told_over.ensures _ c.args.out.now c.checked_scan_from.new.out (rw (to_z-of_z w64 c.args.before c.ranges.before) at c.checked_scan_from.ensures)
