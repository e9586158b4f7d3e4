use Rattle.std.proofs.Common.{w32}
use Rattle.std.proofs.lemmas.Int.{to_z-of_z}
use Rattle.cvl_c.proofs.part_fills.cvl_proved_part_numbers.Goals as goal

-- the words of the numbers are the numbers
pub returns : goal.returns
returns c =
    c.told_over.ensures _ c.args.out.now c.numbers_after_over.new.out
    (rw (to_z-of_z w32 c.args.init c.ranges.init, to_z-of_z w32 c.args.stride c.ranges.stride) at c.numbers_after_over.ensures)
