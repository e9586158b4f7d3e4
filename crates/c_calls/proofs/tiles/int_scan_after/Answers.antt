use Rattle.std.proofs.Common.{w32}
use Rattle.std.proofs.lemmas.Int.{to_z-of_z}
use Rattle.c_calls.proofs.tiles.int_scan_after.Goals as goal

-- the word of a number is the number's
pub returns : goal.returns
returns c = rw (to_z-of_z w32 c.args.before c.ranges.before) at c.int_scan_after_ref.ensures
