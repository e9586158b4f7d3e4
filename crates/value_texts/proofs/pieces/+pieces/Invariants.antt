use Rattle.std.proofs.Common.{◌+◌, ◌-◌, ◌*◌, length}
use Rattle.value_texts.proofs.pieces.+pieces.Given as goal

abbrev pub decreases-write_pieces : goal.decreases-write_pieces
decreases-write_pieces g l = 4 * length l.pieces.now

abbrev pub decreases-write_both : goal.decreases-write_both
decreases-write_both g l = 4 * (length l.low.now + length l.high.now) - 1

abbrev pub decreases-write_both-write_low : goal.decreases-write_both-write_low
decreases-write_both-write_low g l = 4 * length l.low.now + 1

abbrev pub decreases-write_both-write_high : goal.decreases-write_both-write_high
decreases-write_both-write_high g l = 4 * length l.high.now + 1
