use Rattle.std.proofs.Common.{◌+◌, ◌-◌, ◌*◌}
use Rattle.segment_sends.proofs.shared_walk.+halves.Given as goal

abbrev pub decreases-write_shared : goal.decreases-write_shared
decreases-write_shared g l = 4 * l.threads

abbrev pub decreases-write_both : goal.decreases-write_both
decreases-write_both g l = 4 * (l.fewer + l.others) - 1

abbrev pub decreases-write_both-write_front : goal.decreases-write_both-write_front
decreases-write_both-write_front g l = 4 * l.fewer + 1

abbrev pub decreases-write_both-write_back : goal.decreases-write_both-write_back
decreases-write_both-write_back g l = 4 * l.others + 1
