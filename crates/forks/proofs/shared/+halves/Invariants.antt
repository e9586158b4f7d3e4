use Rattle.std.proofs.Common.{◌+◌, ◌-◌, ◌*◌}
use Rattle.forks.proofs.shared.+halves.Given as goal

abbrev pub decreases-run_shared : goal.decreases-run_shared
decreases-run_shared g l = 4 * l.threads

abbrev pub decreases-run_both : goal.decreases-run_both
decreases-run_both g l = 4 * (l.fewer + l.others) - 1

abbrev pub decreases-run_both-run_first : goal.decreases-run_both-run_first
decreases-run_both-run_first g l = 4 * l.fewer + 1

abbrev pub decreases-run_both-run_second : goal.decreases-run_both-run_second
decreases-run_both-run_second g l = 4 * l.others + 1
