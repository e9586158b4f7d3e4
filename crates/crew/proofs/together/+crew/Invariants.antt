use Rattle.std.proofs.Common.{◌+◌, ◌-◌, ◌*◌}
use Rattle.crew.proofs.together.+crew.Given as goal

abbrev pub decreases-run_from : goal.decreases-run_from
decreases-run_from g l = 3 * l.seats.len

abbrev pub decreases-run_both : goal.decreases-run_both
decreases-run_both g l = 3 * (l.seats.len + l.others.len) - 1

abbrev pub decreases-run_both-front : goal.decreases-run_both-front
decreases-run_both-front g l = 3 * l.seats.len + 1

abbrev pub decreases-run_both-back : goal.decreases-run_both-back
decreases-run_both-back g l = 3 * l.others.len + 1
