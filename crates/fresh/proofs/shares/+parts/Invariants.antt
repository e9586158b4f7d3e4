use Rattle.fresh.proofs.Cited.{◌+◌, ◌-◌, ◌*◌}
use Rattle.fresh.proofs.shares.+parts.Given as goal

abbrev pub decreases-write_whole : goal.decreases-write_whole
decreases-write_whole g l = 4 * g.S.Share.parts l.share

abbrev pub decreases-write_both : goal.decreases-write_both
decreases-write_both g l = 4 * (g.S.Share.parts l.low + g.S.Share.parts l.high) - 1

abbrev pub decreases-write_both-write_front : goal.decreases-write_both-write_front
decreases-write_both-write_front g l = 4 * g.S.Share.parts l.low + 1

abbrev pub decreases-write_both-write_back : goal.decreases-write_both-write_back
decreases-write_both-write_back g l = 4 * g.S.Share.parts l.high + 1
