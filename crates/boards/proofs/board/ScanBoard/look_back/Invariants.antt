use Rattle.boards.proofs.Cited.{◌≡◌, ◌≤◌, between_tiles}
use Rattle.boards.specs.Boards.{IsSeatOf}
use Rattle.boards.specs.Walks.{IsWalk}
use Rattle.boards.proofs.board.ScanBoard.look_back.Given as goal

-- the tiles from `at` on are added up, and the prefix of none of them was published
abbrev pub invariant-loop-at : goal.invariant-loop-at
invariant-loop-at g l =
    (l.at ≤ l.t)
    × IsSeatOf l.self l.seat
    × (l.seat.is_done ≡ l.fn.seat.is_done)
    × (l.after ≡ between_tiles g.T.M.Monoid.join g.T.M.Monoid.unit l.self.sums l.at l.t)
    × IsWalk l.t l.at l.fn.seat.pass l.seat.pass

abbrev pub decreases-loop-at : goal.decreases-loop-at
decreases-loop-at g l = l.at
