use Rattle.boards.specs.Boards.{IsSeatOf}
use Rattle.test_sharing.proofs.scan_boards.work.Given as goal

abbrev pub invariant-loop-claim : goal.invariant-loop-claim
invariant-loop-claim g l = IsSeatOf l.board l.seat
