use Rattle.boards.specs.LeastBoards.{IsLeastSeatOf}
use Rattle.embedding.proofs.own_threads.Shared.work.Given as goal

abbrev pub invariant-loop : goal.invariant-loop
invariant-loop g l = IsLeastSeatOf l.self.board.now l.seat
