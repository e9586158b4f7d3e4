use Rattle.std.specs.Prelude.{None, Some, IfSome, slice_index_or}
use Rattle.std.proofs.Common.{◌≡◌, ◌<◌, ◌≤◌, ℕ}
use Rattle.least_boards.specs.LeastBoards.{IsLeastSeatOf}
use Rattle.least_boards.specs.LeastPasses.{lowered_in}
use Rattle.least_races.specs.Facts.{HasGoneOn, HasLowered}
use Rattle.least_races.proofs.least_work.LeastWork.lower_each.Given as goal

abbrev pub invariant-loop-place : goal.invariant-loop-place
invariant-loop-place g l = record {
  seat : IsLeastSeatOf l.self.board l.seat;
  gone_on : HasGoneOn l.fn.seat l.seat;
  begun : l.from ≤ l.place;
  own : HasLowered l.from l.place l.fn.seat.pass l.seat.pass;
  last : IfSome l.last (λ s. lowered_in s l.seat.pass ≤ l.place);
  lowered : (place slot : ℕ) → l.from ≤ place → place < l.place → slice_index_or l.self.board.targets place None ≡ Some slot → lowered_in slot l.seat.pass ≤ place;
}
