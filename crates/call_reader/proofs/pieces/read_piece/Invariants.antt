use Rattle.call_reader.proofs.Cited.{◌≡◌, ◌+◌, ◌++◌, length, map, option_or, first_without, numbers_of, or_zero}
use Rattle.fresh.specs.Places.{stretch}
use Rattle.call_reader.proofs.pieces.read_piece.Given as goal

abbrev pub invariant-loop-token : goal.invariant-loop-token
invariant-loop-token l = record {
  room : l.run.room ≡ length (numbers_of l.rest);
  so_far : stretch l.run.block l.run.first (l.run.items ++ map or_zero (numbers_of l.rest)) 0 ≡ stretch l.fn.run.block l.fn.run.first (map or_zero (numbers_of l.bytes)) 0;
  wrong : option_or l.wrong (first_without (l.run.first + length l.run.items) (numbers_of l.rest)) ≡ first_without l.fn.run.first (numbers_of l.bytes);
}

abbrev pub decreases-loop-token : goal.decreases-loop-token
decreases-loop-token l = length l.rest
