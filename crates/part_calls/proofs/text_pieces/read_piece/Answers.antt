use Rattle.part_calls.proofs.Placed.{placed}
use Rattle.part_calls.proofs.text_pieces.read_piece.Goals as goal

pub moved-requires-clause-within : goal.moved-requires-clause-within
moved-requires-clause-within g c = placed c.args.text.now c.in-Err-Fault.fault (rw c.in-Err-Fault.field-0-is at c.in-Err-Fault.ensures.values)
