use Rattle.call_reader.proofs.Cited.{rules, length-map}
use Rattle.std.proofs.Math.Facts.{Fits-below}
use Rattle.call_reader.proofs.PieceWalk.{wrong_within}
use Rattle.call_reader.proofs.piece_reads.read_by_several.Goals as goal

pub overflow_cast-place : goal.overflow_cast-place
overflow_cast-place g c = search (rules, wrong_within, length-map, Fits-below)
