use Rattle.crew.proofs.AllPieces.{all_pieces}
use Rattle.crew.proofs.piece_laws.pieces_law.Goals as goal

pub returns : goal.returns
returns g c = λ len tile items given pieces all once lengths. all_pieces len tile items lengths given pieces all once
