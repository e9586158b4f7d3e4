use Rattle.std.proofs.Common.{IsTrue, map}
use Rattle.boards.specs.Passes.{times}
use Rattle.crew.specs.Facts.{HasFacts}
use Rattle.crew.specs.Pieces.{ArePiecesOf}
use Rattle.crew.proofs.Left.{left}
use Rattle.crew.proofs.worker.take_tiles.Given as goal

abbrev pub invariant-loop-t : goal.invariant-loop-t
invariant-loop-t g l =
    g.W.Work.IsSeat l.work l.seat
    × HasFacts (g.W.Work.HasFact l.work) g.W.Work.given l.seat
    × (IsTrue l.with_pieces → ArePiecesOf (g.W.Work.count l.work) (g.W.Work.items l.work) (λ t. times t (g.W.Work.given l.seat))
    (map (λ p. (p.tile, p.items.items)) l.pieces.items))

abbrev pub decreases-loop-t : goal.decreases-loop-t
decreases-loop-t g l = left (g.W.Work.count l.work) (g.W.Work.given l.seat)
