use Rattle.tile_scans.proofs.WrittenParts.{IsWrittenPart}
use Rattle.tile_scans.proofs.steps.InStepsWriter.write.Given as goal

abbrev pub invariant-loop-run : goal.invariant-loop-run
invariant-loop-run g l = IsWrittenPart (g.S.Steps.whole l.self.steps.now) l.fn.run l.run

abbrev pub decreases-loop-run : goal.decreases-loop-run
decreases-loop-run g l = l.run.room
