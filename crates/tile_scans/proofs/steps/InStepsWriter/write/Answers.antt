use Rattle.tile_scans.proofs.WrittenParts.{more_written}
use Rattle.tile_scans.proofs.steps.InStepsWriter.write.Goals as goal

pub loop-run-preserved : goal.loop-run-preserved
loop-run-preserved g c =
    let step = c.write_on-run.ensures in
    (more_written (g.S.Steps.whole c.args.self.now.steps.now) c.args.run c.requires.within c.loop-run.run c.write_on-run.result step.count step.fits c.loop-run.invariant step.is).1
