use Rattle.std.proofs.Common.{Some, refl, arith}
use Rattle.clap.specs.Walk.{texts}
use Rattle.script_runs.specs.declared.stop.Stop.TheVariants as stop
use Rattle.shell.proofs.Explained.{stops_and_explains}
use Rattle.shell.proofs.explaining.run_explained.Goals as goal

pub returns-in-Err : goal.returns-in-Err
returns-in-Err g c =
    let starved = c.starve.ensures.explaining refl in
    stops_and_explains (texts c.args.words.now.inputs.items) c.args.script.now c.args.inputs.items _ starved.0 _ c.starve.result (stop.NoResources 0) (Some _)
    (record { reached = omega arith; beginning = (0, refl) }) refl starved.1 refl starved.2
