use Rattle.script_runs.specs.Ends.{EndsAs}
use Rattle.script_runs.specs.Meaning.{meaning}
use Rattle.shell.proofs.Performed.{closes}
use Rattle.shell.proofs.programs.run_script.Goals as goal

pub returns : goal.returns
returns g c =
    let ran = c.run_gated-answer.ensures in
    closes (EndsAs (meaning c.args.script.now c.args.inputs.items)) _ _ _ c.finish.result ran.written c.run_gated-answer.result ran.ends ran.shown c.finish.ensures
