use Rattle.script_runs.proofs.Underway.{refused_line}
use Rattle.script_runs.proofs.runs.run_write.Goals as goal

pub returns-in-Err : goal.returns-in-Err
returns-in-Err g c = λ meaning names gives.
    rw c.stop_of.ensures
    (refused_line c.args.number c.in-Err.refused meaning names _ (λ f is. rw (c.in-Err.is, is) at gives))
