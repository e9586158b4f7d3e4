use Rattle.step_laws.proofs.AnyOrder.{in_any_order}
use Rattle.step_laws.proofs.TransposedBySteps.{transposed}
use Rattle.step_laws.specs.SenderSteps.{Turns}
use Rattle.step_laws.proofs.matrices.transposes_by_steps.Goals as goal

pub returns : goal.returns
returns g c = λ rows columns source start end shape few as_room at turns.
    transposed rows columns source start end shape few as_room at (in_any_order (Turns rows columns source) start end turns)
