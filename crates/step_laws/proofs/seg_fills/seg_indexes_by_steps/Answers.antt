use Rattle.step_laws.proofs.AnyOrder.{in_any_order}
use Rattle.step_laws.proofs.FilledByNumbers.{indexes}
use Rattle.step_laws.specs.FillSteps.{Numbers}
use Rattle.step_laws.proofs.seg_fills.seg_indexes_by_steps.Goals as goal

pub returns : goal.returns
returns c = λ lengths segments steps start end is are are_done step. indexes lengths segments steps start end is are are_done (in_any_order Numbers start end step)
