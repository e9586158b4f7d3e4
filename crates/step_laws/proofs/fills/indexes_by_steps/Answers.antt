use Rattle.step_laws.proofs.AnyOrder.{in_any_order}
use Rattle.step_laws.proofs.RoomFilled.{indexes}
use Rattle.step_laws.specs.RoomFills.{NumbersOf}
use Rattle.step_laws.proofs.fills.indexes_by_steps.Goals as goal

pub returns : goal.returns
returns c = λ init stride start end few are step. indexes init stride start end few are (in_any_order (NumbersOf init stride) start end step)
