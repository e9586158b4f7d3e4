use Rattle.step_laws.proofs.AnyOrder.{in_any_order}
use Rattle.step_laws.proofs.RoomFilled.{distributes}
use Rattle.step_laws.specs.RoomFills.{CopiesOf}
use Rattle.step_laws.proofs.fills.distributes_by_steps.Goals as goal

pub returns : goal.returns
returns g c = λ value start end few step. distributes value start end few (in_any_order (CopiesOf value) start end step)
