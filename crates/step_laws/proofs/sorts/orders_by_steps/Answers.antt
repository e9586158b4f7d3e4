use Rattle.step_laws.proofs.SortedBySteps.{ordered}
use Rattle.step_laws.proofs.sorts.orders_by_steps.Goals as goal

pub returns : goal.returns
returns c = λ start bits keyed placed moved last end numbers few found same places rooms first passes is last_rooms reads.
    ordered start bits numbers few found keyed placed moved last end same places rooms first passes is last_rooms reads
