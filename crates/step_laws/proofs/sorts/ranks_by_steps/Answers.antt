use Rattle.step_laws.proofs.SortedBySteps.{ranked}
use Rattle.step_laws.proofs.sorts.ranks_by_steps.Goals as goal

pub returns : goal.returns
returns c = λ keys order before start end few told long places finds. ranked keys order before start end (c.know_rank.ensures.of_order keys) few told long places finds
