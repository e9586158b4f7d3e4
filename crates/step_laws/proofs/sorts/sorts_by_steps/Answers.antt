use Rattle.step_laws.proofs.SortedBySteps.{sorted}
use Rattle.step_laws.proofs.sorts.sorts_by_steps.Goals as goal

pub returns : goal.returns
returns c = λ start bits room after numbers few long found passes. sorted start bits numbers few found room after long passes
