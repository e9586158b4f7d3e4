use Rattle.step_laws.proofs.SumFaults.{growth_fails}
use Rattle.step_laws.proofs.combines.growth_faults.Goals as goal

pub returns : goal.returns
returns c = λ k shares own source index left status here few few_places told fails.
    growth_fails shares k own here source index few few_places status left told fails
