use Rattle.step_laws.proofs.SortPass.{pass_is}
use Rattle.step_laws.proofs.sorts.pass_by_steps.Goals as goal

pub returns : goal.returns
returns g c = λ key pass start end below few steps. pass_is key pass below start end few steps
