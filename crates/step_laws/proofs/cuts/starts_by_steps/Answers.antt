use Rattle.step_laws.proofs.AnyOrder.{in_any_order}
use Rattle.step_laws.proofs.StartsBySteps.{even-starts-told}
use Rattle.step_laws.specs.LengthSteps.{Measures}
use Rattle.step_laws.proofs.cuts.starts_by_steps.Goals as goal

pub returns : goal.returns
returns c = λ lengths segments start measured len before places are some shares first told.
    even-starts-told start measured lengths segments len before places are some shares (in_any_order Measures start measured first) told
