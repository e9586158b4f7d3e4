use Rattle.std.proofs.Common.{pos, false}
use Rattle.step_laws.proofs.AnyOrder.{in_any_order}
use Rattle.step_laws.proofs.FilledByCopies.{distributes}
use Rattle.step_laws.specs.FillSteps.{Copies}
use Rattle.step_laws.proofs.seg_fills.seg_distributes_by_steps.Goals as goal

pub returns : goal.returns
returns c = record {
  integers = λ lengths segments values start end is are step. distributes (pos 0) lengths segments values start end is are (in_any_order Copies start end step);
  booleans = λ lengths segments values start end is are step. distributes false lengths segments values start end is are (in_any_order Copies start end step);
}
