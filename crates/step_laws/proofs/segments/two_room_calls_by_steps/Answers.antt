use Rattle.step_laws.proofs.AnyOrder.{in_any_order}
use Rattle.step_laws.proofs.PartCalls.{exactly, over-both}
use Rattle.step_laws.specs.SegmentCalls.{MakesOverBoth, both_joined}
use Rattle.step_laws.proofs.segments.two_room_calls_by_steps.Goals as goal

pub returns : goal.returns
returns g c = record {
  over = λ call whole start end made makes. over-both call whole start end made (in_any_order (MakesOverBoth call) start end makes);
  exactly = λ call whole parts rooms made is. exactly both_joined whole call parts rooms made is;
}
