use Rattle.cvl_base.specs.Lists.{joined}
use Rattle.step_laws.proofs.AnyOrder.{in_any_order}
use Rattle.step_laws.proofs.PartCalls.{exactly, into, over}
use Rattle.step_laws.specs.SegmentCalls.{Makes, MakesOver}
use Rattle.step_laws.proofs.segments.segment_calls_by_steps.Goals as goal

pub returns : goal.returns
returns g c = record {
  into = λ call whole start end made makes. into call whole start end made (in_any_order (Makes call) start end makes);
  over = λ call whole start end made makes. over call whole start end made (in_any_order (MakesOver call) start end makes);
  exactly = λ call whole parts ys made is. exactly joined whole call parts ys made is;
}
