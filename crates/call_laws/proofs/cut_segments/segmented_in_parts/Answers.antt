use Rattle.call_laws.proofs.SegmentsInTwo.{lists-between, values-between}
use Rattle.call_laws.proofs.TwoParts.{at_segment-lists, at_segment-two}
use Rattle.call_laws.proofs.cut_segments.segmented_in_parts.Goals as goal

pub returns : goal.returns
returns g c = record {
  values = λ call first others lengths more long. values-between first others lengths more long call;
  lists = λ call first others lengths more long. lists-between first others lengths more long call;
  values_at_segments = at_segment-two;
  lists_at_segments = at_segment-lists;
}
