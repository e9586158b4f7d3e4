use Rattle.call_laws.proofs.Cited.{refl, of_three}
use Rattle.call_laws.proofs.SegmentsInTwo.{by_segment, cut}
use Rattle.call_laws.proofs.TwoParts.{both}
use Rattle.flag_merges.specs.Merges.{segment_merge_of}
use Rattle.program_laws.proofs.Merging.{merge-two}
use Rattle.program_laws.proofs.merges.merges_in_parts.Goals as goal

pub returns : goal.returns
returns g c = record {
  whole = merge-two;
  segments = λ flags more xs others ys rest lengths later true_lengths true_later false_lengths false_later p q r also_p also_q also_r trues falses also_trues also_falses.
      by_segment (both (both (cut lengths later flags more p also_p refl refl) (cut true_lengths true_later xs others q also_q trues also_trues))
      (cut false_lengths false_later ys rest r also_r falses also_falses)) (of_three segment_merge_of);
}
