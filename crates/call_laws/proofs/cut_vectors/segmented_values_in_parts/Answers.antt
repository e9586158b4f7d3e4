use Rattle.call_laws.proofs.Cited.{pos, refl, distribute_within, index_within, extract_of, replace_of, of_three, of_two}
use Rattle.call_laws.proofs.SegmentsInTwo.{by_segment, cut, in_order, values_by_segment}
use Rattle.call_laws.proofs.TwoParts.{both, listed}
use Rattle.call_laws.proofs.cut_vectors.segmented_values_in_parts.Goals as goal

pub returns : goal.returns
returns g c = record {
  distribute = λ most lengths later values more p q.
      in_order (both (listed values more p q) (listed lengths later refl refl)) (of_two (λ value n. distribute_within most value (pos n))) lengths later refl;
  index = λ most lengths later inits more strides others p q r s.
      in_order (both (both (listed inits more p r) (listed strides others q s)) (listed lengths later refl refl))
      (of_three (λ init stride n. index_within most init stride (pos n))) lengths later refl;
  extract = λ lengths later xs more index others total also_total p q.
      values_by_segment (both (cut lengths later xs more total also_total refl refl) (listed index others p q)) (of_two extract_of);
  replace = λ lengths later xs more index others total also_total p q values more_values r s.
      by_segment (both (both (cut lengths later xs more total also_total refl refl) (listed index others p q)) (listed values more_values r s)) (of_three replace_of);
}
