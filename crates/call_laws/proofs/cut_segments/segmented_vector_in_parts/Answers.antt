use Rattle.call_laws.proofs.Cited.{◌∙◌, ap, refl, nest, end_to_end, in_vector, one_each, in_two}
use Rattle.call_laws.proofs.SegmentsInTwo.{cut, in_order, values_in_order}
use Rattle.call_laws.proofs.cut_segments.segmented_vector_in_parts.Goals as goal

pub returns : goal.returns
returns g c = record {
  values = λ call xs ys lengths more total also_total.
      values_in_order (cut lengths more xs ys total also_total refl refl) call lengths more refl
      ∙ ap (λ n. in_two n (one_each (in_vector lengths) call (nest lengths xs)) (one_each (in_vector more) call (nest more ys))) total;
  lists = λ call xs ys lengths more total also_total.
      in_order (cut lengths more xs ys total also_total refl refl) call lengths more refl
      ∙ ap (λ n. in_two n (end_to_end (in_vector lengths) call (nest lengths xs)) (end_to_end (in_vector more) call (nest more ys))) total;
}
