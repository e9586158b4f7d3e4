use Rattle.call_laws.proofs.Cited.{◌≡◌, ◌∷◌, ◌>>=◌, refl, [], Ok, Err, Result, element_at, extract_of, replace_of, Fault, with_element_at}
use Rattle.std.specs.Result.{result_map_both}
use Rattle.cvl_base.specs.declared.fault.FaultNo.TheVariants as no
use Rattle.call_laws.proofs.Segments.{alone, nest_one}
use Rattle.call_laws.proofs.TwoParts.{at_its_place}
use Rattle.call_laws.proofs.segmented.one_segment_changed.Goals as goal

in_a_list : {X : Type 0} (r : Result X Fault) → (r >>= λ x. Ok [] >>= λ xs. Ok (x ∷ xs)) ≡ result_map_both (λ x. x ∷ []) (λ f. f) r
in_a_list (Ok x) = refl
in_a_list (Err f) = refl

-- where a fault of one segment stands at the segment, its place is 0 as the flat one's
pub returns : goal.returns
returns g c = record {
  extract = λ xs index. rw (nest_one xs, at_its_place no.IndexOutOfRange 0 (element_at xs index)) (in_a_list (extract_of xs index));
  replace = λ xs index value. rw (nest_one xs, at_its_place no.IndexOutOfRange 0 (with_element_at xs index value)) (alone (replace_of xs index value));
}
