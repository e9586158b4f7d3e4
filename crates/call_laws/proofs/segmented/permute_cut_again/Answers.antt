use Rattle.call_laws.proofs.Cited.{◌∙◌, length, zip, count_of, simple_of, back_of, select_of, default_of, in_vector, of_two, of_three}
use Rattle.call_laws.proofs.BackPermutes.{back-meaning}
use Rattle.call_laws.proofs.CutResults.{counts-given, cut-three, cut-two, has-lengths, map-seconds}
use Rattle.call_laws.proofs.Selecting.{select-meaning}
use Rattle.call_laws.proofs.Sending.{default-meaning, simple-meaning}
use Rattle.call_laws.proofs.segmented.permute_cut_again.Goals as goal

pub returns : goal.returns
returns g c = record {
  simple = λ source result index lengths sources indices cut cut_index p.
      cut-two (in_vector lengths) (of_two simple_of) (λ s. length s.1) (λ s r q. ((simple-meaning s.0 s.1 r).0 q).as_long) lengths result cut cut_index
      (λ same. map-seconds length sources indices same ∙ has-lengths lengths index indices cut_index) p;
  back = λ source result index source_lengths index_lengths sources indices cut cut_index p.
      cut-two (in_vector index_lengths) (of_two back_of) (λ s. length s.1) (λ s r q. ((back-meaning s.0 s.1 r).0 q).as_long) index_lengths result cut cut_index
      (λ same. map-seconds length sources indices same ∙ has-lengths index_lengths index indices cut_index) p;
  select = λ source result index flags lengths counts sources indices flag_lists cut cut_index cut_flags counted p.
      cut-three (in_vector lengths) (of_three select_of) (λ s. count_of s.1) (λ s r q. ((select-meaning s.0.0 s.0.1 s.1 r).0 q).as_long) counts result cut cut_index cut_flags
      (λ _ same. map-seconds count_of (zip sources indices) flag_lists same ∙ counts-given flags lengths counts flag_lists cut_flags counted) p;
  default_into = λ source defaults result index source_lengths default_lengths sources default_lists indices cut cut_index cut_defaults p.
      cut-three (in_vector source_lengths) (of_three default_of) (λ s. length s.1) (λ s r q. ((default-meaning s.0.0 s.0.1 s.1 r).0 q).as_long) default_lengths result cut cut_index cut_defaults
      (λ _ same. map-seconds length (zip sources indices) default_lists same ∙ has-lengths default_lengths defaults default_lists cut_defaults) p;
}
