use Rattle.call_laws.proofs.Cited.{◌≡◌, ℕ, ℤ, List, length, pos, negsuc, slice_get, sym, arith, Some, false≢true, element_at, all_destinations, all_take_part, IsSimplePermute}
use Rattle.call_laws.proofs.BackPermutes.{back-meaning}
use Rattle.call_laws.proofs.Destinations.{each_is_destination}
use Rattle.call_laws.proofs.Sending.{index-here, sent-from_simple, simple-meaning}
use Rattle.call_laws.proofs.permuted.simple_permute_law.Goals as goal

-- an index in range has an element
element-sent : {X : Type 0} (source : List X) (index : List ℤ) (result : List X) → IsSimplePermute source index result → (k : ℕ) (i : ℤ) → slice_get index k ≡ Some i
    → slice_get source k ≡ element_at result i
element-sent source index result is k (pos d) here = sym (is.sent k d here)
element-sent source index result is k (negsuc d) here = absurd (false≢true (is.within k (negsuc d) here))

pub returns : goal.returns
returns g c = record {
  meaning = simple-meaning;
  onto = λ source index result p d within.
      let is = (simple-meaning source index result).0 p in
      let sender = each_is_destination (length index) (all_destinations index) (sent-from_simple source index result is).right (all_take_part index) d (omega (arith, is.as_long)) in
      (sender.0, index-here index sender.0 (pos d) sender.1);
  back_again = λ source index result p.
      let is = (simple-meaning source index result).0 p in
      (back-meaning result index source).1 (record { as_long = is.one_index_each; taken = element-sent source index result is });
}
