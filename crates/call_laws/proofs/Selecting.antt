-- What a select permute gives where no place that takes part is bad.
use Rattle.call_laws.proofs.Cited.{rules, ◌≡◌, ◌∷◌, ◌↔◌, ℕ, zero, suc, Bool, true, false, List, [], length, refl, arith, ℤ, pos, slice_get, Some, None, Ok, none-some, same_Some, if_as_long}
use Rattle.call_laws.proofs.Cited.{count_of, flagged_destinations, select_of, sent_to_all, if_as_long-fits, length-flagged_destinations, flagged_take_part, destination_if, IsSelectPermute}
use Rattle.call_laws.proofs.Sending.{IsSent, if_as_long-Ok, sent_to_all-meaning}
use Rattle.call_laws.proofs.Destinations.{inside, once-from_right, right-from_once}

-- a place takes part where its flag is true
pub flagged-here : (index : List ℤ) (flags : List Bool) (k : ℕ) (i : ℤ) → slice_get flags k ≡ Some true → slice_get index k ≡ Some i → slice_get (flagged_destinations index flags) k ≡ Some (Some i)
flagged-here [] flags k i flagged here = absurd (none-some i here)
flagged-here (j ∷ index) [] k i flagged here = absurd (none-some true flagged)
flagged-here (j ∷ index) (flag ∷ flags) zero i flagged here = λ t. Some (destination_if (same_Some j i here t) (same_Some flag true flagged t))
flagged-here (j ∷ index) (flag ∷ flags) (suc k) i flagged here = flagged-here index flags k i flagged here

pub here-flagged : (index : List ℤ) (flags : List Bool) (k : ℕ) (i : ℤ) → slice_get (flagged_destinations index flags) k ≡ Some (Some i)
    → (slice_get flags k ≡ Some true) × (slice_get index k ≡ Some i)
here-flagged [] flags k i here = absurd (none-some (Some i) here)
here-flagged (j ∷ index) [] k i here = absurd (none-some (Some i) here)
here-flagged (j ∷ index) (true ∷ flags) zero i here = (refl, same_Some (Some j) (Some i) here)
here-flagged (j ∷ index) (false ∷ flags) zero i here = absurd (none-some i (same_Some None (Some i) here))
here-flagged (j ∷ index) (flag ∷ flags) (suc k) i here = here-flagged index flags k i here

select-from_sent : {X : Type 0} (source : List X) (index : List ℤ) (flags : List Bool) (result : List X) → length source ≡ length index → length index ≡ length flags
    → IsSent (count_of flags) source (flagged_destinations index flags) result result → IsSelectPermute source index flags result
select-from_sent source index flags result long flagged is = record {
  one_index_each = long;
  one_flag_each = flagged;
  as_long = is.as_long;
  within = λ k i f here. inside (count_of flags) (flagged_destinations index flags) is.right k i (flagged-here index flags k i f here);
  once = λ j k i f g first second. once-from_right (count_of flags) (flagged_destinations index flags) is.right j k i (flagged-here index flags j i f first) (flagged-here index flags k i g second);
  sent = λ k d f here. is.sent k d (flagged-here index flags k (pos d) f here);
}

sent-from_select : {X : Type 0} (source : List X) (index : List ℤ) (flags : List Bool) (result : List X) → IsSelectPermute source index flags result
    → IsSent (count_of flags) source (flagged_destinations index flags) result result
sent-from_select source index flags result is = record {
  as_long = is.as_long;
  right = search (rules, right-from_once, here-flagged);
  sent = λ k d here. let p = here-flagged index flags k (pos d) here in is.sent k d p.0 p.1;
  kept = λ d none. refl;
}

pub select-meaning : {X : Type 0} (source : List X) (index : List ℤ) (flags : List Bool) (result : List X) → (select_of source index flags ≡ Ok result) ↔ IsSelectPermute source index flags result
select-meaning source index flags result =
    let ts = flagged_destinations index flags in
    let sends = sent_to_all source ts (count_of flags) in
    let meaning = λ (same : length source ≡ length index) (flagged : length index ≡ length flags).
    sent_to_all-meaning (count_of flags) source ts (omega (arith, same, length-flagged_destinations index flags flagged)) (flagged_take_part index flags flagged) result in (
      λ p.
          let first = if_as_long-Ok source index (if_as_long index flags sends) result p in
          let second = if_as_long-Ok index flags sends result first.1 in
          select-from_sent source index flags result first.0 second.0 ((meaning first.0 second.0).0 second.1),
      λ is. rw (if_as_long-fits source index (if_as_long index flags sends) is.one_index_each, if_as_long-fits index flags sends is.one_flag_each)
          ((meaning is.one_index_each is.one_flag_each).1 (sent-from_select source index flags result is)),
    )
