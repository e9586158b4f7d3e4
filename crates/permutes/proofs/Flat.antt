-- What the definitions of the flat calls are told to be by the senders of the places, and by the indices.
use Rattle.std.proofs.Common.{◌≡◌, ◌∙◌, ℕ, ◌+◌, ◌<◌, ◌≤◌, Bool, Bor, List, length, sym, ap, arith, ℤ, Option, Result, Ok}
use Rattle.std.specs.List.{sum_by}
use Rattle.std.proofs.lemmas.List.Elements.{All-weaker}
use Rattle.cvl_base.specs.declared.fault.Fault.{Fault}
use Rattle.cvl_base.specs.Elementwise.{if_as_long}
use Rattle.cvl_base.specs.Gives.{unless}
use Rattle.cvl_base.specs.Limits.{most_places}
use Rattle.cvl_base.specs.Packs.{count_of}
use Rattle.cvl_base.specs.Permutes.{all_destinations, back_of, default_of, first_fault, flagged_destinations, select_of, sent_over, sent_to_all, simple_of, wrongs}
use Rattle.permute_walks.specs.Indices.{elements_at, first_outside}
use Rattle.permute_walks.specs.Before.{IsPermuted}
use Rattle.permute_walks.specs.declared.before.Before.TheVariants as before
use Rattle.permute_walks.specs.Senders.{senders_of, written_over}
use Rattle.cvl_base.proofs.Elementwise.{if_as_long-fits}
use Rattle.cvl_base.proofs.Permutes.{length-all_destinations, length-flagged_destinations}
use Rattle.permute_walks.proofs.EachSent.{all_take_part, each_sent, flagged_take_part, takes_part}
use Rattle.permute_walks.proofs.Outside.{all_inside, length-elements_at, values_unless}
use Rattle.permute_walks.proofs.Sent.{length-senders_of}
use Rattle.permute_walks.proofs.Taken.{taken_flat, taken_over_flat}
use Rattle.permute_walks.proofs.Told.{IsSent, IsTold}

-- ---- the calls

flat_sent : {X : Type 0} (source : List X) (ts : List (Option ℤ)) (m : ℕ) (meaning : Result (List X) Fault) → meaning ≡ sent_to_all source ts m → length source ≡ length ts
    → length source ≤ most_places
    → sum_by takes_part ts ≡ m → IsSent source meaning (first_fault 0 (wrongs m ts)) (senders_of 0 ts m) m
flat_sent source ts m meaning is long few as_many = record {
  is = is ∙ ap (λ xs. unless (first_fault 0 (wrongs m ts)) (Ok xs)) (sym (taken_flat source ts m long (omega arith)));
  sent = λ right.
      All-weaker (λ s. s < 0 + length ts) (λ s. s < length source) (λ s below. omega (arith, below, long)) (senders_of 0 ts m) (each_sent 0 ts m (omega (arith, long)) (sym right) as_many);
  as_many = length-senders_of 0 ts m;
}

module _ {X : Type 0} (source : List X) (index : List ℤ) (long : length source ≡ length index) (few : length index ≤ most_places) where
  pub simple_sent : (places : ℕ) → places ≡ length index
      → IsSent source (simple_of source index) (first_fault 0 (wrongs places (all_destinations index))) (senders_of 0 (all_destinations index) places) places
  simple_sent places are =
      let ts = all_destinations index in
      flat_sent source ts places (simple_of source index) (if_as_long-fits source index _ long ∙ ap (sent_to_all source ts) (sym are)) (long ∙ sym (length-all_destinations index)) (omega arith)
      (all_take_part index ∙ sym are)

  pub select_sent : (flags : List Bool) (places : ℕ) → places ≡ count_of flags → length index ≡ length flags
      → IsSent source (select_of source index flags) (first_fault 0 (wrongs places (flagged_destinations index flags))) (senders_of 0 (flagged_destinations index flags) places) places
  select_sent flags places count flagged =
      let ts = flagged_destinations index flags in
      flat_sent source ts places (select_of source index flags)
      (if_as_long-fits source index (if_as_long index flags (sent_to_all source ts (count_of flags))) long ∙ if_as_long-fits index flags (sent_to_all source ts (count_of flags)) flagged
      ∙ ap (sent_to_all source ts) (sym count))
      (long ∙ sym (length-flagged_destinations index flags flagged)) (omega arith) (flagged_take_part index flags flagged ∙ sym count)

  pub default_sent : (defaults : Bor (List X)) → IsPermuted source (before.Defaults defaults) (default_of source index defaults.now)
      (first_fault 0 (wrongs (length defaults.now) (all_destinations index)))
      (senders_of 0 (all_destinations index) (length defaults.now))
  default_sent defaults =
      let ts = all_destinations index in
      let m = length defaults.now in
      record {
        is = λ stands same.
            if_as_long-fits source index (sent_over source ts defaults.now) long
            ∙ ap (λ xs. unless (first_fault 0 (wrongs m ts)) (Ok xs))
            (sym (taken_over_flat source ts defaults.now (omega (arith, length-all_destinations index)) (omega arith)) ∙ ap (written_over source (senders_of 0 ts m)) (sym same));
        as_many = length-senders_of 0 ts m;
      }

pub back_told : {X : Type 0} (source : List X) (index : List ℤ) → IsTold (back_of source index) (first_outside 0 (length source) index) (elements_at source index) (length index)
back_told source index = record {
  is = values_unless 0 source index;
  long = λ none. length-elements_at source index (all_inside 0 (length source) index none);
}
