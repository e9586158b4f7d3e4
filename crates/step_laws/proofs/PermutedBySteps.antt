-- Permutes by steps are those of the whole: of one element for each place, of those with a true flag, and over defaults.
use Rattle.std.proofs.Common.{◌≡◌, ◌≢◌, ◌+◌, ◌++◌, ◌≤◌, ◌∙◌, ℕ, ℤ, Bool, List, drop, length, map, map-id, sum, Option, Result, Ok, Err, All, refl, sym, ap, arith}
use mathlib.Core.List.{map-map}
use Rattle.std.proofs.lemmas.List.{length-map}
use Rattle.std.proofs.Common.{get_or}
use Rattle.std.proofs.lemmas.Option.{none-some, same_Some}
use Rattle.std.specs.List.{AllZip}
use Rattle.std.specs.Result.{result_ok}
use Rattle.call_laws.proofs.ByRanges.{all-counted, all-written, over-counted, over-written}
use Rattle.call_laws.proofs.Sending.{sent_to_all-meaning}
use Rattle.cvl_base.proofs.Elementwise.{if_as_long-fits}
use Rattle.cvl_base.proofs.Permutes.{length-all_destinations, length-flagged_destinations}
use Rattle.cvl_base.proofs.Rooms.{differs}
use Rattle.cvl_base.specs.declared.fault.Fault.{Fault}
use Rattle.cvl_base.specs.declared.fault.FaultNo.TheVariants.{LengthMismatch}
use Rattle.cvl_base.specs.Elementwise.{if_as_long}
use Rattle.cvl_base.specs.Faults.{fault}
use Rattle.cvl_base.specs.Limits.{most_places}
use Rattle.cvl_base.specs.Lists.{joined}
use Rattle.cvl_base.specs.Packs.{count_of}
use Rattle.cvl_base.specs.Permutes.{all_destinations, default_of, flagged_destinations, select_of, sent_to_all, simple_of}
use Rattle.c_calls.specs.Calls.{in_limit}
use Rattle.c_calls.specs.Told.{Told, in_room}
use Rattle.c_calls.specs.declared.status.CvlStatus.{CvlStatus}
use Rattle.flag_calls.specs.Flags.{as_bytes, as_flag, byte_of, flag_of, flags_of}
use Rattle.part_calls.specs.Ranges.{count_of_range, marks_of_range, room_of_range}
use Rattle.permute_parts.specs.Counts.{all_sent_of}
use Rattle.permute_parts.specs.Ranges.{as_flags_in, part_of}
use Rattle.permute_walks.proofs.EachSent.{all_take_part, flagged_take_part}
use Rattle.permute_walks.specs.Marks.{words_for}
use Rattle.permute_walks.specs.Senders.{last_senders, written_over}
use Rattle.step_laws.proofs.Answered.{within}
use Rattle.step_laws.proofs.Parted.{as-long}
use Rattle.step_laws.proofs.RangesMade.{fills_room, has_fault, settles_room}
use Rattle.permute_parts.proofs.Passed.{IsPart, passes}
use Rattle.step_laws.proofs.RangesPermuted.{AsLong, HasRange, IsMade, counted, made, marked, range-long, written-map}
use Rattle.step_laws.specs.PermuteSteps.{Writes, default_in, flags_by, permute_in, select_in}
use Rattle.step_laws.specs.RangeParts.{BeginAt, RangePart, Settles, counts_of, room_of}

-- ---- a call that has its result exactly if as many places get an element as are wanted

pub record IsByRange {X : Type 0} (source : List X) (ts : List (Option ℤ)) (room : List X) (wanted : ℕ) (call : Result (List X) Fault) : Type 0 where
  pub written : count_of_range ts 0 (length room) ≡ wanted → call ≡ Ok (room_of_range source ts 0 room)
  pub counted : (xs : List X) → call ≡ Ok xs → count_of_range ts 0 (length room) ≡ wanted

module _ {X : Type 0} (source : List X) (index : List ℤ) (long : length source ≡ length index) (few : length index ≤ most_places) where
  pub simple-by : (room : List X) → length room ≡ length index → IsByRange source (all_destinations index) room (length index) (in_limit index (simple_of source index))
  simple-by room as_room =
      let ts = all_destinations index in
      let whole = within index (simple_of source index) few ∙ if_as_long-fits source index (sent_to_all source ts (length index)) long in
      record {
        written = λ all. whole
            ∙ all-written source ts (length index) long (length-all_destinations index) few room (length index) as_room (all_take_part index) all;
        counted = λ xs is.
            all-counted source ts (length index) long (length-all_destinations index) few room (length index) as_room (all_take_part index) xs (sym whole ∙ is);
      }

  pub default-by : (defaults : List X) → IsByRange source (all_destinations index) defaults (length index) (in_limit index (default_of source index defaults))
  default-by defaults =
      let ts = all_destinations index in
      let whole = within index (default_of source index defaults) few ∙ if_as_long-fits source index _ long in
      record {
        written = λ all. whole ∙ over-written source ts (length index) long (length-all_destinations index) few defaults (all ∙ sym (all_take_part index));
        counted = λ xs is.
            over-counted source ts (length index) long (length-all_destinations index) few defaults xs (sym whole ∙ is) ∙ all_take_part index;
      }

  module _ (flags : List Bool) (flagged : length index ≡ length flags) where
    whole-select : in_limit index (select_of source index flags) ≡ sent_to_all source (flagged_destinations index flags) (count_of flags)
    whole-select =
        within index (select_of source index flags) few
        ∙ if_as_long-fits source index _ long ∙ if_as_long-fits index flags _ flagged

    pub select-by : (wanted : ℕ) → count_of flags ≡ wanted → (room : List X) → length room ≡ wanted
        → IsByRange source (flagged_destinations index flags) room wanted (in_limit index (select_of source index flags))
    select-by wanted as_many room as_room =
        let ts = flagged_destinations index flags in
        let ts_long = length-flagged_destinations index flags flagged in
        let parts = flagged_take_part index flags flagged in
        let long_room : length room ≡ count_of flags = as_room ∙ sym as_many in
        record {
          written = λ all. whole-select ∙ all-written source ts (length index) long ts_long few room (count_of flags) long_room parts (all ∙ sym as_many);
          counted = λ xs is.
              all-counted source ts (length index) long ts_long few room (count_of flags) long_room parts xs (sym whole-select ∙ is) ∙ as_many;
        }

    -- its result has a place for each true flag
    pub select-long : (xs : List X) → in_limit index (select_of source index flags) ≡ Ok xs → length xs ≡ count_of flags
    select-long xs is =
        let ts = flagged_destinations index flags in
        ((sent_to_all-meaning (count_of flags) source ts (omega (arith, long, length-flagged_destinations index flags flagged))
        (flagged_take_part index flags flagged) xs).0 (sym whole-select ∙ is)).as_long

    -- a room that has not as many places gets none
    pub misfits : (room : ℕ) → count_of flags ≢ room → (f : Fault) × (in_room room (in_limit index (select_of source index flags)) ≡ Err f)
    misfits room other =
        has_fault (in_room room (in_limit index (select_of source index flags))) (λ xs is.
        let value = fills_room room (in_limit index (select_of source index flags)) xs is in
        let short : length value.0 ≢ room = λ same. other (sym (select-long value.0 value.1) ∙ same) in
        let none : Err (fault LengthMismatch) ≡ Ok xs = sym (differs room value.0 short) ∙ ap (in_room room) (sym value.1) ∙ is in
        none-some xs (ap result_ok none))

-- ---- what each part's call gives

module _ {X : Type 0} (source : List X) (index : List ℤ) (long : length source ≡ length index) (few : length index ≤ most_places) (p : RangePart X)
    (within : p.from + length p.room ≤ most_places) (enough : words_for (length p.room) ≤ length p.marks) where
  is-part : IsPart (length source) (length index) p.from (length p.room) (length p.marks)
  is-part = record { few = few; within = within; agree = long; enough = enough }

  pub simple-range : HasRange source (all_destinations index) (λ p. p.room) (permute_in source index) p
  simple-range =
      passes (length source) (length index) p.from (length p.room) (length p.marks) (Ok (part_of source (all_destinations index) p.from p.room p.marks)) is-part

  pub select-range : (flags : List Bool) → length index ≡ length flags → HasRange source (flagged_destinations index flags) (λ p. p.room) (select_in source index flags) p
  select-range flags flagged =
      let call = Ok (part_of source (flagged_destinations index flags) p.from p.room p.marks) in
      passes (length source) (length index) p.from (length p.room) (length p.marks) (if_as_long index flags call) is-part ∙ if_as_long-fits index flags call flagged

  pub default-range : length p.defaults ≡ length p.room → HasRange source (all_destinations index) (λ p. p.defaults) (default_in source index) p
  default-range as_long =
      let ts = all_destinations index in
      let call = Ok (part_of source ts p.from p.defaults p.marks) in
      passes (length source) (length index) p.from (length p.room) (length p.marks) (if_as_long p.defaults p.room call) is-part
      ∙ if_as_long-fits p.defaults p.room call as_long
      ∙ ap (λ n. Ok (room_of_range source ts p.from p.defaults, marks_of_range ts p.from n ++ drop (words_for n) p.marks, count_of_range ts p.from n)) as_long

-- ---- what the parts made of it

-- the call on bytes has a value where the call on booleans has one
as_bytes-Ok : (call : Result (List Bool) Fault) (bytes : List ℕ) → as_bytes call ≡ Ok bytes → (flags : List Bool) × (call ≡ Ok flags)
as_bytes-Ok (Ok flags) bytes is = (flags, refl)
as_bytes-Ok (Err f) bytes is = absurd (none-some bytes (ap result_ok is))

module _ {X : Type 0} (source : List X) (ts : List (Option ℤ)) (base : RangePart X → List X) (call : RangePart X → Result (List X × List ℕ × ℕ) Fault) (start end : List (RangePart X))
    (at : BeginAt 0 start) (as_base : All (AsLong base) start) (ready : All (HasRange source ts base call) start) (wanted : ℕ) (status : CvlStatus)
    (told : Told (all_sent_of (counts_of end) wanted) status tt tt) where
  abbrev whole : List X
  whole = joined (map base start)

  as_room : length whole ≡ length (room_of start)
  as_room = as-long (λ p. p.room) base start as_base

  pub settled : AllZip (Writes call) start end → (meaning : Result (List X) Fault) → IsByRange source ts whole wanted meaning
      → Settles status (in_room (length (room_of start)) meaning) (room_of start) (room_of end)
  settled writes meaning by =
      let each : All (IsMade source ts (λ x. x) base call) start =
      λ k d lt. let p = get_or start k d in
      ready k d lt ∙ ap (λ xs. Ok (xs, marked source ts p, count_of_range ts p.from (length p.room))) (sym (map-id (room_of_range source ts p.from (base p)))) in
      let are : room_of end ≡ room_of_range source ts 0 whole =
      made source ts (λ x. x) base call start end at as_base each writes ∙ map-id (room_of_range source ts 0 whole) in
      let number : count_of_range ts 0 (length whole) ≡ sum (counts_of end) =
      ap (count_of_range ts 0) as_room ∙ sym (counted source ts (λ x. x) base call start end at each writes) in
      settles_room meaning (room_of start) (room_of end) (counts_of end) wanted status told (ap length are ∙ range-long source ts 0 whole ∙ as_room)
      (λ same. by.written (number ∙ same) ∙ ap Ok (sym are)) (λ xs is. sym number ∙ by.counted xs is)

-- the same of bytes
module _ (source : List ℕ) (ts : List (Option ℤ)) (base : RangePart ℕ → List ℕ) (call : RangePart ℕ → Result (List ℕ × List ℕ × ℕ) Fault) (start end : List (RangePart ℕ))
    (at : BeginAt 0 start) (as_base : All (AsLong base) start) (ready : All (HasRange source ts base call) start) (wanted : ℕ) (status : CvlStatus)
    (told : Told (all_sent_of (counts_of end) wanted) status tt tt) where
  abbrev bytes : List ℕ
  bytes = joined (map base start)

  seen : map byte_of (room_of_range (flags_of source) ts 0 (flags_of bytes)) ≡ map as_flag (room_of_range source ts 0 bytes)
  seen =
      ap (λ n. map byte_of (written_over (flags_of source) (last_senders 0 ts 0 n) (flags_of bytes))) (length-map bytes flag_of)
      ∙ ap (map byte_of) (written-map flag_of source (last_senders 0 ts 0 (length bytes)) bytes)
      ∙ map-map byte_of flag_of (room_of_range source ts 0 bytes)

  pub settled-flags : AllZip (Writes (flags_by call)) start end → (meaning : Result (List Bool) Fault) → IsByRange (flags_of source) ts (flags_of bytes) wanted meaning
      → Settles status (in_room (length (room_of start)) (as_bytes meaning)) (room_of start) (room_of end)
  settled-flags writes meaning by =
      let each : All (IsMade source ts as_flag base (flags_by call)) start = λ k d lt. ap as_flags_in (ready k d lt) in
      let long : length bytes ≡ length (room_of start) = as-long (λ p. p.room) base start as_base in
      let are : room_of end ≡ map as_flag (room_of_range source ts 0 bytes) = made source ts as_flag base (flags_by call) start end at as_base each writes in
      let number : count_of_range ts 0 (length (flags_of bytes)) ≡ sum (counts_of end) =
      ap (count_of_range ts 0) (length-map bytes flag_of ∙ long) ∙ sym (counted source ts as_flag base (flags_by call) start end at each writes) in
      settles_room (as_bytes meaning) (room_of start) (room_of end) (counts_of end) wanted status told
      (ap length are ∙ length-map (room_of_range source ts 0 bytes) as_flag ∙ range-long source ts 0 bytes ∙ long)
      (λ same. ap as_bytes (by.written (number ∙ same)) ∙ ap Ok (seen ∙ sym are))
      (λ xs is. let flags = as_bytes-Ok meaning xs is in sym number ∙ by.counted flags.0 flags.1)

module _ (source : List ℕ) (index : List ℤ) (long : length source ≡ length index) (few : length index ≤ most_places) (flags : List Bool) (flagged : length index ≡ length flags) where
  pub misfits-flags : (room : ℕ) → count_of flags ≢ room → (f : Fault) × (in_room room (as_bytes (in_limit index (select_of (flags_of source) index flags))) ≡ Err f)
  misfits-flags room other =
      let call = in_limit index (select_of (flags_of source) index flags) in
      has_fault (in_room room (as_bytes call)) (λ xs is.
      let value = fills_room room (as_bytes call) xs is in
      let seen_flags = as_bytes-Ok call value.0 value.1 in
      let bytes_are : map byte_of seen_flags.0 ≡ value.0 = same_Some _ _ (ap result_ok (ap as_bytes (sym seen_flags.1) ∙ value.1)) in
      let many : length value.0 ≡ count_of flags =
      ap length (sym bytes_are) ∙ length-map seen_flags.0 byte_of
      ∙ select-long (flags_of source) index (length-map source flag_of ∙ long) few flags flagged seen_flags.0 seen_flags.1 in
      let short : length value.0 ≢ room = λ same. other (sym many ∙ same) in
      let none : Err (fault LengthMismatch) ≡ Ok xs = sym (differs room value.0 short) ∙ ap (in_room room) (sym value.1) ∙ is in
      none-some xs (ap result_ok none))
