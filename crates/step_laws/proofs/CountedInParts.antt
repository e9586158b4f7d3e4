-- Counts by place, by rooms of the parts' own and by ranges.
use Rattle.std.proofs.Common.{◌≡◌, ◌∙◌, ◌+◌, ◌++◌, ◌∷◌, ◌≤◌, ℕ, ℤ, pos, List, [], All, ap, arith, get_or, length, map, refl, replicate, subst, sym, take, None, Ok}
use mathlib.Core.List.{map-map}
use Rattle.std.proofs.lemmas.List.{length-append, length-map, length-replicate, length-take, replicate-append-replicate}
use Rattle.std.proofs.lemmas.List.Elements.{All-map}
use Rattle.std.proofs.lemmas.List.FromFn.{length-range_with_len}
use Rattle.std.specs.List.{AllZip, count_by, range_with_len}
use Rattle.c_calls.specs.Calls.{in_limit}
use Rattle.c_calls.specs.Told.{Told, done}
use Rattle.call_laws.proofs.CombinedRooms.{counted-rooms, outside-rooms}
use Rattle.combine_parts.specs.RoomJoins.{lie_within, shares_of, starts_of, with_rooms}
use Rattle.combining_permutes.specs.CombiningPermutes.{named_between, names, place_counts, place_counts_of}
use Rattle.cvl_base.specs.Gives.{unless}
use Rattle.cvl_base.specs.Integers.{sum_of}
use Rattle.cvl_base.specs.Limits.{most_places}
use Rattle.cvl_base.specs.Lists.{joined}
use Rattle.part_calls.specs.Limits.{few_enough}
use Rattle.permute_walks.specs.Indices.{first_outside}
use Rattle.step_laws.proofs.Answered.{within}
use Rattle.step_laws.proofs.CombinedInRanges.{few-fits}
use Rattle.step_laws.proofs.CombinedInRooms.{join_told, left_of_each}
use Rattle.step_laws.proofs.OwnGiven.{own_given, owns, unless_none}
use Rattle.step_laws.proofs.Parted.{alike, alike_where, keeps}
use Rattle.step_laws.proofs.RangesOfRoom.{ranges_counted}
use Rattle.step_laws.proofs.RoomShares.{known_shares, places_of_share, shares_joined, shares_within}
use Rattle.step_laws.specs.CombineParts.{BeginAt, Block, HaveMemory, Share, index_of, room_of}
use Rattle.step_laws.specs.CombineSteps.{CountsOwn, CountsRange, JoinsCounts}

-- what is known of a part that has counted in its room
record Known {X : Type 0} (places : ℕ) (own left : Block X ℤ) : Type 0 where
  pub inside : first_outside 0 places own.index ≡ None
  pub long : places ≤ length left.own
  pub room : take places left.own ≡ place_counts own.index 0 places

length-counts : (index : List ℤ) (places : ℕ) → length (place_counts index 0 places) ≡ places
length-counts index places = length-map (range_with_len 0 places) (λ d. pos (count_by (names d) index)) ∙ length-range_with_len 0 places

known : {X : Type 0} (places : ℕ) (own left : Block X ℤ) → CountsOwn places own left → Known places own left
known places own left counted =
    let given = own_given places _ own.own left.own counted.0 in
    let may = owns places (length own.index) (length own.index) (length own.own) (place_counts_of own.index places) (take places left.own) given in
    let both = unless_none (first_outside 0 places own.index) (place_counts own.index 0 places) (take places left.own) may.1 in
    record {
      inside = both.0;
      long = omega (arith, length-take places left.own, ap length (sym both.1) ∙ length-counts own.index places);
      room = sym both.1;
    }

-- ---- rooms

zeros : Share ℤ → List ℤ
zeros s = replicate (length s.room) (pos 0)

all_zeros : (shares : List (Share ℤ)) → joined (map zeros shares) ≡ replicate (length (room_of shares)) (pos 0)
unfolding zeros
all_zeros [] = refl
all_zeros (s ∷ shares) =
    ap (λ zs. replicate (length s.room) (pos 0) ++ zs) (all_zeros shares)
    ∙ replicate-append-replicate (length s.room) (length (room_of shares)) (pos 0)
    ∙ ap (λ n. replicate n (pos 0)) (sym (length-append s.room (room_of shares)))

module _ {X : Type 0} (boundaries : List ℕ) (memory : List ℤ) (start made : List (Block X ℤ)) (before after : List (Share ℤ)) (few : length (index_of start) ≤ most_places)
    (begin : BeginAt 0 before) (mades : AllZip (CountsOwn (length (room_of before))) start made) (has : HaveMemory boundaries memory made)
    (joins : AllZip (JoinsCounts boundaries memory) before after) where
  abbrev places : ℕ
  places = length (room_of before)

  abbrev indices : List (List ℤ)
  indices = map (λ b. b.index) start

  abbrev own_rooms : List (List ℤ)
  own_rooms = map (λ index. place_counts index 0 places) indices

  none_outside : first_outside 0 places (index_of start) ≡ None
  none_outside =
      (outside-rooms indices places).1
      (All-map (λ index. first_outside 0 places index ≡ None) (λ (b : Block X ℤ). b.index) start
      (left_of_each (λ own left does. (known places own left does).inside) start made mades))

  long : All (λ own. places ≤ length own) (map (λ b. b.own) made)
  long =
      All-map (λ own. places ≤ length own) (λ (b : Block X ℤ). b.own) made
      (keeps (CountsOwn places) (λ b. Unit {0}) (λ b. places ≤ length b.own) (λ own left does none. (known places own left does).long) start made mades (λ k d lt. tt))

  rooms_made : map (take places) (map (λ b. b.own) made) ≡ own_rooms
  rooms_made =
      map-map (take places) (λ (b : Block X ℤ). b.own) made
      ∙ alike (CountsOwn places) (λ b. place_counts b.index 0 places) (λ b. take places b.own) (λ own left does. (known places own left does).room) start made mades
      ∙ sym (map-map (λ index. place_counts index 0 places) (λ (b : Block X ℤ). b.index) start)

  written : map (λ s. s.room) after ≡ map (λ s. with_rooms sum_of (zeros s) (places_of_share sum_of s own_rooms)) before
  unfolding zeros
  written =
      alike_where (JoinsCounts boundaries memory) (λ s. s.from + length s.room ≤ 0 + places) (λ s. with_rooms sum_of (zeros s) (places_of_share sum_of s own_rooms)) (λ s. s.room)
      (λ own left does fits.
      let n = length own.room in
      let found = known_shares places memory boundaries (map (λ b. b.own) made) own_rooms has.0 has.1 long rooms_made own.from n (omega (arith, fits)) in
      let as_long = length-replicate n (pos 0) in
      join_told sum_of boundaries memory own.from (replicate n (pos 0)) own.room left.room does.0.0
      (ap (λ m. lie_within (length memory) own.from m (starts_of boundaries)) as_long ∙ found.0) does.0.1
      ∙ ap (λ m. with_rooms sum_of (replicate n (pos 0)) (shares_of own.from m memory (starts_of boundaries))) as_long
      ∙ ap (with_rooms sum_of (replicate n (pos 0))) found.1)
      before after joins (shares_within before 0 begin)

  pub counted_all : length (room_of before) ≤ most_places
      → Told (in_limit (index_of start) (in_limit (room_of before) (place_counts_of (index_of start) (length (room_of before))))) done (room_of before) (room_of after)
  unfolding zeros
  counted_all few_places =
      let each : All (λ room. places ≡ length room) own_rooms =
      All-map (λ room. places ≡ length room) (λ index. place_counts index 0 places) indices (λ k d lt. sym (length-counts (get_or indices k d) places)) in
      let all : room_of after ≡ place_counts (index_of start) 0 places =
      ap joined written ∙ shares_joined sum_of zeros (λ s. length-replicate (length s.room) (pos 0)) before own_rooms begin each
      ∙ ap (λ zs. with_rooms sum_of zs own_rooms) (all_zeros before) ∙ sym (counted-rooms indices 0 places few) in
      let given : in_limit (index_of start) (in_limit (room_of before) (place_counts_of (index_of start) places)) ≡ Ok (place_counts (index_of start) 0 places) =
      within (index_of start) _ few ∙ within (room_of before) _ few_places ∙ ap (λ f. unless f (Ok (place_counts (index_of start) 0 places))) none_outside in
      subst (λ m. Told m done (room_of before) (room_of after)) (sym given) (refl, all)

-- ---- ranges

pub ranges_all : (index : List ℤ) (before after : List (Share ℤ)) → length index ≤ most_places → length (room_of before) ≤ most_places → BeginAt 0 before
    → AllZip (CountsRange index) before after → room_of after ≡ place_counts index 0 (length (room_of before))
ranges_all index before after few few_places begin counts =
    let written : map (λ s. s.room) after ≡ map (λ s. place_counts index s.from (length s.room)) before =
    alike_where (CountsRange index) (λ s. s.from + length s.room ≤ 0 + length (room_of before)) (λ s. place_counts index s.from (length s.room)) (λ s. s.room)
    (λ own left does fits.
    let n = length own.room in
    let given = few-fits (length index) (few_enough (own.from + n) (Ok (place_counts index own.from n, named_between index own.from n))) few
    ∙ few-fits (own.from + n) (Ok (place_counts index own.from n, named_between index own.from n)) (omega (arith, fits, few_places)) in
    let known : Told (Ok (place_counts index own.from n, named_between index own.from n)) does.0.0 (own.room, does.0.1) (left.room, does.0.2) =
    subst (λ m. Told m does.0.0 (own.room, does.0.1) (left.room, does.0.2)) given does.0.3 in
    ap (λ p. p.0) known.1)
    before after counts (shares_within before 0 begin) in
    ap joined written ∙ ranges_counted index before 0 begin
