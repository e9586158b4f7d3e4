-- Sorts, orders, ranks and sorts by key by steps.
use Rattle.std.proofs.Common.{◌≡◌, ◌∙◌, ℕ, ◌<◌, ◌≤◌, ℤ, pos, Bool, All, FitsSigned, List, ap, arith, get_or, length, map, Ok, refl, subst, sym, w32}
use Rattle.std.specs.List.{AllPass, enumerate_from}
use Rattle.std.proofs.lemmas.List.{length-map}
use Rattle.std.proofs.lemmas.List.Sorted.{length_permutation}
use Rattle.cvl_base.proofs.Elementwise.{if_as_long-fits}
use Rattle.cvl_base.specs.ItemWords.{is_number}
use Rattle.cvl_base.specs.Limits.{most_places}
use Rattle.operators.specs.NumberLaws.{fits-is_number}
use Rattle.cvl_base.specs.Permutes.{all_destinations}
use Rattle.first_senders.specs.FirstSenders.{first_senders}
use Rattle.c_calls.specs.Calls.{in_limit}
use Rattle.c_calls.specs.Told.{RoomTold, Told, done}
use Rattle.orders.proofs.Ranks.{IsPermutation-stably_sorted}
use Rattle.orders.proofs.TheOrder.{length-order}
use Rattle.orders.specs.Orders.{order_of, rank_of, sorted_of}
use Rattle.orders.specs.SortsByKey.{keys_by, sort_by_key_of, values_by}
use Rattle.stable_sorts.proofs.InParts.{places_are_order}
use Rattle.stable_sorts.proofs.Values.{keys_read, values_read}
use Rattle.stable_sorts.specs.Both.{both}
use Rattle.stable_sorts.specs.Directions.{IsTurn}
use Rattle.stable_sorts.specs.Keys.{is_lesser, sorted_by_key}
use Rattle.stable_sorts.specs.Placed.{with_key, with_value, with_values}
use Rattle.stable_sorts.specs.Steps.{digit_of_pass}
use Rattle.stable_sorts.specs.declared.keys.Placed.{Placed}
use Rattle.step_laws.proofs.AnyOrder.{in_any_order}
use Rattle.step_laws.proofs.Answered.{fills, tells_done, within}
use Rattle.step_laws.proofs.Parted.{as-long}
use Rattle.step_laws.proofs.SortFinds.{common, common-below, have_common, is_set}
use Rattle.step_laws.proofs.SortPasses.{passes_sort}
use Rattle.step_laws.proofs.SortPlaced.{all_read, each_value, keys_in, keys_placed, keys_written, length-placed, of_placed_keys, of_placed_values, values_in, values_placed}
use Rattle.step_laws.proofs.SortPlaced.{values_written}
use Rattle.step_laws.proofs.SortRanks.{by_ranges, length-rank, ranks_are}
use Rattle.step_laws.specs.Parts.{HaveRooms, Part, elements_of, room_of}
use Rattle.step_laws.specs.SortParts.{HasBothRooms, ValuesPart, keys_of, placed_of, places_from, values_of}
use Rattle.step_laws.specs.SortSteps.{ByPasses, FindsPasses, FindsPlaces, PlacesKeys, PlacesValues, Reads, ReadsBoth, passes_in}
use Rattle.step_laws.specs.Steps.{InParts}

-- a room that holds what a call gives within its limit
given : {X : Type 0} (keys : List ℤ) (xs room now : List X) → length keys ≤ most_places → length xs ≡ length room → now ≡ xs
    → RoomTold (in_limit keys (Ok xs)) done room now
given keys xs room now few long is =
    subst (λ m. RoomTold m done room now) (sym (within keys (Ok xs) few)) (subst (λ zs. RoomTold (Ok xs) done room zs) (sym is) (tells_done xs room long))

all_fit : (keys : List ℤ) → AllPass is_number keys → All (λ key. FitsSigned w32 key) keys
all_fit keys numbers = λ k d below. fits-is_number (get_or keys k d) (numbers k d below)

length-sorted : {X : Type 0} (key : X → ℤ) (xs : List X) → length (sorted_by_key key xs) ≡ length xs
length-sorted key xs = length_permutation xs (sorted_by_key key xs) (IsPermutation-stably_sorted (is_lesser key) xs)

module _ (start : List (Part ℤ (ℤ × ℤ) ℤ)) (bits : ℕ) (numbers : AllPass is_number (elements_of start)) (few : length (elements_of start) ≤ most_places)
    (found : FindsPasses start bits) where
  pub sorted : (room after : List ℤ) → length room ≡ length (elements_of start) → ByPasses (λ key. key) (passes_in bits) (elements_of start) after
      → RoomTold (in_limit (elements_of start) (Ok (sorted_of (elements_of start)))) done room after
  sorted room after long passes =
      let is : after ≡ sorted_of (elements_of start) =
      passes_sort (λ key. key) (is_set bits) (common start bits numbers found) (common-below start bits numbers found)
      (elements_of start) after few (all_fit (elements_of start) numbers) (have_common start bits numbers found) passes in
      given (elements_of start) (sorted_of (elements_of start)) room after few (length-sorted (λ key. key) (elements_of start) ∙ sym long) is

  pub ordered : (keyed placed : List (Part ℤ ℕ Placed)) (moved : List Placed) (last end : List (Part Placed ℕ ℤ)) → elements_of keyed ≡ elements_of start
      → map (λ p. p.before) keyed ≡ places_from 0 (map (λ p. p.elements) keyed) → HaveRooms keyed → InParts PlacesKeys keyed placed
      → ByPasses (λ p. p.key) (passes_in bits) (room_of placed) moved → elements_of last ≡ moved → HaveRooms last → InParts (Reads (λ p. p.place)) last end
      → RoomTold (in_limit (elements_of start) (Ok (map pos (order_of (elements_of start))))) done (room_of last) (room_of end)
  ordered keyed placed moved last end same places rooms first passes moved_is last_rooms reads =
      let keys = elements_of start in
      let by_key = λ (p : Placed). p.key in
      let shorter : length (elements_of keyed) ≤ most_places = omega (arith, ap length same, few) in
      let beside : room_of placed ≡ map with_key (enumerate_from 0 keys) =
      keys_placed keyed placed shorter places rooms (in_any_order PlacesKeys keyed placed first) ∙ ap (λ ks. map with_key (enumerate_from 0 ks)) same in
      let made : ByPasses by_key (passes_in bits) (map with_key (enumerate_from 0 keys)) moved = subst (λ ps. ByPasses by_key (passes_in bits) ps moved) beside passes in
      let is : moved ≡ sorted_by_key by_key (map with_key (enumerate_from 0 keys)) =
      passes_sort by_key (is_set bits) (common start bits numbers found) (common-below start bits numbers found)
      (map with_key (enumerate_from 0 keys)) moved (omega (arith, length-placed 0 keys, few))
      (of_placed_keys (λ key. FitsSigned w32 key) 0 keys (all_fit keys numbers))
      (λ pass below not_set. of_placed_keys (λ key. digit_of_pass pass key ≡ common start bits numbers found pass) 0 keys
      (have_common start bits numbers found pass below not_set)) made in
      let written : room_of end ≡ map pos (order_of keys) =
      all_read (λ p. p.place) last end last_rooms (in_any_order (Reads (λ p. p.place)) last end reads)
      ∙ ap (map (λ (p : Placed). p.place)) (moved_is ∙ is) ∙ places_are_order keys in
      let long : length (map pos (order_of keys)) ≡ length (room_of last) =
      omega (
        arith,
        ap length (places_are_order keys),
        length-map (sorted_by_key by_key (map with_key (enumerate_from 0 keys))) (λ (p : Placed). p.place),
        ap length (moved_is ∙ is),
        as-long (λ p. p.elements) (λ p. p.room) last last_rooms,
      ) in
      given keys (map pos (order_of keys)) (room_of last) (room_of end) few long written

  -- in a direction whose keys, turned, have the digits in common that the keys have
  pub sorted_with_values : (before : ℤ → ℤ → Bool) (turned : ℤ → ℤ) → IsTurn before turned
      → ((key : ℤ) → FitsSigned w32 key → FitsSigned w32 (turned key))
      → (turned_digit : ℕ → ℕ → ℕ) → ((pass d : ℕ) → d < 2048 → turned_digit pass d < 2048)
      → ((pass : ℕ) → pass < 3 → (key : ℤ) → FitsSigned w32 key → digit_of_pass pass (turned key) ≡ turned_digit pass (digit_of_pass pass key))
      → (keyed placed : List (Part (ℤ × ℤ) ℕ Placed)) (moved : List Placed) (last end : List ValuesPart)
      → map (λ e. e.0) (elements_of keyed) ≡ elements_of start → HaveRooms keyed → InParts (PlacesValues turned) keyed placed
      → ByPasses (λ p. p.key) (passes_in bits) (room_of placed) moved
      → placed_of last ≡ moved → All HasBothRooms last → InParts (ReadsBoth turned) last end
      → Told (in_limit (elements_of start) (sort_by_key_of before (elements_of start) (map (λ e. e.1) (elements_of keyed)))) done
      (both (keys_of last) (values_of last)) (both (keys_of end) (values_of end))
  sorted_with_values before turned turns fit_turned turned_digit small turned_is keyed placed moved last end same rooms first passes moved_is last_rooms reads =
      let ks = elements_of start in
      let vs = values_in (elements_of keyed) in
      let es = elements_of keyed in
      let by_key = λ (p : Placed). p.key in
      let shared = common start bits numbers found in
      let long : length vs ≡ length ks = length-map es (λ (e : ℤ × ℤ). e.1) ∙ sym (length-map es (λ (e : ℤ × ℤ). e.0)) ∙ ap length same in
      let beside : room_of placed ≡ with_values turned (keys_in es) vs = values_placed turned keyed placed rooms (in_any_order (PlacesValues turned) keyed placed first) in
      let made : ByPasses by_key (passes_in bits) (with_values turned (keys_in es) vs) moved = subst (λ ps. ByPasses by_key (passes_in bits) ps moved) beside passes in
      let many : length (with_values turned (keys_in es) vs) ≡ length ks =
      ap length (each_value turned es) ∙ length-map es (with_value turned) ∙ sym (length-map es (λ (e : ℤ × ℤ). e.0)) ∙ ap length same in
      let fit : All (λ key. FitsSigned w32 key) (keys_in es) = subst (All (λ key. FitsSigned w32 key)) (sym same) (all_fit ks numbers) in
      let is_first : moved ≡ sorted_by_key by_key (with_values turned (keys_in es) vs) =
      passes_sort by_key (is_set bits) (λ pass. turned_digit pass (shared pass))
      (λ pass. small pass (shared pass) (common-below start bits numbers found pass)) (with_values turned (keys_in es) vs) moved
      (omega (arith, many, few)) (of_placed_values turned (λ key. FitsSigned w32 key) (λ key. FitsSigned w32 key) fit_turned es fit)
      (λ pass below not_set.
      let alike : All (λ key. digit_of_pass pass key ≡ shared pass) (keys_in es) =
      subst (All (λ key. digit_of_pass pass key ≡ shared pass)) (sym same) (have_common start bits numbers found pass below not_set) in
      of_placed_values turned (λ key. (FitsSigned w32 key) × (digit_of_pass pass key ≡ shared pass)) (λ key. digit_of_pass pass key ≡ turned_digit pass (shared pass))
      (λ key holds. turned_is pass below key holds.0 ∙ ap (turned_digit pass) holds.1) es (λ k d in_keys. (fit k d in_keys, alike k d in_keys)))
      made in
      let is : moved ≡ sorted_by_key by_key (with_values turned ks vs) = is_first ∙ ap (λ zs. sorted_by_key by_key (with_values turned zs vs)) same in
      let zipped = in_any_order (ReadsBoth turned) last end reads in
      let keys_are : keys_of end ≡ keys_by before ks =
      keys_written turned last end last_rooms zipped ∙ ap (map (λ (p : Placed). turned p.key)) (moved_is ∙ is) ∙ keys_read before turned turns ks vs long in
      let values_are : values_of end ≡ values_by before ks vs =
      values_written turned last end last_rooms zipped ∙ ap (map (λ (p : Placed). p.place)) (moved_is ∙ is) ∙ values_read before turned turns ks vs long in
      let limit : in_limit ks (sort_by_key_of before ks vs) ≡ sort_by_key_of before ks vs = within ks (sort_by_key_of before ks vs) few in
      let agree : sort_by_key_of before ks vs ≡ Ok (keys_by before ks, values_by before ks vs) =
      if_as_long-fits ks vs (Ok (keys_by before ks, values_by before ks vs)) (sym long) in
      let meant : in_limit ks (sort_by_key_of before ks vs) ≡ Ok (keys_by before ks, values_by before ks vs) = limit ∙ agree in
      subst (λ m. Told m done (both (keys_of last) (values_of last)) (both (keys_of end) (values_of end))) (sym meant)
      (refl, λ i. (keys_are i, values_are i))

pub ranked : (keys order before : List ℤ) (start end : List (Part ℤ ℕ ℤ))
    → ((r : ℕ) → r < length keys → get_or (rank_of keys) (get_or (order_of keys) r 0) 0 ≡ r) → length keys ≤ most_places
    → RoomTold (in_limit keys (Ok (map pos (order_of keys)))) done before order → length (room_of start) ≡ length keys
    → map (λ p. p.before) start ≡ places_from 0 (map (λ p. p.room) start) → InParts (FindsPlaces order) start end
    → RoomTold (in_limit keys (Ok (map pos (rank_of keys)))) done (room_of start) (room_of end)
ranked keys order before start end rank_of_order few told long places finds =
    let is_order : Ok (map pos (order_of keys)) ≡ Ok order =
    sym (within keys (Ok (map pos (order_of keys))) few) ∙ (fills (in_limit keys (Ok (map pos (order_of keys)))) before order told).0 in
    let same : map pos (order_of keys) ≡ order = cc in
    let as_many : length order ≡ length keys = ap length (sym same) ∙ length-map (order_of keys) pos ∙ length-order keys in
    let written : room_of end ≡ map pos (rank_of keys) =
    by_ranges order (omega (arith, as_many, few)) 0 start end (omega (arith, long, few)) places (in_any_order (FindsPlaces order) start end finds)
    ∙ ap (λ o. first_senders (all_destinations o) 0 (length (room_of start))) (sym same)
    ∙ ap (first_senders (all_destinations (map pos (order_of keys))) 0) long ∙ ranks_are keys rank_of_order in
    given keys (map pos (rank_of keys)) (room_of start) (room_of end) few (length-map (rank_of keys) pos ∙ length-rank keys ∙ sym long) written
