-- The ranks of places are where the order has them.
use Rattle.std.proofs.Common.{◌≡◌, ◌∙◌, ℕ, ◌+◌, ◌<◌, ◌≤◌, ℤ, pos, List, [], ◌∷◌, ◌++◌, ap, arith, ext_get_or, get_or, length, length-append, map, Ok, refl, slice_get}
use Rattle.std.proofs.Common.{le-ltb, ltb, Option, position, Some, None, Result, subst, sym}
use Rattle.std.specs.List.{AllZip, enumerate_from}
use Rattle.std.proofs.lemmas.List.{get_or-map, length-map}
use Rattle.std.proofs.lemmas.List.FromFn.{get_or-map-range_with_len, length-enumerate_from, length-map-range_with_len}
use Rattle.std.proofs.lemmas.Option.{slice_get-get_or, slice_get_within}
use Rattle.cvl_base.specs.declared.fault.Fault.{Fault}
use Rattle.cvl_base.specs.declared.fault.FaultNo.TheVariants as no
use Rattle.cvl_base.specs.Faults.{fault}
use Rattle.cvl_base.specs.Gives.{fault_if}
use Rattle.cvl_base.specs.Limits.{most_places}
use Rattle.cvl_base.specs.Permutes.{all_destinations, is_destination}
use Rattle.c_calls.specs.Told.{Told}
use Rattle.call_laws.proofs.FirstSent.{sender-names, sender-none, senders-ranges}
use Rattle.first_senders.specs.FirstSenders.{first_sender, first_senders, sender_or_none}
use Rattle.orders.proofs.Ranks.{int_order, length-by_key, place_found}
use Rattle.orders.specs.Orders.{by_key, order_of, rank_at, rank_of}
use Rattle.orders.proofs.TheOrder.{length-order}
use Rattle.part_calls.specs.SenderRanges.{counted_senders, senders_range_of}
use Rattle.step_laws.specs.Parts.{Part, room_of}
use Rattle.step_laws.specs.SortParts.{places_from}
use Rattle.step_laws.specs.SortSteps.{FindsPlaces}

pub length-rank : (keys : List ℤ) → length (rank_of keys) ≡ length keys
length-rank keys = length-map (enumerate_from 0 keys) (rank_at keys) ∙ length-enumerate_from 0 keys

module _ (keys : List ℤ) (rank_of_order : (r : ℕ) → r < length keys → get_or (rank_of keys) (get_or (order_of keys) r 0) 0 ≡ r) where
  abbrev placed : List ℤ
  placed = map pos (order_of keys)

  abbrev destinations : List (Option ℤ)
  destinations = all_destinations placed

  length-destinations : length destinations ≡ length keys
  length-destinations = length-map placed (λ i. Some i) ∙ length-map (order_of keys) pos ∙ length-order keys

  -- where the order has a place, this is a destination
  names : (k : ℕ) → k < length keys → slice_get destinations k ≡ Some (Some (pos (get_or (order_of keys) k 0)))
  names k below =
      slice_get-get_or destinations k None (omega (arith, below, length-destinations))
      ∙ ap (λ t. Some t) (get_or-map (λ i. Some i) placed k (pos 0) None (omega (arith, below, length-order keys, length-map (order_of keys) pos))
      ∙ ap (λ i. Some i) (get_or-map pos (order_of keys) k 0 (pos 0) (omega (arith, below, length-order keys))))

  -- it has each place
  has : (d : ℕ) → d < length keys → (k : ℕ) × (k < length keys) × (get_or (order_of keys) k 0 ≡ d)
  has d below =
      let found = place_found keys int_order d (pos 0) below in (
        found.0,
        found.1,
        get_or-map (λ (p : ℕ × ℤ). p.0) (by_key keys) found.0 (d, get_or keys d (pos 0)) 0 (omega (arith, found.1, length-by_key keys int_order))
            ∙ ap (λ (p : ℕ × ℤ). p.0) found.2,
      )

  ranked : (d : ℕ) → d < length keys → first_sender destinations d ≡ pos (get_or (rank_of keys) d 0)
  ranked d below = choose (position (is_destination (pos d)) destinations) refl where
    choose : (o : Option ℕ) → position (is_destination (pos d)) destinations ≡ o → first_sender destinations d ≡ pos (get_or (rank_of keys) d 0)
    choose (Some k) is =
        let sent : first_sender destinations d ≡ pos k = ap sender_or_none is in
        let named = sender-names destinations d k sent in
        let within : k < length keys = omega (arith, slice_get_within destinations k (Some (pos d)) named, length-destinations) in
        let both : Some (Some (pos (get_or (order_of keys) k 0))) ≡ Some (Some (pos d)) = sym (names k within) ∙ named in
        let there : get_or (order_of keys) k 0 ≡ d = cc in
        sent ∙ ap pos (sym (rank_of_order k within) ∙ ap (λ n. get_or (rank_of keys) n 0) there)
    choose None is =
        let at = has d below in
        absurd (sender-none destinations d at.0 (ap sender_or_none is) (names at.0 at.1 ∙ ap (λ n. Some (Some (pos n))) at.2))

  pub ranks_are : first_senders destinations 0 (length keys) ≡ map pos (rank_of keys)
  ranks_are =
      let sent = first_sender destinations in
      let long : length (first_senders destinations 0 (length keys)) ≡ length keys = length-map-range_with_len sent 0 (length keys) in
      ext_get_or (pos 0) (first_senders destinations 0 (length keys)) (map pos (rank_of keys)) (long ∙ sym (length-map (rank_of keys) pos ∙ length-rank keys))
      (λ d within.
      let below : d < length keys = omega (arith, within, long) in
      get_or-map-range_with_len sent 0 (length keys) d d (pos 0) below (omega arith) ∙ ranked d below
      ∙ sym (get_or-map pos (rank_of keys) d 0 (pos 0) (omega (arith, below, length-rank keys))))

-- ---- by ranges

few : (n : ℕ) (call : Result (List ℤ × ℕ) Fault) → n ≤ most_places → fault_if (ltb most_places n) (fault no.TooLong) call ≡ call
few n call fits = ap (λ b. fault_if b (fault no.TooLong) call) (le-ltb most_places n fits)

pub by_ranges : (order : List ℤ) → length order ≤ most_places → (before : ℕ) (start end : List (Part ℤ ℕ ℤ)) → before + length (room_of start) ≤ most_places
    → map (λ p. p.before) start ≡ places_from before (map (λ p. p.room) start) → AllZip (FindsPlaces order) start end
    → room_of end ≡ first_senders (all_destinations order) before (length (room_of start))
by_ranges order short before [] [] fits places zipped = refl
by_ranges order short before [] (q ∷ end) fits places zipped = absurd zipped
by_ranges order short before (p ∷ start) [] fits places zipped = absurd zipped
by_ranges order short before (p ∷ start) (q ∷ end) fits places (first, others) =
    let listed : p.before ∷ map (λ r. r.before) start ≡ before ∷ places_from (before + length p.room) (map (λ r. r.room) start) = places in
    let here : p.before ≡ before = cc in
    let behind : map (λ r. r.before) start ≡ places_from (before + length p.room) (map (λ r. r.room) start) = cc in
    let both = length-append p.room (room_of start) in
    let n = length p.room in
    let ts = all_destinations order in
    let meant : senders_range_of order p.before n ≡ Ok (counted_senders ts p.before n) =
    few (length order) _ short ∙ few (p.before + n) (Ok (counted_senders ts p.before n)) (omega (arith, fits, both, here)) in
    let told : Told (Ok (counted_senders ts p.before n)) first.0.0 (p.room, p.told) (q.room, q.told) =
    subst (λ m. Told m first.0.0 (p.room, p.told) (q.room, q.told)) meant first.0.1 in
    let written : q.room ≡ first_senders ts before n = ap (λ v. v.0) told.1 ∙ ap (λ k. first_senders ts k n) here in
    ap (λ r. r ++ room_of end) written
    ∙ ap (λ r. first_senders ts before n ++ r) (by_ranges order short (before + n) start end (omega (arith, fits, both)) behind others)
    ∙ sym (senders-ranges ts before n (length (room_of start)))
    ∙ ap (first_senders ts before) (sym both)
