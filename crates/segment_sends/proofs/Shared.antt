-- The walk over a share of the segments: what it has written after the first of them, and after all; and that two shares side by side
-- are one.
use Rattle.std.proofs.Common.{◌≡◌, ◌∙◌, ℕ, zero, suc, ◌+◌, ◌-◌, ◌<◌, ◌≤◌, true, false, Bool, ◌&&◌, List, [], ◌∷◌, ◌++◌, length, map, sum, take, drop, refl, sym, ap, arith, ℤ}
use Rattle.std.proofs.Common.{slice_get, unwrap_or, length-append, Option, None}
use Rattle.std.specs.List.{sum_by, zip}
use Rattle.std.specs.Option.{option_or}
use Rattle.std.proofs.lemmas.Bool.{and_parts, false≢true}
use Rattle.std.proofs.lemmas.List.{drop_all, drop_more, take-append-le, take_all, take-take}
use Rattle.std.proofs.lemmas.List.Sums.{sum-map, sum_by_more, sum_by_more_le, sum_by-take-le}
use Rattle.std.proofs.Math.Seq.{drop-append-add}
use Rattle.cvl_base.specs.Limits.{most_places}
use Rattle.cvl_base.specs.Permutes.{first_fault, wrongs}
use Rattle.cvl_base.proofs.Lists.{sum-cons}
use Rattle.fresh.specs.Parts.{part, length_part}
use Rattle.fresh.specs.Places.{Stretch, stretch, with_items}
use Rattle.fresh.proofs.Halves.{part_map, parts_both}
use Rattle.fresh.proofs.Zips.{part_zip}
use Rattle.permute_walks.specs.Senders.{senders_of, written_over}
use Rattle.permute_walks.proofs.Sent.{length-senders_of}
use Rattle.permute_walks.proofs.Taken.{length-over}
use Rattle.segment_sends.specs.SegmentDestinations.{destinations_in, fault_from, places_in, senders_from}
use Rattle.segment_sends.specs.Shares.{IsSendable, IsShare, IsWritten, Sending, fault_behind, segment_at, permuted}
use denote.RawPtr.{Ptr}
use Rattle.segment_sends.proofs.AllSent.{length-senders_from}

-- ---- the places of a segment

module _ (f : ℕ × List (Option ℤ) → ℕ) (segments : List (ℕ × List (Option ℤ))) where
  -- what stands before the segment after s
  pub ahead_more : (s : ℕ) → s < length segments → sum (map f (take (s + 1) segments)) ≡ sum (map f (take s segments)) + f (segment_at segments s)
  ahead_more s lt = omega (arith, sum-map f (take (s + 1) segments), sum-map f (take s segments), sum_by_more f segments s (0, []) lt)

  pub ahead_within : (s : ℕ) → s < length segments → sum (map f (take s segments)) + f (segment_at segments s) ≤ sum (map f segments)
  ahead_within s lt = omega (arith, sum-map f (take s segments), sum-map f segments, sum_by_more_le f segments s (0, []) lt)

  pub ahead_all : (s : ℕ) → sum (map f (take s segments)) ≤ sum (map f segments)
  ahead_all s = omega (arith, sum-map f (take s segments), sum-map f segments, sum_by-take-le f segments s)

-- an earlier segment does not stand behind a later one
pub ahead_order : (f : ℕ × List (Option ℤ) → ℕ) (segments : List (ℕ × List (Option ℤ))) (a b : ℕ) → a ≤ b → sum (map f (take a segments)) ≤ sum (map f (take b segments))
ahead_order f segments a b le =
    omega (arith, sum-map f (take a segments), sum-map f (take b segments), ap (sum_by f) (take-take a b segments le), sum_by-take-le f (take b segments) a)

-- the first bad place from a segment on is one of the segment, or lies behind it
pub fault_next : (segments : List (ℕ × List (Option ℤ))) (s : ℕ) → s < length segments
    → fault_behind segments s ≡ option_or (first_fault (destinations_in (take s segments)) (wrongs (segment_at segments s).0 (segment_at segments s).1)) (fault_behind segments (s + 1))
fault_next segments s lt =
    let first = first_fault (destinations_in (take s segments)) (wrongs (segment_at segments s).0 (segment_at segments s).1) in
    ap (fault_from (destinations_in (take s segments))) (drop_more segments s (0, []) lt)
    ∙ ap (λ p. option_or first (fault_from p (drop (s + 1) segments))) (sym (ahead_more (λ p. length p.1) segments s lt))

pub fault_passed : (segments : List (ℕ × List (Option ℤ))) (s : ℕ) → s < length segments
    → None ≡ first_fault (destinations_in (take s segments)) (wrongs (segment_at segments s).0 (segment_at segments s).1) → fault_behind segments s ≡ fault_behind segments (s + 1)
fault_passed segments s lt right = fault_next segments s lt ∙ ap (λ o. option_or o (fault_behind segments (s + 1))) (sym right)

pub fault_at_end : (segments : List (ℕ × List (Option ℤ))) (s : ℕ) → length segments ≤ s → None ≡ fault_behind segments s
fault_at_end segments s past = ap (fault_from (destinations_in (take s segments))) (sym (drop_all s segments past))

-- the senders of a segment stand at its places
senders_at : (place : ℕ) (segments : List (ℕ × List (Option ℤ))) (s : ℕ) → s < length segments
    → part (senders_from place segments) (places_in (take s segments)) (segment_at segments s).0
    ≡ senders_of (place + destinations_in (take s segments)) (segment_at segments s).1 (segment_at segments s).0
senders_at place [] s lt = absurd (omega arith)
senders_at place ((m, ts) ∷ segments) zero lt =
    let long = length-senders_of place ts m in
    take-append-le m (senders_of place ts m) (senders_from (place + length ts) segments) (omega (arith, long))
    ∙ take_all m (senders_of place ts m) (omega (arith, long))
    ∙ ap (λ p. senders_of p ts m) (omega arith)
senders_at place ((m, ts) ∷ segments) (suc s) lt =
    let front = senders_of place ts m in
    let others = senders_from (place + length ts) segments in
    let n = (segment_at segments s).0 in
    let past : places_in (take (suc s) ((m, ts) ∷ segments)) ≡ length front + places_in (take s segments) =
    omega (arith, sum-cons m (map (λ (p : ℕ × List (Option ℤ)). p.0) (take s segments)), length-senders_of place ts m) in
    let place_past : place + length ts + destinations_in (take s segments) ≡ place + destinations_in (take (suc s) ((m, ts) ∷ segments)) =
    omega (arith, sum-cons (length ts) (map (λ (p : ℕ × List (Option ℤ)). length p.1) (take s segments))) in
    ap (λ k. part (front ++ others) k n) past
    ∙ ap (take n) (drop-append-add front others (places_in (take s segments)))
    ∙ senders_at (place + length ts) segments s (omega arith)
    ∙ ap (λ p. senders_of p (segment_at segments s).1 n) place_past

module _ {X : Type 0} (source : List X) (segments : List (ℕ × List (Option ℤ))) (before : List X) where
  -- what stands there
  pub permuted_at : (s : ℕ) → s < length segments
      → part (permuted source segments before) (places_in (take s segments)) (segment_at segments s).0
      ≡ written_over source (senders_of (destinations_in (take s segments)) (segment_at segments s).1 (segment_at segments s).0) (part before (places_in (take s segments)) (segment_at segments s).0)
  permuted_at s lt =
      let start = places_in (take s segments) in
      let n = (segment_at segments s).0 in
      let senders = senders_from 0 segments in
      let read = λ (p : ℕ × X). unwrap_or (slice_get source p.0) p.1 in
      sym (part_map read (zip senders before) start n)
      ∙ ap (map read) (sym (part_zip senders before start n))
      ∙ ap (λ ss. written_over source ss (part before start n)) (senders_at 0 segments s lt)
      ∙ ap (λ p. written_over source (senders_of p (segment_at segments s).1 n) (part before start n)) (omega arith)

  pub length-permuted : places_in segments ≡ length before → length (permuted source segments before) ≡ length before
  length-permuted long = length-over source (senders_from 0 segments) before (length-senders_from 0 segments ∙ long)

-- ---- the walk

-- the next n places are written
stretch_more : {X : Type 0} (whole items : List X) (old run new : Stretch X) (done n last : ℕ) → old.first ≤ done → done + n ≤ length whole
    → run ≡ stretch old.block old.first (part whole old.first (done - old.first)) (last - done) → items ≡ part whole done n → new ≡ with_items run items
    → new ≡ stretch old.block old.first (part whole old.first (done + n - old.first)) (last - (done + n))
stretch_more whole items old run new done n last begun within is are written =
    let first = old.first in
    let width : n ≡ done + n - first - (done - first) = omega arith in
    let there : first + (done - first) ≡ done = omega arith in
    let long : length items ≡ n = ap length are ∙ length_part whole done n within in
    let room : last - done - length items ≡ last - (done + n) = omega (arith, long) in
    let joined : part whole first (done - first) ++ items ≡ part whole first (done + n - first) =
    ap (λ xs. part whole first (done - first) ++ xs) are
    ∙ (λ i. part whole first (done - first) ++ part whole (sym there i) (width i))
    ∙ sym (parts_both whole first (done - first) (done + n - first) (omega arith)) in
    written ∙ ap (λ s. with_items s items) is ∙ (λ i. stretch old.block first (joined i) (room i))

-- the segments up to before s are done, and the destinations of the next one begin at `place`
pub record IsWalked {X : Type 0} (w : Sending X) (begin end s : ℕ) (old : Stretch X) (place : ℕ) (run : Stretch X) : Type 0 where
  pub there : place ≡ destinations_in (take s w.segments)
  pub no_fault : fault_behind w.segments begin ≡ fault_behind w.segments s
  pub is : run
      ≡ stretch old.block old.first (part (permuted w.source w.segments w.before) old.first (places_in (take s w.segments) - old.first))
      (places_in (take end w.segments) - places_in (take s w.segments))

module _ {X : Type 0} {w : Sending X} {begin end : ℕ} {old : Stretch X} (share : IsShare w begin end old) where
  abbrev segments : List (ℕ × List (Option ℤ))
  segments = w.segments

  abbrev whole : List X
  whole = permuted w.source segments w.before

  whole_long : length whole ≡ length w.before
  whole_long = length-permuted w.source segments w.before share.sendable.as_long

  pub walked_none : (place : ℕ) → place ≡ destinations_in (take begin segments) → IsWalked w begin end begin old place old
  walked_none place there =
      let none : places_in (take begin segments) - old.first ≡ 0 = omega (arith, share.starts) in
      let room : old.room ≡ places_in (take end segments) - places_in (take begin segments) = omega (arith, share.starts, share.ends) in
      record {
        there = there;
        no_fault = refl;
        is = (λ i. stretch old.block old.first (share.empty i) (room i))
            ∙ ap (λ k. stretch old.block old.first (part whole old.first k) (places_in (take end segments) - places_in (take begin segments)))
            (sym none);
      }

  module _ {s place : ℕ} {run : Stretch X} (from : begin ≤ s) (upto : s ≤ end) (to : IsWalked w begin end s old place run) where
    starts_before : old.first ≤ places_in (take s segments)
    starts_before = omega (arith, share.starts, ahead_order (λ p. p.0) segments begin s from)

    ends_here : places_in (take s segments) ≤ places_in (take end segments)
    ends_here = ahead_order (λ p. p.0) segments s end upto

    ends_last : places_in (take end segments) ≤ length w.before
    ends_last = omega (arith, share.sendable.as_long, ahead_all (λ p. p.0) segments end)

    done_long : length (part whole old.first (places_in (take s segments) - old.first)) ≡ places_in (take s segments) - old.first
    done_long = length_part whole old.first (places_in (take s segments) - old.first) (omega (arith, starts_before, ends_here, ends_last, whole_long))

    run_end : run.first + length run.items ≡ places_in (take s segments)
    run_end = omega (arith, ap (λ (r : Stretch X). r.first) to.is, ap (λ (r : Stretch X). length r.items) to.is, done_long, starts_before)

    run_room : run.room ≡ places_in (take end segments) - places_in (take s segments)
    run_room = ap (λ (r : Stretch X). r.room) to.is

    -- where the walk stops, what stands before fills the rest
    pub walked_rest_within : run.first + length run.items + run.room ≤ length w.before
    walked_rest_within = omega (arith, run_end, run_room, ends_here, ends_last)

    pub walked_bad : (new : Stretch X) → new ≡ with_items run (part w.before (run.first + length run.items) run.room) → IsWritten w begin end old new false
    walked_bad new filled = record {
      full = filled_full;
      no_fault = λ same. absurd (false≢true same);
      items = λ same. absurd (false≢true same);
    }
      where
        rest : List X
        rest = part w.before (run.first + length run.items) run.room

        filled_full : (items : List X) × (length items ≡ old.room) × (new ≡ stretch old.block old.first items 0)
        filled_full =
            let rest_long : length rest ≡ run.room = length_part w.before (run.first + length run.items) run.room walked_rest_within in
            let none : run.room - length rest ≡ 0 = omega (arith, rest_long) in
            let long : length (run.items ++ rest) ≡ old.room =
            omega (arith, length-append run.items rest, rest_long, run_room, run_end, ap (λ (r : Stretch X). r.first) to.is, share.starts, share.ends, starts_before, ends_here) in
            (run.items ++ rest, long, filled ∙ (λ i. stretch (ap (λ (r : Stretch X). r.block) to.is i) (ap (λ (r : Stretch X). r.first) to.is i) (run.items ++ rest) (none i)))

    module _ {m n : ℕ} {ts : List (Option ℤ)} (below : s < end) (is : segment_at segments s ≡ (m, ts)) (wide : n ≡ m) where
      lt : s < length segments
      lt = omega (arith, below, share.in_segments)

      ends_before : places_in (take s segments) + (segment_at segments s).0 ≤ places_in (take end segments)
      ends_before = omega (arith, ahead_more (λ p. p.0) segments s lt, ahead_order (λ p. p.0) segments (s + 1) end (omega (arith, below)))

      width : (segment_at segments s).0 ≡ n
      width = ap (λ p. p.0) is ∙ sym wide

      pub walked_within : n ≤ w.widest
      walked_within = omega (arith, width, share.sendable.within s lt)

      pub walked_room : n ≤ run.room
      walked_room = omega (arith, width, run_room, ends_before)

      pub walked_before : run.first + length run.items + n ≤ length w.before
      walked_before = omega (arith, width, run_end, ends_before, ends_last)

      pub walked_limit : place + length ts ≤ most_places
      walked_limit = omega (arith, share.sendable.few, to.there, ahead_within (λ p. length p.1) segments s lt, ap (λ (p : ℕ × List (Option ℤ)). length p.1) is)

      pub walked_more : (new : Stretch X) → None ≡ first_fault place (wrongs n ts)
          → new ≡ with_items run (written_over w.source (senders_of place ts n) (part w.before (run.first + length run.items) n))
          → (next : ℕ) → next ≡ place + length ts → IsWalked w begin end (s + 1) old next new
      walked_more new right pushed next onward =
          let start = places_in (take s segments) in
          let told = ap (λ (p : ℕ × List (Option ℤ)). p.1) is in
          let more : start + n ≡ places_in (take (s + 1) segments) = omega (arith, width, ahead_more (λ p. p.0) segments s lt) in
          let are : written_over w.source (senders_of place ts n) (part w.before (run.first + length run.items) n) ≡ part whole start n =
          (λ i. written_over w.source (senders_of (to.there i) (sym told i) (sym width i)) (part w.before (run_end i) (sym width i)))
          ∙ sym (permuted_at w.source segments w.before s lt) ∙ ap (part whole start) width in
          record {
            there = omega (arith, onward, to.there, ahead_more (λ p. length p.1) segments s lt, ap (λ (p : ℕ × List (Option ℤ)). length p.1) is);
            no_fault = to.no_fault ∙ fault_passed segments s lt (right ∙ (λ i. first_fault (to.there i) (wrongs (sym width i) (sym told i))));
            is = stretch_more whole (written_over w.source (senders_of place ts n) (part w.before (run.first + length run.items) n)) old run new start n (places_in (take end segments)) starts_before
                (omega (arith, width, ends_before, ends_last, whole_long)) to.is are pushed
                ∙ ap (λ k. stretch old.block old.first (part whole old.first (k - old.first)) (places_in (take end segments) - k)) more;
          }

  pub walked_all : {s place : ℕ} {run : Stretch X} → IsWalked w begin end s old place run → end ≤ s → s ≤ end → IsWritten w begin end old run true
  walked_all {s = s} {run = run} to past within =
      let same : s ≡ end = omega (arith, past, within) in
      let last = places_in (take end segments) in
      let width : last - old.first ≡ old.room = omega (arith, share.ends) in
      let none : last - last ≡ 0 = omega arith in
      let is : run ≡ stretch old.block old.first (part whole old.first old.room) 0 =
      to.is ∙ ap (λ k. stretch old.block old.first (part whole old.first (places_in (take k segments) - old.first)) (last - places_in (take k segments))) same
      ∙ (λ i. stretch old.block old.first (part whole old.first (width i)) (none i)) in
      record {
        full = (part whole old.first old.room, length_part whole old.first old.room (omega (arith, share.ends, whole_long, share.sendable.as_long, ahead_all (λ p. p.0) segments end)), is);
        no_fault = λ told. to.no_fault ∙ ap (fault_behind segments) same;
        items = λ told. is;
      }

  -- nothing was walked
  pub unwalked_within : old.first + length old.items + old.room ≤ length w.before
  unwalked_within = walked_rest_within (omega arith) share.in_order (walked_none (destinations_in (take begin segments)) refl)

  pub unwalked : (new : Stretch X) → new ≡ with_items old (part w.before (old.first + length old.items) old.room) → IsWritten w begin end old new false
  unwalked new filled = walked_bad (omega arith) share.in_order (walked_none (destinations_in (take begin segments)) refl) new filled

  -- ---- two shares side by side are one

  module _ {middle k : ℕ} (from : begin ≤ middle) (to : middle ≤ end) (is : k ≡ places_in (take middle segments) - old.first) where
    pub middle_first : old.first ≤ places_in (take middle segments)
    middle_first = omega (arith, share.starts, ahead_order (λ p. p.0) segments begin middle from)

    pub middle_room : k ≤ old.room
    middle_room = omega (arith, is, share.ends, ahead_order (λ p. p.0) segments middle end to)

    module _ {front back : Stretch X} (front_cut : front ≡ stretch old.block old.first old.items (k - length old.items))
        (back_cut : back ≡ stretch old.block (old.first + k) [] (length old.items + old.room - k)) where
      front_width : front.room ≡ k
      front_width = omega (arith, ap (λ (r : Stretch X). r.room) front_cut, ap length share.empty)

      back_width : back.room ≡ old.room - k
      back_width = omega (arith, ap (λ (r : Stretch X). r.room) back_cut, ap length share.empty)

      pub front_share : IsShare w begin middle front
      front_share = record {
        sendable = share.sendable;
        in_order = from;
        in_segments = omega (arith, to, share.in_segments);
        starts = ap (λ (r : Stretch X). r.first) front_cut ∙ share.starts;
        ends = omega (arith, ap (λ (r : Stretch X). r.first) front_cut, front_width, is, middle_first);
        empty = ap (λ (r : Stretch X). r.items) front_cut ∙ share.empty;
      }

      pub back_share : IsShare w middle end back
      back_share = record {
        sendable = share.sendable;
        in_order = to;
        in_segments = share.in_segments;
        starts = omega (arith, ap (λ (r : Stretch X). r.first) back_cut, is, middle_first);
        ends = omega (arith, ap (λ (r : Stretch X). r.first) back_cut, back_width, is, middle_first, middle_room, share.ends);
        empty = ap (λ (r : Stretch X). r.items) back_cut;
      }

      module _ {written rest : Stretch X} {front_right back_right : Bool} (in_front : IsWritten w begin middle front written front_right) (in_back : IsWritten w middle end back rest back_right) where
        abbrev front_items : List X
        front_items = in_front.full.0

        abbrev back_items : List X
        back_items = in_back.full.0

        front_is : written ≡ stretch old.block old.first front_items 0
        front_is = in_front.full.2 ∙ (λ i. stretch (ap (λ (r : Stretch X). r.block) front_cut i) (ap (λ (r : Stretch X). r.first) front_cut i) front_items 0)

        back_is : rest ≡ stretch old.block (old.first + k) back_items 0
        back_is = in_back.full.2 ∙ (λ i. stretch (ap (λ (r : Stretch X). r.block) back_cut i) (ap (λ (r : Stretch X). r.first) back_cut i) back_items 0)

        pub shares_both : (joined : Stretch X) → joined ≡ stretch written.block written.first (written.items ++ rest.items) (written.room + rest.room)
            → IsWritten w begin end old joined (front_right && back_right)
        shares_both joined are =
            let is : joined ≡ stretch old.block old.first (front_items ++ back_items) 0 =
            are ∙ (λ i. let w = front_is i in let r = back_is i in stretch w.block w.first (w.items ++ r.items) (w.room + r.room)) in
            record {
              full = (front_items ++ back_items, omega (arith, length-append front_items back_items, in_front.full.1, in_back.full.1, front_width, back_width, middle_room), is);
              no_fault = λ told. let both = and_parts front_right back_right told in in_front.no_fault both.0 ∙ in_back.no_fault both.1;
              items = λ told.
                  let both = and_parts front_right back_right told in
                  let front_whole : front_items ≡ part whole old.first k =
                  sym (ap (λ (r : Stretch X). r.items) front_is) ∙ ap (λ (r : Stretch X). r.items) (in_front.items both.0)
                  ∙ (λ i. part whole (ap (λ (r : Stretch X). r.first) front_cut i) (front_width i)) in
                  let back_whole : back_items ≡ part whole (old.first + k) (old.room - k) =
                  sym (ap (λ (r : Stretch X). r.items) back_is) ∙ ap (λ (r : Stretch X). r.items) (in_back.items both.1)
                  ∙ (λ i. part whole (ap (λ (r : Stretch X). r.first) back_cut i) (back_width i)) in
                  is ∙ ap (λ xs. stretch old.block old.first xs 0) ((λ i. front_whole i ++ back_whole i) ∙ sym (parts_both whole old.first k old.room middle_room));
            }

-- ---- all segments

module _ {X : Type 0} {w : Sending X} {old : Stretch X} (sendable : IsSendable w)
    {block : Ptr} (is : old ≡ stretch block 0 [] (length w.before)) {count : ℕ} (all : count ≡ length w.segments) where
  pub whole_share : IsShare w 0 count old
  whole_share = record {
    sendable = sendable;
    in_order = omega arith;
    in_segments = omega (arith, all);
    starts = ap (λ (r : Stretch X). r.first) is;
    ends = omega (arith, ap (λ (r : Stretch X). r.first) is, ap (λ (r : Stretch X). r.room) is, sendable.as_long, ap places_in (take_all count w.segments (omega (arith, all))));
    empty = ap (λ (r : Stretch X). r.items) is;
  }

  module _ {written : Stretch X} {right : Bool} (told : IsWritten w 0 count old written right) where
    pub whole_right : right ≡ true → None ≡ fault_from 0 w.segments
    whole_right is_right = fault_at_end w.segments count (omega (arith, all)) ∙ sym (told.no_fault is_right)

    pub whole_items : right ≡ true → written.items ≡ permuted w.source w.segments w.before
    whole_items is_right =
        let whole = permuted w.source w.segments w.before in
        let width : old.room ≡ length whole = ap (λ (r : Stretch X). r.room) is ∙ sym (length-permuted w.source w.segments w.before sendable.as_long) in
        ap (λ (r : Stretch X). r.items) (told.items is_right)
        ∙ (λ i. part whole (ap (λ (r : Stretch X). r.first) is i) (width i))
        ∙ take_all (length whole) whole (omega arith)
