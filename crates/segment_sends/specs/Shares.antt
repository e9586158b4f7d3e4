-- The shares of a permute by segments: some neighbouring segments, whose places of the result one thread writes.
-- Source: CVL's segmented permutes, each of which permutes every segment by itself.
use Rattle.std.specs.Prelude.{◌≡◌, ℕ, ◌+◌, ◌<◌, ◌≤◌, ℤ, Bool, true, List, [], length, slice_index_or, take, drop, Option}
use Rattle.fresh.specs.Parts.{part}
use Rattle.fresh.specs.Places.{Stretch, stretch}
use Rattle.cvl_base.specs.Limits.{most_places}
use Rattle.cvl_base.specs.declared.fault.Fault.{Fault}
use Rattle.segment_sends.specs.SegmentDestinations.{destinations_in, fault_from, places_in, senders_from}
use Rattle.permute_walks.specs.Senders.{written_over}

-- the elements of all segments' senders, written over what stands before
abbrev pub permuted : {X : Type 0} → List X → List (ℕ × List (Option ℤ)) → List X → List X
permuted source segments before = written_over source (senders_from 0 segments) before

-- what a segment is sent, and in how many places
abbrev pub segment_at : List (ℕ × List (Option ℤ)) → ℕ → ℕ × List (Option ℤ)
segment_at segments s = slice_index_or segments s (0, [])

-- the fault of the first bad place of the segments from segment s on
abbrev pub fault_behind : List (ℕ × List (Option ℤ)) → ℕ → Option Fault
fault_behind segments s = fault_from (destinations_in (take s segments)) (drop s segments)

-- no segment has more places than that
abbrev pub AreWithin : ℕ → List (ℕ × List (Option ℤ)) → Type 0
AreWithin widest segments = (s : ℕ) → s < length segments → (segment_at segments s).0 ≤ widest

-- What is sent: the elements, the segments' destinations, what stands before in the result, and a number of places that no segment exceeds.
pub record Sending (X : Type 0) : Type 0 where
  pub source : List X
  pub segments : List (ℕ × List (Option ℤ))
  pub before : List X
  pub widest : ℕ

-- the sends of some segments of a source over what stands before; `widest` bounds the places of a segment
abbrev pub sending : {X : Type 0} → List X → List (ℕ × List (Option ℤ)) → List X → ℕ → Sending X
sending source segments before widest = record { source = source; segments = segments; before = before; widest = widest }

-- The lengths agree: what stands before has as many places as all segments, none of which is wider than `widest`.
pub record IsSendable {X : Type 0} (w : Sending X) : Type 0 where
  pub few : destinations_in w.segments ≤ most_places
  pub as_long : places_in w.segments ≡ length w.before
  pub within : AreWithin w.widest w.segments

-- The segments from `begin` up to before `end`, whose places an empty run has.
pub record IsShare {X : Type 0} (w : Sending X) (begin end : ℕ) (run : Stretch X) : Type 0 where
  pub sendable : IsSendable w
  pub in_order : begin ≤ end
  pub in_segments : end ≤ length w.segments
  pub starts : run.first ≡ places_in (take begin w.segments)
  pub ends : run.first + run.room ≡ places_in (take end w.segments)
  pub empty : run.items ≡ []

-- What was written of a share: all its places, and if it is found right, the first bad place lies after it, and the places hold their part
-- of the result.
pub record IsWritten {X : Type 0} (w : Sending X) (begin end : ℕ) (run written : Stretch X) (right : Bool) : Type 0 where
  pub full : (items : List X) × (length items ≡ run.room) × (written ≡ stretch run.block run.first items 0)
  pub no_fault : right ≡ true → fault_behind w.segments begin ≡ fault_behind w.segments end
  pub items : right ≡ true → written ≡ stretch run.block run.first (part (permuted w.source w.segments w.before) run.first run.room) 0
