-- Merges by flags: the next element of one vector if the flag is true, of the other if it is false.
-- Source: Blelloch, Vector Models for Data-Parallel Computing, flag-merge; the faults are this library's profile.
use Rattle.std.specs.Prelude.{◌≡◌, ℕ, ◌<◌, ◌==◌, ◌&&◌, Bool, true, false, not, List, [], ◌∷◌, length, map, Result, Ok}
use Rattle.std.specs.Prelude.{EachIndex, slice_index, slice_index_or}
use Rattle.cvl_base.specs.declared.fault.Fault.{Fault}
use Rattle.cvl_base.specs.declared.fault.FaultNo.TheVariants.{LengthMismatch}
use Rattle.cvl_base.specs.Faults.{fault, fault_at}
use Rattle.cvl_base.specs.Gives.{fault_if}
use Rattle.cvl_base.specs.Nests.{cut_of, nest}
use Rattle.cvl_base.specs.Packs.{count_of}
use Rattle.cvl_base.specs.Segmented.{at_segment, beside, end_to_end, of_three}

-- flag after flag the next element of xs or of ys, as long as there is one
abbrev pub merged : {X : Type 0} → List Bool → List X → List X → List X
merged [] xs ys = []
merged (true ∷ flags) [] ys = []
merged (true ∷ flags) (x ∷ xs) ys = x ∷ merged flags xs ys
merged (false ∷ flags) xs [] = []
merged (false ∷ flags) xs (y ∷ ys) = y ∷ merged flags xs ys

-- whether there are as many true and false flags as these
abbrev pub are_counts : List Bool → ℕ → ℕ → Bool
are_counts flags trues falses = (count_of flags == trues) && (count_of (map not flags) == falses)

-- the merge, or a fault unless there are exactly as many elements as true flags, and as false ones
abbrev pub merge_or : {X : Type 0} → Fault → List Bool → List X → List X → Result (List X) Fault
merge_or f flags xs ys = fault_if (not (are_counts flags (length xs) (length ys))) f (Ok (merged flags xs ys))

-- the merge of two vectors, or LengthMismatch if they have not as many elements as flags are true and false
abbrev pub merge_of : {X : Type 0} → List Bool → List X → List X → Result (List X) Fault
merge_of flags xs ys = merge_or (fault LengthMismatch) flags xs ys

-- the merge of one segment; the fault is at the number of the segment
abbrev pub segment_merge_of : {X : Type 0} → List Bool → List X → List X → Result (List X) Fault
segment_merge_of flags xs ys = merge_or (fault_at LengthMismatch 0) flags xs ys

-- Each segment of the flags beside the segments of both vectors with its number. LengthMismatch if segments do not add up to their vector,
-- or the vectors do not have as many segments as the flags.
abbrev pub segments_to_merge : {X : Type 0} → List Bool → List ℕ → List X → List ℕ → List X → List ℕ
    → Result (List ((List Bool × List X) × List X)) Fault
segments_to_merge flags lengths xs true_lengths ys false_lengths =
    beside (beside (nest lengths flags) (nest true_lengths xs)) (nest false_lengths ys)

-- the merges of all segments, one after another
abbrev pub seg_merge_of : {X : Type 0} → List Bool → List ℕ → List X → List ℕ → List X → List ℕ → Result (List X) Fault
seg_merge_of flags lengths xs true_lengths ys false_lengths =
    end_to_end at_segment (of_three segment_merge_of) (segments_to_merge flags lengths xs true_lengths ys false_lengths)

-- the counts of the flags of each segment
abbrev pub AreCounts : List Bool → List ℕ → List ℕ → List ℕ → Type 0
AreCounts flags lengths trues falses =
    EachIndex lengths (λ s. are_counts (slice_index_or (cut_of lengths flags) s []) (slice_index trues s) (slice_index falses s) ≡ true)

-- the fault at the first segment whose flags have other counts
pub record IsFirstMiscount (flags : List Bool) (lengths trues falses : List ℕ) (f : Fault) : Type 0 where
  pub segment : ℕ
  pub within : segment < length lengths
  pub told : f ≡ fault_at LengthMismatch segment
  pub other : are_counts (slice_index_or (cut_of lengths flags) segment []) (slice_index trues segment) (slice_index falses segment) ≡ false
  pub first : (s : ℕ) → s < segment
      → are_counts (slice_index_or (cut_of lengths flags) s []) (slice_index trues s) (slice_index falses s) ≡ true
