-- Slices of a list in a row, each given by the place where it begins and its number of elements. They may overlap, and come in any order.
-- Source: the back permute of CVL, with a run of elements instead of one; that a slice must lie within the source, and the fault of the
-- first that does not, are this library's profile.
use Rattle.std.specs.Prelude.{◌≡◌, ℕ, ◌+◌, ℤ, pos, negsuc, Bool, true, false, nat_le, if◌then◌else◌, List, length, map, take, drop}
use Rattle.std.specs.Prelude.{unsigned_abs, Option, Some, None, Result, Ok, EachIndex, slice_index_or}
use Rattle.std.specs.List.{zip}
use Rattle.cvl_base.specs.declared.fault.Fault.{Fault}
use Rattle.cvl_base.specs.declared.fault.FaultNo.TheVariants.{IndexOutOfRange}
use Rattle.cvl_base.specs.Elementwise.{if_as_long, values_from}
use Rattle.cvl_base.specs.Gives.{◌>>=◌}
use Rattle.cvl_base.specs.Lists.{joined}

-- whether n elements from a start on are among m
abbrev pub is_slice : ℕ → ℤ → ℤ → Bool
is_slice m (pos start) (pos n) = nat_le (start + n) m
is_slice m (pos start) (negsuc n) = false
is_slice m (negsuc start) n = false

-- so many elements of the source from a start on
abbrev pub slice_at : {X : Type 0} → List X → ℤ × ℤ → List X
slice_at source slice = take (unsigned_abs slice.1) (drop (unsigned_abs slice.0) source)

-- the same, if they are elements of the source
abbrev pub slice_within : {X : Type 0} → List X → ℤ × ℤ → Option (List X)
slice_within source slice = if is_slice (length source) slice.0 slice.1 then Some (slice_at source slice) else None

-- the slices that begin at these starts and have these lengths
abbrev pub slices_of : {X : Type 0} → List X → List ℤ → List ℤ → List (List X)
slices_of source starts lengths = map (slice_at source) (zip starts lengths)

-- a start and a length for each slice, and all are slices of a list of m elements
pub record AreSlices (m : ℕ) (starts lengths : List ℤ) : Type 0 where
  pub as_many : length starts ≡ length lengths
  pub within : EachIndex starts (λ s. is_slice m (slice_index_or starts s (pos 0)) (slice_index_or lengths s (pos 0)) ≡ true)

-- the slices in a row, or the fault of the first that is not within the source
abbrev pub gather_segments_of : {X : Type 0} → List X → List ℤ → List ℤ → Result (List X) Fault
gather_segments_of source starts lengths = if_as_long starts lengths
    (values_from IndexOutOfRange 0 (map (slice_within source) (zip starts lengths)) >>= λ slices. Ok (joined slices))
