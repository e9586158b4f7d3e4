-- Where the room of a combining permute is cut into ranges, one for each part, and that all indices are places of it.
-- Source: this library's calls in parts; sorted samples that tell where to cut are those of sample sort (Frazer and McKellar, 1970).
use Rattle.std.specs.Prelude.{◌≡◌, ℕ, ◌+◌, ◌-◌, ◌<◌, ◌≤◌, nat_lt, ℤ, List, length, slice_index, Result, Ok, Err}
use Rattle.c_calls.specs.Calls.{in_limit}
use Rattle.c_calls.specs.declared.status.CvlStatus.{CvlStatus}
use Rattle.c_calls.specs.Told.{done, status_of_fault}
use Rattle.cvl_base.specs.declared.fault.Fault.{Fault}
use Rattle.cvl_base.specs.declared.fault.FaultNo.TheVariants as no
use Rattle.cvl_base.specs.Faults.{fault}
use Rattle.cvl_base.specs.Gives.{fault_if, unless}
use Rattle.part_calls.specs.Limits.{few_enough}
use Rattle.permute_walks.specs.Indices.{first_outside}

-- that all indices are places, or the fault of the first that is none
abbrev pub are_places_of : ℕ → List ℤ → Result (Unit {0}) Fault
are_places_of places index = in_limit index (unless (first_outside 0 places index) (Ok tt))

-- where ranges begin, at last where they end: together they are all places, and each begins where the one before ends
pub record IsCut (places : ℕ) (cuts : List ℕ) : Type 0 where
  pub first : slice_index cuts 0 ≡ 0
  pub last : slice_index cuts (length cuts - 1) ≡ places
  pub ascending : (k : ℕ) → k + 1 < length cuts → slice_index cuts k ≤ slice_index cuts (k + 1)

-- whether a list of so many cuts has a range, and not too many
abbrev pub may_cut : ℕ → Result (Unit {0}) Fault
may_cut cuts = few_enough cuts (fault_if (nat_lt cuts 2) (fault no.LengthMismatch) (Ok tt))

-- The room holds a cut and the answer is that all is done, or the answer is the fault and the room is as before.
abbrev pub CutTold : Result (Unit {0}) Fault → ℕ → CvlStatus → List ℕ → List ℕ → Type 0
CutTold (Ok may) places status before now = (status ≡ done) × IsCut places now
CutTold (Err f) places status before now = (status ≡ status_of_fault f) × (now ≡ before)
