-- Where the texts and the integers of parts stand in one room, each behind those of the parts before.
-- Source: this library's text format; Blelloch, Prefix Sums and Their Applications, 1990: a pack puts elements where the scan of the counts
-- says.
use Rattle.std.specs.Prelude.{ℕ, ◌+◌, ◌-◌, ◌==◌, nat_lt, not, if◌then◌else◌, List, [], ◌∷◌, ◌++◌, length, map, sum, Result, Ok}
use Rattle.cvl_base.specs.declared.fault.Fault.{Fault}
use Rattle.cvl_base.specs.declared.fault.FaultNo.TheVariants as no
use Rattle.cvl_base.specs.Faults.{fault}
use Rattle.cvl_base.specs.Folds.{scan_of}
use Rattle.cvl_base.specs.Gives.{◌>>=◌, fault_if}
use Rattle.part_records.specs.Places.{Layout, layout, layout_of}
use Rattle.part_records.specs.Totals.{total_within}
use Rattle.text_parts.specs.Rooms.{most_bytes}

-- how many bytes a part has of the text of all, if its own text has so many: none if that is `[]`, else all but the last bracket, since it
-- begins with the first bracket of all or with a space
abbrev pub piece_length : ℕ → ℕ
piece_length count = if nat_lt 2 count then count - 1 else 0

-- how many bytes the text of all has, if the parts have so many of it: the last bracket more, and `[]` if they have none
abbrev pub text_length : ℕ → ℕ
text_length pieces = if pieces == 0 then 2 else pieces + 1

module _ (taken end : ℕ → ℕ) where
  -- where what each part takes of a room begins, at last where all of it ends, and that end; of parts that told these numbers
  abbrev pub placed_of : List ℕ → Layout
  placed_of told =
      let ns = map taken told in
      layout (scan_of ◌+◌ 0 ns ++ end (sum ns) ∷ []) (end (sum ns))

  -- the same into a record of so many places, if they take no more than this
  abbrev pub placed_by : ℕ → ℕ → List ℕ → Result Layout Fault
  placed_by most record_length told =
      fault_if (nat_lt most (sum (map taken told))) (fault no.TooLong)
      (fault_if (not (length told + 1 == record_length)) (fault no.LengthMismatch) (Ok (placed_of told)))

-- where each piece begins, at last where the text of all ends, and how many bytes it has, if a memory may hold it
abbrev pub text_layout_by : ℕ → List ℕ → Result Layout Fault
text_layout_by record_length counts = placed_by piece_length text_length most_bytes record_length counts

-- where the elements of each part begin, at last where they all end, and how many they are, if a vector may have so many
abbrev pub size_layout_by : ℕ → List ℕ → Result Layout Fault
size_layout_by record_length sizes =
    total_within sizes >>= λ total.
    fault_if (not (length sizes + 1 == record_length)) (fault no.LengthMismatch) (Ok (layout_of sizes))
